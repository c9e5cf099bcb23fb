use Rattle.std.proofs.Common.{sym}
use Rattle.type_calls.proofs.Passes.{row_named-other}
use Rattle.type_calls.proofs.callees.library_row.Goals as goal

pub returns-in_default : goal.returns-in_default
returns-in_default c = sym (row_named-other c.args.expression.now c.in_default.not-LibraryFunction)
