use Rattle.std.proofs.Common.{sym}
use Rattle.type_operands.proofs.KindEquations.{is_unsized-other}
use Rattle.type_operands.proofs.kinds.is_unsized.Goals as goal

pub returns-in_default : goal.returns-in_default
returns-in_default c = sym (is_unsized-other c.args.kind.now c.in_default.not-Array)
