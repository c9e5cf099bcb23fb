use Rattle.type_operands.proofs.WorthLaws.{is_null-other}
use Rattle.std.proofs.Common.{◌∙◌, sym}
use Rattle.type_operands.proofs.constants.is_null.Goals as goal

pub returns-in_default : goal.returns-in_default
returns-in_default c = c.is_zero_number-in_default.ensures ∙ sym (is_null-other c.args.expression.now c.in_default.not-Null c.in_default.not-Convert)
