use Rattle.std.proofs.Common.{◌∙◌}
use Rattle.type_operands.proofs.KindEquations.{pointer_is}
use Rattle.type_operands.proofs.shapes.pointer_to.Goals as goal

pub returns : goal.returns
returns c = c.in_ok-kind.ensures ∙ pointer_is _
