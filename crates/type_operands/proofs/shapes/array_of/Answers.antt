use Rattle.std.proofs.Common.{◌∙◌}
use Rattle.type_operands.proofs.KindEquations.{array_is}
use Rattle.type_operands.proofs.shapes.array_of.Goals as goal

pub returns : goal.returns
returns c = c.in_ok-kind.ensures ∙ array_is _ _
