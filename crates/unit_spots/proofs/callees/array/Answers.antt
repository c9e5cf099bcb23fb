use Rattle.std.proofs.Common.{◌∙◌}
use Rattle.unit_spots.proofs.Types.{array_is}
use Rattle.unit_spots.proofs.callees.array.Goals as goal

pub returns : goal.returns
returns c = c.in_ok-kind.ensures ∙ array_is _ _
