-- The parts of the typing once its effects are settled.
use Rattle.type_units.proofs.Endings.{parts_are}
use Rattle.type_units.proofs.ending.parts.Goals as goal

pub returns : goal.returns
returns c = parts_are _ _ _ c.settle_effects.ensures c.settled_parts.ensures
