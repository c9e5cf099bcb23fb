-- A limit that is passed, or none.
use Rattle.type_units.proofs.Endings.{passes, answers}
use Rattle.type_units.proofs.ending.within_limits.Goals as goal

pub returns-in-Some : goal.returns-in-Some
returns-in-Some c = passes _ _ c.in-Some.ensures

pub returns-in-None : goal.returns-in-None
returns-in-None c = answers _ _ c.in-None.ensures c.typed_parts.ensures.value c.typed_parts.ensures.memory
