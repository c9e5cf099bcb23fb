-- The tables that are made last.
use Rattle.type_units.proofs.Endings.{filled}
use Rattle.type_units.proofs.ending.settled_parts.Goals as goal

pub returns-in-Ok : goal.returns-in-Ok
returns-in-Ok c = filled _ _ _ c.in-Ok.ensures c.into_parts.ensures
