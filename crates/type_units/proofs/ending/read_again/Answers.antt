-- The second reading goes on, or it stops.
use Rattle.type_units.proofs.Endings.{goes_on, stops}
use Rattle.type_units.proofs.ending.read_again.Goals as goal

pub returns-in-Ok : goal.returns-in-Ok
returns-in-Ok c = goes_on _ _ _ c.in-Ok.ensures c.within_limits.ensures

pub returns-in-Err : goal.returns-in-Err
returns-in-Err c = stops _ c.in-Err.stop _ c.in-Err.ensures c.from.ensures
