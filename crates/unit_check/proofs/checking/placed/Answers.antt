-- Where no body has this number no place stands there.
use Rattle.unit_check.proofs.Places.{none_placed}
use Rattle.unit_check.proofs.checking.placed.Goals as goal

pub returns-in-None : goal.returns-in-None
returns-in-None c = none_placed c.args.spots.now c.args.step c.step_in_body-in-None.result c.in-None.ensures c.step_in_body-in-None.ensures
