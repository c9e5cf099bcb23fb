-- What was found of the expressions so far.
use Rattle.std.proofs.Common.{List, drop}
use Rattle.core_unit.specs.Places as unit
use Rattle.core_unit.specs.Places.{arguments_spots}
use Rattle.unit_spots.specs.Walk.{Remains}
use Rattle.unit_spots.specs.declared.spots.Spot.{Spot}
use Rattle.unit_spots.proofs.walk.+walking.Given as goal

abbrev pub invariant-argument_spots-each : goal.invariant-argument_spots-each
invariant-argument_spots-each l =
    (whole : List Spot) (rest : List unit.Spot) → Remains whole l.initial.found (arguments_spots l.expressions rest) →
    Remains whole l.found (arguments_spots (drop l.expression-index l.expressions) rest)
