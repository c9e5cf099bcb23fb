-- What was found of the initializers so far.
use Rattle.std.proofs.Common.{List, drop}
use Rattle.core_unit.specs.Places as unit
use Rattle.unit_spots.specs.Walk.{Remains, parts_spots}
use Rattle.unit_spots.specs.declared.spots.Spot.{Spot}
use Rattle.unit_spots.proofs.walk.+initializing.Given as goal

abbrev pub invariant-list_spots-each : goal.invariant-list_spots-each
invariant-list_spots-each l =
    (whole : List Spot) (rest : List unit.Spot) → Remains whole l.initial.found (parts_spots l.parts rest) →
    Remains whole l.found (parts_spots (drop l.part-index l.parts) rest)
