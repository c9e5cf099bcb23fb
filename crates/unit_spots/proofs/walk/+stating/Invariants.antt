-- What was found of the statements so far.
use Rattle.std.proofs.Common.{List, drop}
use Rattle.core_unit.specs.Places as unit
use Rattle.core_unit.specs.Places.{list_spots}
use Rattle.unit_spots.specs.Walk.{Remains}
use Rattle.unit_spots.specs.declared.spots.Spot.{Spot}
use Rattle.unit_spots.proofs.walk.+stating.Given as goal

abbrev pub invariant-stmts_spots-each : goal.invariant-stmts_spots-each
invariant-stmts_spots-each l =
    (whole : List Spot) (rest : List unit.Spot) → Remains whole l.initial.found (list_spots l.statements rest) →
    Remains whole l.found (list_spots (drop l.statement-index l.statements) rest)
