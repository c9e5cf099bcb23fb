-- The places so far.
use Rattle.std.proofs.Common.{◌≡◌, map, take}
use Rattle.unit_marks.specs.Marks.{mark}
use Rattle.unit_marks.proofs.marks.marks.Given as goal

abbrev pub invariant-each : goal.invariant-each
invariant-each l = l.row ≡ map (λ s. mark l.functions l.level s.action) (take l.spot-index l.spots)
