-- The functions so far.
use Rattle.std.proofs.Common.{◌≡◌, map, take}
use Rattle.unit_marks.specs.Marks.{marks}
use Rattle.unit_marks.proofs.marks.mark_rows.Given as goal

abbrev pub invariant-each : goal.invariant-each
invariant-each l = l.rows.items ≡ map (marks l.functions l.level) (take l.list-index l.spots)
