-- The places so far.
use Rattle.std.proofs.Common.{take}
use Rattle.unit_check.specs.Findings.{AreFound}
use Rattle.unit_check.proofs.checking.searched.Given as goal

abbrev pub invariant-each : goal.invariant-each
invariant-each l = AreFound l.functions (take l.place-index l.places) l.search.allocation l.search.blocking l.search.found
