-- The bodies so far.
use Rattle.std.proofs.Common.{◌≡◌, take}
use Rattle.std.specs.Prelude.{flat_map}
use Rattle.unit_check.specs.Findings.{listed}
use Rattle.unit_check.proofs.positions.positions.Given as goal

abbrev pub invariant-each : goal.invariant-each
invariant-each l = l.all.items ≡ flat_map (listed l.spots) (take l.function-index l.definitions)
