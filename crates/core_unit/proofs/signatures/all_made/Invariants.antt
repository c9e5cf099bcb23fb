-- The types of the kinds so far.
use Rattle.std.proofs.Common.{◌≡◌, map, take}
use Rattle.core_unit.specs.Library as spec
use Rattle.core_unit.proofs.signatures.all_made.Given as goal

abbrev pub invariant-each : goal.invariant-each
invariant-each l = l.types ≡ map spec.made (take l.kind-index l.kinds)
