-- The places so far.
use Rattle.std.proofs.Common.{◌≡◌, ◌++◌, take}
use Rattle.unit_check.specs.Verdicts.{numbered}
use Rattle.unit_check.proofs.positions.add_body.Given as goal

abbrev pub invariant-each : goal.invariant-each
invariant-each l = l.all.items ≡ l.initial.all.items ++ numbered l.function 0 (take l.index l.spots)
