-- The steps so far.
use Rattle.std.proofs.Common.{◌≡◌, map, take}
use Rattle.unit_check.specs.Findings.{step_at}
use Rattle.unit_check.proofs.checking.placed_steps.Given as goal

abbrev pub invariant-each : goal.invariant-each
invariant-each l = l.all.items ≡ map (step_at l.spots) (take l.step-index l.steps)
