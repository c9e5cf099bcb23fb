-- the steps so far are added
use Rattle.std.proofs.Common.{◌≡◌, take}
use Rattle.stack_counts.proofs.totals.step_list.Given as goal

abbrev pub invariant-each : goal.invariant-each
invariant-each l = l.list ≡ take l.step-index l.steps
