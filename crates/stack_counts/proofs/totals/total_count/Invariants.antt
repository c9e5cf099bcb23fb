-- the counts so far are added
use Rattle.std.proofs.Common.{◌≡◌, take}
use Rattle.stack_counts.specs.Totals.{sum_of}
use Rattle.stack_counts.proofs.totals.total_count.Given as goal

abbrev pub invariant-each : goal.invariant-each
invariant-each l = l.total ≡ sum_of (take l.entry-index l.entry-items)
