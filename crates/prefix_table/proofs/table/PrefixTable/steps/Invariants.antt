-- the steps so far, with the prefix that is left, are the whole
use Rattle.std.proofs.Common.{[], get_or}
use Rattle.prefix_table.proofs.Climbs.{IsClimbed, height}
use Rattle.prefix_table.proofs.table.PrefixTable.steps.Given as goal

abbrev pub invariant-up : goal.invariant-up
invariant-up l = IsClimbed l.self (get_or l.self l.fn.number []) l.rest l.steps.items

abbrev pub decreases-up : goal.decreases-up
decreases-up l = height l.rest
