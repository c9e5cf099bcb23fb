-- of the prefixes so far all that were counted are gathered
use Rattle.plain_board.specs.Gathered.{IsGathered}
use Rattle.plain_board.proofs.counts.Counts.stacks.Given as goal

abbrev pub invariant-each : goal.invariant-each
invariant-each l = IsGathered l.self.prefixes l.self.counts.items l.number l.stacks
