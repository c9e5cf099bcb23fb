use Rattle.chains.proofs.Turns.{IsSeeding}
use Rattle.chains.proofs.search.seeded.Given as goal

-- the rows so far have been asked for violations
abbrev pub invariant-rows : goal.invariant-rows
invariant-rows l = IsSeeding l.rows l.function l.search.distances.items l.search.queue.items
