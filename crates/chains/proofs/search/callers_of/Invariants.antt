use Rattle.chains.specs.Queue.{Reverses}
use Rattle.chains.proofs.search.callers_of.Given as goal

-- the calls of the rows so far are entered
abbrev pub invariant-rows : goal.invariant-rows
invariant-rows l = Reverses l.rows l.function l.callers.items
