use Rattle.std.proofs.Common.{◌-◌, ◌≤◌, length}
use Rattle.chains.specs.Look.{look}
use Rattle.chains.specs.Queue.{IsQueue, IsDoneTo}
use Rattle.chains.proofs.Turns.{IsTurn}
use Rattle.chains.proofs.search.distances.Given as goal

-- the callers of the functions before head are done
abbrev pub invariant-queued : goal.invariant-queued
invariant-queued l = record {
  queue : IsQueue (look l.rows) (length l.rows) l.search.distances.items l.search.queue.items;
  work : IsDoneTo (look l.rows) l.search.distances.items l.search.queue.items l.head;
  inside : l.head ≤ length l.search.queue.items;
}

abbrev pub decreases-queued : goal.decreases-queued
decreases-queued l = length l.rows - l.head

-- the callers of the head have been reached so far
abbrev pub invariant-callers : goal.invariant-callers
invariant-callers l =
    IsTurn (look l.rows) (length l.rows) l.search.distances.items l.search.queue.items l.head l.callee l.distance l.caller-items l.caller-index
