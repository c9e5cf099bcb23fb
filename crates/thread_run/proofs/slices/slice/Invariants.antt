-- so many events are made, and the thread goes on
use Rattle.std.proofs.Common.{◌≡◌, ◌-◌, true}
use Rattle.thread_run.proofs.Growing.{IsSliced}
use Rattle.thread_run.proofs.slices.slice.Given as goal

abbrev pub invariant-events : goal.invariant-events
invariant-events g l = record {
  sliced : IsSliced g.B.Board.is_exact l.events l.made l.fn.running l.running (g.W.Words.held l.fn.passes.0) (g.W.Words.held l.passes.0) (g.W.Words.left l.fn.passes.0) (g.W.Words.left l.passes.0) (g.B.Board.held l.fn.passes.1) (g.B.Board.held l.passes.1);
  belongs : g.W.Words.belongs (g.W.Words.place l.words) l.passes.0;
  board : g.B.Board.belongs (g.B.Board.place l.board) l.passes.1;
  can : g.B.Board.can_report l.passes.1 ≡ true;
}

abbrev pub decreases-events : goal.decreases-events
decreases-events g l = l.events - l.made
