use Rattle.std.proofs.Common.{◌≡◌, ◌+◌, ◌≤◌, ◌-◌}
use Rattle.word_threads.specs.Work.{Adds}
use Rattle.word_threads.proofs.work.add_many.Given as goal

abbrev pub invariant-loop-done : goal.invariant-loop-done
invariant-loop-done g l = record {
  left : g.W.Words.left l.pass + l.done ≡ g.W.Words.left l.fn.pass;
  belongs : g.W.Words.belongs (g.W.Words.place l.words) l.pass;
  held : Adds l.at l.done (g.W.Words.held l.fn.pass) (g.W.Words.held l.pass);
  so_far : l.done ≤ l.count;
}

abbrev pub decreases-loop-done : goal.decreases-loop-done
decreases-loop-done g l = l.count - l.done
