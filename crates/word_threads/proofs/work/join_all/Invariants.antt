use Rattle.std.proofs.Common.{◌≡◌, All, map, reverse, vec_len}
use Rattle.word_threads.specs.Work.{joins_all}
use Rattle.word_threads.proofs.work.join_all.Given as goal

abbrev pub invariant-loop-other : goal.invariant-loop-other
invariant-loop-other g l = record {
  left : g.W.Words.left l.pass ≡ g.W.Words.left l.fn.pass;
  belongs : g.W.Words.belongs (g.W.Words.place l.words) l.pass;
  others : All (λ p. g.W.Words.belongs (g.W.Words.place l.words) p) l.others.items;
  held : joins_all (g.W.Words.held l.pass) (reverse (map g.W.Words.held l.others.items)) ≡ joins_all (g.W.Words.held l.fn.pass) (reverse (map g.W.Words.held l.fn.others.items));
}

abbrev pub decreases-loop-other : goal.decreases-loop-other
decreases-loop-other g l = vec_len l.others
