-- the blanks so far have the spares that were taken from the end
use Rattle.std.proofs.Common.{◌≡◌, ◌+◌, ℕ, Some, length, map, reverse, ◌++◌, slice_get, vec_len}
use Rattle.thread_run.proofs.blank.blanks.Given as goal

abbrev pub invariant-each : goal.invariant-each
invariant-each g l = record {
  count : length l.list.items + vec_len l.spares ≡ 63;
  spared : map (λ b. b.spare) l.list.items ++ reverse l.spares.items ≡ reverse l.fn.spares.items;
  numbers : (k : ℕ) (b : _) → slice_get l.list.items k ≡ Some b → b.number + k ≡ 63;
  left : (k : ℕ) (s : _) → slice_get l.spares.items k ≡ Some s → g.W.Words.number s ≡ k + 1;
}

abbrev pub decreases-each : goal.decreases-each
decreases-each g l = vec_len l.spares
