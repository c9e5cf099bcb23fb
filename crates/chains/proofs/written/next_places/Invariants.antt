use Rattle.std.proofs.Common.{◌≡◌, ℕ, ◌<◌, [], length, slice_index, slice_index_or}
use Rattle.chains.specs.Measures.{distance_in}
use Rattle.chains.specs.Follow.{IsFirstToBegin}
use Rattle.chains.proofs.written.next_places.Given as goal

-- the next places of the functions so far
abbrev pub invariant-rows : goal.invariant-rows
invariant-rows l = record {
  sized : length l.next.items ≡ l.function;
  first : (f : ℕ) → f < l.function → IsFirstToBegin (distance_in l.distances) (distance_in l.distances f) (slice_index_or l.rows f []) (slice_index l.next.items f);
}
