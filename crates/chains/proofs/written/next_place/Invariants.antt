use Rattle.std.proofs.Common.{◌≡◌, ℕ, ◌<◌, false, slice_index_or}
use Rattle.chains.specs.declared.marks.Mark.TheVariants.{Passes}
use Rattle.chains.specs.Measures.{distance_in}
use Rattle.chains.specs.Follow.{begins}
use Rattle.chains.proofs.written.next_place.Given as goal

-- none of the places so far can begin such a chain
abbrev pub invariant-places : goal.invariant-places
invariant-places l =
    (j : ℕ) → j < l.place → begins (distance_in l.distances) l.count (slice_index_or l.row j Passes) ≡ false
