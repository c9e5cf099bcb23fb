-- Distances: how many places the shortest chain of a function has.
use Rattle.std.specs.Prelude.{◌≡◌, ℕ, ◌<◌, ◌≤◌, List, length, slice_index}
use Rattle.chains.specs.declared.marks.Mark.{Mark}
use Rattle.chains.specs.Chain.{Leads}

-- The distance is that of a shortest chain, and it is 0 where the function has none: a function with a distance has a
-- chain of that many places, and one with a chain has a distance, which is no more than its places.
pub record Measures (look : ℕ → ℕ → Mark) (distance : ℕ → ℕ) : Type 0 where
  pub found : (f : ℕ) → 0 < distance f → (places : List ℕ) × Leads look f places × (length places ≡ distance f)
  pub least : (f : ℕ) (places : List ℕ) → Leads look f places → (0 < distance f) × (distance f ≤ length places)

-- the distance that stands in a list of them by the number of the function
abbrev pub distance_in : List ℕ → ℕ → ℕ
distance_in distances f = slice_index distances f
