-- The states of threads to come, made of spares.
use Rattle.std.specs.Prelude.{◌≡◌, ℕ, ◌+◌, List, length, map, reverse, Some, slice_get}

-- They are so many, one for each spare; the one with number 1 comes last.
pub record AreBlanks {B S : Type 0} (number : B → ℕ) (spare : B → S) (count : ℕ) (spares : List S) (list : List B) : Type 0 where
  pub many : length list ≡ count
  pub spared : map spare list ≡ reverse spares
  pub numbers : (k : ℕ) (b : B) → slice_get list k ≡ Some b → number b + k ≡ count
