-- The chain that goes from each body to its first place which is one nearer to a violation.
use Rattle.std.specs.Prelude.{◌≡◌, ℕ, ◌+◌, ◌<◌, ◌≤◌, Bool, true, false, ◌&&◌, List, length, slice_index_or, nat_lt, ◌==◌}
use Rattle.chains.specs.declared.marks.Mark.{Mark}
use Rattle.chains.specs.declared.marks.Mark.TheVariants.{Passes, Violates, StepsTo}

-- the place can begin a chain of n places: it is a violation and n is 1, or it steps to a body at distance n - 1
abbrev pub begins : (ℕ → ℕ) → ℕ → Mark → Bool
begins distance n Passes = false
begins distance n Violates = n == 1
begins distance n (StepsTo g) = nat_lt 1 n && (distance g + 1 == n)

-- the first place of the body of f that can begin a shortest chain
pub record IsNext (look : ℕ → ℕ → Mark) (distance : ℕ → ℕ) (f i : ℕ) : Type 0 where
  pub nearer : begins distance (distance f) (look f i) ≡ true
  pub earliest : (j : ℕ) → j < i → begins distance (distance f) (look f j) ≡ false

-- the first place of the row that can begin a chain of n places, or the row's length where there is none
pub record IsFirstToBegin (distance : ℕ → ℕ) (n : ℕ) (row : List Mark) (i : ℕ) : Type 0 where
  pub within : i ≤ length row
  pub nearer : i < length row → begins distance n (slice_index_or row i Passes) ≡ true
  pub earliest : (j : ℕ) → j < i → begins distance n (slice_index_or row j Passes) ≡ false
