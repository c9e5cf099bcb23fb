-- The spares of a new memory.
use Rattle.std.specs.Prelude.{◌≡◌, ◌+◌, ℕ, List, Some, slice_get}

-- the spares have the numbers from 1 on in order, and so many calls each
abbrev pub AreSpares : {S : Type 0} → (S → ℕ) → (S → ℕ) → ℕ → (S → Type 0) → List S → Type 0
AreSpares {S} number calls count belongs spares =
    (k : ℕ) (s : S) → slice_get spares k ≡ Some s → (number s ≡ k + 1) × (calls s ≡ count) × belongs s
