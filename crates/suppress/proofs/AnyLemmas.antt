-- A search through a list for an element of which a fact holds.
use Rattle.std.proofs.Common.{ℕ, ◌<◌, List, get_or}

-- the fact holds of no element before place n
abbrev pub NoneBelow : {X : Type 0} → (X → Type 0) → List X → ℕ → Type 0
NoneBelow {X} P xs n = (k : ℕ) (d : X) → k < n → P (get_or xs k d) → ⊥
