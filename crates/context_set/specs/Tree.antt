-- Passes that are split from one another and joined again, over the seats of one table.
use Rattle.std.specs.Prelude.{◌≡◌, ◌⊎◌, ◌≤◌, ◌+◌, ℕ, zero, suc, Bool, true, Option, Some, None, List, [], ◌∷◌, ◌++◌, Contains}
use mathlib.Core.Option.{some}
use lib.ListN.{get_elem?}

-- the number of the pass that a pass made as its j-th one, from 0 on: 2^j * (2 * number + 1)
abbrev pub kid : ℕ → ℕ → ℕ
kid p zero = p + p + 1
kid p (suc j) = kid p j + kid p j

-- a seat: whether it is a pass, its number, how many passes it made under it, and the numbers that it made and joined
pub record Branch : Type 0 where
  pub live : Bool
  pub number : ℕ
  pub splits : ℕ
  pub made : List ℕ
  pub joined : List ℕ

-- a number that is not the first one was made by a pass, and the seat that has that pass's number knows it
pub record IsMade (holder : ℕ → Option ℕ) (seats : List Branch) (n : ℕ) : Type 0 where
  pub parent : ℕ
  pub place : ℕ
  pub is : n ≡ kid parent place
  pub at : ℕ
  pub held : holder parent ≡ Some at
  pub view : Branch
  pub there : get_elem? seats at ≡ some view
  pub lives : view.live ≡ true
  pub noted : Contains view.made n

-- holder: the seat that has a number, its own or a joined one, if the number was given
pub record Tree (holder : ℕ → Option ℕ) (seats : List Branch) : Type 0 where
  pub own : (s : ℕ) (v : Branch) → get_elem? seats s ≡ some v → v.live ≡ true → holder v.number ≡ Some s
  pub joined : (s : ℕ) (v : Branch) → get_elem? seats s ≡ some v → v.live ≡ true → (n : ℕ) → Contains v.joined n → holder n ≡ Some s
  pub fresh : (s : ℕ) (v : Branch) → get_elem? seats s ≡ some v → v.live ≡ true → (i : ℕ) → v.splits ≤ i → holder (kid v.number i) ≡ None
  pub made : (n s : ℕ) → holder n ≡ Some s → (n ≡ 0) ⊎ IsMade holder seats n

abbrev pub IsTree : List Branch → Type 0
IsTree seats = (holder : ℕ → Option ℕ) × Tree holder seats

-- a pass that splits, and the pass that it makes
abbrev pub splitter : Branch → Branch
splitter v = record v { splits = v.splits + 1; made = v.made ++ kid v.number v.splits ∷ [] }

abbrev pub offspring : Branch → Branch
offspring v = record { live = true; number = kid v.number v.splits; splits = 0; made = []; joined = [] }

-- a pass that takes in another
abbrev pub keeper : Branch → Branch → Branch
keeper v w = record v { made = v.made ++ w.made; joined = v.joined ++ w.number ∷ w.joined }
