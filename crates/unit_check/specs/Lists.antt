-- Two words on lists.
use Rattle.std.specs.Prelude.{List, [], ◌∷◌}

-- The chosen ones are those of the list for which the property holds, in their order.
pub data Picked {A : Type 0} (P : A → Type 0) : List A → List A → Type 0 where
  Nothing : Picked P [] []
  Taken : (x : A) (xs chosen : List A) → P x → Picked P xs chosen → Picked P (x ∷ xs) (x ∷ chosen)
  Left : (x : A) (xs chosen : List A) → (P x → ⊥) → Picked P xs chosen → Picked P (x ∷ xs) chosen

-- The lists are equally long, and the relation holds of each two that stand at one index.
abbrev pub EachPair : {A B : Type 0} → (A → B → Type 0) → List A → List B → Type 0
EachPair R [] [] = Unit {0}
EachPair R (x ∷ xs) (y ∷ ys) = R x y × EachPair R xs ys
EachPair R _ _ = ⊥
