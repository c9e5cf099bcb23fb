-- One word more of a list.
use Rattle.std.proofs.Common.{◌≡◌, ◌+◌, ◌≤◌, ℕ, zero, suc, List, [], ◌∷◌, ◌++◌, length, take, refl, sym, ap, ◌∙◌, take_all, arith}
use mathlib.Core.Option.{some, some-injective, some-ne-none}
use lib.ListN.{get_elem?}

pub take_one_more : (xs : List ℕ) (i : ℕ) (x : ℕ) → get_elem? xs i ≡ some x → take (i + 1) xs ≡ take i xs ++ x ∷ []
take_one_more xs i x at = let next : i + 1 ≡ suc i = omega arith in rw next (more xs i x at) where
  more : (xs : List ℕ) (i : ℕ) (x : ℕ) → get_elem? xs i ≡ some x → take (suc i) xs ≡ take i xs ++ x ∷ []
  more [] i x at = absurd (some-ne-none x (sym at))
  more (y ∷ xs) zero x at = ap (λ (z : ℕ). z ∷ []) (some-injective y x at)
  more (y ∷ xs) (suc i) x at = ap (λ (zs : List ℕ). y ∷ zs) (more xs i x at)

pub ruleset copying = (take_one_more, take_all)
