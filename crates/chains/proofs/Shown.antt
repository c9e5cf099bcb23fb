-- At most one chain of a function is shown.
use Rattle.std.proofs.Common.{◌≡◌, ℕ, ◌<◌, ◌≤◌, ◌⊎◌, inl, inr, List, [], ◌∷◌, length, arith, ap₂, refl}
use Rattle.chains.specs.declared.marks.Mark.{Mark}
use Rattle.chains.specs.Chain.{IsNoLater, IsShown}

-- of two lists of one length that are both no later, each is the other
both_no_later : (places others : List ℕ) → length places ≡ length others → IsNoLater places others → IsNoLater others places → places ≡ others
both_no_later [] [] size to back = refl
both_no_later [] (j ∷ others) size to back = absurd back
both_no_later (i ∷ places) [] size to back = absurd to
both_no_later (i ∷ places) (j ∷ others) size to back =
    go to back (λ rest tail. both_no_later places others (omega arith) rest tail) where
      go : (i < j) ⊎ ((i ≡ j) × IsNoLater places others) → (j < i) ⊎ ((j ≡ i) × IsNoLater others places) → (IsNoLater places others → IsNoLater others places → places ≡ others) → i ∷ places ≡ j ∷ others
      go (inl less) (inl more) behind = let clash : ⊥ = omega arith in absurd clash
      go (inl less) (inr (same, rest)) behind = let clash : ⊥ = omega arith in absurd clash
      go (inr (same, rest)) (inl more) behind = let clash : ⊥ = omega arith in absurd clash
      go (inr (same, rest)) (inr (other, tail)) behind = ap₂ (λ x xs. x ∷ xs) same (behind rest tail)

pub one_shown : (look : ℕ → ℕ → Mark) (f : ℕ) (places others : List ℕ) → IsShown look f places → IsShown look f others → places ≡ others
one_shown look f places others shown other =
    let fewer : length places ≤ length others = shown.fewest others other.leads in
    let more : length others ≤ length places = other.fewest places shown.leads in
    both_no_later places others (omega arith) (shown.first others other.leads (omega arith)) (other.first places shown.leads (omega arith))
