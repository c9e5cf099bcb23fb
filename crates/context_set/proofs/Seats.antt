-- What stands at the places of a list of views, and what holds of all of them.
use Rattle.std.proofs.Common.{◌≡◌, ◌≢◌, ◌⊎◌, ◌<◌, ℕ, zero, suc, List, [], ◌∷◌, ◌++◌, set, length, get_or, refl, sym, ap, ◌∙◌, subst₂, inl, inr, ⊎_elim, arith}
use mathlib.Core.Option.{some, some-injective, some-ne-none}
use lib.ListN.{get_elem?}
use Rattle.atomic_table.proofs.Lists.{at_set}

module _ {A : Type 0} where
  -- what stands at a place of a longer list: what stood there, or the new element at the end
  pub at_end : (l : List A) (a b : A) (j : ℕ) → get_elem? (l ++ a ∷ []) j ≡ some b → (get_elem? l j ≡ some b) ⊎ ((j ≡ length l) × (a ≡ b))
  at_end [] a b zero e = inr (refl, some-injective a b e)
  at_end [] a b (suc j) e = absurd (some-ne-none b (sym e))
  at_end (x ∷ xs) a b zero e = inl e
  at_end (x ∷ xs) a b (suc j) e = ⊎_elim inl (λ (t : (j ≡ length xs) × (a ≡ b)). inr (ap suc t.0, t.1)) (at_end xs a b j e)

  pub at_within : (l : List A) (i : ℕ) (a : A) → get_elem? l i ≡ some a → i < length l
  at_within [] i a e = absurd (some-ne-none a (sym e))
  at_within (x ∷ xs) zero a e = omega arith
  at_within (x ∷ xs) (suc i) a e = let before = at_within xs i a e in omega arith

  pub same_at : (l : List A) (i : ℕ) (a b : A) → get_elem? l i ≡ some a → get_elem? l i ≡ some b → a ≡ b
  same_at l i a b e f = some-injective a b (sym e ∙ f)

  pub at_place : (l : List A) (i : ℕ) (a d : A) → get_elem? l i ≡ some a → get_or l i d ≡ a
  at_place [] i a d e = absurd (some-ne-none a (sym e))
  at_place (x ∷ xs) zero a d e = some-injective x a e
  at_place (x ∷ xs) (suc i) a d e = at_place xs i a d e

  -- what holds of all seats, where one view changes
  pub seats_set : (P : ℕ → A → Type 0) (views : List A) (id : ℕ) (w : A)
      → ((i : ℕ) (u : A) → i ≢ id → get_elem? views i ≡ some u → P i u) → P id w
      → (i : ℕ) (u : A) → get_elem? (set views id w) i ≡ some u → P i u
  seats_set P views id w others this i u at =
      ⊎_elim
      (λ (t : (i ≡ id) × (w ≡ u)). subst₂ P (sym t.0) t.1 this)
      (λ (t : (i ≢ id) × (get_elem? views i ≡ some u)). others i u t.0 t.1)
      (at_set views id i w u at)

  pub seats_longer : (P : ℕ → A → Type 0) (views : List A) (w : A)
      → ((i : ℕ) (u : A) → get_elem? views i ≡ some u → P i u) → P (length views) w
      → (i : ℕ) (u : A) → get_elem? (views ++ w ∷ []) i ≡ some u → P i u
  seats_longer P views w others last i u at =
      ⊎_elim
      (λ (before : get_elem? views i ≡ some u). others i u before)
      (λ (t : (i ≡ length views) × (w ≡ u)). subst₂ P (sym t.0) t.1 last)
      (at_end views w u i at)
