-- Items of lists by index: where one more stands behind them, and where one is set.
use Rattle.std.proofs.Common.{◌≡◌, ℕ, zero, suc, ◌<◌, ◌+◌, Bool, true, false, ap, refl, sym, ◌∙◌, eqb-true, List, [], ◌∷◌, ◌++◌, length, slice_get, Some, arith, inl, inr}
use Rattle.std.proofs.lemmas.Bool.{eqb-false}
use Rattle.std.specs.Prelude.{nat_eq, slice_set, ◌⊎◌}

module _ {A : Type 0} where
  pub get_before : (xs : List A) (x : A) (i : ℕ) (y : A) → slice_get xs i ≡ Some y → slice_get (xs ++ x ∷ []) i ≡ Some y
  get_before [] x i y e = absurd (cc)
  get_before (z ∷ zs) x zero y e = e
  get_before (z ∷ zs) x (suc i) y e = get_before zs x i y e

  get_at : (xs : List A) (x : A) (n : ℕ) → n ≡ length xs → slice_get (xs ++ x ∷ []) n ≡ Some x
  get_at [] x zero e = refl
  get_at [] x (suc n) e = absurd (omega arith)
  get_at (z ∷ zs) x zero e = absurd (omega arith)
  get_at (z ∷ zs) x (suc n) e = get_at zs x n (omega arith)

  pub get_last : (xs : List A) (x : A) → slice_get (xs ++ x ∷ []) (length xs) ≡ Some x
  get_last xs x = get_at xs x (length xs) refl

  pub get_inside : (xs : List A) (i : ℕ) (y : A) → slice_get xs i ≡ Some y → i < length xs
  get_inside [] i y e = absurd (cc)
  get_inside (z ∷ zs) zero y e = omega arith
  get_inside (z ∷ zs) (suc i) y e = let inside = get_inside zs i y e in omega arith

  -- it stood there before, or is the one behind
  pub get_more : (xs : List A) (x : A) (i : ℕ) (y : A) → slice_get (xs ++ x ∷ []) i ≡ Some y → (slice_get xs i ≡ Some y) ⊎ ((i ≡ length xs) × (x ≡ y))
  get_more [] x zero y e = let same : x ≡ y = cc in inr (refl, same)
  get_more [] x (suc i) y e = absurd (cc)
  get_more (z ∷ zs) x zero y e = inl e
  get_more (z ∷ zs) x (suc i) y e = of (get_more zs x i y e)
    where
      of : (slice_get zs i ≡ Some y) ⊎ ((i ≡ length zs) × (x ≡ y)) → (slice_get zs i ≡ Some y) ⊎ ((suc i ≡ length (z ∷ zs)) × (x ≡ y))
      of (inl h) = inl h
      of (inr h) = inr (ap suc h.0, h.1)

  pub length_more : (xs : List A) (x : A) → length (xs ++ x ∷ []) ≡ length xs + 1
  length_more [] x = omega arith
  length_more (z ∷ zs) x = let rest = length_more zs x in omega arith

  pub get_set : (xs : List A) (i : ℕ) (x : A) → i < length xs → slice_get (slice_set xs i x) i ≡ Some x
  get_set [] i x inside = absurd (omega arith)
  get_set (z ∷ zs) zero x inside = refl
  get_set (z ∷ zs) (suc i) x inside = get_set zs i x (omega arith)

  pub get_other : (xs : List A) (i : ℕ) (x : A) (j : ℕ) → (j ≡ i → ⊥) → slice_get (slice_set xs i x) j ≡ slice_get xs j
  get_other [] i x j other = refl
  get_other (z ∷ zs) zero x zero other = absurd (other refl)
  get_other (z ∷ zs) zero x (suc j) other = refl
  get_other (z ∷ zs) (suc i) x zero other = refl
  get_other (z ∷ zs) (suc i) x (suc j) other = get_other zs i x j (λ e. other (ap suc e))

  -- it is the one that was set, or stood there before
  pub get_after_set : (xs : List A) (i : ℕ) (x : A) (j : ℕ) (y : A) → i < length xs → slice_get (slice_set xs i x) j ≡ Some y
      → ((j ≡ i) × (x ≡ y)) ⊎ ((j ≡ i → ⊥) × (slice_get xs j ≡ Some y))
  get_after_set xs i x j y inside e = of (nat_eq j i) refl
    where
      of : (test : Bool) → nat_eq j i ≡ test → ((j ≡ i) × (x ≡ y)) ⊎ ((j ≡ i → ⊥) × (slice_get xs j ≡ Some y))
      of true t =
          let there : Some x ≡ Some y = sym (get_set xs i x inside) ∙ ap (slice_get (slice_set xs i x)) (sym (eqb-true j i t)) ∙ e in
          let same : x ≡ y = cc in
          inl (eqb-true j i t, same)
      of false t = inr (eqb-false j i t, sym (get_other xs i x j (eqb-false j i t)) ∙ e)
