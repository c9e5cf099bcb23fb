-- What holds of each item of a list.
use Rattle.std.proofs.Common.{◌≡◌, ℕ, zero, suc, subst, List, [], ◌∷◌, ◌++◌, take, drop, slice_get, Some}
use Rattle.std.specs.Prelude.{slice_set}

abbrev pub Each : {A : Type 0} → (A → Type 0) → List A → Type 0
Each P [] = Unit {0}
Each P (x ∷ xs) = P x × Each P xs

module _ {A : Type 0} where
  pub each_get : (P : A → Type 0) (xs : List A) (i : ℕ) (x : A) → Each P xs → slice_get xs i ≡ Some x → P x
  each_get P [] i x each e = absurd (cc)
  each_get P (y ∷ ys) zero x each e = let same : y ≡ x = cc in subst P same each.0
  each_get P (y ∷ ys) (suc i) x each e = each_get P ys i x each.1 e

  pub each_more : (P : A → Type 0) (xs : List A) (x : A) → Each P xs → P x → Each P (xs ++ x ∷ [])
  each_more P [] x each p = (p, tt)
  each_more P (y ∷ ys) x each p = (each.0, each_more P ys x each.1 p)

  pub each_as : (P Q : A → Type 0) (xs : List A) → ((x : A) → P x → Q x) → Each P xs → Each Q xs
  each_as P Q [] as_well each = tt
  each_as P Q (x ∷ xs) as_well each = (as_well x each.0, each_as P Q xs as_well each.1)

  pub each_taken : (P : A → Type 0) (n : ℕ) (xs : List A) → Each P xs → Each P (take n xs)
  each_taken P zero xs each = tt
  each_taken P (suc n) [] each = tt
  each_taken P (suc n) (x ∷ xs) each = (each.0, each_taken P n xs each.1)

  pub each_dropped : (P : A → Type 0) (n : ℕ) (xs : List A) → Each P xs → Each P (drop n xs)
  each_dropped P zero xs each = each
  each_dropped P (suc n) [] each = tt
  each_dropped P (suc n) (x ∷ xs) each = each_dropped P n xs each.1

  pub each_set : (P : A → Type 0) (xs : List A) (i : ℕ) (x : A) → Each P xs → P x → Each P (slice_set xs i x)
  each_set P [] i x each p = tt
  each_set P (y ∷ ys) zero x each p = (p, each.1)
  each_set P (y ∷ ys) (suc i) x each p = (each.0, each_set P ys i x each.1 p)

  pub each_joined : (P : A → Type 0) (xs ys : List A) → Each P xs → Each P ys → Each P (xs ++ ys)
  each_joined P [] ys each rest = rest
  each_joined P (x ∷ xs) ys each rest = (each.0, each_joined P xs ys each.1 rest)
