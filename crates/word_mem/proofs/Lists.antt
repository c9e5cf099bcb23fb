-- Elements of a list, and a list cut at one.
use Rattle.std.proofs.Common.{◌≡◌, ◌⊎◌, suc, List, [], ◌∷◌, ◌++◌, Contains, refl, ap, inl, inr, ⊎_elim, arith}

module _ {A : Type 0} where
  pub Contains-here : (x : A) (xs : List A) → Contains (x ∷ xs) x
  Contains-here x xs = (0, omega arith, refl)

  pub Contains-there : (x y : A) (xs : List A) → Contains xs y → Contains (x ∷ xs) y
  Contains-there x y xs (k, within, is) = (suc k, omega arith, is)

  pub Contains-none : (x : A) → Contains [] x → ⊥
  Contains-none x (k, within, is) = absurd (omega arith)

  -- what stands at a place in the middle
  pub Contains-middle : (front : List A) (x : A) (back : List A) → Contains (front ++ x ∷ back) x
  Contains-middle [] x back = Contains-here x back
  Contains-middle (y ∷ front) x back = Contains-there y x (front ++ x ∷ back) (Contains-middle front x back)

  -- a list with x at its end, cut at y: at its end, or before it
  pub cut_at : (m front back : List A) (x y : A) → m ++ x ∷ [] ≡ front ++ y ∷ back
      → ((front ≡ m) × (y ≡ x)) ⊎ ((rest : List A) × (m ≡ front ++ y ∷ rest))
  cut_at [] [] back x y e = inl (refl, cc)
  cut_at [] (b ∷ []) back x y e = let clash : ⊥ = cc in absurd clash
  cut_at [] (b ∷ c ∷ front) back x y e = let clash : ⊥ = cc in absurd clash
  cut_at (a ∷ m) [] back x y e = let same : a ≡ y = cc in inr (m, ap (λ (z : A). z ∷ m) same)
  cut_at (a ∷ m) (b ∷ front) back x y e =
      let head : a ≡ b = cc in
      let tail : m ++ x ∷ [] ≡ front ++ y ∷ back = cc in
      ⊎_elim
      (λ (last : (front ≡ m) × (y ≡ x)). let here : b ∷ front ≡ a ∷ m = cc in inl (here, last.1))
      (λ (before : (rest : List A) × (m ≡ front ++ y ∷ rest)). let there : a ∷ m ≡ b ∷ (front ++ y ∷ before.0) = cc in inr (before.0, there))
      (cut_at m front back x y tail)
