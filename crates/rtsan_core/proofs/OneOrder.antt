-- A list has one order by a number in which those of one number stay as they stood.
use Rattle.std.proofs.Common.{◌≡◌, ℕ, zero, suc, ◌<◌, ◌≤◌, Bool, true, false, cond, List, [], ◌∷◌, length, filter, nat_cmp, is_lt, slice_index_or, refl, sym, ap₂, subst, ◌∙◌, arith}
use Rattle.std.proofs.lemmas.Bool.{cond-true}
use Rattle.std.proofs.lemmas.Bool.Decides.{nat_tests}
use Rattle.std.specs.List.Sorted.{ties, IsNonDecreasingBy}
use Rattle.type_rules.specs.declared.notes.TypeWarning.{TypeWarning}
use Rattle.type_units.specs.Answers.{AreInOrder, place_of}

ties_at : (m n : ℕ) → (ties (λ x y. is_lt (nat_cmp x y)) m n ≡ true → m ≡ n) × (m ≡ n → ties (λ x y. is_lt (nat_cmp x y)) m n ≡ true)
ties_at m n = (λ h. grind (arith, nat_tests), λ h. grind (arith, nat_tests))

module _ {X : Type 0} (n : X → ℕ) where
  abbrev tied : X → X → Bool
  tied = ties (λ x y. is_lt (nat_cmp (n x) (n y)))

  abbrev NoneBelow : ℕ → List X → Type 0
  NoneBelow least [] = Unit {0}
  NoneBelow least (x ∷ xs) = (least ≤ n x) × NoneBelow least xs

  none_below : (least : ℕ) (xs : List X) → ((j : ℕ) (d : X) → j < length xs → least ≤ n (slice_index_or xs j d)) → NoneBelow least xs
  none_below least [] h = tt
  none_below least (x ∷ xs) h = (h zero x (omega arith), none_below least xs (λ j d within. h (suc j) d (omega (arith, within))))

  from_first : (x : X) (xs : List X) → IsNonDecreasingBy n (x ∷ xs) → NoneBelow (n x) (x ∷ xs)
  from_first x xs h = none_below (n x) (x ∷ xs) (λ j d within. h zero j d (omega arith) within)

  behind_first : (x : X) (xs : List X) → IsNonDecreasingBy n (x ∷ xs) → IsNonDecreasingBy n xs
  behind_first x xs h i j d order within = h (suc i) (suc j) d (omega (arith, order)) (omega (arith, within))

  -- what ties with an element of a list is no less than the least of it
  kept_not_below : (least : ℕ) (xs : List X) (y z : X) (rest : List X) → NoneBelow least xs → filter (tied y) xs ≡ z ∷ rest → least ≤ n y
  kept_not_below least [] y z rest h e = absurd (cc)
  kept_not_below least (x ∷ xs) y z rest h e = by (tied y x) refl e (λ later. kept_not_below least xs y z rest h.1 later)
    where
      by : (b : Bool) → tied y x ≡ b → cond b (x ∷ filter (tied y) xs) (filter (tied y) xs) ≡ z ∷ rest → (filter (tied y) xs ≡ z ∷ rest → least ≤ n y) → least ≤ n y
      by true t e later = let low = h.0 in let same = (ties_at (n y) (n x)).0 t in omega (arith, low, same)
      by false t e later = later e

  first_kept : (x y : X) (xs : List X) → n x ≡ n y → filter (tied x) (y ∷ xs) ≡ y ∷ filter (tied x) xs
  first_kept x y xs same = cond-true _ _ _ ((ties_at (n x) (n y)).1 same)

  without_first : (x : X) (xs ys : List X) (b : Bool) → cond b (x ∷ xs) xs ≡ cond b (x ∷ ys) ys → xs ≡ ys
  without_first x xs ys true e = cc
  without_first x xs ys false e = e

  pub one_rise : (xs ys : List X) → IsNonDecreasingBy n xs → IsNonDecreasingBy n ys → ((z : X) → filter (tied z) xs ≡ filter (tied z) ys) → xs ≡ ys
  one_rise [] [] a b same = refl
  one_rise [] (y ∷ ys) a b same =
      let e : [] ≡ y ∷ filter (tied y) ys = same y ∙ first_kept y y ys refl in
      absurd (cc)
  one_rise (x ∷ xs) [] a b same =
      let e : x ∷ filter (tied x) xs ≡ [] = sym (first_kept x x xs refl) ∙ same x in
      absurd (cc)
  one_rise (x ∷ xs) (y ∷ ys) a b same =
      let low : n y ≤ n x = kept_not_below (n y) (y ∷ ys) x x (filter (tied x) xs) (from_first y ys b) (sym (same x) ∙ first_kept x x xs refl) in
      let high : n x ≤ n y = kept_not_below (n x) (x ∷ xs) y y (filter (tied y) ys) (from_first x xs a) (same y ∙ first_kept y y ys refl) in
      let tie : n x ≡ n y = omega (arith, low, high) in
      let heads : x ∷ filter (tied x) xs ≡ y ∷ filter (tied x) ys = sym (first_kept x x xs refl) ∙ same x ∙ first_kept x y ys tie in
      let first : x ≡ y = cc in
      ap₂ (λ z zs. z ∷ zs) first
      (one_rise xs ys (behind_first x xs a) (behind_first y ys b)
      (λ z. without_first x (filter (tied z) xs) (filter (tied z) ys) (tied z x)
      (subst (λ w. filter (tied z) (x ∷ xs) ≡ cond (tied z w) (w ∷ filter (tied z) ys) (filter (tied z) ys)) (sym first) (same z))))

-- noted warnings have one order of place
pub one_order : (noted some other : List TypeWarning) → AreInOrder noted some → AreInOrder noted other → some ≡ other
one_order noted some other a b = one_rise place_of some other a.rising b.rising (λ z. a.stable z ∙ sym (b.stable z))
