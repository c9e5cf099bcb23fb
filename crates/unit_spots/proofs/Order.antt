-- A stable sort by a number gives what inserting one element after the other gives: two lists in order that keep ties in one order are one list.
use Rattle.std.proofs.Common.{◌≡◌, ◌∙◌, refl, sym, ap, ℕ, zero, suc, ◌+◌, ◌<◌, ◌≤◌, ◌==◌, Bool, true, false, not, ◌&&◌, cond, List, [], ◌∷◌, length, get_or, map, arith}
use Rattle.std.specs.List.{filter}
use Rattle.std.specs.List.Sorted.{IsNonDecreasingBy, IsStableByKey, ties}
use Rattle.std.specs.Ordering.{nat_cmp, is_lt}
use Rattle.std.specs.Prelude.{nat_lt}
use Rattle.std.specs.declared.cmp.Ordering.TheVariants.{Less, Equal, Greater}
use Rattle.std.proofs.lemmas.Bool.{ltb-true, ltb-false, le-ltb}

lower : (a b : Bool) → is_lt (cond a Less (cond b Equal Greater)) ≡ a
lower true b = refl
lower false true = refl
lower false false = refl

lower_is : (m n : ℕ) → is_lt (nat_cmp m n) ≡ nat_lt m n
lower_is m n = lower (nat_lt m n) (m == n)

-- numbers tie exactly where they are equal
tied : (m n : ℕ) → m ≡ n → (not (is_lt (nat_cmp m n)) && not (is_lt (nat_cmp n m))) ≡ true
tied m n e =
    let low : nat_lt m n ≡ false = le-ltb m n (omega arith) in
    let high : nat_lt n m ≡ false = le-ltb n m (omega arith) in
    rw (lower_is m n, lower_is n m, low, high) refl

tied_back : (m n : ℕ) → (not (is_lt (nat_cmp m n)) && not (is_lt (nat_cmp n m))) ≡ true → m ≡ n
tied_back m n h =
    let tests : (not (nat_lt m n) && not (nat_lt n m)) ≡ true = rw (lower_is m n, lower_is n m) at h in
    go (nat_lt m n) (nat_lt n m) refl refl tests
  where
    go : (a b : Bool) → nat_lt m n ≡ a → nat_lt n m ≡ b → (not a && not b) ≡ true → m ≡ n
    go true b e f t = let clash : ⊥ = cc in absurd clash
    go false true e f t = let clash : ⊥ = cc in absurd clash
    go false false e f t = let x : n ≤ m = ltb-false m n e in let y : m ≤ n = ltb-false n m f in omega arith

module _ {X : Type 0} (key : X → ℕ) where
  abbrev pub insert_by : X → List X → List X
  insert_by x [] = x ∷ []
  insert_by x (y ∷ ys) = cond (nat_lt (key y) (key x)) (y ∷ insert_by x ys) (x ∷ y ∷ ys)

  abbrev pub sorted_by : List X → List X
  sorted_by [] = []
  sorted_by (x ∷ xs) = insert_by x (sorted_by xs)

  abbrev Below : ℕ → List X → Type 0
  Below n [] = Unit {0}
  Below n (y ∷ ys) = (n ≤ key y) × Below n ys

  abbrev Rises : List X → Type 0
  Rises [] = Unit {0}
  Rises (x ∷ xs) = Below (key x) xs × Rises xs

  below_from : (n : ℕ) (xs : List X) → ((j : ℕ) (d : X) → j < length xs → n ≤ key (get_or xs j d)) → Below n xs
  below_from n [] h = tt
  below_from n (x ∷ xs) h = (h 0 x (omega arith), below_from n xs (λ j d l. h (suc j) d (omega (arith, l))))

  rises_from : (xs : List X) → IsNonDecreasingBy key xs → Rises xs
  rises_from [] h = tt
  rises_from (x ∷ xs) h = (
    below_from (key x) xs (λ j d l. h 0 (suc j) d (omega arith) (omega (arith, l))),
    rises_from xs (λ i j d le l. h (suc i) (suc j) d (omega (arith, le)) (omega (arith, l))),
  )

  below_less : (m n : ℕ) (xs : List X) → m ≤ n → Below n xs → Below m xs
  below_less m n [] le h = tt
  below_less m n (x ∷ xs) le h = (let first : n ≤ key x = h.0 in omega arith, below_less m n xs le h.1)

  below_insert : (n : ℕ) (x : X) (ys : List X) → n ≤ key x → Below n ys → Below n (insert_by x ys)
  below_insert n x [] le h = (le, tt)
  below_insert n x (y ∷ ys) le h = go (nat_lt (key y) (key x)) (below_insert n x ys le h.1)
    where
      go : (b : Bool) → Below n (insert_by x ys) → Below n (cond b (y ∷ insert_by x ys) (x ∷ y ∷ ys))
      go true rest = (h.0, rest)
      go false rest = (le, h)

  rises_insert : (x : X) (ys : List X) → Rises ys → Rises (insert_by x ys)
  rises_insert x [] h = (tt, tt)
  rises_insert x (y ∷ ys) h = go (nat_lt (key y) (key x)) refl (rises_insert x ys h.1)
    where
      go : (b : Bool) → nat_lt (key y) (key x) ≡ b → Rises (insert_by x ys) → Rises (cond b (y ∷ insert_by x ys) (x ∷ y ∷ ys))
      go true e rest = (let less : key y < key x = ltb-true (key y) (key x) e in below_insert (key y) x ys (omega arith) h.0, rest)
      go false e rest = (let least : key x ≤ key y = ltb-false (key y) (key x) e in (least, below_less (key x) (key y) ys least h.0), h)

  rises_sorted : (xs : List X) → Rises (sorted_by xs)
  rises_sorted [] = tt
  rises_sorted (x ∷ xs) = rises_insert x (sorted_by xs) (rises_sorted xs)

  module _ (same : X → X → Bool) (alike : (x y : X) → key x ≡ key y → same x y ≡ true) (back : (x y : X) → same x y ≡ true → key x ≡ key y) where
    -- where an element is inserted, those that tie with another keep their order
    filter_insert : (z x : X) (ys : List X) → filter (same z) (insert_by x ys) ≡ filter (same z) (x ∷ ys)
    filter_insert z x [] = refl
    filter_insert z x (y ∷ ys) = go (nat_lt (key y) (key x)) refl (filter_insert z x ys)
      where
        apart : (a b : Bool) → same z x ≡ a → same z y ≡ b → key y < key x → filter (same z) (insert_by x ys) ≡ cond a (x ∷ filter (same z) ys) (filter (same z) ys) →
            cond b (y ∷ filter (same z) (insert_by x ys)) (filter (same z) (insert_by x ys)) ≡ cond a (x ∷ cond b (y ∷ filter (same z) ys) (filter (same z) ys)) (cond b (y ∷ filter (same z) ys) (filter (same z) ys))
        apart true true e f less rest =
            let one : key z ≡ key x = back z x e in
            let two : key z ≡ key y = back z y f in
            absurd (omega arith)
        apart true false e f less rest = rest
        apart false true e f less rest = ap (λ ts. y ∷ ts) rest
        apart false false e f less rest = rest

        go : (b : Bool) → nat_lt (key y) (key x) ≡ b → filter (same z) (insert_by x ys) ≡ filter (same z) (x ∷ ys) →
            filter (same z) (cond b (y ∷ insert_by x ys) (x ∷ y ∷ ys)) ≡ filter (same z) (x ∷ y ∷ ys)
        go true e rest = apart (same z x) (same z y) refl refl (ltb-true (key y) (key x) e) rest
        go false e rest = refl

    filter_sorted : (z : X) (xs : List X) → filter (same z) (sorted_by xs) ≡ filter (same z) xs
    filter_sorted z [] = refl
    filter_sorted z (x ∷ xs) =
        filter_insert z x (sorted_by xs) ∙ ap (λ ts. cond (same z x) (x ∷ ts) ts) (filter_sorted z xs)

    -- an element that ties with one of a list in order is not below its least number
    least : (n : ℕ) (z w : X) (xs ws : List X) → Below n xs → filter (same z) xs ≡ w ∷ ws → n ≤ key z
    least n z w [] ws h e = let clash : ⊥ = cc in absurd clash
    least n z w (x ∷ xs) ws h e = go (same z x) refl e (least n z w xs ws h.1)
      where
        go : (b : Bool) → same z x ≡ b → cond b (x ∷ filter (same z) xs) (filter (same z) xs) ≡ w ∷ ws → (filter (same z) xs ≡ w ∷ ws → n ≤ key z) → n ≤ key z
        go true f g rest = let eq : key z ≡ key x = back z x f in let low : n ≤ key x = h.0 in omega arith
        go false f g rest = rest g

    kept_first : (z : X) (xs : List X) → filter (same z) (z ∷ xs) ≡ z ∷ filter (same z) xs
    kept_first z xs = let itself : same z z ≡ true = alike z z refl in rw itself refl

    -- two lists in order that keep ties alike are one
    pub one_order : (xs ys : List X) → Rises xs → Rises ys → ((z : X) → filter (same z) xs ≡ filter (same z) ys) → xs ≡ ys
    one_order [] [] h g e = refl
    one_order [] (y ∷ ys) h g e = let none : [] ≡ y ∷ filter (same y) ys = e y ∙ kept_first y ys in let clash : ⊥ = cc in absurd clash
    one_order (x ∷ xs) [] h g e = let none : x ∷ filter (same x) xs ≡ [] = sym (kept_first x xs) ∙ e x in let clash : ⊥ = cc in absurd clash
    one_order (x ∷ xs) (y ∷ ys) h g e =
        let low : key y ≤ key x = least (key y) x x (y ∷ ys) (filter (same x) xs) (omega arith, g.0) (sym (e x) ∙ kept_first x xs) in
        let high : key x ≤ key y = least (key x) y y (x ∷ xs) (filter (same y) ys) (omega arith, h.0) (e y ∙ kept_first y ys) in
        let tie : same x y ≡ true = alike x y (omega arith) in
        let front : x ∷ filter (same x) xs ≡ y ∷ filter (same x) ys = sym (kept_first x xs) ∙ (e x ∙ ap (λ b. cond b (y ∷ filter (same x) ys) (filter (same x) ys)) tie) in
        let first : x ≡ y = ap (head_at x) front in
        let rest : xs ≡ ys = one_order xs ys h.1 g.1 (λ z. tails z (same z x) refl (ap (λ t. same z t) (sym first)) (e z)) in
        cc
      where
        head_at : X → List X → X
        head_at d [] = d
        head_at d (t ∷ ts) = t

        tails : (z : X) (b : Bool) → same z x ≡ b → same z y ≡ same z x → filter (same z) (x ∷ xs) ≡ filter (same z) (y ∷ ys) → filter (same z) xs ≡ filter (same z) ys
        tails z b f both all = go b (ap (λ a. cond a (x ∷ filter (same z) xs) (filter (same z) xs)) (sym f) ∙ (all ∙ ap (λ a. cond a (y ∷ filter (same z) ys) (filter (same z) ys)) (both ∙ f)))
          where
            go : (b : Bool) → cond b (x ∷ filter (same z) xs) (filter (same z) xs) ≡ cond b (y ∷ filter (same z) ys) (filter (same z) ys) → filter (same z) xs ≡ filter (same z) ys
            go true e = cc
            go false e = e

  pub sorted_is : (xs ys : List X) → IsNonDecreasingBy key ys → IsStableByKey key nat_cmp xs ys → ys ≡ sorted_by xs
  sorted_is xs ys rises stable =
      one_order (ties (λ x y. is_lt (nat_cmp (key x) (key y)))) (λ x y. tied (key x) (key y)) (λ x y. tied_back (key x) (key y)) ys (sorted_by xs)
      (rises_from ys rises) (rises_sorted xs)
      (λ z. stable z ∙ sym (filter_sorted (ties (λ x y. is_lt (nat_cmp (key x) (key y)))) (λ x y. tied (key x) (key y)) (λ x y. tied_back (key x) (key y)) z xs))
