-- Lists whose numbers, as a function reads them off the elements, strictly increase.
use Rattle.std.proofs.Common.{◌≡◌, ℕ, ◌+◌, ◌<◌, ◌⊎◌, inl, inr, List, [], ◌∷◌, ◌++◌, length, map, take, get_or, Contains, suc, zero, refl, ap, sym, ◌∙◌, arith}
use Rattle.std.specs.List.Sorted.{IsStrictlyIncreasing}
use Rattle.std.proofs.lemmas.List.{get_or-map, length-map, map-append, get_or-take, length-take}
use Rattle.std.proofs.lemmas.List.Kept.{AllPairs-from_increasing}

pub Contains-later : {X : Type 0} (x : X) (xs : List X) (y : X) → Contains xs y → Contains (x ∷ xs) y
Contains-later x xs y h = (suc h.0, omega (arith, h.1), h.2)

pub Contains-cons_cases : {X : Type 0} (x : X) (xs : List X) (y : X) → Contains (x ∷ xs) y → (x ≡ y) ⊎ Contains xs y
Contains-cons_cases x xs y (zero, l, e) = inl e
Contains-cons_cases x xs y (suc k, l, e) = inr (k, omega (arith, l), e)

pub increasing-rest : (n : ℕ) (ns : List ℕ) → IsStrictlyIncreasing (n ∷ ns) → IsStrictlyIncreasing ns
increasing-rest n ns h k l =
    let next : suc k + 1 ≡ suc (k + 1) = omega arith in
    let within : suc k + 1 < length (n ∷ ns) = omega (arith, l) in
    rw next at (h (suc k) within)

-- the first number is below all later ones
pub increasing-first : {X : Type 0} (f : X → ℕ) (x : X) (xs : List X) → IsStrictlyIncreasing (map f (x ∷ xs)) → (y : X) → Contains xs y → f x < f y
increasing-first f x xs h y (k, l, e) =
    let at : get_or (map f xs) k 0 ≡ f (get_or xs k y) = get_or-map f xs k y 0 l in
    let long : suc k < length (map f (x ∷ xs)) = rw length-map (omega arith) in
    let below : f x < get_or (map f xs) k 0 = AllPairs-from_increasing (map f (x ∷ xs)) h 0 (suc k) 0 (omega arith) long in
    rw (← e, ← at) below

-- each number below a place of the list is below the one there
pub increasing-before : {X : Type 0} (f : X → ℕ) (xs : List X) (i : ℕ) (d : X) → IsStrictlyIncreasing (map f xs) → i < length xs → (y : X) → Contains (take i xs) y → f y < f (get_or xs i d)
increasing-before f xs i d h within y (k, l, e) =
    let earlier : k < i = omega (arith, l, length-take i xs) in
    let at_k : get_or (map f xs) k 0 ≡ f (get_or xs k y) = get_or-map f xs k y 0 (omega arith) in
    let at_i : get_or (map f xs) i 0 ≡ f (get_or xs i d) = get_or-map f xs i d 0 within in
    let same : f (get_or xs k y) ≡ f y = ap f (sym (get_or-take i xs k y earlier) ∙ e) in
    let long : i < length (map f xs) = rw length-map within in
    let below : get_or (map f xs) k 0 < get_or (map f xs) i 0 = AllPairs-from_increasing (map f xs) h k i 0 earlier long in
    omega arith

-- a number above all the others may be added
push_above : (ns : List ℕ) (n : ℕ) → IsStrictlyIncreasing ns → ((k : ℕ) → k < length ns → get_or ns k 0 < n) → IsStrictlyIncreasing (ns ++ n ∷ [])
push_above [] n h above k l = absurd (omega (arith, l))
push_above (m ∷ []) n h above zero l = above 0 (omega arith)
push_above (m ∷ []) n h above (suc k) l = absurd (omega (arith, l))
push_above (m ∷ p ∷ ns) n h above zero l = h 0 (omega arith)
push_above (m ∷ p ∷ ns) n h above (suc k) l =
    let next : suc k + 1 ≡ suc (k + 1) = omega arith in
    rw next (push_above (p ∷ ns) n (increasing-rest m (p ∷ ns) h) (λ j in_tail. above (suc j) (omega (arith, in_tail))) k (omega (arith, l)))

map_below : {X : Type 0} (f : X → ℕ) (xs : List X) (n : ℕ) → ((x : X) → Contains xs x → f x < n) → (k : ℕ) → k < length (map f xs) → get_or (map f xs) k 0 < n
map_below f [] n h k l = absurd (omega (arith, l))
map_below f (x ∷ xs) n h zero l = h x (0, omega arith, refl)
map_below f (x ∷ xs) n h (suc k) l = map_below f xs n (λ y c. h y (Contains-later x xs y c)) k (omega (arith, l))

-- an element whose number is above all the others may be added
pub increasing-push : {X : Type 0} (f : X → ℕ) (xs : List X) (x : X) → IsStrictlyIncreasing (map f xs) → ((y : X) → Contains xs y → f y < f x) → IsStrictlyIncreasing (map f (xs ++ x ∷ []))
increasing-push f xs x h above =
    rw map-append (push_above (map f xs) (f x) h (map_below f xs (f x) above))

-- the first elements of two such lists with the same elements are one
same_first : {X : Type 0} (f : X → ℕ) (x y : X) (xs ys : List X) → IsStrictlyIncreasing (map f (x ∷ xs)) → IsStrictlyIncreasing (map f (y ∷ ys)) → Contains (y ∷ ys) x → Contains (x ∷ xs) y → x ≡ y
same_first f x y xs ys h g there back =
    elim (Contains-cons_cases y ys x there) [
      | inl e ↦ sym e
      | inr later ↦
          elim (Contains-cons_cases x xs y back) [
            | inl e ↦ e
            | inr earlier ↦
                absurd (let a : f x < f y = increasing-first f x xs h y earlier in let b : f y < f x = increasing-first f y ys g x later in omega arith)
          ]
    ]

-- what stands behind the first element of the one stands behind the first of the other
behind : {X : Type 0} (f : X → ℕ) (x y : X) (xs ys : List X) → IsStrictlyIncreasing (map f (x ∷ xs)) → x ≡ y → ((z : X) → Contains (x ∷ xs) z → Contains (y ∷ ys) z) → (z : X) → Contains xs z → Contains ys z
behind f x y xs ys h same there z c =
    elim (Contains-cons_cases y ys z (there z (Contains-later x xs z c))) [
      | inl e ↦ absurd (let a : f x < f z = increasing-first f x xs h z c in let b : f x ≡ f z = ap f (same ∙ e) in omega arith)
      | inr later ↦ later
    ]

-- two such lists with the same elements are one list
pub same_from_increasing : {X : Type 0} (f : X → ℕ) (xs ys : List X) → IsStrictlyIncreasing (map f xs) → IsStrictlyIncreasing (map f ys) → ((x : X) → Contains xs x → Contains ys x) → ((x : X) → Contains ys x → Contains xs x) → xs ≡ ys
same_from_increasing f [] [] h g there back = refl
same_from_increasing f [] (y ∷ ys) h g there back = absurd (let c : Contains [] y = back y (0, omega arith, refl) in omega (arith, c.1))
same_from_increasing f (x ∷ xs) [] h g there back = absurd (let c : Contains [] x = there x (0, omega arith, refl) in omega (arith, c.1))
same_from_increasing {X} f (x ∷ xs) (y ∷ ys) h g there back =
    let heads : x ≡ y = same_first f x y xs ys h g (there x (0, omega arith, refl)) (back y (0, omega arith, refl)) in
    let tails : xs ≡ ys =
    same_from_increasing f xs ys (increasing-rest (f x) (map f xs) h) (increasing-rest (f y) (map f ys) g)
    (behind f x y xs ys h heads there) (behind f y x ys xs g (sym heads) back) in
    cc
