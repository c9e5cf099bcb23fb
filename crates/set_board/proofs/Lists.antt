-- What lists have, and lists of different paths.
use Rattle.std.proofs.Common.{◌≡◌, ◌≤◌, ◌<◌, ◌⊎◌, ◌||◌, ◌&&◌, ℕ, zero, suc, not, Bool, true, false, cond, List, [], ◌∷◌, ◌++◌, map, length, Contains, refl, sym, ap, ◌∙◌, subst, inl, inr, ⊎_elim, length-append, arith}
use Rattle.std.specs.Prelude.{filter, count_by}
use Rattle.std.proofs.lemmas.Bool.{cases_eq}
use Rattle.std.specs.List.{list_all}
use Rattle.std.proofs.lemmas.List.Sums.{sum_by-cons}
use Rattle.std.proofs.lemmas.List.Elements.{Contains-append_cases, Contains-append_left, Contains-append_right}
use Rattle.context_set.specs.Paths.{Path}
use Rattle.context_set.specs.Sound.{Apart}
use Rattle.reports.specs.Stacks.{is_same}
use Rattle.reports.specs.Prefixes.{distinct, has}
use Rattle.prefix_table.proofs.Firsts.{has_distinct}
use Rattle.reports.proofs.Sames.{same_is, same_itself}

pub nothing : {A : Type 0} (x : A) → Contains [] x → ⊥
nothing x there = absurd (omega (arith, there.1))

pub head_of : {A : Type 0} (x : A) (xs : List A) → Contains (x ∷ xs) x
head_of x xs = (0, omega arith, refl)

pub behind : {A : Type 0} (x y : A) (xs : List A) → Contains xs x → Contains (y ∷ xs) x
behind x y xs there = (suc there.0, omega (arith, there.1), there.2)

pub cons_cases : {A : Type 0} (y : A) (xs : List A) (x : A) → Contains (y ∷ xs) x → (y ≡ x) ⊎ Contains xs x
cons_cases y xs x (zero, within, at) = inl at
cons_cases y xs x (suc k, within, at) = inr (k, omega arith, at)

pub in_map : {A B : Type 0} (f : A → B) (xs : List A) (x : A) → Contains xs x → Contains (map f xs) (f x)
in_map f [] x there = absurd (nothing x there)
in_map {A} {B} f (y ∷ xs) x there =
    ⊎_elim
    (λ (e : y ≡ x). subst (λ (z : A). Contains (f y ∷ map f xs) (f z)) e (head_of (f y) (map f xs)))
    (λ (later : Contains xs x). behind (f x) (f y) (map f xs) (in_map f xs x later))
    (cons_cases y xs x there)

pub from_map : {A B : Type 0} (f : A → B) (xs : List A) (z : B) → Contains (map f xs) z → (x : A) × Contains xs x × (f x ≡ z)
from_map f [] z there = absurd (nothing z there)
from_map {A} {B} f (y ∷ xs) z there =
    ⊎_elim
    (λ (e : f y ≡ z). let found : (x : A) × Contains (y ∷ xs) x × (f x ≡ z) = (y, head_of y xs, e) in found)
    (λ (later : Contains (map f xs) z).
    let rest = from_map f xs z later in
    let found : (x : A) × Contains (y ∷ xs) x × (f x ≡ z) = (rest.0, behind rest.0 y xs rest.1, rest.2) in found)
    (cons_cases (f y) (map f xs) z there)

-- the test of a list
pub has_contains : (xs : List Path) (q : Path) → has xs q ≡ true → Contains xs q
has_contains [] q e = let clash : ⊥ = cc in absurd clash
has_contains (x ∷ xs) q e = go (is_same q x) refl e (has_contains xs q) where
  go : (b : Bool) → is_same q x ≡ b → (b || has xs q) ≡ true → (has xs q ≡ true → Contains xs q) → Contains (x ∷ xs) q
  go true s f rest = (0, omega arith, sym (same_is q x s))
  go false s f rest = behind q x xs (rest f)

or_right : (b c : Bool) → c ≡ true → (b || c) ≡ true
or_right true c e = refl
or_right false c e = e

pub contains_has : (xs : List Path) (q : Path) → Contains xs q → has xs q ≡ true
contains_has [] q there = absurd (nothing q there)
contains_has (x ∷ xs) q there =
    ⊎_elim
    (λ (e : x ≡ q). let s : is_same q x ≡ true = subst (λ (y : Path). is_same q y ≡ true) (sym e) (same_itself q) in rw s refl)
    (λ (later : Contains xs q). or_right (is_same q x) (has xs q) (contains_has xs q later))
    (cons_cases x xs q there)

pub has_none : (xs : List Path) (q : Path) → (Contains xs q → ⊥) → has xs q ≡ false
has_none xs q none = go (has xs q) refl where
  go : (b : Bool) → has xs q ≡ b → b ≡ false
  go true e = absurd (none (has_contains xs q e))
  go false e = refl

pub all_pass : {A : Type 0} (t : A → Bool) (xs : List A) → ((x : A) → Contains xs x → t x ≡ true) → list_all t xs ≡ true
all_pass t [] each = refl
all_pass t (x ∷ xs) each = let first = each x (head_of x xs) in rw first (all_pass t xs (λ y there. each y (behind y x xs there)))

and_none : (a b : Bool) → b ≡ false → (a && b) ≡ false
and_none true b e = e
and_none false b e = refl

pub one_fails : {A : Type 0} (t : A → Bool) (xs : List A) (x : A) → Contains xs x → t x ≡ false → list_all t xs ≡ false
one_fails t [] x there e = absurd (nothing x there)
one_fails {A} t (y ∷ xs) x there e =
    ⊎_elim
    (λ (s : y ≡ x). let first : t y ≡ false = ap t s ∙ e in rw first refl)
    (λ (later : Contains xs x). and_none (t y) (list_all t xs) (one_fails t xs x later e))
    (cons_cases y xs x there)

-- how many pass, and one that does
pub count_some : {A : Type 0} (t : A → Bool) (xs : List A) → 0 < count_by t xs → (x : A) × Contains xs x × (t x ≡ true)
count_some t [] some = absurd (omega arith)
count_some {A} t (y ∷ ys) some = go (t y) refl (count_some t ys) where
  go : (b : Bool) → t y ≡ b → (0 < count_by t ys → (x : A) × Contains ys x × (t x ≡ true)) → (x : A) × Contains (y ∷ ys) x × (t x ≡ true)
  go true e rest = (y, head_of y ys, e)
  go false e rest =
      let none : ◌≡◌ {A = ℕ} (cond (t y) 1 0) 0 = rw e refl in
      let more = rest (omega (arith, some, none, sum_by-cons (λ (x : A). cond (t x) 1 0) y ys)) in
      (more.0, behind more.0 y ys more.1, more.2)

pub some_count : {A : Type 0} (t : A → Bool) (xs : List A) (x : A) → Contains xs x → t x ≡ true → 0 < count_by t xs
some_count t [] x there e = absurd (nothing x there)
some_count {A} t (y ∷ ys) x there e =
    ⊎_elim
    (λ (s : y ≡ x). let one : ◌≡◌ {A = ℕ} (cond (t y) 1 0) 1 = rw (ap t s ∙ e) refl in omega (arith, one, sum_by-cons (λ (z : A). cond (t z) 1 0) y ys))
    (λ (later : Contains ys x). let more = some_count t ys x later e in omega (arith, more, sum_by-cons (λ (z : A). cond (t z) 1 0) y ys))
    (cons_cases y ys x there)

-- a list around one of its elements
parts_of : {A : Type 0} (xs : List A) (x : A) → Contains xs x → (l : List A) × (r : List A) × (xs ≡ l ++ x ∷ r)
parts_of [] x there = absurd (nothing x there)
parts_of {A} (y ∷ ys) x there =
    ⊎_elim
    (λ (e : y ≡ x). let parts : (l : List A) × (r : List A) × (y ∷ ys ≡ l ++ x ∷ r) = ([], ys, ap (λ (z : A). z ∷ ys) e) in parts)
    (λ (later : Contains ys x).
    let t = parts_of ys x later in
    let parts : (l : List A) × (r : List A) × (y ∷ ys ≡ l ++ x ∷ r) = (y ∷ t.0, t.1, ap (λ (l : List A). y ∷ l) t.2) in parts)
    (cons_cases y ys x there)

other_than : {A : Type 0} (l r : List A) (x q : A) → (x ≡ q → ⊥) → Contains (l ++ x ∷ r) q → Contains (l ++ r) q
other_than l r x q other there =
    ⊎_elim
    (λ (front : Contains l q). Contains-append_left l r q front)
    (λ (back : Contains (x ∷ r) q).
    ⊎_elim
    (λ (e : x ≡ q). absurd (other e))
    (λ (later : Contains r q). Contains-append_right l r q later)
    (cons_cases x r q back))
    (Contains-append_cases l (x ∷ r) q there)

-- different paths that all stand in a list are no more than the list has
pub apart_within : (ps ys : List Path) → Apart ps → ((p : Path) → Contains ps p → Contains ys p) → length ps ≤ length ys
apart_within [] ys apart within = omega arith
apart_within (p ∷ ps) ys (fresh, apart) within =
    let t = parts_of ys p (within p (head_of p ps)) in
    let rest = apart_within ps (t.0 ++ t.1) apart
    (λ q there. other_than t.0 t.1 p q (λ (e : p ≡ q). fresh (subst (λ (x : Path). Contains ps x) (sym e) there)) (subst (λ (l : List Path). Contains l q) t.2 (within q (behind q p ps there)))) in
    let long : length ys ≡ length (t.0 ++ p ∷ t.1) = ap length t.2 in
    omega (arith, rest, long, length-append t.0 t.1, length-append t.0 (p ∷ t.1))

filter_from : {A : Type 0} (t : A → Bool) (ys : List A) (y : A) → Contains (filter t ys) y → (t y ≡ true) × Contains ys y
filter_from t [] y there = absurd (nothing y there)
filter_from {A} t (z ∷ zs) y there = go (t z) refl there (filter_from t zs y) where
  go : (b : Bool) → t z ≡ b → Contains (cond b (z ∷ filter t zs) (filter t zs)) y → (Contains (filter t zs) y → (t y ≡ true) × Contains zs y) → (t y ≡ true) × Contains (z ∷ zs) y
  go true e in_all rest =
      ⊎_elim
      (λ (s : z ≡ y). let both : (t y ≡ true) × Contains (z ∷ zs) y = (ap t (sym s) ∙ e, subst (λ (x : A). Contains (z ∷ zs) x) s (head_of z zs)) in both)
      (λ (later : Contains (filter t zs) y). let r = rest later in let both : (t y ≡ true) × Contains (z ∷ zs) y = (r.0, behind y z zs r.1) in both)
      (cons_cases z (filter t zs) y in_all)
  go false e in_rest rest = let r = rest in_rest in (r.0, behind y z zs r.1)

filter_apart : (t : Path → Bool) (ys : List Path) → Apart ys → Apart (filter t ys)
filter_apart t [] apart = tt
filter_apart t (y ∷ ys) (fresh, apart) = go (t y) (filter_apart t ys apart) where
  go : (b : Bool) → Apart (filter t ys) → Apart (cond b (y ∷ filter t ys) (filter t ys))
  go true rest = ((λ there. fresh (filter_from t ys y there).1), rest)
  go false rest = rest

pub distinct_apart : (xs : List Path) → Apart (distinct xs)
distinct_apart [] = tt
distinct_apart (x ∷ xs) = (absent, filter_apart (λ (other : Path). not (is_same x other)) (distinct xs) (distinct_apart xs)) where
  absent : Contains (filter (λ (other : Path). not (is_same x other)) (distinct xs)) x → ⊥
  absent there =
      let passes : not (is_same x x) ≡ true = (filter_from (λ (other : Path). not (is_same x other)) (distinct xs) x there).0 in
      let clash : false ≡ true = sym (ap not (same_itself x)) ∙ passes in
      let none : ⊥ = cc in none

pub in_distinct : (xs : List Path) (q : Path) → Contains xs q → Contains (distinct xs) q
in_distinct xs q there = has_contains (distinct xs) q (has_distinct xs q ∙ contains_has xs q there)

pub from_distinct : (xs : List Path) (q : Path) → Contains (distinct xs) q → Contains xs q
from_distinct xs q there = has_contains xs q (sym (has_distinct xs q) ∙ contains_has (distinct xs) q there)

-- the paths with the numbers below k
pub row : (ℕ → Path) → ℕ → List Path
row f zero = []
row f (suc k) = f k ∷ row f k

pub row_length : (f : ℕ → Path) (k : ℕ) → length (row f k) ≡ k
unfolding row
row_length f zero = refl
row_length f (suc k) = ap suc (row_length f k)

pub row_from : (f : ℕ → Path) (k : ℕ) (p : Path) → Contains (row f k) p → (i : ℕ) × (i < k) × (f i ≡ p)
unfolding row
row_from f zero p there = absurd (nothing p there)
row_from f (suc k) p there =
    ⊎_elim
    (λ (e : f k ≡ p). let found : (i : ℕ) × (i < suc k) × (f i ≡ p) = (k, omega arith, e) in found)
    (λ (later : Contains (row f k) p). let r = row_from f k p later in let found : (i : ℕ) × (i < suc k) × (f i ≡ p) = (r.0, omega (arith, r.1), r.2) in found)
    (cons_cases (f k) (row f k) p there)

pub row_has : (f : ℕ → Path) (k i : ℕ) → i < k → Contains (row f k) (f i)
unfolding row
row_has f zero i below = absurd (omega arith)
row_has f (suc k) i below =
    ⊎_elim
    (λ (e : k ≡ i). subst (λ (j : ℕ). Contains (f k ∷ row f k) (f j)) e (head_of (f k) (row f k)))
    (λ (other : k ≡ i → ⊥). behind (f i) (f k) (row f k) (row_has f k i (omega arith)))
    (cases_eq k i)

pub row_apart : (f : ℕ → Path) (n k : ℕ) → k ≤ n → ((i j : ℕ) → i < n → j < n → f i ≡ f j → i ≡ j) → Apart (row f k)
unfolding row
row_apart f n zero few apart = tt
row_apart f n (suc k) few apart = (
  (λ there. let r = row_from f k (f k) there in let same = apart r.0 k (omega (arith, r.1)) (omega arith) r.2 in omega (arith, r.1)),
  row_apart f n k (omega arith) apart,
)
