-- The lists of a pass, and how often they have a path.
use Rattle.std.proofs.Common.{◌≡◌, ◌≢◌, ◌≤◌, ◌+◌, ◌&&◌, ℕ, zero, suc, Bool, true, false, cond, List, [], ◌∷◌, ◌++◌, length, set, sum_by, flat_map, Contains, refl, sym, ap, ◌∙◌, subst, append_assoc, arith}
use Rattle.std.proofs.lemmas.List.Concat.{flat_map-append}
use Rattle.std.proofs.lemmas.List.Sums.{sum_by-append, sum_by-cons, sum_by-set}
use mathlib.Core.Option.{some, some-injective, some-ne-none}
use lib.ListN.{get_elem?}
use Rattle.context_set.specs.Paths.{Path, same_path}
use Rattle.context_set.specs.Held.{Count, Joined, Held, joins, lists_of, all_entered, all_counted, times, firsts, is_first}
use Rattle.context_set.proofs.Seats.{at_within, at_place}
use Rattle.context_set.proofs.Paths.{same_path_false}

-- the lists of two passes together
all-joins : {A : Type 0} (f : Joined → List A) (mine : List A) (joined : List Joined) (other : Joined) (more : List Joined)
    → mine ++ flat_map f (joined ++ other ∷ more) ≡ (mine ++ flat_map f joined) ++ (f other ++ flat_map f more)
all-joins f mine joined other more =
    ap (λ l. mine ++ l) (flat_map-append f joined (other ∷ more)) ∙ sym (append_assoc mine (flat_map f joined) (f other ++ flat_map f more))

pub all_entered-joins : (h other : Held) → all_entered (joins h other) ≡ all_entered h ++ all_entered other
all_entered-joins h other = all-joins (λ (j : Joined). j.entered) h.entered h.joined (lists_of other) other.joined

pub all_counted-joins : (h other : Held) → all_counted (joins h other) ≡ all_counted h ++ all_counted other
all_counted-joins h other = all-joins (λ (j : Joined). j.counted) h.counted h.joined (lists_of other) other.joined

module _ {A : Type 0} (f : A → ℕ) where
  -- one view changes
  pub sum_by-change : (xs : List A) (i : ℕ) (a b : A) → get_elem? xs i ≡ some a → sum_by f (set xs i b) + f a ≡ sum_by f xs + f b
  sum_by-change xs i a b at =
      let there = at_within xs i a at in
      subst (λ (x : A). sum_by f (set xs i b) + f x ≡ sum_by f xs + f b) (at_place xs i a a at) (sum_by-set f xs i b a there)

  -- all others weigh nothing
  pub sum_by_none : (xs : List A) → ((i : ℕ) (a : A) → get_elem? xs i ≡ some a → f a ≡ 0) → sum_by f xs ≡ 0
  sum_by_none [] none = refl
  sum_by_none (x ∷ xs) none = omega (arith, sum_by-cons f x xs, none 0 x refl, sum_by_none xs (λ i a at. none (suc i) a at))

  pub sum_by_alone : (xs : List A) (id : ℕ) (v : A) → get_elem? xs id ≡ some v → ((i : ℕ) (a : A) → get_elem? xs i ≡ some a → i ≢ id → f a ≡ 0) → sum_by f xs ≡ f v
  sum_by_alone [] id v at none = absurd (some-ne-none v (sym at))
  sum_by_alone (x ∷ xs) zero v at none =
      let same : f x ≡ f v = ap f (some-injective x v at) in
      let rest : sum_by f xs ≡ 0 = sum_by_none xs (λ i a there. none (suc i) a there (λ (e : suc i ≡ 0). omega arith)) in
      omega (arith, sum_by-cons f x xs)
  sum_by_alone (x ∷ xs) (suc id) v at none =
      let first : f x ≡ 0 = none 0 x refl (λ (e : 0 ≡ suc id). omega arith) in
      let rest : sum_by f xs ≡ f v = sum_by_alone xs id v at (λ i a there other. none (suc i) a there (λ (e : suc i ≡ suc id). other (omega arith))) in
      omega (arith, sum_by-cons f x xs)

-- how often: in lists that are joined, and in one that is longer
pub times-append : (p : Path) (a b : List Count) → times p (a ++ b) ≡ times p a + times p b
times-append p a b = sum_by-append (λ (c : Count). cond (same_path c.path p) 1 0) a b

pub firsts-append : (p : Path) (a b : List Count) → firsts p (a ++ b) ≡ firsts p a + firsts p b
firsts-append p a b = sum_by-append (λ (c : Count). cond (same_path c.path p && is_first c.answer) 1 0) a b

pub times_none : (p : Path) (cs : List Count) → ((c : Count) → Contains cs c → c.path ≢ p) → times p cs ≡ 0
times_none p [] none = refl
times_none p (c ∷ cs) none =
    let here : c.path ≢ p = none c (0, omega arith, refl) in
    let weight : ◌≡◌ {A = ℕ} (cond (same_path c.path p) 1 0) 0 = rw (same_path_false c.path p here) refl in
    let rest : times p cs ≡ 0 = times_none p cs (λ d there. none d (suc there.0, omega (arith, there.1), there.2)) in
    omega (arith, sum_by-cons (λ (d : Count). cond (same_path d.path p) 1 0) c cs)

pub times-le-length : (p : Path) (cs : List Count) → times p cs ≤ length cs
times-le-length p [] = omega arith
times-le-length p (c ∷ cs) =
    let rest = times-le-length p cs in
    let one = at_most (same_path c.path p) in
    omega (arith, sum_by-cons (λ (d : Count). cond (same_path d.path p) 1 0) c cs)
  where
    at_most : (b : Bool) → cond b 1 0 ≤ 1
    at_most true = omega arith
    at_most false = omega arith
