-- Call sites in order of place: where of each two calls the one that stands before the other has the lower number, they are sorted by number.
use Rattle.std.proofs.Common.{◌≡◌, ℕ, ◌<◌, ◌≤◌, ◌+◌, Bool, true, false, refl, sym, ap, subst, List, [], ◌∷◌, ◌++◌, map, flat_map, length, arith, ltb-true, ltb-false, eqb-true, eq-eqb, ne_eqb}
use Rattle.std.proofs.lemmas.Bool.{eqb-false}
use Rattle.std.specs.Prelude.{nat_eq, nat_lt, if◌then◌else◌}
use Rattle.core_unit.specs.Places.{Spot, Callee, Calls, Uses, Declares, spot_place, placed, in_order}
use Rattle.core_unit.specs.Units.{SiteOf, AreNumbered, site_of}
use Rattle.type_laws.proofs.Each.{Each}

-- the calls have the numbers from the first on
abbrev pub AreConsecutive : ℕ → List SiteOf → Type 0
AreConsecutive first [] = Unit {0}
AreConsecutive first (call ∷ calls) = (call.number ≡ first) × AreConsecutive (first + 1) calls

pub numbered_of : (first : ℕ) (calls : List SiteOf) → AreConsecutive first calls → AreNumbered first calls (map (λ call. call.info) calls)
numbered_of first [] h = tt
numbered_of first (call ∷ calls) h = (h.0, refl, numbered_of (first + 1) calls h.1)

pub consecutive_joined : (first : ℕ) (xs ys : List SiteOf) → AreConsecutive first xs → AreConsecutive (first + length xs) ys → AreConsecutive first (xs ++ ys)
consecutive_joined first [] ys p q = subst (λ n. AreConsecutive n ys) (omega arith) q
consecutive_joined first (x ∷ xs) ys p q =
    (p.0, consecutive_joined (first + 1) xs ys p.1 (subst (λ n. AreConsecutive n ys) (omega arith) q))

-- of two spots the first one has the lower number, where both are calls
abbrev pub IsBefore : Spot → Spot → Type 0
IsBefore (Calls at m c) (Calls at' n d) = m < n
IsBefore _ _ = Unit {0}

-- what is evaluated first has the lower number exactly where it doesn't stand behind
pub record Agree (a b : Spot) : Type 0 where
  pub before : spot_place a ≤ spot_place b → IsBefore a b
  pub behind : spot_place b < spot_place a → IsBefore b a

abbrev pub AllAgree : List Spot → Type 0
AllAgree [] = Unit {0}
AllAgree (s ∷ ss) = Each (Agree s) ss × AllAgree ss

abbrev pub AreSorted : List Spot → Type 0
AreSorted [] = Unit {0}
AreSorted (s ∷ ss) = Each (IsBefore s) ss × AreSorted ss

each_placed : (P : Spot → Type 0) (s : Spot) (ss : List Spot) → P s → Each P ss → Each P (placed s ss)
each_placed P s [] p each = (p, tt)
each_placed P s (x ∷ xs) p each = of (nat_lt (spot_place x) (spot_place s)) (placed s xs) (each_placed P s xs p each.1)
  where
    of : (test : Bool) (rest : List Spot) → Each P rest → Each P (if test then x ∷ rest else s ∷ x ∷ xs)
    of true rest h = (each.0, h)
    of false rest h = (p, each)

pub each_in_order : (P : Spot → Type 0) (ss : List Spot) → Each P ss → Each P (in_order ss)
each_in_order P [] each = tt
each_in_order P (s ∷ ss) each = each_placed P s (in_order ss) each.0 (each_in_order P ss each.1)

-- spots in order of place
abbrev ArePlaced : List Spot → Type 0
ArePlaced [] = Unit {0}
ArePlaced (s ∷ ss) = Each (λ x. spot_place s ≤ spot_place x) ss × ArePlaced ss

each_beyond : (s x : Spot) (xs : List Spot) → spot_place s ≤ spot_place x → Each (λ y. spot_place x ≤ spot_place y) xs → Each (λ y. spot_place s ≤ spot_place y) xs
each_beyond s x [] below each = tt
each_beyond s x (y ∷ ys) below each = let first = each.0 in (omega (arith, below, first), each_beyond s x ys below each.1)

stays_placed : (s : Spot) (ss : List Spot) → ArePlaced ss → ArePlaced (placed s ss)
stays_placed s [] h = (tt, tt)
stays_placed s (x ∷ xs) h = of (nat_lt (spot_place x) (spot_place s)) refl (placed s xs) (stays_placed s xs h.1) (λ below. each_placed (λ y. spot_place x ≤ spot_place y) s xs below h.0)
  where
    of : (test : Bool) → nat_lt (spot_place x) (spot_place s) ≡ test → (rest : List Spot) → ArePlaced rest
        → (spot_place x ≤ spot_place s → Each (λ y. spot_place x ≤ spot_place y) rest) → ArePlaced (if test then x ∷ rest else s ∷ x ∷ xs)
    of true e rest again beyond = let below = ltb-true (spot_place x) (spot_place s) e in (beyond (omega (arith, below)), again)
    of false e rest again beyond =
        let below : spot_place s ≤ spot_place x = ltb-false (spot_place x) (spot_place s) e in ((below, each_beyond s x xs below h.0), h)

pub in_order_placed : (ss : List Spot) → ArePlaced (in_order ss)
in_order_placed [] = tt
in_order_placed (s ∷ ss) = stays_placed s (in_order ss) (in_order_placed ss)

-- those that stand no lower come behind
all_before : (s : Spot) (xs : List Spot) → Each (λ y. spot_place s ≤ spot_place y) xs → Each (Agree s) xs → Each (IsBefore s) xs
all_before s [] beyond agree = tt
all_before s (x ∷ xs) beyond agree = (agree.0.before beyond.0, all_before s xs beyond.1 agree.1)

stays_sorted : (s : Spot) (ss : List Spot) → ArePlaced ss → Each (Agree s) ss → AreSorted ss → AreSorted (placed s ss)
stays_sorted s [] placed_so agree h = (tt, tt)
stays_sorted s (x ∷ xs) placed_so agree h =
    of (nat_lt (spot_place x) (spot_place s)) refl (placed s xs) (stays_sorted s xs placed_so.1 agree.1 h.1) (λ behind. each_placed (IsBefore x) s xs behind h.0)
  where
    of : (test : Bool) → nat_lt (spot_place x) (spot_place s) ≡ test → (rest : List Spot) → AreSorted rest → (IsBefore x s → Each (IsBefore x) rest)
        → AreSorted (if test then x ∷ rest else s ∷ x ∷ xs)
    of true e rest again beyond = (beyond (agree.0.behind (ltb-true (spot_place x) (spot_place s) e)), again)
    of false e rest again beyond =
        let below : spot_place s ≤ spot_place x = ltb-false (spot_place x) (spot_place s) e in
        ((agree.0.before below, all_before s xs (each_beyond s x xs below placed_so.0) agree.1), h)

pub in_order_sorted : (ss : List Spot) → AllAgree ss → AreSorted (in_order ss)
in_order_sorted [] agree = tt
in_order_sorted (s ∷ ss) agree = stays_sorted s (in_order ss) (in_order_placed ss) (each_in_order (Agree s) ss agree.0) (in_order_sorted ss agree.1)

-- how often a call has this number
abbrev occurs : ℕ → Spot → ℕ
occurs k (Calls at n c) = if nat_eq k n then 1 else 0
occurs k _ = 0

abbrev pub occurrences : ℕ → List Spot → ℕ
occurrences k [] = 0
occurrences k (s ∷ ss) = occurs k s + occurrences k ss

occurrences_placed : (k : ℕ) (s : Spot) (ss : List Spot) → occurrences k (placed s ss) ≡ occurs k s + occurrences k ss
occurrences_placed k s [] = refl
occurrences_placed k s (x ∷ xs) = of (nat_lt (spot_place x) (spot_place s)) (placed s xs) (occurrences_placed k s xs)
  where
    of : (test : Bool) (rest : List Spot) → occurrences k rest ≡ occurs k s + occurrences k xs
        → occurrences k (if test then x ∷ rest else s ∷ x ∷ xs) ≡ occurs k s + (occurs k x + occurrences k xs)
    of true rest same = omega (arith, same)
    of false rest same = refl

pub occurrences_in_order : (k : ℕ) (ss : List Spot) → occurrences k (in_order ss) ≡ occurrences k ss
occurrences_in_order k [] = refl
occurrences_in_order k (s ∷ ss) = let first = occurrences_placed k s (in_order ss) in let rest = occurrences_in_order k ss in omega (arith, first, rest)

abbrev unit_of : (below inside : Bool) → ℕ
unit_of below inside = if below then 0 else if inside then 1 else 0

-- one where the number is among those from the first on, before the last
unfoldable pub within : ℕ → ℕ → ℕ → ℕ
within k first last = unit_of (nat_lt k first) (nat_lt k last)

pub within_inside : (k first last : ℕ) → first ≤ k → k < last → within k first last ≡ 1
unfolding within
within_inside k first last above below = of (nat_lt k first) refl (nat_lt k last) refl
  where
    of : (a : Bool) → nat_lt k first ≡ a → (b : Bool) → nat_lt k last ≡ b → unit_of a b ≡ 1
    of true e b f = let less = ltb-true k first e in absurd (omega (arith, above, less))
    of false e true f = refl
    of false e false f = let more = ltb-false k last f in absurd (omega (arith, below, more))

pub within_below : (k first last : ℕ) → k < first → within k first last ≡ 0
unfolding within
within_below k first last below = of (nat_lt k first) refl
  where
    of : (a : Bool) → nat_lt k first ≡ a → unit_of a (nat_lt k last) ≡ 0
    of true e = refl
    of false e = let more = ltb-false k first e in absurd (omega (arith, below, more))

pub within_above : (k first last : ℕ) → last ≤ k → within k first last ≡ 0
unfolding within
within_above k first last above = of (nat_lt k first) (nat_lt k last) refl
  where
    of : (a b : Bool) → nat_lt k last ≡ b → unit_of a b ≡ 0
    of true b f = refl
    of false true f = let less = ltb-true k last f in absurd (omega (arith, above, less))
    of false false f = refl

pub within_joined : (k a b c : ℕ) → a ≤ b → b ≤ c → within k a b + within k b c ≡ within k a c
within_joined k a b c p q = of (nat_lt k a) refl (nat_lt k b) refl (nat_lt k c) refl
  where
    of : (x : Bool) → nat_lt k a ≡ x → (y : Bool) → nat_lt k b ≡ y → (z : Bool) → nat_lt k c ≡ z → within k a b + within k b c ≡ within k a c
    of true e y f z g =
        let less = ltb-true k a e in
        let first = within_below k a b less in
        let second = within_below k b c (omega (arith, less, p)) in
        let whole = within_below k a c less in omega (arith, first, second, whole)
    of false e true f z g =
        let more = ltb-false k a e in
        let less = ltb-true k b f in
        let first = within_inside k a b more less in
        let second = within_below k b c less in
        let whole = within_inside k a c more (omega (arith, less, q)) in omega (arith, first, second, whole)
    of false e false f true g =
        let more = ltb-false k b f in
        let less = ltb-true k c g in
        let first = within_above k a b more in
        let second = within_inside k b c more less in
        let whole = within_inside k a c (omega (arith, more, p)) less in omega (arith, first, second, whole)
    of false e false f false g =
        let more = ltb-false k c g in
        let first = within_above k a b (ltb-false k b f) in
        let second = within_above k b c more in
        let whole = within_above k a c more in omega (arith, first, second, whole)

occurs_itself : (k n : ℕ) (at : ℕ) (c : Callee) → k ≡ n → occurs k (Calls at n c) ≡ 1
occurs_itself k n at c same = ap (λ (test : Bool). if test then 1 else 0) (eq-eqb k n same)

occurs_other : (k n : ℕ) (at : ℕ) (c : Callee) → (k ≡ n → ⊥) → occurs k (Calls at n c) ≡ 0
occurs_other k n at c other = ap (λ (test : Bool). if test then 1 else 0) (ne_eqb k n other)

pub within_empty : (k n : ℕ) → within k n n ≡ 0
within_empty k n = of (nat_lt k n) refl
  where
    of : (test : Bool) → nat_lt k n ≡ test → within k n n ≡ 0
    of true e = within_below k n n (ltb-true k n e)
    of false e = within_above k n n (ltb-false k n e)

pub occurs_call : (k at n : ℕ) (c : Callee) → occurrences k (Calls at n c ∷ []) ≡ within k n (n + 1)
occurs_call k at n c = of (nat_eq k n) refl (nat_lt k n) refl
  where
    of : (same : Bool) → nat_eq k n ≡ same → (less : Bool) → nat_lt k n ≡ less → occurrences k (Calls at n c ∷ []) ≡ within k n (n + 1)
    of true e less f =
        let same = eqb-true k n e in
        let one = occurs_itself k n at c same in
        let inside = within_inside k n (n + 1) (omega (arith, same)) (omega (arith, same)) in omega (arith, one, inside)
    of false e true f =
        let other = occurs_other k n at c (eqb-false k n e) in
        let below = within_below k n (n + 1) (ltb-true k n f) in omega (arith, other, below)
    of false e false f =
        let differs = eqb-false k n e in
        let other = occurs_other k n at c differs in
        let above = within_above k n (n + 1) (beyond (nat_lt n k) refl (ltb-false k n f) differs) in omega (arith, other, above)
      where
        beyond : (test : Bool) → nat_lt n k ≡ test → n ≤ k → (k ≡ n → ⊥) → n + 1 ≤ k
        beyond true e above differs = let more = ltb-true n k e in omega (arith, more)
        beyond false e above differs = let least = ltb-false n k e in absurd (differs (omega (arith, least, above)))

-- behind a call of a number no lower one occurs
none_below : (k at n : ℕ) (c : Callee) (ss : List Spot) → k ≤ n → Each (IsBefore (Calls at n c)) ss → occurrences k ss ≡ 0
none_below k at n c [] below each = refl
none_below k at n c (Calls at' m d ∷ ss) below each =
    let first = occurs_other k m at' d (λ same. let less = each.0 in omega (arith, below, same, less)) in
    let rest = none_below k at n c ss below each.1 in omega (arith, first, rest)
none_below k at n c (Uses at' ∷ ss) below each = let rest = none_below k at n c ss below each.1 in omega (arith, rest)
none_below k at n c (Declares at' ∷ ss) below each = let rest = none_below k at n c ss below each.1 in omega (arith, rest)

-- Calls that are sorted, each number once from the first one on, are numbered one after the other.
pub record AreNumberedFrom (function first last : ℕ) (ss : List Spot) : Type 0 where
  pub consecutive : AreConsecutive first (flat_map (site_of function) ss)
  pub many : first + length (flat_map (site_of function) ss) ≡ last

pub sorted_numbered : (function first last : ℕ) (ss : List Spot) → first ≤ last → AreSorted ss → ((k : ℕ) → occurrences k ss ≡ within k first last)
    → AreNumberedFrom function first last ss
sorted_numbered function first last [] far sorted counts = record { consecutive = tt; many = of (nat_lt first last) refl }
  where
    of : (test : Bool) → nat_lt first last ≡ test → first + 0 ≡ last
    of true e = let one = within_inside first first last (omega arith) (ltb-true first last e) in let none = counts first in absurd (omega (arith, one, none))
    of false e = let more = ltb-false first last e in omega (arith, far, more)
sorted_numbered function first last (Uses at ∷ ss) far sorted counts =
    let rest = sorted_numbered function first last ss far sorted.1 (λ k. let all = counts k in omega (arith, all)) in record { consecutive = rest.consecutive; many = rest.many }
sorted_numbered function first last (Declares at ∷ ss) far sorted counts =
    let rest = sorted_numbered function first last ss far sorted.1 (λ k. let all = counts k in omega (arith, all)) in record { consecutive = rest.consecutive; many = rest.many }
sorted_numbered function first last (Calls at n c ∷ ss) far sorted counts =
    let more : first < last = inside (nat_lt n first) refl (nat_lt n last) refl in
    let is : n ≡ first = own more (nat_eq first n) refl in
    let rest = sorted_numbered function (first + 1) last ss (omega (arith, more)) sorted.1 (λ k. others more is k (nat_eq k first) refl) in
    record { consecutive = (is, rest.consecutive); many = let long = rest.many in omega (arith, long) }
  where
    some : occurrences n (Calls at n c ∷ ss) ≡ 1 + occurrences n ss
    some = let once = occurs_itself n n at c refl in omega (arith, once)

    inside : (a : Bool) → nat_lt n first ≡ a → (b : Bool) → nat_lt n last ≡ b → first < last
    inside true e b f = let none = within_below n first last (ltb-true n first e) in let all = counts n in absurd (omega (arith, none, all, some))
    inside false e true f = let above = ltb-false n first e in let below = ltb-true n last f in omega (arith, above, below)
    inside false e false f = let none = within_above n first last (ltb-false n last f) in let all = counts n in absurd (omega (arith, none, all, some))

    above : (a : Bool) → nat_lt n first ≡ a → first ≤ n
    above true e = let none = within_below n first last (ltb-true n first e) in let all = counts n in absurd (omega (arith, none, all, some))
    above false e = ltb-false n first e

    own : first < last → (test : Bool) → nat_eq first n ≡ test → n ≡ first
    own more true e = sym (eqb-true first n e)
    own more false e =
        let one = within_inside first first last (omega arith) more in
        let all = counts first in
        let first_other = occurs_other first n at c (eqb-false first n e) in
        let none = none_below first at n c ss (above (nat_lt n first) refl) sorted.0 in absurd (omega (arith, one, all, first_other, none))

    others : first < last → n ≡ first → (k : ℕ) → (test : Bool) → nat_eq k first ≡ test → occurrences k ss ≡ within k (first + 1) last
    others more is k true e =
        let at_first = eqb-true k first e in
        let none = none_below k at n c ss (omega (arith, at_first, is)) sorted.0 in
        let outside = within_below k (first + 1) last (omega (arith, at_first)) in omega (arith, none, outside)
    others more is k false e =
        let differs = eqb-false k first e in
        let other = occurs_other k n at c (λ same. differs (omega (arith, same, is))) in
        let all = counts k in
        let joined = within_joined k first (first + 1) last (omega arith) (omega (arith, more)) in
        let out = alone k (nat_lt k first) refl differs in omega (arith, other, all, joined, out)
      where
        alone : (k : ℕ) (test : Bool) → nat_lt k first ≡ test → (k ≡ first → ⊥) → within k first (first + 1) ≡ 0
        alone k true e differs = within_below k first (first + 1) (ltb-true k first e)
        alone k false e differs = within_above k first (first + 1) (beyond k (ltb-false k first e) differs)
          where
            beyond : (k : ℕ) → first ≤ k → (k ≡ first → ⊥) → first + 1 ≤ k
            beyond k more differs = by (nat_lt first k) refl
              where
                by : (test : Bool) → nat_lt first k ≡ test → first + 1 ≤ k
                by true e = let less = ltb-true first k e in omega (arith, less)
                by false e = let least = ltb-false first k e in absurd (differs (omega (arith, least, more)))
