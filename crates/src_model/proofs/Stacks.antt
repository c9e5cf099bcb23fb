-- The stacks of a run tell its totals: their counts sum up to the total, and there are as many as different ones are counted.
use Rattle.std.proofs.Common.{◌≡◌, refl, sym, ap, ◌∙◌, ℕ, ◌+◌, ◌<◌, ◌≤◌, Bool, true, false, ◌||◌, List, [], ◌∷◌, length, All, arith, if◌then◌else◌}
use Rattle.std.specs.Prelude.{count_by, sum_by, cond}
use Rattle.std.proofs.lemmas.List.Elements.{All-head, All-tail}
use Rattle.std.proofs.lemmas.List.Sums.{sum_by-cons}
use Rattle.ctx_set.specs.Prefixes.{is_same, distinct, has}
use Rattle.ctx_set.specs.declared.steps.StackStep.{StackStep}
use Rattle.src_model.specs.Runs.{Setting, Thread, all_counted_stacks}
use Rattle.src_model.specs.Totals.{Counted, stacks_in, HasItsCount, AreStacks, TellsTotals}
use Rattle.src_model.proofs.Prefixes.{Stacks, NoneTwice, same_is, same_itself, has_first, has_right, has_distinct, none_twice, none_counted, no_more_than}

abbrev count_in : List StackStep → Stacks → ℕ
count_in s xs = count_by (is_same s) xs

-- the test is symmetric
same_back : (a b : List StackStep) (r s : Bool) → is_same a b ≡ r → is_same b a ≡ s → r ≡ s
same_back a b true true e f = refl
same_back a b false false e f = refl
same_back a b true false e f = sym (same_itself b) ∙ ap (λ (x : List StackStep). is_same b x) (sym (same_is a b e)) ∙ f
same_back a b false true e f = sym (sym (same_itself a) ∙ ap (λ (x : List StackStep). is_same a x) (sym (same_is b a f)) ∙ e)

same_sym : (a b : List StackStep) → is_same a b ≡ is_same b a
same_sym a b = same_back a b (is_same a b) (is_same b a) refl refl

count_cons : (s x : List StackStep) (xs : Stacks) (b : Bool) → is_same s x ≡ b → count_in s (x ∷ xs) ≡ (if b then 1 else 0) + count_in s xs
count_cons s x xs true e = sum_by-cons (λ (y : List StackStep). cond (is_same s y) 1 0) x xs ∙ rw e refl
count_cons s x xs false e = sum_by-cons (λ (y : List StackStep). cond (is_same s y) 1 0) x xs ∙ rw e refl

-- A stack that stands in a list is counted there, and one that is counted stands there.

some_head : (s x : List StackStep) (xs : Stacks) (b : Bool) → is_same s x ≡ b → (b || has xs s) ≡ true → (has xs s ≡ true → 0 < count_in s xs) → 0 < count_in s (x ∷ xs)
some_head s x xs true e h on = let whole = count_cons s x xs true e in omega (arith, whole)
some_head s x xs false e h on = let whole = count_cons s x xs false e in let rest = on h in omega (arith, whole, rest)

some_counted : (s : List StackStep) (xs : Stacks) → has xs s ≡ true → 0 < count_in s xs
some_counted s [] h = let clash : ⊥ = cc in absurd clash
some_counted s (x ∷ xs) h = some_head s x xs (is_same s x) refl h (some_counted s xs)

pub counted_stands : (s : List StackStep) (xs : Stacks) (b : Bool) → has xs s ≡ b → 0 < count_in s xs → has xs s ≡ true
counted_stands s xs true e h = e
counted_stands s xs false e h = let none = none_counted s xs e in absurd (omega (arith, none, h))

absent_if : (s : List StackStep) (xs : Stacks) (b : Bool) → has xs s ≡ b → count_in s xs ≡ 0 → has xs s ≡ false
absent_if s xs true e none = let some = some_counted s xs e in absurd (omega (arith, some, none))
absent_if s xs false e none = e

tail_fewer : (s x : List StackStep) (xs : Stacks) (b : Bool) → is_same s x ≡ b → count_in s xs ≤ count_in s (x ∷ xs)
tail_fewer s x xs true e = let whole = count_cons s x xs true e in omega (arith, whole)
tail_fewer s x xs false e = let whole = count_cons s x xs false e in omega (arith, whole)

once_none_twice : (xs : Stacks) → ((s : List StackStep) → count_in s xs ≤ 1) → NoneTwice xs
once_none_twice [] once = tt
once_none_twice (x ∷ xs) once =
    let whole = count_cons x x xs true (same_itself x) in
    let most = once x in (
      absent_if x xs (has xs x) refl (omega (arith, whole, most)),
      once_none_twice xs (λ s. let one = once s in let fewer = tail_fewer s x xs (is_same s x) refl in omega (arith, one, fewer)),
    )

-- How often all stacks of one list stand in another.

abbrev sums : Stacks → Stacks → ℕ
sums [] xs = 0
sums (s ∷ ss) xs = count_in s xs + sums ss xs

sums_none : (ss : Stacks) → sums ss [] ≡ 0
sums_none [] = refl
sums_none (s ∷ ss) = let rest = sums_none ss in omega (arith, rest)

more_by : (s x : List StackStep) (ss xs : Stacks) (b : Bool) → is_same s x ≡ b → sums ss (x ∷ xs) ≡ count_in x ss + sums ss xs → sums (s ∷ ss) (x ∷ xs) ≡ count_in x (s ∷ ss) + sums (s ∷ ss) xs
more_by s x ss xs b e rest =
    let here = count_cons s x xs b e in
    let there = count_cons x s ss b (same_sym x s ∙ e) in
    omega (arith, here, there, rest)

sums_more : (ss : Stacks) (x : List StackStep) (xs : Stacks) → sums ss (x ∷ xs) ≡ count_in x ss + sums ss xs
sums_more [] x xs = omega arith
sums_more (s ∷ ss) x xs = more_by s x ss xs (is_same s x) refl (sums_more ss x xs)

sums_are : (ss xs : Stacks) → ((s : List StackStep) → has xs s ≡ true → count_in s ss ≡ 1) → sums ss xs ≡ length xs
sums_are ss [] one = sums_none ss
sums_are ss (x ∷ xs) one =
    let more = sums_more ss x xs in
    let here = one x (has_first x xs) in
    let rest = sums_are ss xs (λ s h. one s (has_right (x ∷ []) xs s h)) in
    omega (arith, more, here, rest)

-- The list of a run.

module _ (w : Setting) (threads : List Thread) where
  abbrev counted : Stacks
  counted = all_counted_stacks w threads

  as_many : (list : List Counted) → length (stacks_in list) ≡ length list
  as_many [] = refl
  as_many (c ∷ cs) = let rest = as_many cs in omega (arith, rest)

  counts_are : (list : List Counted) → All (HasItsCount w threads) list → sum_by (λ (c : Counted). c.count) list ≡ sums (stacks_in list) counted
  counts_are [] all = refl
  counts_are (c ∷ cs) all =
      let whole = sum_by-cons (λ (x : Counted). x.count) c cs in
      let here = (All-head (HasItsCount w threads) c cs all).0 in
      let rest = counts_are cs (All-tail (HasItsCount w threads) c cs all) in
      omega (arith, whole, here, rest)

  within_by : (s : List StackStep) (c : Counted) (cs : List Counted) (b : Bool) → is_same s c.stack ≡ b → HasItsCount w threads c → (b || has (stacks_in cs) s) ≡ true → (has (stacks_in cs) s ≡ true → has counted s ≡ true) → has counted s ≡ true
  within_by s c cs true e h some on =
      let same : s ≡ c.stack = same_is s c.stack e in
      let count = h.0 in let more = h.1 in
      ap (λ (x : List StackStep). has counted x) same ∙ counted_stands c.stack counted (has counted c.stack) refl (omega (arith, count, more))
  within_by s c cs false e h some on = on some

  listed_within : (list : List Counted) → All (HasItsCount w threads) list → (s : List StackStep) → has (stacks_in list) s ≡ true → has counted s ≡ true
  listed_within [] all s h = let clash : ⊥ = cc in absurd clash
  listed_within (c ∷ cs) all s h =
      within_by s c cs (is_same s c.stack) refl (All-head (HasItsCount w threads) c cs all) h (listed_within cs (All-tail (HasItsCount w threads) c cs all) s)

pub tells_totals : (w : Setting) (threads : List Thread) (stacks : List Counted) → AreStacks w threads stacks → TellsTotals w threads stacks
tells_totals w threads stacks are =
    let found : (s : List StackStep) → has (all_counted_stacks w threads) s ≡ true → has (stacks_in stacks) s ≡ true = λ s h. are.all s (some_counted s (all_counted_stacks w threads) h) in
    let one : (s : List StackStep) → has (all_counted_stacks w threads) s ≡ true → count_in s (stacks_in stacks) ≡ 1 =
    λ s h. let some = some_counted s (stacks_in stacks) (found s h) in let most = are.once s in omega (arith, some, most) in
    let fewer = no_more_than (stacks_in stacks) (distinct (all_counted_stacks w threads)) (once_none_twice (stacks_in stacks) are.once)
    (λ s h. has_distinct s (all_counted_stacks w threads) ∙ listed_within w threads stacks are.counts s h) in
    let more = no_more_than (distinct (all_counted_stacks w threads)) (stacks_in stacks) (none_twice (all_counted_stacks w threads))
    (λ s h. found s (sym (has_distinct s (all_counted_stacks w threads)) ∙ h)) in
    let many = as_many w threads stacks in
    record {
      total = counts_are w threads stacks are.counts ∙ sums_are (stacks_in stacks) (all_counted_stacks w threads) one;
      unique = omega (arith, fewer, more, many);
    }
