-- The stacks of the paths that a set gives are the counts of the reports.
use Rattle.std.proofs.Common.{◌≡◌, ◌≤◌, ◌<◌, ◌+◌, ℕ, eqb, ne_eqb, Bool, true, false, cond, Ok, List, [], ◌∷◌, ◌++◌, map, get_or, flat_map, Contains, refl, sym, ap, ◌∙◌, subst, ⊎_elim, arith}
use Rattle.std.specs.List.{All}
use Rattle.std.proofs.lemmas.List.Sums.{sum_by-cons, sum_by-append}
use Rattle.std.proofs.lemmas.List.Elements.{All-nil, All-cons, All-append, All-from_get_or, Contains-get_or}
use Rattle.ctx_set.specs.declared.steps.StackStep.{StackStep}
use Rattle.context_set.specs.declared.count.PathCount.{PathCount}
use Rattle.context_set.specs.Paths.{Path, same_path}
use Rattle.context_set.specs.Held.{Entry, Count, all_entered, all_counted}
use Rattle.context_set.specs.Held as contexts
use Rattle.context_set.specs.Sound.{IsSound, Apart}
use Rattle.context_set.specs.Closed.{IsTally}
use Rattle.context_set.proofs.Paths.{same_path_true}
use Rattle.reports.specs.declared.stacks.StackCount.{StackCount}
use Rattle.reports.specs.Stacks.{is_same}
use Rattle.reports.specs.Counts.{counted}
use Rattle.reports.specs.Passes.{Report}
use Rattle.reports.specs.Prefixes.{room}
use Rattle.reports.proofs.Sames.{same_is, same_itself}
use Rattle.stack_counts.specs.Totals.{entry_of, times, IsCount, AreCounts}
use Rattle.set_board.specs.Mirrors.{AreEntered}
use Rattle.set_board.specs.Tallies.{IsShort, stacks_of}
use Rattle.set_board.proofs.Lists.{head_of, behind, cons_cases, in_map, count_some}
use Rattle.set_board.proofs.Counting.{times_all}

abbrev pub all_stacks : List PathCount → List StackCount
all_stacks list = flat_map stacks_of list

weight : List StackStep → StackCount → ℕ
weight q entry = cond (is_same entry.stack q) 1 0

times-append : (q : List StackStep) (a b : List StackCount) → times q (a ++ b) ≡ times q a + times q b
times-append q a b = sum_by-append (λ (entry : StackCount). cond (is_same entry.stack q) 1 0) a b

times-cons : (q : List StackStep) (x : PathCount) (xs : List PathCount) → times q (all_stacks (x ∷ xs)) ≡ times q (stacks_of x) + times q (all_stacks xs)
times-cons q x xs = times-append q (stacks_of x) (all_stacks xs)

one_stack : (q : List StackStep) (p : List StackStep) (n : ℕ) → times q (entry_of p n ∷ []) ≡ cond (is_same p q) 1 0
one_stack q p n = omega (arith, sum_by-cons (λ (entry : StackCount). cond (is_same entry.stack q) 1 0) (entry_of p n) [])

-- the stacks of a path: those that weigh at a stack are its own
other_none : (q : List StackStep) (x : PathCount) → (x.path ≡ q → ⊥) → times q (stacks_of x) ≡ 0
other_none q x other = go (eqb x.count 0) where
  none : is_same x.path q ≡ false
  none = by_cases (is_same x.path q) refl where
    by_cases : (b : Bool) → is_same x.path q ≡ b → b ≡ false
    by_cases true e = absurd (other (same_is x.path q e))
    by_cases false e = refl

  go : (b : Bool) → times q (cond b [] (entry_of x.path x.count ∷ [])) ≡ 0
  go true = refl
  go false = one_stack q x.path x.count ∙ rw none refl

at_most_one : (q : List StackStep) (x : PathCount) → times q (stacks_of x) ≤ 1
at_most_one q x = go (eqb x.count 0) where
  small : (b : Bool) → cond b 1 0 ≤ 1
  small true = omega arith
  small false = omega arith

  go : (b : Bool) → times q (cond b [] (entry_of x.path x.count ∷ [])) ≤ 1
  go true = omega arith
  go false = let one = one_stack q x.path x.count in let few = small (is_same x.path q) in omega arith

none_there : (q : List StackStep) (xs : List PathCount) → ((x : PathCount) → Contains xs x → x.path ≡ q → ⊥) → times q (all_stacks xs) ≡ 0
none_there q [] none = refl
none_there q (x ∷ xs) none =
    let first = other_none q x (none x (head_of x xs)) in
    let rest = none_there q xs (λ y there. none y (behind y x xs there)) in
    omega (arith, times-cons q x xs)

-- no stack stands twice
once : (q : List StackStep) (xs : List PathCount) → Apart (map (λ (x : PathCount). x.path) xs) → times q (all_stacks xs) ≤ 1
once q [] apart = omega arith
once q (x ∷ xs) (fresh, apart) = go (is_same x.path q) refl (once q xs apart) where
  go : (b : Bool) → is_same x.path q ≡ b → times q (all_stacks xs) ≤ 1 → times q (all_stacks (x ∷ xs)) ≤ 1
  go true e rest =
      let same = same_is x.path q e in
      let later = none_there q xs (λ y there is. fresh (subst (λ (p : Path). Contains (map (λ (z : PathCount). z.path) xs) p) (is ∙ sym same) (in_map (λ (z : PathCount). z.path) xs y there))) in
      let first = at_most_one q x in
      omega (arith, times-cons q x xs)
  go false e rest =
      let other : x.path ≡ q → ⊥ = λ (is : x.path ≡ q). (let yes : is_same x.path q ≡ true = subst (λ (p : Path). is_same x.path p ≡ true) is (same_itself x.path) in let clash : false ≡ true = sym e ∙ yes in let no : ⊥ = cc in no) in
      let first = other_none q x other in
      omega (arith, times-cons q x xs)

-- each has its count
counts_are : (reports : List Report) (xs : List PathCount) → ((x : PathCount) → Contains xs x → x.count ≡ counted x.path reports) → All (IsCount reports) (all_stacks xs)
counts_are reports [] each = All-nil (IsCount reports)
counts_are reports (x ∷ xs) each = All-append (IsCount reports) (stacks_of x) (all_stacks xs) (go (eqb x.count 0) refl) (counts_are reports xs (λ y there. each y (behind y x xs there))) where
  go : (b : Bool) → eqb x.count 0 ≡ b → All (IsCount reports) (cond b [] (entry_of x.path x.count ∷ []))
  go true e = All-nil (IsCount reports)
  go false e =
      let some : 0 < x.count = grind arith in
      All-cons (IsCount reports) (entry_of x.path x.count) [] (each x (head_of x xs), some) (All-nil (IsCount reports))

-- a path that was counted stands there
stands : (q : List StackStep) (xs : List PathCount) (x : PathCount) → Contains xs x → x.path ≡ q → 0 < x.count → 0 < times q (all_stacks xs)
stands q [] x there is some = absurd (omega (arith, there.1))
stands q (y ∷ ys) x there is some =
    ⊎_elim
    (λ (same : y ≡ x).
    let here : is_same y.path q ≡ true = ap (λ (z : PathCount). is_same z.path q) same ∙ subst (λ (p : Path). is_same x.path p ≡ true) is (same_itself x.path) in
    let count : y.count ≡ x.count = ap (λ (z : PathCount). z.count) same in
    let counts : stacks_of y ≡ entry_of y.path y.count ∷ [] = rw (ne_eqb y.count 0 (λ (e : y.count ≡ 0). omega arith)) refl in
    let one : times q (stacks_of y) ≡ 1 = ap (times q) counts ∙ (one_stack q y.path y.count ∙ rw here refl) in
    omega (arith, times-cons q y ys))
    (λ (later : Contains ys x). let rest = stands q ys x later is some in omega (arith, times-cons q y ys))
    (cons_cases y ys x there)

module _ (c : contexts.Held) (reports : List Report) (are : AreEntered (all_entered c) (all_counted c) reports) (sound : IsSound room c) (list : List PathCount) (tally : IsTally c list) where
  count_is : (x : PathCount) → Contains list x → x.count ≡ counted x.path reports
  count_is x there = (tally.each x there).1 ∙ (ap (contexts.times x.path) are.counts ∙ times_all x.path reports)

  all_stand : (stack : List StackStep) → 0 < counted stack reports → 0 < times stack (all_stacks list)
  all_stand stack some =
      let same : contexts.times stack (all_counted c) ≡ counted stack reports = ap (contexts.times stack) are.counts ∙ times_all stack reports in
      let one = count_some (λ (k : Count). same_path k.path stack) (all_counted c) (omega arith) in
      let path = same_path_true one.0.path stack one.2 in
      let node = sound.counted one.0 one.1 in
      let x = tally.all one.0.path node.0 node.1 in
      let is : x.0.path ≡ stack = x.2 ∙ path in
      let count = count_is x.0 x.1 in
      let as_stack : counted x.0.path reports ≡ counted stack reports = ap (λ (s : List StackStep). counted s reports) is in
      stands stack list x.0 x.1 is (omega arith)

  pub tally_counts : AreCounts reports (all_stacks list)
  tally_counts = record {
    once = λ stack. once stack list tally.once;
    counts = counts_are reports list count_is;
    all = all_stand;
  }

  pub tally_short : All IsShort list
  tally_short =
      All-from_get_or IsShort list record { path = []; count = 0 }
      (λ i within.
      let x = get_or list i record { path = []; count = 0 } in
      let has = (tally.each x (Contains-get_or list i record { path = []; count = 0 } within)).0 in
      are.short record { path = x.path; answer = Ok has.0 } has.1)
