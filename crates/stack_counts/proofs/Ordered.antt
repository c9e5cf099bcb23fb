-- Counts that are sorted are totals.
use Rattle.std.proofs.Common.{◌≡◌, ◌<◌, ◌≤◌, ◌+◌, ℕ, zero, suc, Bool, true, false, List, [], ◌∷◌, length, get_or, refl, sym, ap, ◌∙◌, arith}
use Rattle.std.specs.Prelude.{count_by}
use Rattle.std.specs.List.{AllAdjacentBelow}
use Rattle.std.specs.List.Sorted.{IsPermutation, IsSortedByKey}
use Rattle.std.specs.Ordering.{is_lt, is_eq, ordering_reverse}
use Rattle.std.specs.declared.cmp.Ordering.{Ordering}
use Rattle.std.specs.declared.cmp.Ordering.TheVariants.{Less, Equal, Greater}
use Rattle.std.proofs.lemmas.List.Sums.{sum_by-cons}
use Rattle.std.proofs.lemmas.List.Sorted.{All-permutation, sum_by-IsPermutation}
use Rattle.ctx_set.specs.declared.steps.StackStep.{StackStep}
use Rattle.reports.specs.declared.stacks.StackCount.{StackCount}
use Rattle.reports.specs.Stacks.{is_same, stack_cmp}
use Rattle.reports.specs.Passes.{Report}
use Rattle.reports.proofs.Orders.{stack_order, same_by_cmp}
use Rattle.reports.proofs.Sames.{same_itself}
use Rattle.stack_counts.specs.Totals.{times, IsCount, AreCounts, AreTotals}
use Rattle.stack_counts.proofs.Bits.{bit}

-- what is counted at one place, and at two
module _ {X : Type 0} (p : X → Bool) where
  one_of : (x : X) → p x ≡ true → bit (p x) ≡ 1
  one_of x e = rw e refl

  pub counts_one : (xs : List X) (i : ℕ) (d : X) → i < length xs → p (get_or xs i d) ≡ true → 1 ≤ count_by p xs
  counts_one [] i d within e = absurd (omega arith)
  counts_one (x ∷ xs) zero d within e =
      let here = one_of x e in
      omega (arith, here, sum_by-cons (λ y. bit (p y)) x xs)
  counts_one (x ∷ xs) (suc i) d within e =
      let later = counts_one xs i d (omega arith) e in
      omega (arith, later, sum_by-cons (λ y. bit (p y)) x xs)

  pub counts_two : (xs : List X) (i j : ℕ) (d : X) → i < j → j < length xs → p (get_or xs i d) ≡ true → p (get_or xs j d) ≡ true → 2 ≤ count_by p xs
  counts_two [] i j d before within e f = absurd (omega arith)
  counts_two (x ∷ xs) i zero d before within e f = absurd (omega arith)
  counts_two (x ∷ xs) zero (suc j) d before within e f =
      let here = one_of x e in
      let later = counts_one xs j d (omega arith) f in
      omega (arith, here, later, sum_by-cons (λ y. bit (p y)) x xs)
  counts_two (x ∷ xs) (suc i) (suc j) d before within e f =
      let later = counts_two xs i j d (omega arith) (omega arith) e f in
      omega (arith, later, sum_by-cons (λ y. bit (p y)) x xs)

-- the same stacks in another order
module _ (reports : List Report) (old new : List StackCount) (same : IsPermutation old new) where
  times_same : (stack : List StackStep) → times stack new ≡ times stack old
  times_same stack = sum_by-IsPermutation (λ (entry : StackCount). bit (is_same entry.stack stack)) old new same

  pub counts_in_order : AreCounts reports old → AreCounts reports new
  counts_in_order are = record {
    once = λ stack. omega (arith, times_same stack, are.once stack);
    counts = All-permutation (IsCount reports) old new same are.counts;
    all = λ stack some. omega (arith, times_same stack, are.all stack some);
  }

-- a stack that isn't behind the next one stands before it, where no stack stands twice
module _ (list : List StackCount) (once : (stack : List StackStep) → times stack list ≤ 1) where
  before_next : (k : ℕ) (d : StackCount) → k + 1 < length list → (o : Ordering) → stack_cmp (get_or list k d).stack (get_or list (k + 1) d).stack ≡ o → is_lt (stack_cmp (get_or list (k + 1) d).stack (get_or list k d).stack) ≡ false → o ≡ Less
  before_next k d within Less e up = refl
  before_next k d within Equal e up =
      let a = (get_or list k d).stack in
      let b = (get_or list (k + 1) d).stack in
      let same : is_same a b ≡ true = same_by_cmp a b ∙ ap is_eq e in
      let two = counts_two (λ (entry : StackCount). is_same entry.stack b) list k (k + 1) d (omega arith) within same (same_itself b) in
      absurd (let least = once b in omega arith)
  before_next k d within Greater e up =
      let a = (get_or list k d).stack in
      let b = (get_or list (k + 1) d).stack in
      let back : stack_cmp b a ≡ Less = stack_order.antisymm b a ∙ ap ordering_reverse e in
      let clash : true ≡ false = sym (ap is_lt back) ∙ up in
      absurd (let no : ⊥ = cc in no)

  pub strictly : IsSortedByKey (λ (entry : StackCount). entry.stack) stack_cmp list → AllAdjacentBelow (λ (a b : StackCount). stack_cmp a.stack b.stack ≡ Less) list (length list)
  strictly up k d within = before_next k d within _ refl (up k d (omega arith) within)

pub sorted_totals : (reports : List Report) (old new : List StackCount) → IsPermutation old new → IsSortedByKey (λ (entry : StackCount). entry.stack) stack_cmp new → AreCounts reports old → AreTotals reports new
sorted_totals reports old new same up are =
    let counts = counts_in_order reports old new same are in
    record { are = counts; sorted = strictly new counts.once up }
