-- The counts of totals are together as many as the reports that were counted.
use Rattle.std.proofs.Common.{◌≡◌, ◌<◌, ◌≤◌, ◌+◌, ℕ, Bool, true, false, List, [], ◌∷◌, length, get_or, refl, ◌∙◌, arith}
use Rattle.std.specs.Prelude.{count_by, sum_by, All, ◌&&◌, ◌^◌}
use Rattle.std.proofs.lemmas.List.Sums.{sum_by-cons, count_by-le-length}
use Rattle.std.proofs.lemmas.List.Elements.{All-head, All-tail}
use Rattle.ctx_set.specs.declared.steps.StackStep.{StackStep}
use Rattle.reports.specs.declared.stacks.StackCount.{StackCount}
use Rattle.reports.specs.Stacks.{is_same}
use Rattle.reports.specs.Passes.{Report}
use Rattle.reports.specs.Counts.{is_counted, counted}
use Rattle.reports.proofs.Sames.{same_sym, same_itself}
use Rattle.stack_counts.specs.Totals.{times, AreTotals, sum_of, all_counted}
use Rattle.stack_counts.proofs.Bits.{bit}

module _ {X : Type 0} where
  sum_same : (f g : X → ℕ) (xs : List X) → All (λ x. f x ≡ g x) xs → sum_by f xs ≡ sum_by g xs
  sum_same f g [] same = refl
  sum_same f g (x ∷ xs) same =
      let here = All-head (λ x. f x ≡ g x) x xs same in
      let rest = sum_same f g xs (All-tail (λ x. f x ≡ g x) x xs same) in
      omega (arith, here, rest, sum_by-cons f x xs, sum_by-cons g x xs)

  sum_both : (f g : X → ℕ) (xs : List X) → sum_by (λ x. f x + g x) xs ≡ sum_by f xs + sum_by g xs
  sum_both f g [] = refl
  sum_both f g (x ∷ xs) =
      let rest = sum_both f g xs in
      omega (arith, rest, sum_by-cons (λ x. f x + g x) x xs, sum_by-cons f x xs, sum_by-cons g x xs)

  sum_none : (xs : List X) → sum_by (λ (x : X). 0) xs ≡ 0
  sum_none [] = refl
  sum_none (x ∷ xs) = let rest = sum_none xs in omega (arith, rest, sum_by-cons (λ (x : X). 0) x xs)

all_of : {X : Type 0} (P : X → Type 0) (xs : List X) → ((x : X) → P x) → All P xs
all_of P xs h k d within = h (get_or xs k d)

counted_cons : (report : Report) (reports : List Report) (stack : List StackStep) → counted stack (report ∷ reports) ≡ bit (is_same report.stack stack && is_counted report.answer) + counted stack reports
counted_cons report reports stack = sum_by-cons (λ (r : Report). bit (is_same r.stack stack && is_counted r.answer)) report reports

-- in a list where no stack stands twice, and the report's stack stands if it was counted
module _ (list : List StackCount) (once : (stack : List StackStep) → times stack list ≤ 1) where
  stands_once : (report : Report) (is : Bool) → is_counted report.answer ≡ is → (is ≡ true → 0 < times report.stack list) → sum_by (λ (entry : StackCount). bit (is_same report.stack entry.stack && is_counted report.answer)) list ≡ bit is
  stands_once report false e there =
      sum_same (λ (entry : StackCount). bit (is_same report.stack entry.stack && is_counted report.answer)) (λ (entry : StackCount). 0) list
      (all_of (λ (entry : StackCount). bit (is_same report.stack entry.stack && is_counted report.answer) ≡ 0) list (λ (entry : StackCount). rw e (none_of (is_same report.stack entry.stack))))
      ∙ sum_none list
    where
      none_of : (b : Bool) → bit (b && false) ≡ 0
      none_of true = refl
      none_of false = refl
  stands_once report true e there =
      sum_same (λ (entry : StackCount). bit (is_same report.stack entry.stack && is_counted report.answer)) (λ (entry : StackCount). bit (is_same entry.stack report.stack)) list
      (all_of (λ (entry : StackCount). bit (is_same report.stack entry.stack && is_counted report.answer) ≡ bit (is_same entry.stack report.stack)) list (λ (entry : StackCount). rw (e, same_sym report.stack entry.stack) (one_of (is_same entry.stack report.stack))))
      ∙ (let least = there refl in let most = once report.stack in omega arith)
    where
      one_of : (b : Bool) → bit (b && true) ≡ bit b
      one_of true = refl
      one_of false = refl

  sums : (reports : List Report) → ((stack : List StackStep) → 0 < counted stack reports → 0 < times stack list) → sum_by (λ (entry : StackCount). counted entry.stack reports) list ≡ count_by (λ (report : Report). is_counted report.answer) reports
  sums [] all = sum_none list
  sums (report ∷ reports) all =
      let rest = sums reports (λ stack some. all stack (let more = counted_cons report reports stack in omega arith)) in
      let here = stands_once report (is_counted report.answer) refl (λ is. all report.stack (counts_itself is)) in
      sum_same (λ (entry : StackCount). counted entry.stack (report ∷ reports)) (λ (entry : StackCount). bit (is_same report.stack entry.stack && is_counted report.answer) + counted entry.stack reports) list
      (all_of (λ (entry : StackCount). counted entry.stack (report ∷ reports) ≡ bit (is_same report.stack entry.stack && is_counted report.answer) + counted entry.stack reports) list (λ (entry : StackCount). counted_cons report reports entry.stack))
      ∙ sum_both (λ (entry : StackCount). bit (is_same report.stack entry.stack && is_counted report.answer)) (λ (entry : StackCount). counted entry.stack reports) list
      ∙ (let whole = sum_by-cons (λ (r : Report). bit (is_counted r.answer)) report reports in omega (arith, rest, here, whole))
    where
      counts_itself : is_counted report.answer ≡ true → 0 < counted report.stack (report ∷ reports)
      counts_itself is =
          let more = counted_cons report reports report.stack in
          let one : bit (is_same report.stack report.stack && is_counted report.answer) ≡ 1 = rw (same_itself report.stack, is) refl in
          omega (arith, more, one)

-- the total of totals
pub counted_in_all : (reports : List Report) (list : List StackCount) → AreTotals reports list → sum_of list ≡ all_counted reports
counted_in_all reports list totals =
    sum_same (λ (entry : StackCount). entry.count) (λ (entry : StackCount). counted entry.stack reports) list (λ k d within. (totals.are.counts k d within).0)
    ∙ sums list totals.are.once reports totals.are.all

-- and it fits where the reports are few enough
pub few_in_all : (reports : List Report) (list : List StackCount) → AreTotals reports list → length reports < 2 ^ 64 → sum_of list < 2 ^ 64
few_in_all reports list totals few =
    let same = counted_in_all reports list totals in
    let most = count_by-le-length (λ (report : Report). is_counted report.answer) reports in
    omega (arith, same, most, few)
