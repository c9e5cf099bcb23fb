-- Counts in the set, and reports that are counted.
use Rattle.std.proofs.Common.{◌≡◌, ◌≤◌, ◌<◌, ◌&&◌, ℕ, Bool, true, false, cond, List, [], ◌∷◌, length, Contains, refl, sym, ap, ◌∙◌, length-append, arith}
use Rattle.std.proofs.lemmas.Bool.{and_parts}
use Rattle.std.proofs.lemmas.List.Sums.{sum_by-cons}
use Rattle.ctx_set.specs.declared.steps.StackStep.{StackStep}
use Rattle.context_set.specs.declared.node.Counted.TheVariants as counts
use Rattle.context_set.specs.Paths.{Path, same_path, same_step}
use Rattle.context_set.specs.Held.{Count, times, firsts}
use Rattle.context_set.specs.Held as contexts
use Rattle.context_set.proofs.Lists.{times-append, firsts-append}
use Rattle.reports.specs.declared.board.Noted.{Noted}
use Rattle.reports.specs.declared.board.Noted.TheVariants.{First, Again, Full}
use Rattle.reports.specs.Stacks.{is_same}
use Rattle.reports.specs.Counts.{is_counted, is_first, counted}
use Rattle.reports.specs.Counts as boards
use Rattle.reports.specs.Passes.{Report}
use Rattle.reports.proofs.Sames.{same_is}
use Rattle.set_board.specs.Mirrors.{counts_of, all_counts}
use Rattle.set_board.proofs.Lists.{head_of, behind}

-- the two tests of paths are one
pub same_tests : (p q : Path) → same_path p q ≡ is_same p q
same_tests [] [] = refl
same_tests [] (y ∷ q) = refl
same_tests (x ∷ p) [] = refl
same_tests (x ∷ p) (y ∷ q) = ap (λ (b : Bool). same_step x y && b) (same_tests p q)

abbrev weigh : Bool → ℕ
weigh b = cond b 1 0

and_true : (b : Bool) → (b && true) ≡ b
and_true true = refl
and_true false = refl

and_false : (b : Bool) → (b && false) ≡ false
and_false true = refl
and_false false = refl

-- what one count weighs
weigh_one : (q : Path) (x : Count) → times q (x ∷ []) ≡ weigh (same_path x.path q)
weigh_one q x = omega (arith, sum_by-cons (λ (c : Count). cond (same_path c.path q) 1 0) x [])

weigh_first : (q : Path) (x : Count) → firsts q (x ∷ []) ≡ weigh (same_path x.path q && contexts.is_first x.answer)
weigh_first q x = omega (arith, sum_by-cons (λ (c : Count). cond (same_path c.path q && contexts.is_first c.answer) 1 0) x [])

times_one : (q stack : Path) (answer : Noted) → times q (counts_of stack answer) ≡ weigh (is_same stack q && is_counted answer)
times_one q stack First = weigh_one q record { path = stack; answer = counts.First } ∙ ap weigh (same_tests stack q ∙ sym (and_true (is_same stack q)))
times_one q stack Again = weigh_one q record { path = stack; answer = counts.Again } ∙ ap weigh (same_tests stack q ∙ sym (and_true (is_same stack q)))
times_one q stack Full = ap weigh (sym (and_false (is_same stack q)))

firsts_one : (q stack : Path) (answer : Noted) → firsts q (counts_of stack answer) ≡ weigh (is_same stack q && is_first answer)
firsts_one q stack First = weigh_first q record { path = stack; answer = counts.First } ∙ ap (λ (b : Bool). weigh (b && true)) (same_tests stack q)
firsts_one q stack Again = weigh_first q record { path = stack; answer = counts.Again } ∙ ap (λ (b : Bool). weigh (b && false)) (same_tests stack q)
firsts_one q stack Full = ap weigh (sym (and_false (is_same stack q)))

-- the counts of reports are how often they are counted
pub times_all : (q : Path) (reports : List Report) → times q (all_counts reports) ≡ counted q reports
times_all q [] = refl
times_all q (r ∷ rs) =
    let rest = times_all q rs in
    let one = times_one q r.stack r.answer in
    omega (arith, times-append q (counts_of r.stack r.answer) (all_counts rs), sum_by-cons (λ (r : Report). cond (is_same r.stack q && is_counted r.answer) 1 0) r rs)

pub firsts_all : (q : Path) (reports : List Report) → firsts q (all_counts reports) ≡ boards.firsts q reports
firsts_all q [] = refl
firsts_all q (r ∷ rs) =
    let rest = firsts_all q rs in
    let one = firsts_one q r.stack r.answer in
    omega (arith, firsts-append q (counts_of r.stack r.answer) (all_counts rs), sum_by-cons (λ (r : Report). cond (is_same r.stack q && is_first r.answer) 1 0) r rs)

few_one : (stack : List StackStep) (answer : Noted) → length (counts_of stack answer) ≤ 1
few_one stack First = omega arith
few_one stack Again = omega arith
few_one stack Full = omega arith

-- there are no more counts than reports
pub few_counts : (reports : List Report) → length (all_counts reports) ≤ length reports
few_counts [] = omega arith
few_counts (r ∷ rs) =
    let rest = few_counts rs in
    let one = few_one r.stack r.answer in
    omega (arith, length-append (counts_of r.stack r.answer) (all_counts rs))

-- a stack that is counted is that of a report which was
pub counted_some : (q : Path) (reports : List Report) → 0 < counted q reports → (r : Report) × Contains reports r × (r.stack ≡ q) × (is_counted r.answer ≡ true)
counted_some q [] some = absurd (omega arith)
counted_some q (r ∷ rs) some = go (is_same r.stack q && is_counted r.answer) refl (counted_some q rs) where
  go : (b : Bool) → (is_same r.stack q && is_counted r.answer) ≡ b → (0 < counted q rs → (r : Report) × Contains rs r × (r.stack ≡ q) × (is_counted r.answer ≡ true))
      → (x : Report) × Contains (r ∷ rs) x × (x.stack ≡ q) × (is_counted x.answer ≡ true)
  go true e rest = let both = and_parts (is_same r.stack q) (is_counted r.answer) e in (r, head_of r rs, same_is r.stack q both.0, both.1)
  go false e rest =
      let none : ◌≡◌ {A = ℕ} (cond (is_same r.stack q && is_counted r.answer) 1 0) 0 = rw e refl in
      let more = rest (omega (arith, some, none, sum_by-cons (λ (r : Report). cond (is_same r.stack q && is_counted r.answer) 1 0) r rs)) in
      (more.0, behind more.0 r rs more.1, more.2, more.3)
