-- Reports that weigh alike have the same counts, and are fair together.
use Rattle.std.proofs.Common.{◌≡◌, ◌≤◌, ◌<◌, ◌⊎◌, ◌+◌, ◌^◌, ◌&&◌, ℕ, Bool, true, false, cond, List, [], ◌∷◌, ◌++◌, length, flat_map, Contains, refl, sym, ap, ◌∙◌, subst, ⊎_elim, arith}
use Rattle.std.specs.List.{All, sum_by}
use Rattle.std.proofs.lemmas.Bool.{and_parts}
use Rattle.std.proofs.lemmas.List.Concat.{flat_map-append}
use Rattle.std.proofs.lemmas.List.Sums.{sum_by-cons, sum_by-append, sum_by_push}
use Rattle.std.proofs.lemmas.List.Elements.{All-weaker, Contains-append_cases, Contains-append_left, Contains-append_right}
use Rattle.ctx_set.specs.declared.steps.StackStep.{StackStep}
use Rattle.reports.specs.declared.board.Noted.{Noted}
use Rattle.reports.specs.declared.board.Noted.TheVariants.{First, Again, Full}
use Rattle.reports.specs.declared.stacks.StackCount.{StackCount}
use Rattle.reports.specs.Stacks.{is_same}
use Rattle.reports.specs.Counts.{is_counted, is_first, counted, firsts, AreFair}
use Rattle.reports.specs.Passes.{Report, Joined, Held, report_of, reported, joins, list_of, all_reports}
use Rattle.reports.specs.Prefixes.{prefixes, asked, distinct, has, room}
use Rattle.reports.proofs.Sames.{same_is, same_itself}
use Rattle.stack_counts.specs.Totals.{IsCount, AreCounts, AreTotals}
use Rattle.locked_board.specs.Places.{WeighAlike}
use Rattle.set_board.proofs.Lists.{nothing, head_of, behind, cons_cases, contains_has, has_contains, count_some, some_count, apart_within, distinct_apart, in_distinct, from_distinct}

ones : (xs : List Report) → sum_by (λ (r : Report). 1) xs ≡ length xs
ones [] = refl
ones (x ∷ xs) = let rest = ones xs in omega (arith, sum_by-cons (λ (r : Report). 1) x xs)

from_flat : {A B : Type 0} (f : A → List B) (xs : List A) (y : B) → Contains (flat_map f xs) y → (x : A) × Contains xs x × Contains (f x) y
from_flat f [] y there = absurd (nothing y there)
from_flat {A} {B} f (x ∷ xs) y there =
    ⊎_elim
    (λ (first : Contains (f x) y). let found : (z : A) × Contains (x ∷ xs) z × Contains (f z) y = (x, head_of x xs, first) in found)
    (λ (later : Contains (flat_map f xs) y).
    let r = from_flat f xs y later in
    let found : (z : A) × Contains (x ∷ xs) z × Contains (f z) y = (r.0, behind r.0 x xs r.1, r.2) in found)
    (Contains-append_cases (f x) (flat_map f xs) y there)

in_flat : {A B : Type 0} (f : A → List B) (xs : List A) (x : A) (y : B) → Contains xs x → Contains (f x) y → Contains (flat_map f xs) y
in_flat f [] x y there inside = absurd (nothing x there)
in_flat {A} {B} f (z ∷ xs) x y there inside =
    ⊎_elim
    (λ (e : z ≡ x). Contains-append_left (f z) (flat_map f xs) y (subst (λ (a : A). Contains (f a) y) (sym e) inside))
    (λ (later : Contains xs x). Contains-append_right (f z) (flat_map f xs) y (in_flat f xs x y later inside))
    (cons_cases z xs x there)

is_full : Noted → Bool
is_full First = false
is_full Again = false
is_full Full = true

full_is : (answer : Noted) → is_full answer ≡ true → answer ≡ Full
unfolding is_full
full_is First e = let clash : ⊥ = cc in absurd clash
full_is Again e = let clash : ⊥ = cc in absurd clash
full_is Full e = refl

module _ (xs ys : List Report) (alike : WeighAlike xs ys) where
  pub length_alike : length xs ≡ length ys
  length_alike = sym (ones xs) ∙ (alike (λ (r : Report). 1) ∙ ones ys)

  counted_alike : (stack : List StackStep) → counted stack xs ≡ counted stack ys
  counted_alike stack = alike (λ (r : Report). cond (is_same r.stack stack && is_counted r.answer) 1 0)

  firsts_alike : (stack : List StackStep) → firsts stack xs ≡ firsts stack ys
  firsts_alike stack = alike (λ (r : Report). cond (is_same r.stack stack && is_first r.answer) 1 0)

  -- what one list has at a test the other has
  has_one : (t : Report → Bool) (x : Report) → Contains xs x → t x ≡ true → (y : Report) × Contains ys y × (t y ≡ true)
  has_one t x there e =
      let some = some_count t xs x there e in
      let same = alike (λ (r : Report). cond (t r) 1 0) in
      count_some t ys (omega arith)

  has_back : (t : Report → Bool) (y : Report) → Contains ys y → t y ≡ true → (x : Report) × Contains xs x × (t x ≡ true)
  has_back t y there e =
      let some = some_count t ys y there e in
      let same = alike (λ (r : Report). cond (t r) 1 0) in
      count_some t xs (omega arith)

  refused_alike : (stack : List StackStep) → Contains xs (report_of stack Full) → Contains ys (report_of stack Full)
  unfolding is_full
  refused_alike stack there =
      let t : Report → Bool = λ (r : Report). is_same r.stack stack && is_full r.answer in
      let itself : (is_same stack stack && true) ≡ true = rw (same_itself stack) refl in
      let y = has_one (λ (r : Report). is_same r.stack stack && is_full r.answer) (report_of stack Full) there itself in
      let both = and_parts (is_same y.0.stack stack) (is_full y.0.answer) y.2 in
      let is : y.0 ≡ report_of stack Full = ap (λ (s : List StackStep). report_of s y.0.answer) (same_is y.0.stack stack both.0) ∙ ap (report_of stack) (full_is y.0.answer both.1) in
      subst (λ (r : Report). Contains ys r) is y.1

  asked_alike : (p : List StackStep) → Contains (asked ys) p → Contains (asked xs) p
  asked_alike p there =
      let y = from_flat (λ (r : Report). prefixes r.stack) ys p there in
      let x = has_back (λ (r : Report). has (prefixes r.stack) p) y.0 y.1 (contains_has (prefixes y.0.stack) p y.2) in
      in_flat (λ (r : Report). prefixes r.stack) xs x.0 p x.1 (has_contains (prefixes x.0.stack) p x.2)

  pub fair_alike : AreFair ys → AreFair xs
  fair_alike fair = record {
    one_first = λ few stack some.
        let counts = counted_alike stack in
        let long = length_alike in
        firsts_alike stack ∙ fair.one_first (omega arith) stack (omega arith);
    apart = λ stack there. counted_alike stack ∙ fair.apart stack (refused_alike stack there);
    full = λ stack there.
        let many = fair.full stack (refused_alike stack there) in
        let most = apart_within (distinct (asked ys)) (distinct (asked xs)) (distinct_apart (asked ys)) (λ p in_ys. in_distinct (asked xs) p (asked_alike p (from_distinct (asked ys) p in_ys))) in
        omega arith;
  }

  pub totals_alike : (list : List StackCount) → AreTotals ys list → AreTotals xs list
  totals_alike list totals = record {
    are = record {
      once = totals.are.once;
      counts = All-weaker (IsCount ys) (IsCount xs) (λ entry is. (is.0 ∙ sym (counted_alike entry.stack), is.1)) list totals.are.counts;
      all = λ stack some. let same = counted_alike stack in totals.are.all stack (omega arith);
    };
    sorted = totals.sorted;
  }

-- the reports of a pass after a report, and after a join
pub weigh_reported : (w : Report → ℕ) (h : Held) (stack : List StackStep) (answer : Noted) → sum_by w (all_reports (reported h stack answer)) ≡ sum_by w (all_reports h) + w (report_of stack answer)
weigh_reported w h stack answer =
    let others = flat_map (λ (j : Joined). j.reports) h.joined in
    let one = sum_by_push w h.own (report_of stack answer) in
    omega (arith, sum_by-append w (h.own ++ report_of stack answer ∷ []) (flat_map (λ (j : Joined). j.reports) h.joined), sum_by-append w h.own (flat_map (λ (j : Joined). j.reports) h.joined))

pub weigh_joins : (w : Report → ℕ) (h other : Held) → sum_by w (all_reports (joins h other)) ≡ sum_by w (all_reports h) + sum_by w (all_reports other)
weigh_joins w h other =
    let f : Joined → List Report = λ (j : Joined). j.reports in
    let both = ap (λ (l : List Report). sum_by w l) (flat_map-append (λ (j : Joined). j.reports) h.joined (list_of other ∷ other.joined)) in
    omega (
      arith,
      both,
      sum_by-append w h.own (flat_map (λ (j : Joined). j.reports) (h.joined ++ list_of other ∷ other.joined)),
      sum_by-append w (flat_map (λ (j : Joined). j.reports) h.joined) (other.own ++ flat_map (λ (j : Joined). j.reports) other.joined),
      sum_by-append w h.own (flat_map (λ (j : Joined). j.reports) h.joined),
    )
