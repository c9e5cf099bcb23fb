-- The prefixes that were counted are gathered one by one, and are then the counts of the reports.
use Rattle.std.proofs.Common.{◌≡◌, ◌<◌, ◌≤◌, ◌+◌, ℕ, List, [], ◌∷◌, ◌++◌, take, length, get_or, refl, sym, ap, ◌∙◌, subst, inl, inr, arith}
use Rattle.std.specs.Prelude.{◌^◌, ◌&&◌, Result, Ok, Err, OnOk, IfOk}
use Rattle.std.proofs.lemmas.Bool.{cases_lt}
use Rattle.std.proofs.lemmas.List.{take_all, get_or_default}
use Rattle.std.proofs.lemmas.List.Elements.{All-nil, All-push, All-weaker}
use Rattle.std.proofs.lemmas.List.Folds.{Any-from_list_any}
use Rattle.std.proofs.lemmas.List.Sums.{sum_by_push, sum_by_more, count_by-le-length}
use Rattle.ctx_set.specs.declared.steps.StackStep.{StackStep}
use Rattle.reports.specs.declared.stacks.StackCount.{StackCount}
use Rattle.reports.specs.Stacks.{is_same}
use Rattle.reports.specs.Counts.{is_counted, counted}
use Rattle.reports.specs.Passes.{Report}
use Rattle.reports.specs.Prefixes.{asked, has, room}
use Rattle.reports.proofs.Sames.{same_is, same_itself}
use Rattle.stack_counts.specs.Totals.{times, entry_of, IsCount, AreCounts}
use Rattle.plain_board.specs.Counting.{AreShort}
use Rattle.plain_board.specs.Gathered.{among, IsPrefix, IsGathered}
use Rattle.plain_board.specs.Passes.{Keeps}
use Rattle.plain_board.proofs.Lists.{own_prefix, firsts_once}
use Rattle.stack_counts.proofs.Bits.{bit}

pub gathered_none : (held : List (List StackStep)) (counts : List ℕ) → IsGathered held counts 0 []
gathered_none held counts = record {
  once = λ stack. omega arith;
  each = All-nil (IsPrefix held counts 0);
  all = λ i low some. absurd (let no : ⊥ = omega arith in no);
}

module _ (held : List (List StackStep)) (counts : List ℕ) (n : ℕ) (list : List StackCount) (gathered : IsGathered held counts n list) (within : n < length held) where
  raised : (entry : StackCount) → IsPrefix held counts n entry → IsPrefix held counts (n + 1) entry
  raised entry p = record { number = p.number; within = (let low = p.within in omega (arith, low)); stack = p.stack; count = p.count; some = p.some }

  among_more : (stack : List StackStep) → among stack (take (n + 1) held) ≡ among stack (take n held) + bit (is_same (get_or held n []) stack)
  among_more stack = sum_by_more (λ (prefix : List StackStep). bit (is_same prefix stack)) held n [] within

  pub gathered_skip : get_or counts n 0 ≡ 0 → IsGathered held counts (n + 1) list
  gathered_skip none = record {
    once = λ stack. let most = gathered.once stack in let more = among_more stack in omega (arith, most, more);
    each = All-weaker (IsPrefix held counts n) (IsPrefix held counts (n + 1)) raised list gathered.each;
    all = λ i low some. elim (cases_lt i n) [ inl before ↦ gathered.all i before some | inr here ↦ absurd (let at : i ≡ n = omega arith in let same = ap (λ k. get_or counts k 0) at in let no : ⊥ = omega (arith, same, none, some) in no) ];
  }

  pub gathered_more : (steps : List StackStep) (count : ℕ) → get_or held n [] ≡ steps → get_or counts n 0 ≡ count → 0 < count → IsGathered held counts (n + 1) (list ++ entry_of steps count ∷ [])
  gathered_more steps count is number some = record {
    once = λ stack.
        let most = gathered.once stack in
        let more : among stack (take (n + 1) held) ≡ among stack (take n held) + bit (is_same steps stack) = among_more stack ∙ ap (λ (s : List StackStep). among stack (take n held) + bit (is_same s stack)) is in
        let push = times_push stack in
        omega (arith, most, more, push);
    each = All-push (IsPrefix held counts (n + 1)) list (entry_of steps count) (All-weaker (IsPrefix held counts n) (IsPrefix held counts (n + 1)) raised list gathered.each)
        (record { number = n; within = omega arith; stack = is; count = number; some = some });
    all = λ i low some_there. elim (cases_lt i n) [ inl before ↦ (let old = gathered.all i before some_there in let push = times_push (get_or held i []) in omega (arith, old, push)) | inr here ↦ last i (omega arith) ];
  }
    where
      times_push : (stack : List StackStep) → times stack (list ++ entry_of steps count ∷ []) ≡ times stack list + bit (is_same steps stack)
      times_push stack = sum_by_push (λ (entry : StackCount). bit (is_same entry.stack stack)) list (entry_of steps count)

      last : (i : ℕ) → i ≡ n → 0 < times (get_or held i []) (list ++ entry_of steps count ∷ [])
      last i at =
          let here : get_or held i [] ≡ steps = ap (λ k. get_or held k []) at ∙ is in
          let one : bit (is_same steps (get_or held i [])) ≡ 1 = ap (λ (s : List StackStep). bit (is_same steps s)) here ∙ rw (same_itself steps) refl in
          let push = times_push (get_or held i []) in
          omega (arith, push, one)

-- while the reports are few enough for the counts
module _ (reports : List Report) (held : List (List StackStep)) (counts : List ℕ) (keeps : Keeps reports held counts) (few : length reports < 2 ^ 64) where
  exact : (i : ℕ) → i < length held → get_or counts i 0 ≡ counted (get_or held i []) reports
  exact i within =
      let is = keeps.counts_are i within in
      let most = count_by-le-length (λ (r : Report). is_same r.stack (get_or held i []) && is_counted r.answer) reports in
      omega (arith, is, most, few)

  is_count : (entry : StackCount) → IsPrefix held counts (length held) entry → IsCount reports entry
  is_count entry p = (sym p.count ∙ exact p.number p.within ∙ ap (λ (s : List StackStep). counted s reports) p.stack, p.some)

  once_held : (stack : List StackStep) → among stack (take (length held) held) ≤ 1
  once_held stack =
      subst (λ (h : List (List StackStep)). among stack h ≤ 1) (sym keeps.firsts_asked ∙ sym (take_all (length held) held (omega arith))) (firsts_once stack room (asked reports))

  pub short_held : AreShort held counts
  short_held i within some = (keeps.short (get_or held i []) (let is = exact i within in omega (arith, is, some))).1

  pub gathered_counts : (list : List StackCount) → IsGathered held counts (length held) list → AreCounts reports list
  gathered_counts list gathered = record {
    once = λ stack. let most = gathered.once stack in let one = once_held stack in omega (arith, most, one);
    counts = All-weaker (IsPrefix held counts (length held)) (IsCount reports) is_count list gathered.each;
    all = there;
  }
    where
      there : (stack : List StackStep) → 0 < counted stack reports → 0 < times stack list
      there stack some =
          let any = Any-from_list_any (is_same stack) held (own_prefix (has held) stack (keeps.short stack some).0 (keeps.roomy stack some)) in
          let here : get_or held any.0 [] ≡ stack = get_or_default held any.0 [] any.1 any.2 ∙ any.3 ∙ sym (same_is stack any.1 any.4) in
          let count : get_or counts any.0 0 ≡ counted stack reports = exact any.0 any.2 ∙ ap (λ (s : List StackStep). counted s reports) here in
          subst (λ (s : List StackStep). 0 < times s list) here (gathered.all any.0 any.2 (omega (arith, count, some)))

-- a fact under an Ok gives another
pub on_ok : {A B : Type 0} (r : Result A B) (E P : Type 0) → OnOk r E → (E → P) → IfOk r (λ (x : A). P)
on_ok (Ok x) E P e f = f e
on_ok (Err x) E P e f = tt
