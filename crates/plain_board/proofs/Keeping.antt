-- What the first pass keeps is kept by a report.
use Rattle.std.proofs.Common.{◌≡◌, ◌≢◌, ◌⊎◌, ◌<◌, ◌≤◌, ◌+◌, ◌-◌, ℕ, Bool, true, false, List, [], ◌∷◌, ◌++◌, take, length, get_or, refl, sym, ap, ◌∙◌, subst, inl, inr, ⊎_elim, arith, min, ne_eqb, length-set, get_or-set_same, get_or-set_other}
use Rattle.std.specs.Prelude.{◌^◌, ◌&&◌, Contains}
use Rattle.std.specs.List.{list_all}
use Rattle.std.proofs.lemmas.Bool.{cases_lt, cases_eq}
use Rattle.std.proofs.lemmas.List.{length-take-le}
use Rattle.std.proofs.lemmas.List.Elements.{Contains-push_cases}
use Rattle.std.proofs.lemmas.List.Sums.{sum_by_push, sum_by-le-sum_by}
use Rattle.ctx_set.specs.declared.steps.StackStep.{StackStep}
use Rattle.reports.specs.declared.board.Noted.{Noted}
use Rattle.reports.specs.declared.board.Noted.TheVariants.{First, Again, Full}
use Rattle.reports.specs.Stacks.{is_same}
use Rattle.reports.specs.Counts.{is_first, is_counted, counted, firsts}
use Rattle.reports.specs.Passes.{Report, report_of}
use Rattle.reports.specs.Prefixes.{prefixes, distinct, asked, has, room}
use Rattle.reports.proofs.Sames.{same_is, same_itself}
use Rattle.prefix_table.proofs.Firsts.{fold_full}
use Rattle.plain_board.specs.Counting.{held_after, one_more, answer_at, CountsAt, IsNoted}
use Rattle.plain_board.specs.Passes.{Keeps}
use Rattle.plain_board.proofs.Lists.{all_pass, one_place}
use Rattle.plain_board.proofs.Held.{asked_push, next_firsts, next_folded, has_next, next_once, next_few, next_longer, so_far}
use Rattle.plain_board.proofs.Fair.{full_then}
use Rattle.stack_counts.proofs.Bits.{bit}

-- one report more
module _ (reports : List Report) (stack : List StackStep) (answer : Noted) (s : List StackStep) where
  pub counted_push : counted s (reports ++ report_of stack answer ∷ []) ≡ counted s reports + bit (is_same stack s && is_counted answer)
  counted_push = sum_by_push (λ (r : Report). bit (is_same r.stack s && is_counted r.answer)) reports (report_of stack answer)

  pub firsts_push : firsts s (reports ++ report_of stack answer ∷ []) ≡ firsts s reports + bit (is_same stack s && is_first answer)
  firsts_push = sum_by_push (λ (r : Report). bit (is_same r.stack s && is_first r.answer)) reports (report_of stack answer)

  pub counted_same : (b c : Bool) → is_same stack s ≡ b → is_counted answer ≡ c → (b && c) ≡ false → counted s (reports ++ report_of stack answer ∷ []) ≡ counted s reports
  counted_same b c e f none =
      let zero_more : bit (is_same stack s && is_counted answer) ≡ 0 = rw (e, f, none) refl in
      let push = counted_push in
      omega (arith, push, zero_more)

first_is_counted : (a : Noted) (b : Bool) → bit (b && is_first a) ≤ bit (b && is_counted a)
first_is_counted First true = omega arith
first_is_counted Again true = omega arith
first_is_counted Full true = omega arith
first_is_counted a false = omega arith

firsts_fewer : (s : List StackStep) (reports : List Report) → firsts s reports ≤ counted s reports
firsts_fewer s reports = sum_by-le-sum_by (λ (r : Report). bit (is_same r.stack s && is_first r.answer)) (λ (r : Report). bit (is_same r.stack s && is_counted r.answer)) reports (λ r. first_is_counted r.answer (is_same r.stack s))

-- a count that stays at its last value
capped : (c most : ℕ) → min (min c most + 1) most ≡ min (c + 1) most
capped c most = omega arith

none_counted : (c most : ℕ) → 0 < most → min c most ≡ 0 → c ≡ 0
none_counted c most some e = omega arith

some_counted : (c most : ℕ) → min c most ≢ 0 → 0 < c
some_counted c most other = elim (cases_lt 0 c) [ inl some ↦ some | inr none ↦ absurd (other (omega (arith, none))) ]

again_at : (count : ℕ) → count ≢ 0 → answer_at count ≡ Again
again_at count other = rw (ne_eqb count 0 other) refl

module _ (reports : List Report) (held : List (List StackStep)) (counts : List ℕ) (keeps : Keeps reports held counts) (stack : List StackStep) (size : (0 < length stack) × (length stack ≤ 257)) (next : List (List StackStep)) (entry : next ≡ held_after held stack) (answer : Noted) (told : is_counted answer ≡ list_all (has next) (prefixes stack)) where
  abbrev more : List Report
  more = reports ++ report_of stack answer ∷ []

  stays : (s : List StackStep) → Contains reports (report_of s Full) → next ≡ held
  stays s there =
      let full = full_then reports held counts keeps s there in
      let long : length held ≡ room = ap length keeps.firsts_asked ∙ length-take-le room (distinct (asked reports)) (omega (arith, full)) in
      next_folded reports held counts keeps stack next entry ∙ fold_full room held (prefixes stack) (omega (arith, long))

  refused_after : (s : List StackStep) → Contains more (report_of s Full) → list_all (has next) (prefixes s) ≡ false
  refused_after s there =
      ⊎_elim
      (λ (old : Contains reports (report_of s Full)). ap (λ (h : List (List StackStep)). list_all (has h) (prefixes s)) (stays s old) ∙ keeps.refused s old)
      (λ (new : report_of stack answer ≡ report_of s Full).
      ap (λ (r : Report). list_all (has next) (prefixes r.stack)) (sym new) ∙ sym told ∙ ap (λ (r : Report). is_counted r.answer) new)
      (Contains-push_cases reports (report_of stack answer) (report_of s Full) there)

  -- a stack that is counted was counted before, or is the one that was reported
  counted_cases : (s : List StackStep) → 0 < counted s more → (0 < counted s reports) ⊎ ((stack ≡ s) × (is_counted answer ≡ true))
  counted_cases s some = by_tests (is_same stack s) (is_counted answer) refl refl
    where
      by_tests : (b c : Bool) → is_same stack s ≡ b → is_counted answer ≡ c → (0 < counted s reports) ⊎ ((stack ≡ s) × (is_counted answer ≡ true))
      by_tests true true e f = inr (same_is stack s e, f)
      by_tests true false e f = let same = counted_same reports stack answer s true false e f refl in inl (omega (arith, same, some))
      by_tests false c e f = let same = counted_same reports stack answer s false c e f refl in inl (omega (arith, same, some))

  roomy_after : (s : List StackStep) → 0 < counted s more → list_all (has next) (prefixes s) ≡ true
  roomy_after s some =
      ⊎_elim
      (λ (old : 0 < counted s reports). all_pass (has held) (has next) (has_next reports held counts keeps stack next entry) (prefixes s) (keeps.roomy s old))
      (λ (new : (stack ≡ s) × (is_counted answer ≡ true)). ap (λ (t : List StackStep). list_all (has next) (prefixes t)) (sym new.0) ∙ sym told ∙ new.1)
      (counted_cases s some)

  short_after : (s : List StackStep) → 0 < counted s more → (0 < length s) × (length s ≤ 257)
  short_after s some =
      ⊎_elim
      (λ (old : 0 < counted s reports). keeps.short s old)
      (λ (new : (stack ≡ s) × (is_counted answer ≡ true)). subst (λ (t : List StackStep). (0 < length t) × (length t ≤ 257)) new.0 size)
      (counted_cases s some)

  firsts_after : next ≡ take room (distinct (asked more))
  firsts_after = next_firsts reports held counts keeps stack next entry ∙ ap (λ (l : List (List StackStep)). take room (distinct l)) (sym (asked_push reports (report_of stack answer)))

  -- where the answer is Full nothing is counted
  one_first_same : (s : List StackStep) (b : Bool) → is_same stack s ≡ b → (b && is_counted answer) ≡ false → 0 < counted s more → firsts s more ≡ 1
  one_first_same s b e none some =
      let same = counted_same reports stack answer s b (is_counted answer) e refl none in
      let before = keeps.one_first s (omega (arith, same, some)) in
      let least = first_is_counted answer b in
      let zero_more : bit (b && is_counted answer) ≡ 0 = rw none refl in
      let push : firsts s more ≡ firsts s reports + bit (b && is_first answer) = firsts_push reports stack answer s ∙ ap (λ (t : Bool). firsts s reports + bit (t && is_first answer)) e in
      omega (arith, before, least, zero_more, push)

  pub kept_refused : answer ≡ Full → (after : List ℕ) → after ≡ counts → Keeps more next after
  kept_refused full after is =
      let none : (b : Bool) → (b && is_counted answer) ≡ false = λ b. none_of b (ap is_counted full) in
      record {
        firsts_asked = firsts_after;
        many = ap length is ∙ keeps.many;
        counts_are = λ i within.
            ap (λ (l : List ℕ). get_or l i 0) is ∙ so_far reports held counts keeps stack next entry i within
            ∙ ap (λ n. min n (2 ^ 64 - 1)) (sym (counted_same reports stack answer (get_or next i []) (is_same stack (get_or next i [])) (is_counted answer) refl refl (none (is_same stack (get_or next i [])))));
        none = λ i high. ap (λ (l : List ℕ). get_or l i 0) is ∙ keeps.none i (let longer = next_longer reports held counts keeps stack next entry in omega (arith, longer, high));
        short = short_after;
        roomy = roomy_after;
        refused = refused_after;
        one_first = λ s some. one_first_same s (is_same stack s) refl (none (is_same stack s)) some;
      }
    where
      none_of : (b : Bool) → is_counted answer ≡ false → (b && is_counted answer) ≡ false
      none_of true e = e
      none_of false e = refl

  module _ (after : List ℕ) (counts_it : is_counted answer ≡ true) (number : ℕ) (at : CountsAt number counts stack next after answer) where
    within_counts : number < length counts
    within_counts = let few = next_few reports held counts keeps stack next entry in let many = keeps.many in let low = at.within in omega (arith, few, many, low)

    before_at : get_or counts number 0 ≡ min (counted stack reports) (2 ^ 64 - 1)
    before_at = so_far reports held counts keeps stack next entry number at.within ∙ ap (λ (s : List StackStep). min (counted s reports) (2 ^ 64 - 1)) at.here

    counts_here : get_or after number 0 ≡ min (counted (get_or next number []) more) (2 ^ 64 - 1)
    counts_here =
        let one : bit (is_same stack stack && is_counted answer) ≡ 1 = rw (same_itself stack, counts_it) refl in
        let push : counted stack more ≡ counted stack reports + 1 = counted_push reports stack answer stack ∙ ap (λ n. counted stack reports + n) one in
        ap (λ (l : List ℕ). get_or l number 0) at.counts
        ∙ get_or-set_same counts number (one_more (get_or counts number 0)) 0 within_counts
        ∙ ap one_more before_at
        ∙ capped (counted stack reports) (2 ^ 64 - 1)
        ∙ ap (λ n. min n (2 ^ 64 - 1)) (sym push)
        ∙ ap (λ (s : List StackStep). min (counted s more) (2 ^ 64 - 1)) (sym at.here)

    counts_there : (i : ℕ) → i < length next → i ≢ number → get_or after i 0 ≡ min (counted (get_or next i []) more) (2 ^ 64 - 1)
    counts_there i within other =
        ap (λ (l : List ℕ). get_or l i 0) at.counts
        ∙ get_or-set_other counts number i (one_more (get_or counts number 0)) 0 other
        ∙ so_far reports held counts keeps stack next entry i within
        ∙ ap (λ n. min n (2 ^ 64 - 1)) (sym (not_here (is_same stack (get_or next i [])) refl))
      where
        not_here : (b : Bool) → is_same stack (get_or next i []) ≡ b → counted (get_or next i []) more ≡ counted (get_or next i []) reports
        not_here false e = counted_same reports stack answer (get_or next i []) false (is_counted answer) e refl refl
        not_here true e = absurd (other (one_place next (next_once reports held counts keeps stack next entry) stack i number within at.within (sym (same_is stack (get_or next i []) e)) at.here))

    beyond : (i : ℕ) → length next ≤ i → get_or after i 0 ≡ 0
    beyond i high =
        let low = at.within in
        let longer = next_longer reports held counts keeps stack next entry in
        ap (λ (l : List ℕ). get_or l i 0) at.counts
        ∙ get_or-set_other counts number i (one_more (get_or counts number 0)) 0 (λ (e : i ≡ number). omega (arith, e, low, high))
        ∙ keeps.none i (omega (arith, longer, high))

    -- the first answer to a stack is First, each later one Again
    first_here : (s : List StackStep) → stack ≡ s → is_same stack s ≡ true → firsts s more ≡ 1
    first_here s same e = by_count (cases_eq (get_or counts number 0) 0)
      where
        push : firsts s more ≡ firsts s reports + bit (is_first answer)
        push = firsts_push reports stack answer s ∙ ap (λ (t : Bool). firsts s reports + bit (t && is_first answer)) e

        before : get_or counts number 0 ≡ min (counted s reports) (2 ^ 64 - 1)
        before = before_at ∙ ap (λ (t : List StackStep). min (counted t reports) (2 ^ 64 - 1)) same

        by_count : (get_or counts number 0 ≡ 0) ⊎ (get_or counts number 0 ≢ 0) → firsts s more ≡ 1
        by_count (inl zero_now) =
            let is : answer ≡ First = at.answered ∙ ap answer_at zero_now in
            let none = none_counted (counted s reports) (2 ^ 64 - 1) (omega arith) (sym before ∙ zero_now) in
            let fewer = firsts_fewer s reports in
            let one : bit (is_first answer) ≡ 1 = ap (λ (a : Noted). bit (is_first a)) is in
            omega (arith, push, none, fewer, one)
        by_count (inr other) =
            let is : answer ≡ Again = at.answered ∙ again_at (get_or counts number 0) other in
            let some = some_counted (counted s reports) (2 ^ 64 - 1) (λ (e : min (counted s reports) (2 ^ 64 - 1) ≡ 0). other (before ∙ e)) in
            let one = keeps.one_first s some in
            let none : bit (is_first answer) ≡ 0 = ap (λ (a : Noted). bit (is_first a)) is in
            omega (arith, push, one, none)

    pub kept_counted : Keeps more next after
    kept_counted = record {
      firsts_asked = firsts_after;
      many = ap length at.counts ∙ length-set counts number (one_more (get_or counts number 0)) ∙ keeps.many;
      counts_are = λ i within. ⊎_elim (λ (here : i ≡ number). subst (λ j. get_or after j 0 ≡ min (counted (get_or next j []) more) (2 ^ 64 - 1)) (sym here) counts_here) (λ (there : i ≢ number). counts_there i within there) (cases_eq i number);
      none = beyond;
      short = short_after;
      roomy = roomy_after;
      refused = refused_after;
      one_first = λ s some. one_first_by s some (is_same stack s) refl;
    }
      where
        one_first_by : (s : List StackStep) → 0 < counted s more → (b : Bool) → is_same stack s ≡ b → firsts s more ≡ 1
        one_first_by s some true e = first_here s (same_is stack s e) e
        one_first_by s some false e = one_first_same s false e refl some

pub kept : (reports : List Report) (held : List (List StackStep)) (counts : List ℕ) → Keeps reports held counts → (stack : List StackStep) → (0 < length stack) × (length stack ≤ 257) → (next : List (List StackStep)) → next ≡ held_after held stack → (after : List ℕ) (answer : Noted) → is_counted answer ≡ list_all (has next) (prefixes stack) → IsNoted counts stack next after answer → Keeps (reports ++ report_of stack answer ∷ []) next after
kept reports held counts keeps stack size next entry after First told noted = kept_counted reports held counts keeps stack size next entry First told after refl noted.0 noted.1
kept reports held counts keeps stack size next entry after Again told noted = kept_counted reports held counts keeps stack size next entry Again told after refl noted.0 noted.1
kept reports held counts keeps stack size next entry after Full told noted = kept_refused reports held counts keeps stack size next entry Full told refl after noted
