-- A scheduled run, turn by turn: what each event keeps, the run keeps; and it comes to its end.
use Rattle.std.proofs.Common.{◌≡◌, ◌≢◌, refl, ap, ◌∙◌, ℕ, zero, suc, ◌+◌, ◌-◌, ◌*◌, ◌<◌, ◌≤◌, Bool, true, false, ◌&&◌, List, [], ◌∷◌, ◌++◌, length, set, Option, Some, None, is_some, arith, slice_get, inl, inr, ⊎_elim, ◌⊎◌}
use Rattle.std.specs.List.{list_all}
use Rattle.std.proofs.lemmas.Bool.{cases_eq}
use Rattle.std.proofs.lemmas.List.{length-append, length-set}
use Rattle.std.proofs.lemmas.Option.{slice_get_within}
use Rattle.core_unit.specs.Units.{opening}
use Rattle.core_unit.specs.declared.tables.FunctionInfo.{FunctionInfo}
use Rattle.mcode.specs.declared.events.Ask.{Ask}
use Rattle.mcode.specs.declared.events.Ask.TheVariants.{Create}
use Rattle.src_model.specs.Runs.{Setting, entry_of}
use Rattle.src_model.specs.Scheduled.{Live, as_list, Running, answer, children, is_refused, stepped, makes_asked, makes_next, turn_of, turn, turns, numbers, is_over, round_unless_over, rounds, called, first_thread, opened, scheduled}
use Rattle.src_model.specs.Source.{next}
use Rattle.src_model.specs.declared.runs.End.{End}

-- What is kept by each event of a thread that hasn't ended is kept by turns and rounds.
module _ (w : Setting) (P : Running (List ℕ) → Type 0)
    (one : (n : ℕ) (t : Live) (r : Running (List ℕ)) → slice_get r.threads n ≡ Some t → t.end ≡ None → P r → P (makes_asked as_list w n t (next w.unit t.state) r)) where
  next_keeps : (n : ℕ) (t : Live) (end : Option End) (r : Running (List ℕ)) → slice_get r.threads n ≡ Some t → t.end ≡ end → P r → P (makes_next as_list w n t end r)
  next_keeps n t None r there going p = one n t r there going p
  next_keeps n t (Some end) r there ended p = p

  turn_keeps : (n : ℕ) (found : Option Live) (r : Running (List ℕ)) → slice_get r.threads n ≡ found → P r → P (turn_of as_list w n found r)
  turn_keeps n None r there p = p
  turn_keeps n (Some t) r there p = next_keeps n t t.end r there refl p

  pub turns_keep : (ns : List ℕ) (r : Running (List ℕ)) → P r → P (turns as_list w ns r)
  turns_keep [] r p = p
  turns_keep (n ∷ ns) r p = turns_keep ns (turn as_list w n r) (turn_keeps n (slice_get r.threads n) r refl p)

  round_keeps : (go : Running (List ℕ) → Running (List ℕ)) → ((r : Running (List ℕ)) → P r → P (go r)) → (b : Bool) (r : Running (List ℕ)) → P r → P (round_unless_over as_list w go b r)
  round_keeps go on true r p = p
  round_keeps go on false r p = on (turns as_list w (numbers 0 64) r) (turns_keep (numbers 0 64) r p)

  rounds_keep : (n : ℕ) (r : Running (List ℕ)) → P r → P (rounds as_list w n r)
  rounds_keep zero r p = p
  rounds_keep (suc n) r p = round_keeps (rounds as_list w n) (rounds_keep n) (is_over r) r p

  pub scheduled_keeps : (schedule : List ℕ) → P (opened w (opening w.unit)) → P (scheduled w schedule)
  scheduled_keeps schedule p = rounds_keep _ (turns as_list w schedule (opened w (opening w.unit))) (turns_keep schedule (opened w (opening w.unit)) p)

-- How many events may still come: of each thread that hasn't ended so many as its limit and four leave, and as many of each thread that isn't
-- there yet.

abbrev pub left_if : Option End → ℕ → ℕ
left_if None left = left
left_if (Some end) left = 0

abbrev pub left_of : (most : ℕ) → Live → ℕ
left_of most t = left_if t.end (most - length t.trace)

abbrev pub lefts : (most : ℕ) → List Live → ℕ
lefts most [] = 0
lefts most (t ∷ ts) = left_of most t + lefts most ts

abbrev pub times : (count most : ℕ) → ℕ
times zero most = 0
times (suc n) most = most + times n most

abbrev pub potential : (most : ℕ) → Running (List ℕ) → ℕ
potential most r = times (64 - length r.threads) most + lefts most r.threads

lefts_set : (most : ℕ) (ts : List Live) (n : ℕ) (t other : Live) → slice_get ts n ≡ Some t → lefts most (set ts n other) + left_of most t ≡ lefts most ts + left_of most other
lefts_set most [] n t other h = let clash : ⊥ = cc in absurd clash
lefts_set most (s ∷ ts) zero t other h =
    let same : s ≡ t = cc in
    let left : left_of most s ≡ left_of most t = ap (left_of most) same in
    omega (arith, left)
lefts_set most (s ∷ ts) (suc n) t other h = let rest = lefts_set most ts n t other h in omega (arith, rest)

lefts_more : (most : ℕ) (ts us : List Live) → lefts most (ts ++ us) ≡ lefts most ts + lefts most us
lefts_more most [] us = omega arith
lefts_more most (t ∷ ts) us = let rest = lefts_more most ts us in omega (arith, rest)

-- A thread that isn't there yet, or that is, may make as many events.
child_fits : (most count : ℕ) (event : Ask) (word : ℕ) → count + length (children event word) ≤ 64 →
    times (64 - (count + length (children event word))) most + lefts most (children event word) ≡ times (64 - count) most
child_fits most count (Create function argument) zero few = let same : count + 0 ≡ count = omega arith in rw same (omega arith)
child_fits most count (Create function argument) (suc word) few =
    let one : 64 - count ≡ suc (64 - (count + 1)) = omega (arith, few) in rw one (omega arith)
child_fits most count _ word few = let same : count + 0 ≡ count = omega arith in rw same (omega arith)

left_falls : (most made : ℕ) (end : Option End) → made < most → suc (left_if end (most - suc made)) ≤ most - made
left_falls most made None low = omega (arith, low)
left_falls most made (Some end) low = omega (arith, low)

left_open : (most : ℕ) (t : Live) → t.end ≡ None → left_of most t ≡ most - length t.trace
left_open most t going = rw going refl

-- so each event leaves fewer
pub event_falls : (w : Setting) (most : ℕ) (n : ℕ) (t : Live) (r : Running (List ℕ)) → slice_get r.threads n ≡ Some t → t.end ≡ None → length t.trace < most →
    length r.threads + length (children (next w.unit t.state) (answer as_list r (next w.unit t.state))) ≤ 64 →
    suc (potential most (makes_asked as_list w n t (next w.unit t.state) r)) ≤ potential most r
event_falls w most n t r there going low few =
    let event : Ask = next w.unit t.state in
    let word : ℕ = answer as_list r event in
    let other : Live = stepped w t event word (is_refused as_list w r.asked t.trace event) in
    let before = left_open most t going in
    let after = left_falls most (length t.trace) other.end low in
    let changed = lefts_set most r.threads n t other there in
    let more = lefts_more most (set r.threads n other) (children event word) in
    let count : length (set r.threads n other ++ children event word) ≡ length r.threads + length (children event word) =
    length-append (set r.threads n other) (children event word) ∙ ap (λ k. k + length (children event word)) (length-set r.threads n other) in
    let child = child_fits most (length r.threads) event word few in
    let spare : times (64 - length (set r.threads n other ++ children event word)) most ≡ times (64 - (length r.threads + length (children event word))) most =
    ap (λ k. times (64 - k) most) count in
    omega (arith, before, after, changed, more, child, spare)

-- In a round each thread that is there and hasn't ended makes an event.
set_other : (ts : List Live) (n j : ℕ) (t other : Live) → n ≢ j → slice_get ts j ≡ Some t → slice_get (set ts n other) j ≡ Some t
set_other [] n j t other apart h = let clash : ⊥ = cc in absurd clash
set_other (s ∷ ts) zero zero t other apart h = absurd (apart refl)
set_other (s ∷ ts) zero (suc j) t other apart h = h
set_other (s ∷ ts) (suc n) zero t other apart h = h
set_other (s ∷ ts) (suc n) (suc j) t other apart h = set_other ts n j t other (λ same. apart (ap suc same)) h

pub still_there : (ts us : List Live) (j : ℕ) (t : Live) → slice_get ts j ≡ Some t → slice_get (ts ++ us) j ≡ Some t
still_there [] us j t h = let clash : ⊥ = cc in absurd clash
still_there (s ∷ ts) us zero t h = h
still_there (s ∷ ts) us (suc j) t h = still_there ts us j t h

module _ (w : Setting) (most : ℕ) (P : Running (List ℕ) → Type 0)
    (one : (n : ℕ) (t : Live) (r : Running (List ℕ)) → slice_get r.threads n ≡ Some t → t.end ≡ None → P r → P (makes_asked as_list w n t (next w.unit t.state) r))
    (falls : (n : ℕ) (t : Live) (r : Running (List ℕ)) → slice_get r.threads n ≡ Some t → t.end ≡ None → P r → suc (potential most (makes_asked as_list w n t (next w.unit t.state) r)) ≤ potential most r)
    (some_left : (r : Running (List ℕ)) (n : ℕ) (t : Live) → P r → slice_get r.threads n ≡ Some t → t.end ≡ None → 0 < left_of most t)
    (few : (r : Running (List ℕ)) → P r → length r.threads ≤ 64) where
  next_rises : (n : ℕ) (t : Live) (end : Option End) (r : Running (List ℕ)) → slice_get r.threads n ≡ Some t → t.end ≡ end → P r → potential most (makes_next as_list w n t end r) ≤ potential most r
  next_rises n t None r there going p = let less = falls n t r there going p in omega (arith, less)
  next_rises n t (Some end) r there ended p = omega arith

  turn_rises : (n : ℕ) (found : Option Live) (r : Running (List ℕ)) → slice_get r.threads n ≡ found → P r → potential most (turn_of as_list w n found r) ≤ potential most r
  turn_rises n None r there p = omega arith
  turn_rises n (Some t) r there p = next_rises n t t.end r there refl p

  one_turn : (n : ℕ) (r : Running (List ℕ)) → P r → P (turn as_list w n r)
  one_turn n r p = turn_keeps w P one n (slice_get r.threads n) r refl p

  turns_rise : (ns : List ℕ) (r : Running (List ℕ)) → P r → potential most (turns as_list w ns r) ≤ potential most r
  turns_rise [] r p = omega arith
  turns_rise (n ∷ ns) r p =
      let here = turn_rises n (slice_get r.threads n) r refl p in
      let rest = turns_rise ns (turn as_list w n r) (one_turn n r p) in
      omega (arith, here, rest)

  turn_open : (n : ℕ) (t : Live) (end : Option End) (r : Running (List ℕ)) → slice_get r.threads n ≡ Some t → t.end ≡ end → end ≡ None → P r → suc (potential most (makes_next as_list w n t end r)) ≤ potential most r
  turn_open n t None r there going is p = falls n t r there going p
  turn_open n t (Some end) r there going is p = let clash : ⊥ = cc in absurd clash

  own_turn : (n : ℕ) (found : Option Live) (t : Live) (r : Running (List ℕ)) → slice_get r.threads n ≡ found → found ≡ Some t → t.end ≡ None → P r → suc (potential most (turn_of as_list w n found r)) ≤ potential most r
  own_turn n None t r there is going p = let clash : ⊥ = cc in absurd clash
  own_turn n (Some s) t r there is going p =
      let same : s ≡ t = cc in turn_open n s s.end r there refl (ap (λ (x : Live). x.end) same ∙ going) p

  next_other : (n j : ℕ) (s t : Live) (end : Option End) (r : Running (List ℕ)) → n ≢ j → slice_get r.threads j ≡ Some t → slice_get (makes_next as_list w n s end r).threads j ≡ Some t
  next_other n j s t (Some end) r apart h = h
  next_other n j s t None r apart h =
      let event : Ask = next w.unit s.state in
      let word : ℕ = answer as_list r event in
      let other : Live = stepped w s event word (is_refused as_list w r.asked s.trace event) in
      still_there (set r.threads n other) (children event word) j t (set_other r.threads n j t other apart h)

  turn_other : (n j : ℕ) (found : Option Live) (t : Live) (r : Running (List ℕ)) → n ≢ j → slice_get r.threads j ≡ Some t → slice_get (turn_of as_list w n found r).threads j ≡ Some t
  turn_other n j None t r apart h = h
  turn_other n j (Some s) t r apart h = next_other n j s t s.end r apart h

  round_falls : (count first : ℕ) (r : Running (List ℕ)) (j : ℕ) (t : Live) → P r → first ≤ j → j < first + count → slice_get r.threads j ≡ Some t → t.end ≡ None → suc (potential most (turns as_list w (numbers first count) r)) ≤ potential most r
  round_falls zero first r j t p low high there going = absurd (omega (arith, low, high))
  round_falls (suc count) first r j t p low high there going =
      elim (cases_eq first j) [
        | inl same ↦
            let there_first : slice_get r.threads first ≡ Some t = ap (slice_get r.threads) same ∙ there in
            let here = own_turn first (slice_get r.threads first) t r refl there_first going p in
            let rest = turns_rise (numbers (suc first) count) (turn as_list w first r) (one_turn first r p) in
            omega (arith, here, rest)
        | inr apart ↦
            let here = turn_rises first (slice_get r.threads first) r refl p in
            let rest = round_falls count (suc first) (turn as_list w first r) j t (one_turn first r p) (omega (arith, low, apart)) (omega (arith, high))
            (turn_other first j (slice_get r.threads first) t r apart there) going in
            omega (arith, here, rest)
      ]

  -- Where not all have ended, some thread hasn't.
  record IsOpen (ts : List Live) : Type 0 where
    pub place : ℕ
    pub thread : Live
    pub there : slice_get ts place ≡ Some thread
    pub going : thread.end ≡ None

  open_by : (end : Option End) (b : Bool) → (is_some end && b) ≡ false → (end ≡ None) ⊎ (b ≡ false)
  open_by None b e = inl refl
  open_by (Some end) b e = inr e

  some_open : (ts : List Live) → list_all (λ (t : Live). is_some t.end) ts ≡ false → IsOpen ts
  some_open [] e = let clash : ⊥ = cc in absurd clash
  some_open (t ∷ ts) e =
      ⊎_elim
      (λ (here : t.end ≡ None). record { place = 0; thread = t; there = refl; going = here })
      (λ (there : list_all (λ (s : Live). is_some s.end) ts ≡ false).
      let rest : IsOpen ts = some_open ts there in record { place = suc rest.place; thread = rest.thread; there = rest.there; going = rest.going })
      (open_by t.end (list_all (λ (s : Live). is_some s.end) ts) e)

  one_left : (ts : List Live) (j : ℕ) (t : Live) → slice_get ts j ≡ Some t → left_of most t ≤ lefts most ts
  one_left [] j t h = let clash : ⊥ = cc in absurd clash
  one_left (s ∷ ts) zero t h = let same : left_of most s ≡ left_of most t = ap (left_of most) (let is : s ≡ t = cc in is) in omega (arith, same)
  one_left (s ∷ ts) (suc j) t h = let rest = one_left ts j t h in omega (arith, rest)

  over_or_open : (r : Running (List ℕ)) (b : Bool) → is_over r ≡ b → P r → potential most r ≤ 0 → is_over r ≡ true
  over_or_open r true e p none = e
  over_or_open r false e p none =
      let going : IsOpen r.threads = some_open r.threads e in
      let some = some_left r going.place going.thread p going.there going.going in
      let least = one_left r.threads going.place going.thread going.there in
      absurd (omega (arith, none, some, least))

  over_by : (n : ℕ) (on : (r : Running (List ℕ)) → P r → potential most r ≤ n → is_over (rounds as_list w n r) ≡ true) (r : Running (List ℕ)) (b : Bool) → is_over r ≡ b → P r → potential most r ≤ suc n →
      is_over (round_unless_over as_list w (rounds as_list w n) b r) ≡ true
  over_by n on r true e p less = e
  over_by n on r false e p less =
      let going : IsOpen r.threads = some_open r.threads e in
      let within = slice_get_within r.threads going.place going.thread going.there in
      let bound = few r p in
      let fallen = round_falls 64 0 r going.place going.thread p (omega arith) (omega (arith, within, bound)) going.there going.going in
      on (turns as_list w (numbers 0 64) r) (turns_keep w P one (numbers 0 64) r p) (omega (arith, fallen, less))

  over_within : (n : ℕ) (r : Running (List ℕ)) → P r → potential most r ≤ n → is_over (rounds as_list w n r) ≡ true
  over_within zero r p none = over_or_open r (is_over r) refl p none
  over_within (suc n) r p less = over_by n (over_within n) r (is_over r) refl p less

  times_is : (count : ℕ) → times count most ≡ count * most
  times_is zero = omega arith
  times_is (suc n) = let rest = times_is n in grind (arith, rest)

  at_most : (function : ℕ) (info : Option FunctionInfo) (words : List ℕ) → potential most (record { words = words; asked = []; threads = called w function info }) ≤ times 64 most
  at_most function (Some info) words = omega arith
  at_most function None words = omega arith

  at_first : (entry : Option ℕ) (words : List ℕ) → potential most (record { words = words; asked = []; threads = first_thread w entry }) ≤ times 64 most
  at_first (Some function) words = at_most function (slice_get w.unit.functions function) words
  at_first None words = omega arith

  -- So as many rounds are enough.
  pub comes_over : (schedule : List ℕ) → P (opened w (opening w.unit)) → most ≡ w.options.events + 4 → is_over (scheduled w schedule) ≡ true
  comes_over schedule p is =
      let first = at_first (entry_of w) (opening w.unit) in
      let start = turns_rise schedule (opened w (opening w.unit)) p in
      let all : times 64 most ≡ 64 * (w.options.events + 4) = times_is 64 ∙ ap (λ k. 64 * k) is in
      over_within (64 * (w.options.events + 4)) (turns as_list w schedule (opened w (opening w.unit))) (turns_keep w P one schedule (opened w (opening w.unit)) p)
      (omega (arith, first, start, all))
