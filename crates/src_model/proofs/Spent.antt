-- A thread makes two events at most beyond its limit: those of an ending.
use Rattle.std.proofs.Common.{◌≡◌, refl, sym, subst, ◌∙◌, ℕ, suc, ◌+◌, ◌<◌, ◌≤◌, Bool, true, false, not, ◌&&◌, ◌||◌, List, [], ◌∷◌, length, None, arith, nat_lt, if◌then◌else◌, inl, inr, ◌⊎◌}
use Rattle.std.proofs.lemmas.Bool.{cases_lt}
use Rattle.std.proofs.lemmas.Bool.Decides.{nat_tests}
use Rattle.mcode.specs.Steps.{is_event}
use Rattle.mcode.specs.declared.events.Ask.{Ask}
use Rattle.mcode.specs.declared.events.Ask.TheVariants.{Reach}
use Rattle.src_model.specs.Laws.{Comes, begins, goes_on, halts}
use Rattle.src_model.specs.Runs.{Setting, Start, started, state_after, IsSourceRun, IsGoingOn, ending, is_ending, is_cut, tries_after}
use Rattle.src_model.specs.Scheduled.{Live, fresh, stepped}
use Rattle.src_model.specs.Source.{next, after, cut}
use Rattle.src_model.specs.Tasks.{State}
use Rattle.src_model.specs.declared.runs.Made.{Made}
use Rattle.src_model.proofs.Going.{IsLive, open_event, open_limit, open_ending}
use Rattle.src_model.proofs.Table.{IsLow, IsClosing, IsClosed, closes, closed_after, closed_next, comes_low}

-- Of a thread in this state, which made so many events: beyond the limit an ending has begun, and beyond one more nothing is left.
pub record IsShort (w : Setting) (s : State) (made : ℕ) : Type 0 where
  pub low : made ≤ w.options.events + 2
  pub closing : w.options.events < made → IsClosing s.todo
  pub closed : w.options.events + 1 < made → IsClosed s.todo

short_at_first : (w : Setting) (s : State) → IsShort w s 0
short_at_first w s = record { low = omega arith; closing = λ h. absurd (omega (arith, h)); closed = λ h. absurd (omega (arith, h)) }

abbrev pub IsSpent : Setting → Live → Type 0
IsSpent w t = IsShort w t.state (length t.trace)

pub fresh_spent : (w : Setting) (begin : Start) → IsSpent w (fresh begin)
fresh_spent w begin = short_at_first w (started begin)

both_false : (a b : Bool) → ((a && false) && b) ≡ false
both_false true b = refl
both_false false b = refl

-- a report begins no ending
not_cut : (w : Setting) (before : List Made) (event : Ask) (refused : Bool) → is_ending event ≡ true → (is_cut w before event && not refused) ≡ false
not_cut w before (Reach target site) refused h = let clash : ⊥ = cc in absurd clash
not_cut w before event refused h = both_false w.options.halt_on_error (not refused)

closing_if : (b : Bool) (s : State) → IsClosing s.todo → IsClosing (if b then cut s else s).todo
closing_if true s h = tt
closing_if false s h = h

closed_if : (b : Bool) (s : State) → b ≡ false → IsClosed s.todo → IsClosed (if b then cut s else s).todo
closed_if true s e h = let clash : ⊥ = cc in absurd clash
closed_if false s e h = h

ending_by : (a b : Bool) → (a || b) ≡ true → b ≡ false → a ≡ true
ending_by true b e f = refl
ending_by false b e f = let clash : ⊥ = cc in absurd clash

not_below : (made most : ℕ) → most ≤ made → nat_lt made most ≡ false
not_below made most h = grind (arith, nat_tests)

-- One event more, where no ending stood.
short_step : (w : Setting) (s : State) (made tries : ℕ) (before : List Made) (word : ℕ) (refused : Bool) → IsLow s → ending w.options (next w.unit s) made tries ≡ None → IsShort w s made →
    IsShort w (if is_cut w before (next w.unit s) && not refused then cut (after w.unit s word) else after w.unit s word) (suc made)
short_step w s made tries before word refused low ahead short =
    let event : Ask = next w.unit s in
    let is_one : is_event event ≡ true = open_event w.options event made tries ahead in
    let within = open_limit w.options event made tries ahead in
    let ends : w.options.events ≤ made → is_ending event ≡ true =
    λ h. ending_by (is_ending event) (nat_lt made w.options.events) within (not_below made w.options.events h) in
    record {
      low = bound is_one (cases_lt (w.options.events + 1) made);
      closing = λ h. closing_if (is_cut w before event && not refused) (after w.unit s word)
          (closes w.unit s word low is_one (ends (omega (arith, h))));
      closed = λ h. closed_if (is_cut w before event && not refused) (after w.unit s word)
          (not_cut w before event refused (ends (omega (arith, h))))
          (closed_after w.unit s word (short.closing (omega (arith, h))) is_one);
    }
  where
    bound : is_event (next w.unit s) ≡ true → (w.options.events + 1 < made) ⊎ (made ≤ w.options.events + 1) → suc made ≤ w.options.events + 2
    bound is_one (inl more) =
        let clash : true ≡ false = sym is_one ∙ closed_next w.unit s (short.closed more) in absurd (let no : ⊥ = cc in no)
    bound is_one (inr few) = omega (arith, few)

pub spent_step : (w : Setting) (t : Live) (word : ℕ) (refused : Bool) → IsLow t.state → IsLive w t → t.end ≡ None → IsSpent w t → IsSpent w (stepped w t (next w.unit t.state) word refused)
spent_step w t word refused low live none spent =
    short_step w t.state (length t.trace) (tries_after w t.begin t.trace) t.trace word refused low (open_ending w t live none) spent

-- So it is of each trace of a source thread that hadn't ended before.

comes_along : (w : Setting) (begin : Start) (trace : List Made) → begin.number < 64 → Comes w.unit (state_after w begin trace)
comes_along w begin [] low = begins begin.number begin.function begin.arguments low
comes_along w begin (made ∷ before) low = comes_if (is_cut w before made.ask) (state_after w begin before) made.word (comes_along w begin before low)
  where
    comes_if : (b : Bool) (s : State) (word : ℕ) → Comes w.unit s → Comes w.unit (if b then cut (after w.unit s word) else after w.unit s word)
    comes_if true s word c = halts (after w.unit s word) (goes_on s word c)
    comes_if false s word c = goes_on s word c

without_mark : (w : Setting) (b : Bool) (s t : State) (made : ℕ) → IsShort w (if b && not false then s else t) made → IsShort w (if b then s else t) made
without_mark w true s t made short = short
without_mark w false s t made short = short

short_along : (w : Setting) (begin : Start) (trace : List Made) → begin.number < 64 → IsSourceRun w begin trace → IsGoingOn w begin trace → IsShort w (state_after w begin trace) (length trace)
short_along w begin [] low source going = short_at_first w (started begin)
short_along w begin (made ∷ before) low source going =
    let s : State = state_after w begin before in
    let short : IsShort w s (length before) = short_along w begin before low source.3 going.1 in
    let more : IsShort w (if is_cut w before (next w.unit s) && not false then cut (after w.unit s made.word) else after w.unit s made.word) (suc (length before)) =
    short_step w s (length before) (tries_after w begin before) before made.word false (comes_low w.unit s (comes_along w begin before low)) going.0 short in
    without_mark w (is_cut w before made.ask) (cut (after w.unit s made.word)) (after w.unit s made.word) (suc (length before))
    (subst (λ (event : Ask). IsShort w (if is_cut w before event && not false then cut (after w.unit s made.word) else after w.unit s made.word) (suc (length before))) source.0 more)

-- A thread makes two events at most beyond the limit.
pub few_events : (w : Setting) (begin : Start) (trace : List Made) → begin.number < 64 → IsSourceRun w begin trace → IsGoingOn w begin trace → length trace ≤ w.options.events + 2
few_events w begin trace low source going = (short_along w begin trace low source going).low
