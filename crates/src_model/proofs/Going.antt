-- In a scheduled run each thread's trace is one of the source thread, up to its ending.
use Rattle.std.proofs.Common.{◌≡◌, refl, sym, ap, ap₂, ◌∙◌, subst, ℕ, zero, suc, ◌<◌, Bool, true, false, not, ◌&&◌, ◌||◌, List, [], ◌∷◌, ◌++◌, length, set, Option, Some, None, arith, nat_lt, nat_le, if◌then◌else◌, slice_get, unwrap_or}
use Rattle.std.proofs.lemmas.Bool.Decides.{nat_tests}
use Rattle.core_unit.specs.declared.tables.FunctionInfo.{FunctionInfo}
use Rattle.mcode.specs.declared.events.Ask.{Ask}
use Rattle.mcode.specs.Steps.{is_event, is_answered}
use Rattle.mcode.specs.declared.events.Ask.TheVariants.{Load, Exchange, FetchAdd, FetchSub, Create, Over}
use Rattle.src_model.specs.Laws.{CanBegin}
use Rattle.src_model.specs.Runs.{Setting, Start, moved_to, started, state_after, is_report_place, is_cut, IsSourceRun, IsGoingOn, tries_with, tries_after, is_ending, ending, ending_after, is_last_a_report, IsThreadRun}
use Rattle.src_model.specs.Scheduled.{Live, Shared, Running, fresh, answer, children, is_refused, stepped, makes_asked, called, first_thread, thread_of}
use Rattle.src_model.specs.Source.{next, after, turned, cut}
use Rattle.src_model.specs.Tasks.{State}
use Rattle.src_model.specs.Traces.{stack_of_event}
use Rattle.src_model.specs.declared.runs.End.{End}
use Rattle.src_model.specs.declared.runs.End.TheVariants.{Stopped, Waiting, Full}
use Rattle.src_model.specs.declared.runs.Made.{Made}
use Rattle.src_model.specs.declared.runs.Options.{Options}

-- What is kept of a thread is what its trace says.
pub record IsLive (w : Setting) (t : Live) : Type 0 where
  pub state : t.state ≡ moved_to w (after w.unit) cut (started t.begin) t.refused t.trace
  pub tries : t.tries ≡ tries_after w t.begin t.trace
  pub source : IsSourceRun w t.begin t.trace
  pub going_on : IsGoingOn w t.begin t.trace
  pub ends : t.end ≡ ending_after w t.begin t.refused t.trace
  pub refused : t.refused ≡ true → is_last_a_report w t.trace ≡ true

open_end : (limit events : ℕ) → 0 < limit → 0 < events → None ≡ (if nat_le limit 0 then Some Waiting else if false || nat_lt 0 events then None else Some Stopped)
open_end limit events some more =
    let waits : nat_le limit 0 ≡ false = grind (arith, nat_tests) in
    let stops : nat_lt 0 events ≡ true = grind (arith, nat_tests) in
    rw (waits, stops) refl

fresh_live : (w : Setting) → CanBegin w → (begin : Start) → IsLive w (fresh begin)
fresh_live w limits begin = record {
  state = refl;
  tries = refl;
  source = tt;
  going_on = tt;
  ends = open_end w.options.wait_limit w.options.events limits.tries limits.events;
  refused = λ r. let clash : ⊥ = cc in absurd clash;
}

-- One event more.

unmarked_by : (x : Bool) (s t : State) → (if x && not false then s else t) ≡ (if x then s else t)
unmarked_by true s t = refl
unmarked_by false s t = refl

-- without the mark a whole trace is one like its parts
unmarked : (w : Setting) (begin : Start) (trace : List Made) → moved_to w (after w.unit) cut (started begin) false trace ≡ state_after w begin trace
unmarked w begin [] = refl
unmarked w begin (made ∷ before) =
    let s : State = after w.unit (state_after w begin before) made.word in unmarked_by (is_cut w before made.ask) (cut s) s

-- a thread that hasn't ended has no mark
pub open_mark : (w : Setting) (begin : Start) (trace : List Made) (b : Bool) → ending_after w begin b trace ≡ None → b ≡ false
open_mark w begin trace false h = refl
open_mark w begin trace true h = let clash : ⊥ = cc in absurd clash

not_full : (w : Setting) (begin : Start) (trace : List Made) (b : Bool) → ending_after w begin b trace ≡ None → ending_after w begin false trace ≡ None
not_full w begin trace false h = h
not_full w begin trace true h = let clash : ⊥ = cc in absurd clash

open_state : (w : Setting) (begin : Start) (trace : List Made) (b : Bool) (s : State) → s ≡ moved_to w (after w.unit) cut (started begin) b trace → ending_after w begin b trace ≡ None → s ≡ state_after w begin trace
open_state w begin trace false s is h = is ∙ unmarked w begin trace
open_state w begin trace true s is h = let clash : ⊥ = cc in absurd clash

pub state_of_open : (w : Setting) (t : Live) → IsLive w t → t.end ≡ None → t.state ≡ state_after w t.begin t.trace
state_of_open w t live none = open_state w t.begin t.trace t.refused t.state live.state (sym live.ends ∙ none)

ends_as : (w : Setting) (begin : Start) (trace : List Made) (b : Bool) (s : State) (tries : ℕ) → s ≡ moved_to w (after w.unit) cut (started begin) b trace → tries ≡ tries_after w begin trace →
    (if b then Some Full else ending w.options (next w.unit s) (length trace) tries) ≡ ending_after w begin b trace
ends_as w begin trace true s tries state is = refl
ends_as w begin trace false s tries state is = ap₂ (λ x n. ending w.options (next w.unit x) (length trace) n) (state ∙ unmarked w begin trace) is

going_if : (waits going : Bool) → (if waits then Some Waiting else if going then None else Some Stopped) ≡ None → going ≡ true
going_if false true h = refl
going_if false false h = let clash : ⊥ = cc in absurd clash
going_if true going h = let clash : ⊥ = cc in absurd clash

-- where no ending stands, the next event is one, and it begins an ending or the limit lets it be made
pub open_event : (options : Options) (event : Ask) (made tries : ℕ) → ending options event made tries ≡ None → is_event event ≡ true
open_event options (Over finish) made tries h = let clash : ⊥ = cc in absurd clash
open_event options event made tries h = refl

pub open_limit : (options : Options) (event : Ask) (made tries : ℕ) → ending options event made tries ≡ None → (is_ending event || nat_lt made options.events) ≡ true
open_limit options (Over finish) made tries h = let clash : ⊥ = cc in absurd clash
open_limit options event made tries h = going_if (nat_le options.wait_limit tries) (is_ending event || nat_lt made options.events) h

-- what stands of a thread that hasn't ended
pub open_ending : (w : Setting) (t : Live) → IsLive w t → t.end ≡ None → ending w.options (next w.unit t.state) (length t.trace) (tries_after w t.begin t.trace) ≡ None
open_ending w t live none =
    ap (λ s. ending w.options (next w.unit s) (length t.trace) (tries_after w t.begin t.trace)) (state_of_open w t live none)
    ∙ not_full w t.begin t.trace t.refused (sym live.ends ∙ none)

step_live : (w : Setting) (t : Live) (ask : Ask) (word : ℕ) (refused : Bool) → IsLive w t → t.end ≡ None → next w.unit t.state ≡ ask → (is_answered ask ≡ false → word ≡ 0) → (refused ≡ true → is_report_place w t.trace ask ≡ true) → IsLive w (stepped w t ask word refused)
step_live w t ask word refused live none asked unanswered reports =
    let made : Made = record { ask = ask; word = word } in
    let open_at : t.state ≡ state_after w t.begin t.trace = state_of_open w t live none in
    let state : (if is_cut w t.trace ask && not refused then cut (after w.unit t.state word) else after w.unit t.state word) ≡ moved_to w (after w.unit) cut (started t.begin) refused (made ∷ t.trace) =
    ap (λ x. if is_cut w t.trace ask && not refused then cut (after w.unit x word) else after w.unit x word) open_at in
    let tries : tries_with (turned w.unit t.state word) ask t.tries ≡ tries_after w t.begin (made ∷ t.trace) =
    ap₂ (λ x n. tries_with (turned w.unit x word) ask n) open_at live.tries in
    record {
      state = state;
      tries = tries;
      source = (
        sym (ap (next w.unit) open_at) ∙ asked,
        sym (ap is_event asked) ∙ open_event w.options (next w.unit t.state) (length t.trace) (tries_after w t.begin t.trace) (open_ending w t live none),
        unanswered,
        live.source,
      );
      going_on = (not_full w t.begin t.trace t.refused (sym live.ends ∙ none), live.going_on);
      ends = ends_as w t.begin (made ∷ t.trace) refused _ _ state tries;
      refused = reports;
    }

-- All threads.

abbrev pub Each : (Live → Type 0) → List Live → Type 0
Each P [] = Unit {0}
Each P (t ∷ ts) = P t × Each P ts

pub set_each : (P : Live → Type 0) (ts : List Live) (n : ℕ) (t : Live) → Each P ts → P t → Each P (set ts n t)
set_each P [] n t all one = tt
set_each P (other ∷ ts) zero t all one = (one, all.1)
set_each P (other ∷ ts) (suc n) t all one = (all.0, set_each P ts n t all.1 one)

pub more_each : (P : Live → Type 0) (ts us : List Live) → Each P ts → Each P us → Each P (ts ++ us)
more_each P [] us all more = more
more_each P (t ∷ ts) us all more = (all.0, more_each P ts us all.1 more)

pub each_at : (P : Live → Type 0) (ts : List Live) (n : ℕ) (t : Live) → Each P ts → slice_get ts n ≡ Some t → P t
each_at P [] n t all h = let clash : ⊥ = cc in absurd clash
each_at P (first ∷ ts) zero t all h = let same : first ≡ t = cc in subst P same all.0
each_at P (first ∷ ts) (suc n) t all h = each_at P ts n t all.1 h

pub each_as : (P Q : Live → Type 0) → ((t : Live) → P t → Q t) → (ts : List Live) → Each P ts → Each Q ts
each_as P Q on [] all = tt
each_as P Q on (t ∷ ts) all = (on t all.0, each_as P Q on ts all.1)

abbrev pub AllLive : Setting → List Live → Type 0
AllLive w ts = Each (IsLive w) ts

children_live : (w : Setting) → CanBegin w → (ask : Ask) (word : ℕ) → AllLive w (children ask word)
children_live w limits (Create function argument) zero = tt
children_live w limits (Create function argument) (suc n) = (fresh_live w limits _, tt)
children_live w limits _ word = tt

unanswered : {M : Type 0} (m : Shared M) (r : Running M) (ask : Ask) → is_answered ask ≡ false → answer m r ask ≡ 0
unanswered m r (Load at) h = let clash : ⊥ = cc in absurd clash
unanswered m r (Exchange at old new) h = let clash : ⊥ = cc in absurd clash
unanswered m r (FetchAdd at n) h = let clash : ⊥ = cc in absurd clash
unanswered m r (FetchSub at n) h = let clash : ⊥ = cc in absurd clash
unanswered m r (Create function argument) h = let clash : ⊥ = cc in absurd clash
unanswered m r _ h = refl

first_of_two : (a b : Bool) → (a && b) ≡ true → a ≡ true
first_of_two true b h = refl
first_of_two false b h = let clash : ⊥ = cc in absurd clash

pub next_live : {M : Type 0} (m : Shared M) (w : Setting) → CanBegin w → (n : ℕ) (t : Live) (r : Running M) → t.end ≡ None → IsLive w t → AllLive w r.threads → AllLive w (makes_asked m w n t (next w.unit t.state) r).threads
next_live m w limits n t r none live all =
    let ask : Ask = next w.unit t.state in
    let word : ℕ = answer m r ask in
    let refused : Bool = is_refused m w r.asked t.trace ask in
    more_each (IsLive w) (set r.threads n (stepped w t ask word refused)) (children ask word)
    (set_each (IsLive w) r.threads n (stepped w t ask word refused) all
    (step_live w t ask word refused live none refl (unanswered m r ask)
    (λ h. first_of_two (is_report_place w t.trace ask) (not (m.has_room r.asked (stack_of_event t.trace ask))) h)))
    (children_live w limits ask word)

called_live : (w : Setting) → CanBegin w → (function : ℕ) (info : Option FunctionInfo) → AllLive w (called w function info)
called_live w limits function (Some info) = (fresh_live w limits _, tt)
called_live w limits function None = tt

pub first_live : (w : Setting) → CanBegin w → (entry : Option ℕ) → AllLive w (first_thread w entry)
first_live w limits (Some function) = called_live w limits function (slice_get w.unit.functions function)
first_live w limits None = tt

-- So a thread that has ended is a thread of a run.
pub ended_live : (w : Setting) (t : Live) (end : End) → IsLive w t → t.end ≡ Some end → IsThreadRun w (thread_of t)
ended_live w t end live ended = record {
  source = live.source;
  going_on = live.going_on;
  ends = sym live.ends ∙ ended ∙ ap Some (sym (ap (λ x. unwrap_or x Stopped) ended));
  refused = live.refused;
}
