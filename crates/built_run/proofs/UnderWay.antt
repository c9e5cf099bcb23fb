-- A thread that is under way stays so with each event, comes nearer to its ending, and has run when it ended.
use Rattle.std.proofs.Common.{◌≡◌, ℕ, suc, ◌+◌, ◌-◌, ◌<◌, ◌≤◌, Bool, true, false, ◌||◌, List, [], ◌∷◌, Option, Some, None, Result, Ok, Err, refl, sym, ap, ◌∙◌, subst, arith, length, nat_lt, if◌then◌else◌}
use Rattle.std.specs.Prelude.{slice_get, reverse}
use Rattle.std.proofs.lemmas.Bool.Decides.{nat_tests}
use Rattle.built_unit.specs.Units.{UnitParts}
use Rattle.ctx_set.specs.declared.steps.StackStep.{StackStep}
use Rattle.built_code.specs.declared.code.Instruction.{Instruction}
use Rattle.built_code.specs.declared.code.Instruction.TheVariants.{CheckHalt, EnterFunction, ReachFunction, SetValue, LeaveFunction, FailWith}
use Rattle.built_code.specs.declared.events.TrapKind.{TrapKind}
use Rattle.built_code.specs.declared.events.Finish.TheVariants.{Returned, Trapped}
use Rattle.built_code.specs.declared.events.Ask.{Ask}
use Rattle.built_code.specs.declared.events.Ask.TheVariants.{Load, Store, Exchange, FetchAdd, FetchSub, Enter, Leave, Reach, Create, Out, Trap, Over}
use Rattle.built_code.specs.declared.thread.Mode.{Mode}
use Rattle.built_code.specs.declared.thread.Mode.TheVariants.{Starting, Entering, Running as RunningMode, Failing, Giving, Telling, Stopping, Done}
use Rattle.built_code.specs.Words.{halt}
use Rattle.built_code.specs.Steps.{is_quiet, asked, answered}
use Rattle.built_code.specs.Machine.{Program, Machine, move, moves, does, enters, way_in, park, machine_next, machine_after, cut_short}
use Rattle.built_code.specs.Bounds.{frame_count}
use Rattle.built_code.proofs.Parking.{park_loud}
use Rattle.built_code.proofs.Counting.{frames_counted}
use Rattle.built_model.specs.declared.runs.Made.{Made}
use Rattle.built_model.specs.declared.runs.End.TheVariants.{Stopped}
use Rattle.built_model.specs.Source.{State, after, cut}
use Rattle.built_model.specs.Context.{framed, frames_after, is_report, report_stacks}
use Rattle.built_model.specs.Replay.{answer_of, words_after}
use Rattle.built_model.specs.Run.{event_limit, unless_report, state_after, is_ending, ending}
use Rattle.built_run.specs.UnderWay.{GoesAlike, CutsAlike, machine_behind, events_left, left_behind, HasReported, HasMade}

left_most : (m : Mode) (events : ℕ) → events_left m events ≤ event_limit - events + 3
left_most (Starting function) events = omega arith
left_most (Entering function) events = omega arith
left_most RunningMode events = omega arith
left_most (Failing kind) events = omega arith
left_most Giving events = omega arith
left_most Telling events = omega arith
left_most (Stopping finish) events = omega arith
left_most (Done finish) events = omega arith

-- a thread that hasn't ended, and is in no ending, is below the limit
below_limit : (b : Bool) (events : ℕ) → b ≡ false → (if b || nat_lt events event_limit then None else Some Stopped) ≡ None → events < event_limit
below_limit true events q h = cc
below_limit false events q h = chosen (nat_lt events event_limit) refl h
  where
    chosen : (b : Bool) → nat_lt events event_limit ≡ b → (if b then None else Some Stopped) ≡ None → events < event_limit
    chosen true e h = grind (arith, nat_tests)
    chosen false e h = cc

open_below : (ask : Ask) (events : ℕ) → is_ending ask ≡ false → ending ask events ≡ None → events < event_limit
open_below (Load at) events q h = below_limit false events q h
open_below (Store at word) events q h = below_limit (is_ending (Store at word)) events q h
open_below (Exchange at old new) events q h = below_limit false events q h
open_below (FetchAdd at n) events q h = below_limit false events q h
open_below (FetchSub at n) events q h = below_limit false events q h
open_below (Enter function site) events q h = below_limit false events q h
open_below Leave events q h = below_limit false events q h
open_below (Reach target site) events q h = below_limit false events q h
open_below (Create function argument) events q h = below_limit false events q h
open_below (Out byte) events q h = below_limit false events q h
open_below (Trap kind) events q h = cc
open_below (Over finish) events q h = cc

-- what an event of a thread in its ending is: no report, and no function is entered or left
abbrev pub IsPlain : UnitParts → List StackStep → Ask → Type 0
IsPlain u frames ask = (is_report u frames ask ≡ false) × (framed ask frames ≡ frames)

late_plain : (u : UnitParts) (frames : List StackStep) (c : Program) (t : Machine) (m : Mode) (events : ℕ) → events_left m events ≤ 2 → IsPlain u frames (asked (moves c t m))
late_plain u frames c t (Starting function) events low = absurd (omega arith)
late_plain u frames c t (Entering function) events low = absurd (omega arith)
late_plain u frames c t RunningMode events low = absurd (omega arith)
late_plain u frames c t (Failing kind) events low = (refl, refl)
late_plain u frames c t Giving events low = (refl, refl)
late_plain u frames c t Telling events low = (refl, refl)
late_plain u frames c t (Stopping finish) events low = (refl, refl)
late_plain u frames c t (Done finish) events low = (refl, refl)

enters_open : (t : Machine) (function site back : ℕ) (way : Result ℕ TrapKind) → is_ending (asked (enters t function site back way)) ≡ false
enters_open t function site back (Ok pc) = refl
enters_open t function site back (Err kind) = refl

does_open : (c : Program) (t : Machine) (i : Option Instruction) → is_ending (asked (does c t i)) ≡ false
does_open c t (Some CheckHalt) = refl
does_open c t (Some (EnterFunction function site)) =
    enters_open t function site (t.pc + 1) (way_in c t function)
does_open c t (Some (ReachFunction function)) = refl
does_open c t (Some (SetValue number)) = refl
does_open c t (Some LeaveFunction) = refl
does_open c t (Some (FailWith kind)) = refl
does_open c t None = refl

-- what follows an event of an ending is parked where it comes to
after_late : (c : Program) (t : Machine) (word : ℕ) (m to : Mode) → t.mode ≡ m → answered (moves c t m) t word ≡ record t { mode = to } → is_quiet (moves c (record t { mode = to }) to) ≡ false → (machine_after c t word).mode ≡ to
after_late c t word m to e a q =
    let came : answered (move c t) t word ≡ record t { mode = to } = ap (λ x. answered (moves c t x) t word) e ∙ a in
    ap (λ x. (park c (length c.instructions + 2) x).mode) came ∙ ap (λ x. x.mode) (park_loud c (length c.instructions + 2) (record t { mode = to }) q)

early_falls : (to : Mode) (ask : Ask) (events : ℕ) → is_ending ask ≡ false → ending ask events ≡ None → events_left to (suc events) < event_limit - events + 3
early_falls to ask events q h = omega (arith, open_below ask events q h, left_most to (suc events))

late_falls : (came to : Mode) (events n : ℕ) → came ≡ to → events_left to (suc events) < n → events_left came (suc events) < n
late_falls came to events n e low = subst (λ m. events_left m (suc events) < n) (sym e) low

pub turn_falls : (u : UnitParts) (frames : List StackStep) (c : Program) (t : Machine) (m : Mode) (word events : ℕ) → t.mode ≡ m → ending (asked (moves c t m)) events ≡ None → events_left (unless_report (is_report u frames (asked (moves c t m))) cut_short (machine_after c t word)).mode (suc events) < events_left m events
turn_falls u frames c t (Starting function) word events e h = early_falls _ (Load halt) events refl h
turn_falls u frames c t (Entering function) word events e h =
    early_falls _ (asked (moves c t (Entering function))) events (enters_open t function 0 0 (way_in c t function)) h
turn_falls u frames c t RunningMode word events e h =
    early_falls _ (asked (moves c t RunningMode)) events (does_open c t (slice_get c.instructions t.pc)) h
turn_falls u frames c t (Failing kind) word events e h =
    late_falls _ (Stopping (Trapped kind)) events 2 (after_late c t word (Failing kind) (Stopping (Trapped kind)) e refl refl) (omega arith)
turn_falls u frames c t Giving word events e h =
    late_falls _ Telling events 2 (after_late c t word Giving Telling e refl refl) (omega arith)
turn_falls u frames c t Telling word events e h =
    late_falls _ (Done Returned) events 1 (after_late c t word Telling (Done Returned) e refl refl) (omega arith)
turn_falls u frames c t (Stopping finish) word events e h =
    late_falls _ (Done finish) events 1 (after_late c t word (Stopping finish) (Done finish) e refl refl) (omega arith)
turn_falls u frames c t (Done finish) word events e h = cc

-- both go on alike after an event, also where both are cut short
alike_on : (u : UnitParts) (c : Program) (s : State) (t : Machine) (word : ℕ) (report : Bool) → GoesAlike u c s t → (report ≡ true → CutsAlike u c s t) → GoesAlike u c (unless_report report cut (after u s word)) (unless_report report cut_short (machine_after c t word))
alike_on u c s t word true goes cuts = λ answers. cuts refl (word ∷ []) answers
alike_on u c s t word false goes cuts = λ answers. goes (word ∷ answers)

-- a report enters and leaves no function
report_plain : (u : UnitParts) (frames : List StackStep) (ask : Ask) → is_report u frames ask ≡ true → framed ask frames ≡ frames
report_plain u frames (Load at) q = refl
report_plain u frames (Store at word) q = refl
report_plain u frames (Exchange at old new) q = refl
report_plain u frames (FetchAdd at n) q = refl
report_plain u frames (FetchSub at n) q = refl
report_plain u frames (Enter function site) q = cc
report_plain u frames Leave q = cc
report_plain u frames (Reach target site) q = refl
report_plain u frames (Create function argument) q = refl
report_plain u frames (Out byte) q = refl
report_plain u frames (Trap kind) q = refl
report_plain u frames (Over finish) q = refl

framed_counted : (ask : Ask) (frames : List StackStep) → length (framed ask frames) ≡ frame_count ask (length frames)
framed_counted (Load at) frames = refl
framed_counted (Store at word) frames = refl
framed_counted (Exchange at old new) frames = refl
framed_counted (FetchAdd at n) frames = refl
framed_counted (FetchSub at n) frames = refl
framed_counted (Enter function site) frames = omega arith
framed_counted Leave [] = refl
framed_counted Leave (step ∷ frames) = omega arith
framed_counted (Reach target site) frames = refl
framed_counted (Create function argument) frames = refl
framed_counted (Out byte) frames = refl
framed_counted (Trap kind) frames = refl
framed_counted (Over finish) frames = refl

cut_counted : (report : Bool) (t : Machine) → length (unless_report report cut_short t).frames ≡ length t.frames
cut_counted true t = refl
cut_counted false t = refl

module _ (u : UnitParts) (c : Program) (before : List Made) (word : ℕ) where
  abbrev machine : Machine
  machine = machine_behind u c before

  abbrev asks : Ask
  asks = machine_next c machine

  abbrev frames : List StackStep
  frames = frames_after before

  abbrev more : List Made
  more = record { ask = asks; word = word } ∷ before

  falls : ending asks (length before) ≡ None → left_behind u c more < left_behind u c before
  falls o = turn_falls u frames c machine machine.mode word (length before) refl o

  reports_on : (reported report : Bool) → is_report u frames asks ≡ report → ending asks (length before) ≡ None → HasReported reported u c before → HasReported (reported || report) u c more
  reports_on false false q o h = rw q (h.0, λ answers. h.1 (word ∷ answers))
  reports_on false true q o h = rw q (stacks (report_plain u frames asks q) h.0, omega arith)
    where
      stacks : framed asks frames ≡ frames → report_stacks u before ≡ [] → reverse frames ∷ report_stacks u before ≡ reverse (framed asks frames) ∷ []
      stacks e h = cc
  reports_on true false q o h =
      let plain : IsPlain u frames asks = late_plain u frames c machine machine.mode (length before) h.1 in
      let less = falls o in
      (rw q (h.0 ∙ ap (λ x. reverse x ∷ []) (sym plain.1)), omega (arith, less, h.1))
  reports_on true true q o h =
      let plain : IsPlain u frames asks = late_plain u frames c machine machine.mode (length before) h.1 in cc

  cuts : (reported : Bool) → HasReported reported u c before → is_report u frames asks ≡ true → CutsAlike u c (state_after u 0 c.entry before) machine
  cuts false h q = h.1
  cuts true h q =
      let plain : IsPlain u frames asks = late_plain u frames c machine machine.mode (length before) h.1 in
      let clash : ⊥ = cc in absurd clash

  made_next : (reported : Bool) → HasMade u c reported before → word ≡ answer_of asks (words_after before) → ending asks (length before) ≡ None → HasMade u c (reported || is_report u frames asks) more
  made_next reported h w o = record {
    source = (sym (h.alike []), h.source);
    legal = (w, h.legal);
    going_on = (subst (λ x. ending x (length before) ≡ None) (h.alike []) o, h.going_on);
    alike = alike_on u c (state_after u 0 c.entry before) machine word (is_report u frames asks) h.alike (cuts reported h.reports);
    reports = reports_on reported (is_report u frames asks) refl o h.reports;
    depth = framed_counted asks frames ∙ ap (frame_count asks) h.depth ∙ sym (frames_counted c machine word) ∙ sym (cut_counted (is_report u frames asks) (machine_after c machine word));
    few = omega (arith, falls o, h.few);
  }

-- the trace of a thread under way, with one event more
pub made_more : (u : UnitParts) (c : Program) (reported : Bool) (before : List Made) (ask : Ask) (word : ℕ) → HasMade u c reported before → ask ≡ machine_next c (machine_behind u c before) → word ≡ answer_of ask (words_after before) → ending ask (length before) ≡ None → HasMade u c (reported || is_report u (frames_after before) ask) (record { ask = ask; word = word } ∷ before)
made_more u c reported before ask word h e w o =
    subst (λ a. word ≡ answer_of a (words_after before) → ending a (length before) ≡ None → HasMade u c (reported || is_report u (frames_after before) a) (record { ask = a; word = word } ∷ before)) (sym e) (made_next u c before word reported h) w o
