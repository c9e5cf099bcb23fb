-- One event more: what a thread keeps belongs to its longer trace.
use Rattle.std.proofs.Common.{◌≡◌, refl, sym, ap, ◌∙◌, subst, arith, ℕ, suc, ◌+◌, ◌-◌, ◌<◌, ◌≤◌, ◌^◌, Bool, true, false, not, nat_lt, ◌&&◌, ◌||◌, if◌then◌else◌, List, [], ◌∷◌, length, drop, None, All}
use Rattle.std.proofs.lemmas.Bool.{ltb-true}
use Rattle.ctx_set.specs.declared.steps.StackStep.{StackStep}
use Rattle.machine_code.specs.Codes.{IsCode}
use Rattle.mcode.specs.Machine.{Machine, machine_next, machine_after, machine_turned, machine_cut}
use Rattle.mcode.specs.Steps.{is_event}
use Rattle.mcode.specs.declared.events.Ask.{Ask}
use Rattle.mcode.specs.declared.events.Ask.TheVariants.{Load, Store, Exchange, FetchAdd, FetchSub, Enter, Leave, Reach, Create, Out, Trap, Over}
use Rattle.mcode.specs.declared.thread.Caller.{Caller}
use Rattle.reports.specs.Stacks.{IsStep}
use Rattle.rt_ctx.specs.Frames.{disabled}
use Rattle.rt_ctx.specs.declared.context.Context.{Context}
use Rattle.src_model.proofs.Followed.{next_along, tried_along}
use Rattle.src_model.proofs.Going.{open_mark, open_event, open_limit}
use Rattle.src_model.proofs.Spent.{few_events}
use Rattle.src_model.specs.Follows.{machine_started, machine_after_trace}
use Rattle.src_model.specs.Runs.{Setting, Start, moved, moved_to, is_report_place, is_suppressed_place, is_cut, report_stacks, next_after, state_after, ending, ending_after, tries_with, tries_after, is_ending, HasItsWord}
use Rattle.src_model.specs.Source.{turned}
use Rattle.src_model.specs.Totals.{suppressed_in}
use Rattle.src_model.specs.Traces.{acts_of, frames_after, context_after}
use Rattle.src_model.specs.declared.runs.Made.{Made}
use Rattle.thread_run.proofs.Following.{frames_follow, disabled_follow, disabled_few, reports_follow, suppressed_follow, output_follow}
use Rattle.thread_run.proofs.Machines.{IsLow, next_low, steps_next, after_steps}
use Rattle.thread_run.specs.Called.{steps_in}
use Rattle.thread_run.specs.Detecting.{Seen, framed, disabled_by, depth_of, is_report, is_suppressed, is_refused, IsCounted, HasRoom}
use Rattle.thread_run.specs.Threads.{end_of}
use Rattle.thread_run.specs.UnderWay.{progress_of, IsUnderWay, MakesEvent, unless_cut, is_cut_by, end_by, one_if}
use Rattle.thread_run.specs.Worlds.{WorldParts, setting_of, CanRun}
use Rattle.thread_run.specs.Writing.{written}
use Rattle.thread_run.specs.declared.judged.Judged.{Judged}
use Rattle.thread_run.specs.declared.judged.Judged.TheVariants.{Passed, Suppressed, Reported, Refused}
use Rattle.thread_run.specs.declared.kept.Kept.{Kept}

-- the world can run, and its code is lawful
pub record IsReady (w : WorldParts) : Type 0 where
  pub can : CanRun w
  pub code : IsCode w.code

cut_open : {S : Type 0} (b : Bool) (x y : S) → (if b && not false then x else y) ≡ (if b then x else y)
cut_open true x y = refl
cut_open false x y = refl

-- where the board refused nothing, a whole trace leads where its events lead
pub moved_open : {S : Type 0} (w : Setting) (go : S → ℕ → S) (halts : S → S) (s : S) (trace : List Made) → moved_to w go halts s false trace ≡ moved w go halts s trace
moved_open w go halts s [] = refl
moved_open w go halts s (made ∷ before) =
    let t = go (moved w go halts s before) made.word in cut_open (is_cut w before made.ask) (halts t) t

unless_is : (b : Bool) (t : Machine) → unless_cut b t ≡ (if b then machine_cut t else t)
unless_is true t = refl
unless_is false t = refl

unless_callers : (b : Bool) (t : Machine) → (unless_cut b t).callers ≡ t.callers
unless_callers true t = refl
unless_callers false t = refl

-- a report place is marked
reported_place : (judged : Judged) (place : Bool) → is_report judged ≡ place → is_refused judged ≡ true → place ≡ true
reported_place Passed place e r = cc
reported_place Suppressed place e r = cc
reported_place Reported place e r = cc
reported_place Refused place e r = sym e

few_framed : (event : Ask) (callers : List Caller) (n : ℕ) (steps : List StackStep) → IsLow callers event → length callers ≡ length steps → length steps ≤ 256 → length (framed event steps) ≤ 256
few_framed (Enter function site) callers n steps low e few = omega (arith, low.2, e)
few_framed Leave callers n [] low e few = omega arith
few_framed Leave callers n (step ∷ steps) low e few = omega (arith, few)
few_framed (Load at) callers n steps low e few = few
few_framed (Store at word) callers n steps low e few = few
few_framed (Exchange at old new) callers n steps low e few = few
few_framed (FetchAdd at m) callers n steps low e few = few
few_framed (FetchSub at m) callers n steps low e few = few
few_framed (Reach target site) callers n steps low e few = few
few_framed (Create function argument) callers n steps low e few = few
few_framed (Out byte) callers n steps low e few = few
few_framed (Trap kind) callers n steps low e few = few
few_framed (Over finish) callers n steps low e few = few

room_for : (event : Ask) (callers : List Caller) (seen : Seen) → IsLow callers event → length callers ≡ length seen.frames → (is_ending event ≡ false → seen.context.disabled < 2 ^ 32 - 1) → HasRoom event seen
room_for (Enter function site) callers seen low e few = omega (arith, low.2, e)
room_for Leave callers seen low e few = tt
room_for (Load at) callers seen low e few = tt
room_for (Store at word) callers seen low e few = tt
room_for (Exchange at old new) callers seen low e few = tt
room_for (FetchAdd at m) callers seen low e few = tt
room_for (FetchSub at m) callers seen low e few = tt
room_for (Reach target site) callers seen low e few = few refl
room_for (Create function argument) callers seen low e few = tt
room_for (Out byte) callers seen low e few = tt
room_for (Trap kind) callers seen low e few = tt
room_for (Over finish) callers seen low e few = tt

below_limit : (ends low : Bool) (n limit : ℕ) → low ≡ nat_lt n limit → (ends || low) ≡ true → ends ≡ false → n < limit
below_limit true low n limit e h late = cc
below_limit false true n limit e h late = ltb-true n limit (sym e)
below_limit false false n limit e h late = cc

steps_length : (callers : List Caller) → length (steps_in callers) ≡ length callers
steps_length [] = refl
steps_length (caller ∷ callers) = ap suc (steps_length callers)

module _ (w : WorldParts) (begin : Start) (k : Kept) (ready : IsReady w) (h : IsUnderWay w begin k) (going : end_of (progress_of w begin k) ≡ None) where
  abbrev s : Setting
  s = setting_of w

  abbrev before : List Made
  before = k.trace

  -- the board refused nothing so far
  pub open_here : k.refused ≡ false
  open_here = open_mark s begin before k.refused going

  -- its machine stands where its events lead
  pub machine_here : k.machine ≡ machine_after_trace s w.code begin before
  machine_here = h.machine ∙ ap (λ b. moved_to s (machine_after w.code) machine_cut (machine_started begin) b before) open_here ∙ moved_open s (machine_after w.code) machine_cut (machine_started begin) before

  -- and shows the source's next event
  pub next_here : machine_next w.code k.machine ≡ next_after s begin before
  next_here = ap (machine_next w.code) machine_here ∙ next_along s w.code ready.can.behaves begin before

  pub open_ending : ending w.options (next_after s begin before) (length before) (tries_after s begin before) ≡ None
  open_ending = subst (λ b. ending_after s begin b before ≡ None) open_here going

  pub event_here : is_event (next_after s begin before) ≡ true
  event_here = open_event w.options (next_after s begin before) (length before) (tries_after s begin before) open_ending

  pub low_here : IsLow k.machine.callers (next_after s begin before)
  low_here = subst (IsLow k.machine.callers) next_here (next_low w.code ready.code k.machine (subst (All IsStep) h.called h.steps))

  pub callers_few : length k.machine.callers ≡ length k.detector.frames
  callers_few = sym (steps_length k.machine.callers) ∙ ap length (sym h.called) ∙ ap length (sym h.frames)

  pub disabled_here : w.options.events < 2 ^ 32 → is_ending (next_after s begin before) ≡ false → k.detector.context.disabled < 2 ^ 32 - 1
  disabled_here short late =
      let limit = open_limit w.options (next_after s begin before) (length before) (tries_after s begin before) open_ending in
      let low : length before < w.options.events = below_limit (is_ending (next_after s begin before)) (nat_lt (length before) w.options.events) (length before) w.options.events refl limit late in
      let few = disabled_few before in
      let same : k.detector.context.disabled ≡ disabled (acts_of before) = ap (λ (c : Context). c.disabled) h.context in
      omega (arith, short, low, few, same)

  pub room_here : w.options.events < 2 ^ 32 → HasRoom (next_after s begin before) k.detector
  room_here short = room_for (next_after s begin before) k.machine.callers k.detector low_here callers_few (disabled_here short)

  pub counted_here : IsCounted w.unit k.detector
  counted_here = ap (λ (c : Context). c.depth) h.context ∙ ap (depth_of w.unit) (sym h.frames)

  -- with an event more it is a source run that was going on, so there are few events
  pub few_here : length before + 1 ≤ w.options.events + 2
  few_here =
      let more : List Made = record { ask = next_after s begin before; word = 0 } ∷ before in
      let few = few_events s begin more h.number (refl, event_here, (λ _. refl), h.source) (open_ending, h.going_on) in
      omega (arith, few)

  pub reports_count : k.reports ≡ length (report_stacks s before)
  reports_count = h.reports ∙ ap (λ b. length (if b then drop 1 (report_stacks s before) else report_stacks s before)) open_here

  module _ (word : ℕ) (judged : Judged) (n : Kept) (heard : HasItsWord (record { ask = next_after s begin before; word = word })) (report : is_report judged ≡ is_report_place s before (next_after s begin before)) (suppressed : is_suppressed judged ≡ is_suppressed_place s before (next_after s begin before)) (m : MakesEvent w (next_after s begin before) word judged k n) where
    abbrev event : Ask
    event = next_after s begin before

    abbrev more : List Made
    more = record { ask = event; word = word } ∷ before

    moved_cut : unless_cut (is_cut_by w.options.halt_on_error judged) (machine_after w.code (machine_after_trace s w.code begin before) word) ≡ moved_to s (machine_after w.code) machine_cut (machine_started begin) (is_refused judged) more
    moved_cut =
        unless_is (is_cut_by w.options.halt_on_error judged) (machine_after w.code (machine_after_trace s w.code begin before) word)
        ∙ ap (λ b. if w.options.halt_on_error && b && not (is_refused judged) then machine_cut (machine_after w.code (machine_after_trace s w.code begin before) word) else machine_after w.code (machine_after_trace s w.code begin before) word) report

    machine_more : n.machine ≡ moved_to s (machine_after w.code) machine_cut (machine_started begin) (is_refused judged) more
    machine_more = m.machine ∙ ap (λ t. unless_cut (is_cut_by w.options.halt_on_error judged) (machine_after w.code t word)) machine_here ∙ moved_cut

    frames_more : framed event k.detector.frames ≡ frames_after more
    frames_more = ap (framed event) h.frames ∙ sym (frames_follow event (acts_of before))

    context_more : n.detector.context ≡ context_after w.unit more
    context_more =
        ap (λ (seen : Seen). seen.context) m.detector
        ∙ ap (λ fs. record { depth = depth_of w.unit fs; disabled = disabled_by event k.detector.context.disabled }) frames_more
        ∙ ap (λ d. record { depth = depth_of w.unit (frames_after more); disabled = d }) (ap (disabled_by event) (ap (λ (c : Context). c.disabled) h.context) ∙ sym (disabled_follow event (acts_of before)))

    tries_more : n.tries ≡ tries_after s begin more
    tries_more =
        m.tries
        ∙ ap (λ t. tries_with (machine_turned w.code t word) event k.tries) machine_here
        ∙ ap (λ t. tries_with t event k.tries) (tried_along s w.code ready.can.behaves begin before word)
        ∙ ap (λ tries. tries_with (turned w.unit (state_after s begin before) word) event tries) h.tries

    next_more : is_refused judged ≡ false → machine_next w.code n.machine ≡ next_after s begin more
    next_more e =
        ap (machine_next w.code) (machine_more ∙ ap (λ b. moved_to s (machine_after w.code) machine_cut (machine_started begin) b more) e ∙ moved_open s (machine_after w.code) machine_cut (machine_started begin) more)
        ∙ next_along s w.code ready.can.behaves begin more

    events_more : n.events ≡ length more
    events_more = m.events ∙ omega (arith, h.events)

    end_more : (b : Bool) → is_refused judged ≡ b → end_by w b (machine_next w.code n.machine) n.events n.tries ≡ ending_after s begin b more
    end_more true e = refl
    end_more false e =
        ap (λ a. ending w.options a n.events n.tries) (next_more e)
        ∙ ap (λ events. ending w.options (next_after s begin more) events n.tries) events_more
        ∙ ap (λ tries. ending w.options (next_after s begin more) (length more) tries) tries_more

    called_more : frames_after more ≡ steps_in n.machine.callers
    called_more =
        sym frames_more
        ∙ ap (framed event) (h.frames ∙ h.called)
        ∙ ap (λ a. framed a (steps_in k.machine.callers)) (sym next_here)
        ∙ sym (after_steps w.code ready.code k.machine word (subst (All IsStep) h.called h.steps))
        ∙ ap steps_in (sym (ap (λ (t : Machine). t.callers) m.machine ∙ unless_callers (is_cut_by w.options.halt_on_error judged) (machine_after w.code k.machine word)))

    steps_more : All IsStep (frames_after more)
    steps_more =
        subst (All IsStep) (ap (λ a. framed a k.detector.frames) next_here ∙ frames_more)
        (steps_next w.code ready.code k.machine k.detector.frames (h.frames ∙ h.called) (subst (All IsStep) (sym h.frames) h.steps))

    few_more : length (frames_after more) ≤ 256
    few_more = subst (λ fs. length fs ≤ 256) frames_more (few_framed event k.machine.callers 0 k.detector.frames low_here callers_few (subst (λ fs. length fs ≤ 256) (sym h.frames) h.few))

    at_more : IsUnderWay w begin (record n { trace = more; refused = is_refused judged })
    at_more = record {
      number = h.number;
      machine = machine_more;
      frames = ap (λ (seen : Seen). seen.frames) m.detector ∙ frames_more;
      context = context_more;
      reports = m.reports ∙ reports_follow s before event word judged k.reports reports_count report;
      suppressed = m.suppressed ∙ ap (λ count. count + one_if (is_suppressed judged)) h.suppressed ∙ suppressed_follow (is_suppressed judged) (is_suppressed_place s before event) (suppressed_in s before) suppressed;
      output = m.output ∙ ap (written event) h.output ∙ output_follow event before word;
      events = events_more;
      tries = tries_more;
      end = m.end ∙ end_more (is_refused judged) refl;
      source = (refl, event_here, heard, h.source);
      going_on = (open_ending, h.going_on);
      refused = reported_place judged (is_report_place s before event) report;
      called = called_more;
      steps = steps_more;
      few = few_more;
    }

    pub stays_here : IsUnderWay w begin n
    stays_here = subst (λ (x : Kept). IsUnderWay w begin x) same at_more
      where
        same : ◌≡◌ {A = Kept} (record n { trace = more; refused = is_refused judged }) n
        same = rw (sym m.trace, sym m.refused) refl
