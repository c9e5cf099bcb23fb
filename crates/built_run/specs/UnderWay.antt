-- A thread under way: what its trace is so far, and what the runner holds against it. Traces and frames stand with the
-- latest first.
use Rattle.std.specs.Prelude.{◌≡◌, ℕ, ◌+◌, ◌-◌, ◌≤◌, Bool, true, false, ◌||◌, List, [], ◌∷◌, length, reverse}
use Rattle.built_unit.specs.Units.{UnitParts}
use Rattle.built_code.specs.declared.events.Ask.{Ask}
use Rattle.built_code.specs.declared.thread.Mode.{Mode}
use Rattle.built_code.specs.declared.thread.Mode.TheVariants.{Starting, Entering, Running as RunningMode, Failing, Giving, Telling, Stopping, Done}
use Rattle.built_code.specs.Steps.{reached}
use Rattle.built_code.specs.Machine.{Program, Machine, machine_next, machine_after, cut_short}
use Rattle.built_model.specs.declared.runs.Made.{Made}
use Rattle.built_model.specs.Source.{State, next, after, cut}
use Rattle.built_model.specs.Context.{framed, frames_after, is_report, report_stacks}
use Rattle.built_model.specs.Replay.{answer_of, changed, words_after, IsLegal}
use Rattle.built_model.specs.Run.{event_limit, unless_report, state_after, machine_after_trace, IsSourceRun, IsGoingOn}
use Rattle.built_run.specs.Functions.{IsCounted}
use Rattle.built_run.specs.declared.running.Running.{Running}

-- the machine goes on as the source thread: for each list of answers both come to the same next event
abbrev pub GoesAlike : UnitParts → Program → State → Machine → Type 0
GoesAlike u c s t =
    (answers : List ℕ) → machine_next c (reached (machine_after c) t answers) ≡ next u (reached (after u) s answers)

-- they go on alike also where both are cut short after some answers
abbrev pub CutsAlike : UnitParts → Program → State → Machine → Type 0
CutsAlike u c s t =
    (answers : List ℕ) → GoesAlike u c (cut (reached (after u) s answers)) (cut_short (reached (machine_after c) t answers))

-- the machine of a unit's thread after a trace from the entry
abbrev pub machine_behind : UnitParts → Program → List Made → Machine
machine_behind u c trace = machine_after_trace u c 0 c.entry trace

-- more events than so many don't come: those up to the limit, and then those of an ending, which are two at most
abbrev pub events_left : Mode → (events : ℕ) → ℕ
events_left (Starting function) events = event_limit - events + 3
events_left (Entering function) events = event_limit - events + 3
events_left RunningMode events = event_limit - events + 3
events_left (Failing kind) events = 2
events_left Giving events = 2
events_left Telling events = 1
events_left (Stopping finish) events = 1
events_left (Done finish) events = 0

-- what is left after a trace
abbrev pub left_behind : UnitParts → Program → List Made → ℕ
left_behind u c trace = events_left (machine_behind u c trace).mode (length trace)

-- a thread without a report can still be cut short; one that made a report made no other, is in its ending, and stays in
-- the functions in which the report was made
abbrev pub HasReported : Bool → UnitParts → Program → List Made → Type 0
HasReported false u c trace =
    (report_stacks u trace ≡ []) × CutsAlike u c (state_after u 0 c.entry trace) (machine_behind u c trace)
HasReported true u c trace =
    (report_stacks u trace ≡ reverse (frames_after trace) ∷ []) × (left_behind u c trace ≤ 2)

-- what is true of the trace of a thread under way
pub record HasMade (u : UnitParts) (c : Program) (reported : Bool) (trace : List Made) : Type 0 where
  pub source : IsSourceRun u 0 c.entry trace
  pub legal : IsLegal trace
  pub going_on : IsGoingOn u 0 c.entry trace
  pub alike : GoesAlike u c (state_after u 0 c.entry trace) (machine_behind u c trace)
  pub reports : HasReported reported u c trace
  pub depth : length (frames_after trace) ≡ length (machine_behind u c trace).frames
  pub few : length trace + left_behind u c trace ≤ event_limit + 3

-- a runner holds what its trace has made of the machine, the memory and the context
pub record IsUnderWay (u : UnitParts) (c : Program) (r : Running) : Type 0 where
  pub thread : r.thread ≡ machine_behind u c r.trace
  pub words : r.memory ≡ words_after r.trace
  pub frames : r.context.frames ≡ frames_after r.trace
  pub counted : IsCounted u r.context
  pub events : r.events ≡ length r.trace
  pub made : HasMade u c r.reported r.trace

-- an event is made: the memory answers it, the thread goes on by the answer, and is cut short at a report
pub record MakesEvent (u : UnitParts) (c : Program) (ask : Ask) (old new : Running) : Type 0 where
  pub thread : new.thread ≡ unless_report (is_report u old.context.frames ask) cut_short (machine_after c old.thread (answer_of ask old.memory))
  pub words : new.memory ≡ changed ask old.memory
  pub frames : new.context.frames ≡ framed ask old.context.frames
  pub counted : IsCounted u new.context
  pub trace : new.trace ≡ record { ask = ask; word = answer_of ask old.memory } ∷ old.trace
  pub events : new.events ≡ old.events + 1
  pub reported : new.reported ≡ (old.reported || is_report u old.context.frames ask)
