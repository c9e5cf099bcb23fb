-- A run of one thread: a trace of the source thread over a legal history of the memory, up to its ending (this project's
-- own rules on events and endings). Traces stand with the latest event first.
use Rattle.std.specs.Prelude.{◌≡◌, ℕ, Bool, true, false, not, ◌||◌, List, [], ◌∷◌, length, Option, Some, None, nat_lt, if◌then◌else◌}
use Rattle.built_unit.specs.Units.{UnitParts}
use Rattle.built_code.specs.declared.events.Ask.{Ask}
use Rattle.built_code.specs.declared.events.Ask.TheVariants.{Store, Trap, Over}
use Rattle.built_code.specs.declared.events.Finish.{Finish}
use Rattle.built_code.specs.declared.events.Finish.TheVariants.{Returned as FinishReturned, Exited as FinishExited, Trapped as FinishTrapped, Halted as FinishHalted}
use Rattle.built_code.specs.Words.{halt}
use Rattle.built_code.specs.Machine.{Program, Machine, machine_after, started, cut_short}
use Rattle.command.specs.declared.limits.TheConstants.{EVENT_LIMIT, WAIT_LIMIT}
use Rattle.built_model.specs.declared.runs.Made.{Made}
use Rattle.built_model.specs.declared.runs.End.{End}
use Rattle.built_model.specs.declared.runs.End.TheVariants.{Returned, Exited, Trapped, Halted, Stopped}
use Rattle.built_model.specs.Source.{State, next, after, start, cut}
use Rattle.built_model.specs.Context.{frames_after, is_report}
use Rattle.built_model.specs.Replay.{IsLegal}

-- so many events a thread makes where no ending comes before
abbrev pub event_limit : ℕ
event_limit = EVENT_LIMIT

-- so many failed tries in a row a thread makes at one call (no call of this form is tried)
abbrev pub wait_limit : ℕ
wait_limit = WAIT_LIMIT

-- a report cuts the thread short, as `halt_on_error`, which is the default, says
abbrev pub unless_report : {S : Type 0} → Bool → (cut : S → S) → S → S
unless_report true cut s = cut s
unless_report false cut s = s

-- the state after a trace, by its answers, for a thread that goes on by `after` and is cut short by `cut`
abbrev pub moved : {S : Type 0} → UnitParts → (after : S → ℕ → S) → (cut : S → S) → S → List Made → S
moved u after cut s [] = s
moved u after cut s (made ∷ before) =
    unless_report (is_report u (frames_after before) made.ask) cut (after (moved u after cut s before) made.word)

-- the source thread of this number after a trace from its first function
abbrev pub state_after : UnitParts → (number function : ℕ) → List Made → State
state_after u number function trace = moved u (after u) cut (start number function) trace

-- the plain machine of the thread of this number after a trace from its first function
abbrev pub machine_after_trace : UnitParts → Program → (number function : ℕ) → List Made → Machine
machine_after_trace u c number function trace = moved u (machine_after c) cut_short (started number function) trace

-- each event is the next one of the state before it
abbrev pub IsSourceRun : UnitParts → (number function : ℕ) → List Made → Type 0
IsSourceRun u number function [] = Unit {0}
IsSourceRun u number function (made ∷ before) =
    (next u (state_after u number function before) ≡ made.ask) × IsSourceRun u number function before

abbrev pub end_of : Finish → End
end_of FinishReturned = Returned
end_of (FinishExited number) = Exited number
end_of (FinishTrapped kind) = Trapped kind
end_of FinishHalted = Halted

-- with this event an ending has begun: a trap, or a store behind the addresses of objects
abbrev pub is_ending : Ask → Bool
is_ending (Trap kind) = true
is_ending (Store at word) = not (nat_lt at halt)
is_ending ask = false

-- the ending of a thread with this next event, which made so many: its finish, or Stopped at the event limit, where no
-- other ending has begun; the events of an ending aren't counted against the limit
abbrev pub ending : Ask → (events : ℕ) → Option End
ending (Over finish) events = Some (end_of finish)
ending ask events = if is_ending ask || nat_lt events event_limit then None else Some Stopped

-- the ending of a thread after a trace, if it has ended
abbrev pub ending_after : UnitParts → (number function : ℕ) → List Made → Option End
ending_after u number function trace = ending (next u (state_after u number function trace)) (length trace)

-- before each of the events the thread hadn't ended
abbrev pub IsGoingOn : UnitParts → (number function : ℕ) → List Made → Type 0
IsGoingOn u number function [] = Unit {0}
IsGoingOn u number function (made ∷ before) =
    (ending_after u number function before ≡ None) × IsGoingOn u number function before

-- The trace is a run of a unit from its entry, as one thread, with this ending. There is one, and it is the scheduled run.
pub record IsRun (u : UnitParts) (entry : ℕ) (trace : List Made) (end : End) : Type 0 where
  pub source : IsSourceRun u 0 entry trace
  pub legal : IsLegal trace
  pub going_on : IsGoingOn u 0 entry trace
  pub ends : ending_after u 0 entry trace ≡ Some end
