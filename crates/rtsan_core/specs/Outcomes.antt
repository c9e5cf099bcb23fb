-- The outcome of a command: its status, what it printed, and what it left, by where its ladder ends.
use Rattle.std.specs.Prelude.{◌≡◌, ℕ, List, Option, Some, None, IsSome}
use Rattle.rt_base.specs.Outside.{FilesState, SinkState, Rose, TakesAll, FailsWithin}
use Rattle.rtsan_core.specs.declared.finished.Finished.{Finished}
use Rattle.rtsan_core.specs.declared.status.Outcome.{Outcome}
use Rattle.rtsan_core.specs.declared.status.Status.{Status}
use Rattle.rtsan_core.specs.declared.status.Status.TheVariants.{WriteFault}
use Rattle.command.specs.declared.command.Command.{Command}
use Rattle.rtsan_core.specs.Served.{served_command}
use Rattle.rtsan_core.specs.Causes.{Cause, OutOfMemory, status_of, line_of}
use Rattle.rtsan_core.specs.Rungs.{Rung, Stops, GoesOn}
use Rattle.rtsan_core.specs.Runs.{Warned, Left, warned_status, warned_text, run_status, run_text}
use Rattle.rtsan_core.specs.Ladder.{Findings}

-- a status, and the whole text that is printed with it
pub record Answer : Type 0 where
  pub status : Status
  pub text : List ℕ

-- the answer of a command that stops with a cause
abbrev pub answer_of : Cause → Answer
answer_of cause = record { status = status_of cause; text = line_of cause }

-- the answer of a unit: what is warned of, and where it was run, what the run left
abbrev pub answer_by : Warned → Option Left → Answer
answer_by warned None = record { status = warned_status warned; text = warned_text warned }
answer_by warned (Some left) = record { status = run_status (warned_status warned) left.finished; text = run_text warned left }

-- the answer at the end of a ladder
abbrev pub answer_at : Rung Findings → Answer
answer_at (Stops cause) = answer_of cause
answer_at (GoesOn f) = answer_by f.warned f.left

abbrev pub finished_in : Option Left → Option Finished
finished_in None = None
finished_in (Some left) = Some left.finished

-- what is left at the end of a ladder
abbrev pub left_at : Rung Findings → Option Finished
left_at (Stops cause) = None
left_at (GoesOn f) = finished_in f.left

-- the answer was printed whole, or the sink failed within it
pub data IsPrinted (answer : Answer) (status : Status) (old new : SinkState) : Type 0 where
  Whole : status ≡ answer.status → TakesAll answer.text old new → IsPrinted answer status old new
  Cut : status ≡ WriteFault → FailsWithin answer.text old new → IsPrinted answer status old new

-- the ladder ends so, or memory doesn't suffice
pub data Ends (ladder : Rung Findings → Type 0) (end : Rung Findings) : Type 0 where
  There : ladder end → Ends ladder end
  Early : end ≡ Stops OutOfMemory → Ends ladder end

-- the outcome of a command with this ladder
pub record IsOutcome (ladder : Rung Findings → Type 0) (outcome : Outcome) (old new : SinkState) : Type 0 where
  pub end : Rung Findings
  pub reached : Ends ladder end
  pub left : outcome.finished ≡ left_at end
  pub printed : IsPrinted (answer_at end) outcome.status old new

-- nothing disturbed the command: its file tells its contents, and neither it nor the sink failed
pub record IsUndisturbed (file : List ℕ) (before after : FilesState) (old new : SinkState) : Type 0 where
  pub contents : IsSome (before.contents file)
  pub read : Rose (before.faults file) (after.faults file) → ⊥
  pub written : Rose old.faults new.faults → ⊥

-- so it is of the command of these words
pub record IsCalm (words : List (List ℕ)) (before after : FilesState) (old new : SinkState) : Type 0 where
  pub command : Command
  pub named : served_command words ≡ Some command
  pub undisturbed : IsUndisturbed command.file before after old new

-- the outcome has the one answer of the ladder: wherever it may end, this was printed whole
pub record HasTheAnswer (ladder : Rung Findings → Type 0) (outcome : Outcome) (old new : SinkState) : Type 0 where
  pub status : (end : Rung Findings) → ladder end → outcome.status ≡ (answer_at end).status
  pub text : (end : Rung Findings) → ladder end → TakesAll (answer_at end).text old new
