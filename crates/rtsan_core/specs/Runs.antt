-- What a run leaves, and the status and the text that it has.
use Rattle.std.specs.Prelude.{◌≡◌, ℕ, Bool, true, false, nat_lt, List, [], ◌∷◌, ◌++◌, length, codes}
use Rattle.std.specs.List.{flat_map, list_any}
use Rattle.built_unit.specs.Units.{UnitParts}
use Rattle.core_unit.specs.declared.tables.UnitParts.{UnitParts as Typed}
use Rattle.type_rules.specs.declared.notes.TypeWarning.{TypeWarning}
use Rattle.unit_check.specs.Verdicts.{Report}
use Rattle.unit_check.specs.declared.verdicts.Warning.{Warning}
use Rattle.warning_text.specs.WarningText.{warnings_text}
use Rattle.built_code.specs.Machine.{Program}
use Rattle.built_reports.specs.RunText.{reports_text, thread_line}
use Rattle.built_reports.specs.Totals.{counted}
use Rattle.built_model.specs.declared.runs.End.{End}
use Rattle.built_model.specs.declared.runs.End.TheVariants.{Trapped as EndTrapped, Stopped as EndStopped, Waiting, Full}
use Rattle.built_model.specs.Follows.{Behaves}
use Rattle.built_model.specs.Context.{report_stacks}
use Rattle.built_model.specs.Run.{IsRun, machine_after_trace}
use Rattle.rtsan_core.specs.declared.finished.Ended.{Ended}
use Rattle.rtsan_core.specs.declared.finished.Finished.{Finished}
use Rattle.rtsan_core.specs.declared.status.Status.{Status}
use Rattle.rtsan_core.specs.declared.status.Status.TheVariants.{Clean, Warned as StatusWarned, Reported, Trapped, Stopped}

-- what is warned of in a source: what its typing noted, in order of place, and the verdicts of the check
pub record Warned : Type 0 where
  pub file : List ℕ
  pub source : List ℕ
  pub unit : Typed
  pub noted : List TypeWarning
  pub verdicts : Report

-- what a run left of a unit of the form that is run so far
pub record Left : Type 0 where
  pub unit : UnitParts
  pub finished : Finished

-- the entry of a run is the function `main` (C17 5.1.2.2.1)
abbrev pub entry_name : List ℕ
entry_name = codes "main"

-- what is left of the one thread: its trace is the run of the unit from the entry, the machine is where that trace led the
-- code, and the numbers are those of the trace; nothing suppresses a report yet
pub record IsEndedThread (unit : UnitParts) (code : Program) (entry : ℕ) (ended : Ended) : Type 0 where
  pub number : ended.number ≡ 0
  pub run : IsRun unit entry ended.trace ended.end
  pub machine : ended.machine ≡ machine_after_trace unit code 0 entry ended.trace
  pub events : ended.events ≡ length ended.trace
  pub reports : ended.reports ≡ length (report_stacks unit ended.trace)
  pub suppressed : ended.suppressed ≡ 0

-- what a run of the unit from its entry leaves: code that does what the source does, its one thread, and totals that are
-- the sums over its trace
pub record IsFinished (unit : UnitParts) (entry : ℕ) (finished : Finished) : Type 0 where
  pub behaves : Behaves unit finished.code
  pub starts : finished.code.entry ≡ entry
  pub ended : Ended
  pub threads : finished.threads ≡ ended ∷ []
  pub thread : IsEndedThread unit finished.code entry ended
  pub stacks : finished.stacks ≡ counted (report_stacks unit ended.trace)
  pub total : finished.total ≡ length (report_stacks unit ended.trace)
  pub unique : finished.unique ≡ length finished.stacks
  pub suppressed : finished.suppressed ≡ 0

abbrev pub is_full : End → Bool
is_full Full = true
is_full end = false

abbrev pub is_trapped : End → Bool
is_trapped (EndTrapped kind) = true
is_trapped end = false

abbrev pub is_stopped : End → Bool
is_stopped EndStopped = true
is_stopped Waiting = true
is_stopped end = false

abbrev pub has_full : Finished → Bool
has_full finished = list_any (λ thread. is_full thread.end) finished.threads

abbrev pub has_trapped : Finished → Bool
has_trapped finished = list_any (λ thread. is_trapped thread.end) finished.threads

abbrev pub has_stopped : Finished → Bool
has_stopped finished = list_any (λ thread. is_stopped thread.end) finished.threads

-- warned where the typing noted something, or the check found a violation
abbrev pub status_with : List TypeWarning → List Warning → Status
status_with [] [] = Clean
status_with [] (warning ∷ warnings) = StatusWarned
status_with (note ∷ notes) warnings = StatusWarned

abbrev pub warned_status : Warned → Status
warned_status warned = status_with warned.noted warned.verdicts.warnings

-- the first that applies: reported (or no room for a report), trapped, stopped, and else what the warnings say
abbrev pub status_by : (reported full trapped stopped : Bool) → Status → Status
status_by true full trapped stopped otherwise = Reported
status_by false true trapped stopped otherwise = Reported
status_by false false true stopped otherwise = Trapped
status_by false false false true otherwise = Stopped
status_by false false false false otherwise = otherwise

-- the status of a run, by what it left, and else by what is warned of
abbrev pub run_status : (warned : Status) → Finished → Status
run_status warned finished =
    status_by (nat_lt 0 finished.total) (has_full finished) (has_trapped finished) (has_stopped finished) warned

-- how the threads ended, a line for each
abbrev pub endings_text : List Ended → List ℕ
endings_text threads = flat_map (λ thread. thread_line thread.number thread.end) threads

-- the text of what is warned of
abbrev pub warned_text : Warned → List ℕ
warned_text warned = warnings_text (record { file = warned.file; bytes = warned.source }) warned.unit warned.noted warned.verdicts

-- the text of a run: what is warned of, the reports, and the endings
unfoldable pub run_text : Warned → Left → List ℕ
run_text warned left =
    warned_text warned ++ (reports_text warned.source left.unit left.finished.stacks ++ endings_text left.finished.threads)
