-- When each status comes, a row for each.
use Rattle.std.specs.Prelude.{◌≡◌, ◌≢◌, ◌↔◌, ℕ, ◌<◌, ◌⊎◌, true, false, List, length, Option, Some, None, IsSomeAnd}
use Rattle.built_unit.specs.Units.{UnitParts}
use Rattle.built_codegen.specs.Unit.{unit_nodes, node_limit}
use Rattle.built_form.specs.Built.{IsOfForm}
use Rattle.rt_base.specs.Outside.{FilesState, SinkState, IsContents, Rose, TakesAll}
use Rattle.c_text.specs.declared.limits.TheConstants.{SOURCE_LIMIT}
use Rattle.rtsan_core.specs.declared.finished.Finished.{Finished}
use Rattle.rtsan_core.specs.declared.reading.Reading.{Reading}
use Rattle.rtsan_core.specs.declared.status.Outcome.{Outcome}
use Rattle.rtsan_core.specs.declared.status.Status.{Status}
use Rattle.rtsan_core.specs.declared.status.Status.TheVariants.{Refused, Usage, ReadFault, WriteFault, NoMemory, Limit, Unlinked}
use Rattle.command.specs.declared.command.Command.{Command}
use Rattle.command.specs.declared.command.Job.TheVariants.{Step}
use Rattle.rtsan_core.specs.Served.{served_command, HasDefaults}
use Rattle.core_unit.specs.declared.units.Which.{Which}
use Rattle.rtsan_core.specs.Causes.{Cause, UnitTooLarge, status_of, line_of}
use Rattle.rtsan_core.specs.Rungs.{Rung, Stops, GoesOn}
use Rattle.rtsan_core.specs.Runs.{IsFinished, has_trapped, has_stopped}
use Rattle.rtsan_core.specs.Ladder.{Findings, SourceLadder, IsUndefined}
use Rattle.rtsan_core.specs.Outcomes.{Ends}

-- the statuses of which each has one line: those from 3 to 9 but the write fault
abbrev pub HasLine : Status → Type 0
HasLine Refused = Unit {0}
HasLine Usage = Unit {0}
HasLine ReadFault = Unit {0}
HasLine NoMemory = Unit {0}
HasLine Limit = Unit {0}
HasLine Unlinked = Unit {0}
HasLine status = ⊥

-- the ladder stopped with a cause: its line was printed and nothing else, and nothing is left
pub record IsStopped (ladder : Rung Findings → Type 0) (outcome : Outcome) (old new : SinkState) : Type 0 where
  pub cause : Cause
  pub reached : Ends ladder (Stops cause)
  pub status : outcome.status ≡ status_of cause
  pub line : TakesAll (line_of cause) old new
  pub left : outcome.finished ≡ None

-- the words are a command, and the count of faults of its file rose
pub record FileFailed (words : List (List ℕ)) (before after : FilesState) : Type 0 where
  pub command : Command
  pub named : served_command words ≡ Some command
  pub rose : Rose (before.faults command.file) (after.faults command.file)

-- the words are a command for a file of these contents, where they are told
pub record HasSource (words : List (List ℕ)) (files : FilesState) (command : Command) (source : List ℕ) : Type 0 where
  pub named : served_command words ≡ Some command
  pub contents : IsContents (files.contents command.file) source

-- the source has no reading
pub record HasNoReading (words : List (List ℕ)) (files : FilesState) : Type 0 where
  pub command : Command
  pub source : List ℕ
  pub has : HasSource words files command source
  pub cause : Cause
  pub stops : SourceLadder command.file source (Stops cause)
  pub status : status_of cause ≡ Refused

-- the words are a command to run a file, which is read so
pub record StepsSource (words : List (List ℕ)) (files : FilesState) (command : Command) : Type 0 where
  pub steps : command.job ≡ Step
  pub source : List ℕ
  pub has : HasSource words files command source
  pub read : Reading
  pub reads : SourceLadder command.file source (GoesOn read)

-- it isn't of the form that is run so far
pub record HasOtherForm (words : List (List ℕ)) (files : FilesState) : Type 0 where
  pub command : Command
  pub steps : StepsSource words files command
  pub other : (unit : UnitParts) → IsOfForm steps.source steps.read.tokens unit → ⊥

-- it is, as this unit
pub record StepsUnit (words : List (List ℕ)) (files : FilesState) (command : Command) (unit : UnitParts) : Type 0 where
  pub steps : StepsSource words files command
  pub formed : IsOfForm steps.source steps.read.tokens unit

-- it has options that no run carries yet
pub record HasOptions (words : List (List ℕ)) (files : FilesState) : Type 0 where
  pub command : Command
  pub unit : UnitParts
  pub steps : StepsUnit words files command unit
  pub options : HasDefaults command → ⊥

abbrev pub IsRefused : List (List ℕ) → FilesState → Type 0
IsRefused words files = HasNoReading words files ⊎ (HasOtherForm words files ⊎ HasOptions words files)

-- it has none, so that the unit is run
pub record RunsUnit (words : List (List ℕ)) (files : FilesState) (unit : UnitParts) : Type 0 where
  pub command : Command
  pub steps : StepsUnit words files command unit
  pub plain : HasDefaults command

-- the source is too long
pub record HasLongSource (words : List (List ℕ)) (files : FilesState) : Type 0 where
  pub command : Command
  pub source : List ℕ
  pub has : HasSource words files command source
  pub long : SOURCE_LIMIT < length source

-- the source is typed, and its unit passes a limit
pub record HasLargeUnit (words : List (List ℕ)) (files : FilesState) : Type 0 where
  pub command : Command
  pub source : List ℕ
  pub has : HasSource words files command source
  pub limit : Which
  pub passes : SourceLadder command.file source (Stops (UnitTooLarge limit))

-- the code of the unit is too long
pub record HasLongCode (words : List (List ℕ)) (files : FilesState) : Type 0 where
  pub unit : UnitParts
  pub runs : RunsUnit words files unit
  pub long : node_limit < unit_nodes unit

abbrev pub IsOverLimit : List (List ℕ) → FilesState → Type 0
IsOverLimit words files = HasLongSource words files ⊎ (HasLargeUnit words files ⊎ HasLongCode words files)

-- the entry or a called function of the unit has no definition
pub record IsUnlinked (words : List (List ℕ)) (files : FilesState) : Type 0 where
  pub unit : UnitParts
  pub runs : RunsUnit words files unit
  pub name : List ℕ
  pub undefined : IsUndefined unit name

-- what is left is a run of the unit of the command's file
pub record IsRunOf (words : List (List ℕ)) (files : FilesState) (left : Finished) : Type 0 where
  pub unit : UnitParts
  pub runs : RunsUnit words files unit
  pub entry : ℕ
  pub finished : IsFinished unit entry left

-- where no write fault stands in its place, the status comes exactly where this is so
abbrev pub Exactly : (given status : Status) → Type 0 → Type 0
Exactly given status so = given ≢ WriteFault → (given ≡ status) ↔ so

-- what is left has reports
abbrev pub LeftReports : Option Finished → Type 0
LeftReports left = IsSomeAnd left (λ f. 0 < f.total)

-- what is left has no report, and a trapped thread
abbrev pub LeftTrapped : Option Finished → Type 0
LeftTrapped left = IsSomeAnd left (λ f. (f.total ≡ 0) × (has_trapped f ≡ true))

-- what is left has no report and no trapped thread, and a stopped one
abbrev pub LeftStopped : Option Finished → Type 0
LeftStopped left = IsSomeAnd left (λ f. (f.total ≡ 0) × (has_trapped f ≡ false) × (has_stopped f ≡ true))
