-- What the code found where it stands on the ladder.
use Rattle.std.specs.Prelude.{◌≡◌, ℕ, ◌<◌, ◌≤◌, ◌⊎◌, List, All, length}
use Rattle.std.specs.Option.{option_to_list}
use Rattle.c_text.specs.declared.Token.{Token}
use Rattle.c_text.specs.Spelling.{IsWithin, IsInOrder}
use Rattle.c_tree.specs.declared.statements.Tree.{Tree}
use Rattle.built_codegen.specs.declared.compiling.CompileRefusal.{CompileRefusal}
use Rattle.built_codegen.specs.declared.compiling.CompileRefusal.TheVariants.{NoEntry, Undefined as UndefinedFunction, Long, NoMemory as NoMemoryToCompile}
use Rattle.built_unit.specs.Units.{UnitParts}
use Rattle.eff_text.specs.WarningText.{function_name}
use Rattle.unit_check.specs.Verdicts.{AreVerdicts}
use Rattle.rt_base.specs.Outside.{FilesState, SinkState, IsContents, Rose}
use Rattle.built_model.specs.declared.runs.Made.{Made}
use Rattle.built_model.specs.declared.runs.End.{End}
use Rattle.built_model.specs.Run.{IsRun}
use Rattle.built_run.specs.declared.running.Ran.{Ran}
use Rattle.rtsan_core.specs.declared.finished.Ended.{Ended}
use Rattle.rtsan_core.specs.declared.reading.Found.{Found}
use Rattle.rtsan_core.specs.declared.reading.Reading.{Reading}
use Rattle.rtsan_core.specs.declared.reading.Refusal.{Refusal}
use Rattle.rtsan_core.specs.declared.reading.Refusal.TheVariants.{ReadFault, TooLong, Misspelled, Unread, Untyped, TooLarge, NoMemory}
use Rattle.rtsan_core.specs.Causes.{Cause, Unreadable, SourceTooLong, Misspelled as IsMisspelled, Unread as IsUnread, Untyped as IsUntyped, UnitTooLarge, Undefined, CodeTooLong, OutOfMemory}
use Rattle.rtsan_core.specs.Rungs.{Rung, Stops, GoesOn}
use Rattle.rtsan_core.specs.Runs.{entry_name, Warned}
use Rattle.rtsan_core.specs.Ladder.{Findings, warned_in, IsSpelling, IsGrammar, SourceLadder}
use Rattle.rtsan_core.specs.Outcomes.{IsPrinted, answer_at, left_at}
use Rattle.rtsan_core.specs.declared.status.Outcome.{Outcome}
use Rattle.c_text.specs.declared.limits.TheConstants.{SOURCE_LIMIT}

-- a rung comes to this, and whatever else it may come to looks the same
pub record Gives {V B : Type 0} (seen : Rung V → B) (rung : Rung V → Type 0) (end : Rung V) : Type 0 where
  pub is : rung end
  pub only : (other : Rung V) → rung other → seen other ≡ seen end

abbrev pub itself : {V : Type 0} → Rung V → Rung V
itself end = end

-- a rung comes to this and to nothing else
abbrev pub Is : {V : Type 0} → (Rung V → Type 0) → Rung V → Type 0
Is rung end = Gives itself rung end

-- the source is spelled as these tokens
pub record AreTheTokens (source : List ℕ) (tokens : List Token) : Type 0 where
  pub spelled : (file : List ℕ) → Is (IsSpelling file source) (GoesOn tokens)
  pub within : All (IsWithin source) tokens
  pub few : length tokens ≤ length source
  pub ordered : IsInOrder tokens

-- the grammar reads them as this tree
pub record IsTheTree (source : List ℕ) (tokens : List Token) (tree : Tree) : Type 0 where
  pub parsed : (file : List ℕ) → Is (IsGrammar file source tokens) (GoesOn tree)

-- the source is read so
pub record IsReadAs (source : List ℕ) (read : Reading) : Type 0 where
  pub reads : (file : List ℕ) → Is (SourceLadder file source) (GoesOn read)
  pub within : All (IsWithin source) read.tokens
  pub few : length read.tokens ≤ length source
  pub ordered : IsInOrder read.tokens

-- the cause that a refusal tells of a file
abbrev pub cause_of : List ℕ → Refusal → Cause
cause_of file ReadFault = Unreadable file
cause_of file TooLong = SourceTooLong
cause_of file (Misspelled number line column) = IsMisspelled file (record { line = line; column = column }) number
cause_of file (Unread number line column) = IsUnread file (record { line = line; column = column }) number
cause_of file (Untyped number line column) = IsUntyped file (record { line = line; column = column }) number
cause_of file (TooLarge limit) = UnitTooLarge limit
cause_of file NoMemory = OutOfMemory

-- the source stops with the cause of the refusal; want of memory says nothing
abbrev pub IsRefusedFor : List ℕ → Refusal → Type 0
IsRefusedFor source ReadFault = ⊥
IsRefusedFor source NoMemory = Unit {0}
IsRefusedFor source refusal = (file : List ℕ) → Is (SourceLadder file source) (Stops (cause_of file refusal))

-- so does what the files have under a name, or its count of faults rose
abbrev pub IsFileRefused : (before after : FilesState) → List ℕ → Refusal → Type 0
IsFileRefused before after file ReadFault = Rose (before.faults file) (after.faults file)
IsFileRefused before after file NoMemory = Unit {0}
IsFileRefused before after file refusal = (source : List ℕ) × IsContents (before.contents file) source × Is (SourceLadder file source) (Stops (cause_of file refusal))

-- the source is read so, and these are the verdicts of its unit
pub record IsReady (found : Found) : Type 0 where
  pub verdicts : AreVerdicts found.read.unit found.verdicts
  pub short : length found.source ≤ SOURCE_LIMIT
  pub read : IsReadAs found.source found.read

-- the file has this source
pub record IsFound (files : FilesState) (file : List ℕ) (found : Found) : Type 0 where
  pub contents : IsContents (files.contents file) found.source
  pub ready : IsReady found

-- what is warned of in a file of which this was found
abbrev pub warned_of : List ℕ → Found → Warned
warned_of file found = warned_in file found.source found.read found.verdicts

-- the cause for which a unit isn't compiled
abbrev pub cause_to_stop : UnitParts → CompileRefusal → Cause
cause_to_stop unit NoEntry = Undefined entry_name
cause_to_stop unit (UndefinedFunction function) = Undefined (function_name unit function)
cause_to_stop unit Long = CodeTooLong
cause_to_stop unit NoMemoryToCompile = OutOfMemory

-- the function that has no definition is one of the unit
abbrev pub IsNamedIn : UnitParts → CompileRefusal → Type 0
IsNamedIn unit (UndefinedFunction function) = function < length unit.functions
IsNamedIn unit refusal = Unit {0}

-- a unit has one run from an entry: one trace and one ending
pub record HasOneRun (unit : UnitParts) : Type 0 where
  pub trace : (entry : ℕ) (some other : List Made) (end last : End) → IsRun unit entry some end → IsRun unit entry other last → some ≡ other
  pub ending : (entry : ℕ) (some other : List Made) (end last : End) → IsRun unit entry some end → IsRun unit entry other last → end ≡ last

-- the outcome of a ladder that has no other answer
pub record IsOnlyOutcome (ladder : Rung Findings → Type 0) (outcome : Outcome) (old new : SinkState) : Type 0 where
  pub end : Rung Findings
  pub reached : Gives answer_at ladder end ⊎ (end ≡ Stops OutOfMemory)
  pub left : outcome.finished ≡ left_at end
  pub printed : IsPrinted (answer_at end) outcome.status old new

-- what is left of a thread that ran alone, of which at most one report stands
abbrev pub ended_of : Ran → Ended
ended_of ran = record {
  number = 0;
  end = ran.end;
  events = ran.events;
  reports = length (option_to_list ran.report);
  suppressed = 0;
  trace = ran.trace;
  machine = ran.machine;
}
