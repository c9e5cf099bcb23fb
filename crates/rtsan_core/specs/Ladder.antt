-- The ladder of answers: what is asked of a command, one rung after the other, in this order. Each rung says when it stops,
-- and with which cause, and when it goes on, and with which value.
use Rattle.std.specs.Prelude.{◌≡◌, ℕ, ◌<◌, ◌≤◌, ◌⊎◌, List, [], length, Option, Some, None}
use Rattle.c_text.specs.declared.Token.{Token}
use Rattle.c_text.specs.Place.{line_column}
use Rattle.c_text.specs.Spelling.{IsSpelled, IsFirstFault}
use Rattle.c_tree.specs.declared.statements.Tree.{Tree}
use Rattle.c_parse.specs.Parsed.{IsParsed, IsRefusedAt}
use Rattle.type_rules.specs.Units.{Outcome, IsTyped, Breaks, Passes, outcome}
use Rattle.type_rules.specs.declared.notes.TypeWarning.{TypeWarning}
use Rattle.type_units.specs.Answers.{AreInOrder}
use Rattle.unit_check.specs.Verdicts.{Report, AreVerdicts}
use Rattle.built_unit.specs.Units.{UnitParts}
use Rattle.built_form.specs.Built.{IsOfForm}
use Rattle.built_codegen.specs.Unit.{HasNoEntry, IsEntry, IsFirstMissing, unit_nodes, node_limit}
use Rattle.eff_text.specs.WarningText.{function_name}
use Rattle.rt_base.specs.Outside.{FilesState, IsContents, Rose}
use Rattle.c_text.specs.declared.limits.TheConstants.{SOURCE_LIMIT}
use Rattle.rtsan_core.specs.declared.finished.Finished.{Finished}
use Rattle.rtsan_core.specs.declared.reading.Reading.{Reading}
use Rattle.command.specs.declared.command.Command.{Command}
use Rattle.command.specs.declared.command.Job.{Job}
use Rattle.command.specs.declared.command.Job.TheVariants.{Check, Step, Run, Gen}
use Rattle.rtsan_core.specs.Served.{served_command, HasDefaults}
use Rattle.rtsan_core.specs.Causes.{NoCommand, Unreadable, SourceTooLong, Misspelled, Unread, Untyped, UnitTooLarge, NotBuilt, Undefined, CodeTooLong}
use Rattle.rtsan_core.specs.Rungs.{Rung, Stops, GoesOn, Then}
use Rattle.rtsan_core.specs.Runs.{entry_name, IsFinished, Warned, Left}

-- the words are a command that is served
abbrev pub IsCommand : List (List ℕ) → Rung Command → Type 0
IsCommand words (Stops cause) = (served_command words ≡ None) × (cause ≡ NoCommand)
IsCommand words (GoesOn command) = served_command words ≡ Some command

-- its file is read, whose count of faults may rise meanwhile
abbrev pub IsSource : (before after : FilesState) → List ℕ → Rung (List ℕ) → Type 0
IsSource before after file (Stops cause) = Rose (before.faults file) (after.faults file) × (cause ≡ Unreadable file)
IsSource before after file (GoesOn source) = IsContents (before.contents file) source

-- the source isn't too long
abbrev pub IsShort : List ℕ → Rung (Unit {0}) → Type 0
IsShort source (Stops cause) = (SOURCE_LIMIT < length source) × (cause ≡ SourceTooLong)
IsShort source (GoesOn short) = length source ≤ SOURCE_LIMIT

-- its spelling: tokens, or a first fault
abbrev pub IsSpelling : (file source : List ℕ) → Rung (List Token) → Type 0
IsSpelling file source (Stops cause) = (number : ℕ) × (place : ℕ) × IsFirstFault source number place × (cause ≡ Misspelled file (line_column source place) number)
IsSpelling file source (GoesOn tokens) = IsSpelled source tokens

-- its grammar: a tree, or a refused token
abbrev pub IsGrammar : (file source : List ℕ) → List Token → Rung Tree → Type 0
IsGrammar file source tokens (Stops cause) = (number : ℕ) × (index : ℕ) × (place : ℕ) × IsRefusedAt source tokens number index place × (cause ≡ Unread file (line_column source place) number)
IsGrammar file source tokens (GoesOn tree) = IsParsed source tokens tree

-- its typing: a typed unit with its warnings in order of place, the first rule that is broken, or else the first limit that
-- the unit passes
abbrev pub IsTypingEnd : (file source : List ℕ) → List Token → Outcome → Rung Reading → Type 0
IsTypingEnd file source tokens (IsTyped unit noted) end =
    (warnings : List TypeWarning) × AreInOrder noted warnings × (end ≡ GoesOn (record { tokens = tokens; unit = unit; warnings = warnings }))
IsTypingEnd file source tokens (Breaks number place) end = end ≡ Stops (Untyped file (line_column source place) number)
IsTypingEnd file source tokens (Passes limit) end = end ≡ Stops (UnitTooLarge limit)

abbrev pub IsTyping : (file source : List ℕ) → List Token → Tree → Rung Reading → Type 0
IsTyping file source tokens tree end = IsTypingEnd file source tokens (outcome source [] tree) end

-- it is of the form that is run so far (a rung that goes once the whole language is run)
abbrev pub IsForm : List ℕ → List Token → Rung UnitParts → Type 0
IsForm source tokens (Stops cause) = ((unit : UnitParts) → IsOfForm source tokens unit → ⊥) × (cause ≡ NotBuilt)
IsForm source tokens (GoesOn unit) = IsOfForm source tokens unit

-- its options are those that runs carry: none but the defaults so far (a rung that goes once runs carry all)
abbrev pub IsPlain : Command → Rung (Unit {0}) → Type 0
IsPlain command (Stops cause) = (HasDefaults command → ⊥) × (cause ≡ NotBuilt)
IsPlain command (GoesOn plain) = HasDefaults command

-- the name of the entry, where it has no definition, and else of the first called function by number that has none
abbrev pub IsUndefined : UnitParts → List ℕ → Type 0
IsUndefined unit name =
    (HasNoEntry unit entry_name × (name ≡ entry_name))
    ⊎ ((HasNoEntry unit entry_name → ⊥) × ((function : ℕ) × IsFirstMissing unit (Some function) × (name ≡ function_name unit function)))

-- the unit is linked: its entry and each called function have definitions
abbrev pub IsLinked : UnitParts → Rung (Unit {0}) → Type 0
IsLinked unit (Stops cause) = (name : List ℕ) × IsUndefined unit name × (cause ≡ Undefined name)
IsLinked unit (GoesOn linked) = (HasNoEntry unit entry_name → ⊥) × IsFirstMissing unit None

-- its definitions aren't too many nodes
abbrev pub IsCode : UnitParts → Rung (Unit {0}) → Type 0
IsCode unit (Stops cause) = (node_limit < unit_nodes unit) × (cause ≡ CodeTooLong)
IsCode unit (GoesOn short) = unit_nodes unit ≤ node_limit

-- what a command prints that no cause stops: what is warned of, and where the unit was run, what the run left
pub record Findings : Type 0 where
  pub warned : Warned
  pub left : Option Left

-- what is warned of in a source that was read
abbrev pub warned_in : (file source : List ℕ) → Reading → Report → Warned
warned_in file source read verdicts = record { file = file; source = source; unit = read.unit; noted = read.warnings; verdicts = verdicts }

-- `check` finds the verdicts of the unit, and never stops here
pub data IsChecked (file source : List ℕ) (read : Reading) (end : Rung Findings) : Type 0 where
  Checked : (verdicts : Report) → AreVerdicts read.unit verdicts → end ≡ GoesOn (record { warned = warned_in file source read verdicts; left = None }) → IsChecked file source read end

-- `step` finds them, and runs the unit of the form that is built from its entry, and never stops here
pub data IsStepped (file source : List ℕ) (read : Reading) (unit : UnitParts) (end : Rung Findings) : Type 0 where
  Stepped : (verdicts : Report) → AreVerdicts read.unit verdicts → (entry : ℕ) → IsEntry unit entry_name entry → (finished : Finished) → IsFinished unit entry finished
      → end ≡ GoesOn (record { warned = warned_in file source read verdicts; left = Some (record { unit = unit; finished = finished }) }) → IsStepped file source read unit end

-- from a source to its typed unit
abbrev pub SourceLadder : (file source : List ℕ) → Rung Reading → Type 0
SourceLadder file source =
    Then (IsShort source) (λ short.
    Then (IsSpelling file source) (λ tokens.
    Then (IsGrammar file source tokens) (λ tree.
    IsTyping file source tokens tree)))

-- from a unit of the form that is built to what its run leaves
abbrev pub RunLadder : (file source : List ℕ) → Reading → UnitParts → Rung Findings → Type 0
RunLadder file source read unit =
    Then (IsLinked unit) (λ linked.
    Then (IsCode unit) (λ short.
    IsStepped file source read unit))

-- the same, with the options of the command
abbrev pub PlainLadder : Command → (source : List ℕ) → Reading → UnitParts → Rung Findings → Type 0
PlainLadder command source read unit = Then (IsPlain command) (λ plain. RunLadder command.file source read unit)

-- from a typed unit to what its run leaves
abbrev pub StepLadder : Command → (source : List ℕ) → Reading → Rung Findings → Type 0
StepLadder command source read = Then (IsForm source read.tokens) (λ unit. PlainLadder command source read unit)

-- `run` and `gen` have no end yet: the first rung stops before them
abbrev pub IsToCome : Rung Findings → Type 0
IsToCome end = ⊥

-- from a typed unit to what the job of the command finds of it
abbrev pub JobLadder : Job → Command → (source : List ℕ) → Reading → Rung Findings → Type 0
JobLadder Check command source read = IsChecked command.file source read
JobLadder Step command source read = StepLadder command source read
JobLadder Run command source read = IsToCome
JobLadder (Gen count) command source read = IsToCome

-- from a command to its findings
abbrev pub CommandLadder : Command → (before after : FilesState) → Rung Findings → Type 0
CommandLadder command before after =
    Then (IsSource before after command.file) (λ source.
    Then (SourceLadder command.file source) (λ read.
    JobLadder command.job command source read))

-- the whole ladder
abbrev pub Ladder : List (List ℕ) → (before after : FilesState) → Rung Findings → Type 0
Ladder words before after = Then (IsCommand words) (λ command. CommandLadder command before after)
