-- Soundness of effects, over all interleavings of a run's threads: what a unit without warnings does in a function that has an effect (Clang's manual
-- 'Function Effect Analysis'; what is exempt is this project's own rule).
use Rattle.std.specs.Prelude.{◌≡◌, ℕ, List, Some, All, slice_get}
use Rattle.chains.specs.Chain.{StartsChain}
use Rattle.core_unit.specs.Levels.{AddsNoLevel}
use Rattle.core_unit.specs.Units.{IsUnit}
use Rattle.core_unit.specs.declared.tables.FunctionInfo.{FunctionInfo}
use Rattle.core_unit.specs.declared.tables.UnitParts.{UnitParts}
use Rattle.eff_types.specs.declared.levels.Level.{Level}
use Rattle.eff_types.specs.declared.levels.Level.TheVariants.{Plain}
use Rattle.src_model.specs.Excused.{BlockingIsExcused, AllocationIsExcused}
use Rattle.src_model.specs.Runs.{Setting, Thread, IsRun}
use Rattle.src_model.specs.declared.runs.Made.{Made}
use Rattle.unit_marks.specs.Marks.{look_for}

-- No place of the function's body violates the level, and from none a chain of calls leads to a violation. The level Plain asks nothing of a body.
abbrev pub KeepsLevel : List FunctionInfo → Level → (function : ℕ) → Type 0
KeepsLevel functions Plain function = Unit {0}
KeepsLevel functions level function = (place : ℕ) → StartsChain (look_for functions level) function place → ⊥

-- A unit has no warning: it is typed, no conversion and no initial word of it adds a level, and each function keeps the level that it is declared with.
pub record IsAccepted (u : UnitParts) : Type 0 where
  pub typed : IsUnit u
  pub adds_none : AddsNoLevel u
  pub kept : (function : ℕ) (info : FunctionInfo) → slice_get u.functions function ≡ Some info → KeepsLevel u.functions info.kind.effects.level function

-- Where the unit is accepted, this holds of each trace of each run of the setting: of a unit, an entry, arguments, options and suppressions. The event
-- limit is one of the options, so it holds at any number of events. That each used function is defined isn't asked: a call of another one is a trap.
abbrev pub HoldsInRuns : Setting → (List Made → Type 0) → Type 0
HoldsInRuns w P = IsAccepted w.unit → (threads : List Thread) → IsRun w threads → All (λ (t : Thread). P t.trace) threads

-- Each blocking reach is excused, whether it is reported or not.
abbrev pub IsSound : Setting → Type 0
IsSound w = HoldsInRuns w (BlockingIsExcused w.unit)

-- Each allocation reach is excused.
abbrev pub IsAllocSound : Setting → Type 0
IsAllocSound w = HoldsInRuns w (AllocationIsExcused w.unit)
