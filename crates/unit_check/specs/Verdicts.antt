-- What is found of a unit: which places are warned of, with which chains, and which functions are verified.
use Rattle.std.specs.Prelude.{◌≡◌, ◌↔◌, ℕ, ◌+◌, Bool, true, false, List, [], ◌∷◌, ◌++◌, map, flat_map, Option, Some, None, IsTrue, slice_get, slice_index_or}
use Rattle.std.specs.Option.{is_some}
use Rattle.chains.specs.Chain.{HasChain, StartsChain}
use Rattle.chains.specs.Written.{Spells}
use Rattle.chains.specs.declared.marks.Mark.{Mark}
use Rattle.chains.specs.declared.marks.Mark.TheVariants.{Passes, Violates, StepsTo}
use Rattle.chains.specs.declared.written.ChainStep as index
use Rattle.core_unit.specs.Layout.{told}
use Rattle.core_unit.specs.Units.{row_target}
use Rattle.core_unit.specs.declared.tables.FunctionInfo.{FunctionInfo}
use Rattle.core_unit.specs.declared.tables.UnitParts.{UnitParts}
use Rattle.eff_types.specs.Effects.{forbids}
use Rattle.eff_types.specs.declared.levels.Level.{Level}
use Rattle.eff_types.specs.declared.levels.Level.TheVariants.{Plain, NonAllocating, NonBlocking}
use Rattle.unit_check.specs.Lists.{Picked, EachPair}
use Rattle.unit_marks.specs.Marks.{look_for, spots_in}
use Rattle.unit_check.specs.declared.positions.Position.{Position}
use Rattle.unit_spots.specs.declared.spots.Action.{Action}
use Rattle.unit_spots.specs.declared.spots.Action.TheVariants.{Calls, CallsLibrary, CallsThrough, UsesThreadLocal, DeclaresStatic}
use Rattle.unit_spots.specs.declared.spots.Spot.{Spot}
use Rattle.unit_check.specs.declared.verdicts.ChainStep.{ChainStep}
use Rattle.unit_check.specs.declared.verdicts.ViolationKind.{ViolationKind}
use Rattle.unit_check.specs.declared.verdicts.ViolationKind.TheVariants as kind
use Rattle.unit_check.specs.declared.verdicts.Warning.{Warning}

-- what a check answers: the warnings, the chain of each, and for each level above Plain whether each function is verified
pub record Report : Type 0 where
  pub warnings : List Warning
  pub chains : List (List ChainStep)
  pub nonallocating : List Bool
  pub nonblocking : List Bool

-- the places of a body from this index on
abbrev pub numbered : ℕ → ℕ → List Spot → List Position
numbered function index [] = []
numbered function index (s ∷ ss) = record { function = function; index = index; spot = s } ∷ numbered function (index + 1) ss

abbrev pub positions_of : List FunctionInfo → ℕ → List Position
positions_of functions function = numbered function 0 (spots_in (slice_get functions function))

-- all places of a unit, in order: the bodies in order of definition
abbrev pub positions : UnitParts → List Position
positions u = flat_map (positions_of u.functions) u.definitions

-- the level that a function asks of its body
abbrev pub level_asked : Option FunctionInfo → Level
level_asked (Some f) = f.kind.effects.level
level_asked None = Plain

abbrev pub level_at : List FunctionInfo → Position → Level
level_at functions p = level_asked (slice_get functions p.function)

-- The place is a direct violation of a level, or a chain of calls leads from it to one. A cycle of calls alone is no violation.
abbrev pub BreaksLevel : List FunctionInfo → Level → Position → Type 0
BreaksLevel functions Plain p = ⊥
BreaksLevel functions level p = StartsChain (look_for functions level) p.function p.index

-- The place is warned of: it breaks the level of the function in whose body it stands.
abbrev pub IsWarned : List FunctionInfo → Position → Type 0
IsWarned functions p = BreaksLevel functions (level_at functions p) p

abbrev pub kind_of : Action → ViolationKind
kind_of (Calls function) = kind.Calls function
kind_of (CallsLibrary row) = kind.Calls (told (row_target row))
kind_of (CallsThrough level) = kind.CallsThrough
kind_of UsesThreadLocal = kind.ThreadLocal
kind_of DeclaresStatic = kind.StaticLocal

abbrev pub warning_of : Level → Position → Warning
warning_of level p = record { function = p.function; place = p.spot.place; kind = kind_of p.spot.action; level = level }

-- a place of a chain, by what stands there
abbrev pub step_with : ℕ → Option Spot → ChainStep
step_with function (Some s) = record { function = function; place = s.place; kind = kind_of s.action }
step_with function None = record { function = function; place = 0; kind = kind.StaticLocal }

abbrev pub step_of : List FunctionInfo → index.ChainStep → ChainStep
step_of functions s = step_with s.function (slice_get (spots_in (slice_get functions s.function)) s.place)

-- The chain of a place for a level: none of a direct violation, and of a call the shown chain of the function that is called. It has the fewest
-- places, and of those with as few it is the first in order of place.
abbrev pub IsChainFor : List FunctionInfo → Level → Mark → List ChainStep → Type 0
IsChainFor functions level Passes chain = ⊥
IsChainFor functions level Violates chain = chain ≡ []
IsChainFor functions level (StepsTo g) chain =
    (steps : List index.ChainStep) × Spells (look_for functions level) g steps × (chain ≡ map (step_of functions) steps)

abbrev pub IsChainOf : List FunctionInfo → Position → List ChainStep → Type 0
IsChainOf functions p = IsChainFor functions (level_at functions p) (look_for functions (level_at functions p) p.function p.index)

-- The function is defined, its flags allow to infer the level, and its body keeps it.
pub record IsVerified (functions : List FunctionInfo) (function : ℕ) (level : Level) : Type 0 where
  pub info : FunctionInfo
  pub known : slice_get functions function ≡ Some info
  pub defined : is_some info.body ≡ true
  pub allowed : forbids info.kind.effects level ≡ false
  pub kept : HasChain (look_for functions level) function → ⊥

abbrev pub verified_in : Report → Level → ℕ → Bool
verified_in r Plain function = false
verified_in r NonAllocating function = slice_index_or r.nonallocating function false
verified_in r NonBlocking function = slice_index_or r.nonblocking function false

abbrev pub Verifies : List FunctionInfo → Level → (ℕ → Bool) → Type 0
Verifies functions level verified = (function : ℕ) → IsTrue (verified function) ↔ IsVerified functions function level

-- The warnings are those of the warned places, in order of place, each with its chain; and the verified functions are told, both ways.
pub record AreVerdicts (u : UnitParts) (r : Report) : Type 0 where
  pub warned : List Position
  pub exact : Picked (IsWarned u.functions) (positions u) warned
  pub warnings : r.warnings ≡ map (λ p. warning_of (level_at u.functions p) p) warned
  pub chains : EachPair (IsChainOf u.functions) warned r.chains
  pub nonallocating : Verifies u.functions NonAllocating (verified_in r NonAllocating)
  pub nonblocking : Verifies u.functions NonBlocking (verified_in r NonBlocking)
