-- The search for warnings, as its private functions speak of it.
use Rattle.std.specs.Option.{is_some}
use Rattle.std.specs.Prelude.{◌≡◌, ◌↔◌, ℕ, ◌<◌, ◌≤◌, Bool, true, false, IsTrue, List, [], ◌∷◌, ◌++◌, map, length, Option, Some, None, slice_get, slice_index_or}
use Rattle.chains.specs.Chain.{HasChain, StartsChain}
use Rattle.chains.specs.Look.{look}
use Rattle.chains.specs.Written.{WrittenChains, HoldsShown}
use Rattle.chains.specs.declared.marks.Mark.{Mark}
use Rattle.chains.specs.declared.marks.Mark.TheVariants.{Passes, Violates, StepsTo}
use Rattle.chains.specs.declared.written.ChainStep as index
use Rattle.chains.specs.declared.written.Span.{Span}
use Rattle.core_unit.specs.declared.tables.FunctionInfo.{FunctionInfo}
use Rattle.eff_types.specs.Effects.{forbids}
use Rattle.eff_types.specs.declared.levels.Level.{Level}
use Rattle.eff_types.specs.declared.levels.Level.TheVariants.{Plain, NonAllocating, NonBlocking}
use Rattle.unit_check.specs.Lists.{Picked, EachPair}
use Rattle.unit_marks.specs.Marks.{mark_rows, look_for}
use Rattle.unit_check.specs.Verdicts.{IsVerified, IsWarned, level_at, warning_of, numbered, step_with}
use Rattle.unit_spots.specs.declared.spots.Spot.{Spot}
use Rattle.unit_check.specs.declared.findings.Found.{Found}
use Rattle.unit_check.specs.declared.positions.Position.{Position}
use Rattle.unit_check.specs.declared.verdicts.ChainStep.{ChainStep}
use Rattle.unit_check.specs.declared.verdicts.LevelSpan.{LevelSpan}

-- The span of a list of steps holds the shown chain of a place with this mark.
abbrev pub HoldsChain : (ℕ → ℕ → Mark) → List index.ChainStep → Mark → Span → Type 0
HoldsChain look steps Passes span = ⊥
HoldsChain look steps Violates span = (span.from ≡ span.to) × (span.to ≤ length steps)
HoldsChain look steps (StepsTo g) span = HoldsShown look steps g span

abbrev pub span_in : LevelSpan → Span
span_in s = record { from = s.from; to = s.to }

-- The span, of this level, holds the shown chain of the place.
abbrev pub HoldsAt : (ℕ → ℕ → Mark) → Level → List index.ChainStep → Position → LevelSpan → Type 0
HoldsAt look level steps p s = (s.level ≡ level) × HoldsChain look steps (look p.function p.index) (span_in s)

-- One place more was looked at: it starts no chain and nothing is added, or its warning and the span of its chain are.
pub data LooksAt (look : ℕ → ℕ → Mark) (level : Level) (p : Position) (steps : List index.ChainStep) (old new : Found) : Type 0 where
  Skipped : (StartsChain look p.function p.index → ⊥) → new ≡ old → LooksAt look level p steps old new
  Added : StartsChain look p.function p.index → new.warnings.items ≡ old.warnings.items ++ warning_of level p ∷ [] →
      (s : LevelSpan) → new.spans.items ≡ old.spans.items ++ s ∷ [] → HoldsAt look level steps p s → LooksAt look level p steps old new

abbrev pub steps_for : Level → List index.ChainStep → List index.ChainStep → List index.ChainStep
steps_for Plain a b = a
steps_for NonAllocating a b = a
steps_for NonBlocking a b = b

abbrev pub HoldsFor : List FunctionInfo → List index.ChainStep → List index.ChainStep → Position → LevelSpan → Type 0
HoldsFor functions a b p s = HoldsAt (look_for functions (level_at functions p)) (level_at functions p) (steps_for (level_at functions p) a b) p s

-- What is found at these places: the warned ones, with the spans of their chains among the steps of their level.
pub record AreFound (functions : List FunctionInfo) (places : List Position) (allocation blocking : WrittenChains) (found : Found) : Type 0 where
  pub allocation_rows : allocation.rows ≡ mark_rows functions NonAllocating
  pub blocking_rows : blocking.rows ≡ mark_rows functions NonBlocking
  pub warned : List Position
  pub exact : Picked (IsWarned functions) places warned
  pub warnings : found.warnings.items ≡ map (λ p. warning_of (level_at functions p) p) warned
  pub held : EachPair (HoldsFor functions allocation.steps blocking.steps) warned found.spans.items

-- It goes on: with this place, all that was found before it is found still.
pub record GoesOn (functions : List FunctionInfo) (p : Position) (a b new_a new_b : WrittenChains) (old new : Found) : Type 0 where
  pub on : (places : List Position) → AreFound functions places a b old → AreFound functions (places ++ p ∷ []) new_a new_b new

-- the places of one of these bodies, by the number of its function
abbrev pub listed_at : ℕ → Option (List Spot) → List Position
listed_at function (Some spots) = numbered function 0 spots
listed_at function None = []

abbrev pub listed : List (List Spot) → ℕ → List Position
listed all function = listed_at function (slice_get all function)

-- The step, by the place that it stands for among these.
abbrev pub step_at : List (List Spot) → index.ChainStep → ChainStep
step_at all s = step_with s.function (slice_get (slice_index_or all s.function []) s.place)

-- A function of this number keeps a level, whether it is marked or not.
pub record KeepsLevel (rows : List (List Mark)) (number : ℕ) (f : FunctionInfo) (level : Level) : Type 0 where
  pub defined : is_some f.body ≡ true
  pub allowed : forbids f.kind.effects level ≡ false
  pub kept : HasChain (look rows) number → ⊥

-- Of the functions below this number it is told which are verified.
pub record TellsBelow (functions : List FunctionInfo) (level : Level) (count : ℕ) (told : List Bool) : Type 0 where
  pub long : length told ≡ count
  pub each : (f : ℕ) → f < count → IsTrue (slice_index_or told f false) ↔ IsVerified functions f level
