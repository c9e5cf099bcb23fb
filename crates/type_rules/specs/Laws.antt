-- Laws of the typing, as statements. Proved is the first, in type_laws.
use Rattle.std.specs.Prelude.{◌≡◌, ℕ, ◌+◌, ◌<◌, ◌≤◌, ◌^◌, true, false, List, [], length, slice_get, is_some, Option, Some, None, All}
use Rattle.eff_types.specs.Effects.{rank}
use Rattle.eff_types.specs.declared.levels.Effects.{Effects}
use Rattle.c_tree.specs.declared.statements.Tree.{Tree}
use Rattle.core_unit.specs.Levels.{AddsNoLevel}
use Rattle.core_unit.specs.Units.{AreNumbered, calls_of, IsUnit}
use Rattle.core_unit.specs.declared.tables.FunctionInfo.{FunctionInfo}
use Rattle.core_unit.specs.declared.tables.SiteInfo.{SiteInfo}
use Rattle.core_unit.specs.declared.tables.UnitParts.{UnitParts}
use Rattle.type_rules.specs.Reading.{Read, Good, Bad}
use Rattle.type_rules.specs.Seen.{Seen}
use Rattle.type_rules.specs.Units.{read_unit, typed, IsTyped, outcome}
use Rattle.type_rules.specs.declared.notes.TypeWarning.{TypeWarning}
use Rattle.type_rules.specs.declared.notes.TypeWarning.TheVariants as warning

-- A typed unit is a unit, where its calls are numbered in order of place, as they are where the nodes of the tree stand in order, and are few.
abbrev pub TypedUnitsAreUnits : Type 0
TypedUnitsAreUnits = (source marks : List ℕ) (tree : Tree) (u : UnitParts) (warnings : List TypeWarning) →
    All (λ byte. byte < 256) source → outcome source marks tree ≡ IsTyped u warnings → AreNumbered 1 (calls_of u) u.sites → length u.sites < 2 ^ 20 → length u.structures < 2 ^ 32
    → IsUnit u

-- no conversion is warned of
abbrev pub IsNoConversion : TypeWarning → Type 0
IsNoConversion (warning.Conversion _ _) = ⊥
IsNoConversion (warning.Redeclaration _ _) = Unit {0}

-- A unit adds no level where no conversion is warned of.
abbrev pub UnwarnedUnitsAddNoLevel : Type 0
UnwarnedUnitsAddNoLevel = (source marks : List ℕ) (tree : Tree) (u : UnitParts) (warnings : List TypeWarning) →
    outcome source marks tree ≡ IsTyped u warnings → All IsNoConversion warnings → AddsNoLevel u

-- the first rule that is broken, if one is
abbrev pub fault_of : {A : Type 0} → Read A → Option (ℕ × ℕ)
fault_of (Good a s) = None
fault_of (Bad number place) = Some (number, place)

-- No refusal depends on the effects that the functions have in the whole unit. So the second reading refuses nothing that the first doesn't.
abbrev pub RefusalsIgnoreEffects : Type 0
RefusalsIgnoreEffects = (source marks : List ℕ) (tree : Tree) (whole other : List Effects) →
    fault_of (read_unit source marks whole tree) ≡ fault_of (read_unit source marks other tree)

-- A function may be marked that is defined, isn't `NonBlocking` and has neither flag.
pub record IsCandidate (functions : List FunctionInfo) (number : ℕ) : Type 0 where
  pub info : FunctionInfo
  pub known : slice_get functions number ≡ Some info
  pub is_defined : is_some info.body ≡ true
  pub below : rank info.kind.effects.level < 2
  pub may_block : info.kind.effects.no_block_inference ≡ false
  pub may_allocate : info.kind.effects.no_alloc_inference ≡ false

-- A typed unit is typed with any candidates marked.
abbrev pub MarksRefuseNothing : Type 0
MarksRefuseNothing = (source marks : List ℕ) (tree : Tree) (s : Seen) →
    typed source [] tree ≡ Good tt s → All (IsCandidate s.functions) marks → fault_of (typed source marks tree) ≡ None

-- The sites of one function rise by place.
abbrev pub SitesRise : Type 0
SitesRise = (source marks : List ℕ) (tree : Tree) (u : UnitParts) (warnings : List TypeWarning) (n : ℕ) (a b : SiteInfo) →
    outcome source marks tree ≡ IsTyped u warnings → slice_get u.sites n ≡ Some a → slice_get u.sites (n + 1) ≡ Some b →
    a.function ≡ b.function → a.place ≤ b.place
