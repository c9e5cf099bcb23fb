-- Which calls are warned of (Clang's manual, 'Function Effect Analysis'): a function that is marked with a level promises it
-- for its whole body, so what its body calls has to keep that level too. In the form of files that is built so far each call
-- names its callee, and a callee with a body is either marked or never called from a marked function; so no callee's level
-- is inferred from its body yet, and the direct violations of a body are all that is warned.
use Rattle.std.specs.Prelude.{◌≡◌, ℕ, ◌<◌, ◌↔◌, ◌⊎◌, List, map, Contains, Some, IsTrue, IsSome, IsNone, IsSomeAnd, slice_get}
use Rattle.std.specs.List.Sorted.{IsStrictlyIncreasing}
use Rattle.eff_types.specs.declared.levels.Level.{Level}
use Rattle.eff_types.specs.declared.levels.Level.TheVariants.{Plain}
use Rattle.eff_types.specs.Effects.{rank, forbids}
use Rattle.eff_types.specs.declared.levels.Effects.{Effects}
use Rattle.built_unit.specs.declared.units.FunctionInfo.{FunctionInfo}
use Rattle.built_unit.specs.declared.units.SiteInfo.{SiteInfo}
use Rattle.built_unit.specs.Units.{UnitParts}
use Rattle.eff_check.specs.declared.ViolationKind.{ViolationKind}
use Rattle.eff_check.specs.declared.ViolationKind.TheVariants.{Calls}
use Rattle.eff_check.specs.declared.Warning.{Warning}

abbrev pub IsBelow : Level → Level → Type 0
IsBelow low high = rank low < rank high

-- the effects forbid that a caller takes the function for one of this level
abbrev pub Forbids : Effects → Level → Type 0
Forbids effects level = IsTrue (forbids effects level)

-- A body of this level must not call the function: it promises less, and nothing else can be known of it, since it has
-- no definition or forbids the level.
abbrev pub IsUnsafeFor : Level → FunctionInfo → Type 0
IsUnsafeFor level callee = IsBelow callee.effects.level level × (IsNone callee.body ⊎ Forbids callee.effects level)

-- the call violates the level in this way: it names a function of the unit that a body of the level must not call
abbrev pub IsViolation : List FunctionInfo → Level → SiteInfo → ViolationKind → Type 0
IsViolation functions level site (Calls callee) =
    (site.direct ≡ Some callee) × IsSomeAnd (slice_get functions callee) (IsUnsafeFor level)

-- A direct violation of a function's body, for a level: a call in that body, at that place, which violates the level. A
-- function's call of itself is none, since its own level is not below itself.
pub record Violates (unit : UnitParts) (function : ℕ) (level : Level) (place : ℕ) (kind : ViolationKind) : Type 0 where
  pub site : SiteInfo
  pub stands : Contains unit.sites site
  pub in_body : site.function ≡ function
  pub placed : site.place ≡ place
  pub violates : IsViolation unit.functions level site kind

-- the function is defined and marked: its level is this one, which is above Plain
pub record IsMarked (functions : List FunctionInfo) (function : ℕ) (level : Level) : Type 0 where
  pub above : IsBelow Plain level
  pub marked : IsSomeAnd (slice_get functions function) (λ info. IsSome info.body × (info.effects.level ≡ level))

-- the warning is due: it names a marked function with its level, and a direct violation of its body for that level
pub record IsWarned (unit : UnitParts) (warning : Warning) : Type 0 where
  pub marked : IsMarked unit.functions warning.function warning.level
  pub violates : Violates unit warning.function warning.level warning.place warning.kind

-- these are the warnings of the unit: each that is due, no other, in order of place
pub record AreWarnings (unit : UnitParts) (warnings : List Warning) : Type 0 where
  pub exact : (warning : Warning) → Contains warnings warning ↔ IsWarned unit warning
  pub ordered : IsStrictlyIncreasing (map (λ warning. warning.place) warnings)

-- the warning is the one that is due at this call
pub record IsWarnedAt (functions : List FunctionInfo) (site : SiteInfo) (warning : Warning) : Type 0 where
  pub in_body : site.function ≡ warning.function
  pub placed : site.place ≡ warning.place
  pub marked : IsMarked functions warning.function warning.level
  pub violates : IsViolation functions warning.level site warning.kind
