-- The typed unit: its functions in order of first declaration, and its call sites in source order.
use Rattle.std.specs.Prelude.{◌≡◌, ℕ, ◌<◌, ◌≤◌, ◌+◌, ◌-◌, ◌^◌, Bool, List, length, map, All, Option, Some, None, is_some, IfSome, slice_get}
use Rattle.std.specs.List.Sorted.{IsStrictlyIncreasing}
use Rattle.built_unit.specs.declared.units.FunctionInfo.{FunctionInfo}
use Rattle.built_unit.specs.declared.units.SiteInfo.{SiteInfo}

-- what contracts see of a unit
pub record UnitParts : Type 0 where
  pub functions : List FunctionInfo
  pub sites : List SiteInfo

-- the call stands in a function of the unit, and where it names its callee, that is one too
abbrev pub IsSiteOf : List FunctionInfo → SiteInfo → Type 0
IsSiteOf functions site = (site.function < length functions) × IfSome site.direct (λ callee. callee < length functions)

-- what is true of the parts of every unit: calls stand in source order, in functions of the unit, of which there are at most 4,096
pub record IsUnit (functions : List FunctionInfo) (sites : List SiteInfo) : Type 0 where
  pub few : length functions ≤ 4096
  pub numbered : length sites < 2 ^ 32 - 1
  pub known : All (IsSiteOf functions) sites
  pub ordered : IsStrictlyIncreasing (map (λ site. site.place) sites)
