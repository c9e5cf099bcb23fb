-- What the compiler asks of a unit: an entry, a definition of each function that is called, and not too many nodes.
use Rattle.std.specs.Prelude.{◌≡◌, ℕ, zero, suc, ◌+◌, ◌*◌, ◌<◌, ◌≤◌, min, List, length, Option, Some, None, IsSome, IfSome, IsSomeAnd, slice_get}
use Rattle.built_unit.specs.declared.units.Body.{Body}
use Rattle.built_unit.specs.declared.units.FunctionInfo.{FunctionInfo}
use Rattle.built_unit.specs.declared.units.SiteInfo.{SiteInfo}
use Rattle.built_unit.specs.Units.{UnitParts}
use Rattle.built_codegen.specs.declared.unit.TheConstants.{NODE_LIMIT}

-- a function with a definition and this name
abbrev pub IsDefinedAs : List ℕ → FunctionInfo → Type 0
IsDefinedAs name function = (function.name ≡ name) × IsSome function.body

-- among so many functions, from the first one on, none is defined with this name
abbrev pub HasNoEntryBelow : UnitParts → List ℕ → ℕ → Type 0
HasNoEntryBelow u name n = (k : ℕ) → k < n → IfSome (slice_get u.functions k) (λ function. IsDefinedAs name function → ⊥)

-- no defined function has this name
abbrev pub HasNoEntry : UnitParts → List ℕ → Type 0
HasNoEntry u name = HasNoEntryBelow u name (length u.functions)

-- the least number of a defined function with this name
pub record IsEntry (u : UnitParts) (name : List ℕ) (n : ℕ) : Type 0 where
  pub defined : IsSomeAnd (slice_get u.functions n) (IsDefinedAs name)
  pub least : HasNoEntryBelow u name n

abbrev pub unless_body : ℕ → Option Body → Option ℕ
unless_body function None = Some function
unless_body function (Some body) = None

abbrev pub unless_defined : ℕ → Option FunctionInfo → Option ℕ
unless_defined function None = None
unless_defined function (Some info) = unless_body function info.body

abbrev pub missing_callee : UnitParts → Option ℕ → Option ℕ
missing_callee u None = None
missing_callee u (Some function) = unless_defined function (slice_get u.functions function)

abbrev pub missing_in : UnitParts → Option SiteInfo → Option ℕ
missing_in u None = None
missing_in u (Some site) = missing_callee u site.direct

-- the function that is called at a place of the list of calls, where it has no definition
abbrev pub missing_at : UnitParts → ℕ → Option ℕ
missing_at u index = missing_in u (slice_get u.sites index)

-- one of so many calls, from the first one on, is of this function, which has no definition
abbrev pub MissesBelow : UnitParts → ℕ → ℕ → Type 0
MissesBelow u n function = (index : ℕ) × (index < n) × (missing_at u index ≡ Some function)

-- of the functions that these calls miss, the first by number, if there is one
abbrev pub IsFirstBelow : UnitParts → ℕ → Option ℕ → Type 0
IsFirstBelow u n None = (function : ℕ) → MissesBelow u n function → ⊥
IsFirstBelow u n (Some first) = MissesBelow u n first × ((function : ℕ) → MissesBelow u n function → first ≤ function)

-- the first function by number that is called and has no definition
abbrev pub IsFirstMissing : UnitParts → Option ℕ → Type 0
IsFirstMissing u first = IsFirstBelow u (length u.sites) first

-- the lesser of two numbers, where there are two
abbrev pub lesser : Option ℕ → Option ℕ → Option ℕ
lesser None b = b
lesser (Some x) None = Some x
lesser (Some x) (Some y) = Some (min x y)

-- `return n;` is a statement and a number
abbrev pub return_nodes : Option ℕ → ℕ
return_nodes None = 0
return_nodes (Some number) = 2

-- a definition and its block are a node each; a call statement is three: the statement, the call, the name
abbrev pub body_nodes : Option Body → ℕ
body_nodes None = 0
body_nodes (Some body) = 2 + 3 * length body.calls + return_nodes body.returns

abbrev pub nodes_in : Option FunctionInfo → ℕ
nodes_in None = 0
nodes_in (Some info) = body_nodes info.body

-- the nodes of so many functions, from the first one on
abbrev pub nodes_below : UnitParts → ℕ → ℕ
nodes_below u zero = 0
nodes_below u (suc n) = nodes_below u n + nodes_in (slice_get u.functions n)

-- the nodes of a unit
abbrev pub unit_nodes : UnitParts → ℕ
unit_nodes u = nodes_below u (length u.functions)

-- a unit with more nodes is too long
abbrev pub node_limit : ℕ
node_limit = NODE_LIMIT
