-- What the compiler asks of a unit: an entry, a definition of each function that is used, and not too many nodes.
use Rattle.std.specs.Prelude.{◌≡◌, ℕ, ◌≤◌, min, List, [], ◌∷◌, Option, Some, None}
use Rattle.std.specs.List.{Contains}
use Rattle.core_unit.specs.Nodes as count
use Rattle.core_unit.specs.Units.{body_in}
use Rattle.core_unit.specs.declared.body.Body.{Body}
use Rattle.core_unit.specs.declared.tables.UnitParts.{UnitParts}
use Rattle.src_model.specs.Runs.{function_from}
use Rattle.c_codegen.specs.Names.{used_functions}
use Rattle.c_codegen.specs.declared.refusals.TheConstants.{NODE_LIMIT}

-- no function that is defined has the name
abbrev pub HasNoEntry : UnitParts → List ℕ → Type 0
HasNoEntry u name = function_from 0 u.functions name ≡ None

-- a function among these that has no definition
abbrev pub IsMissingIn : UnitParts → List ℕ → ℕ → Type 0
IsMissingIn u functions function = Contains functions function × (body_in u.functions function ≡ None)

-- the first of them by number, if there is one
abbrev pub IsFirstIn : UnitParts → List ℕ → Option ℕ → Type 0
IsFirstIn u functions None = (function : ℕ) → IsMissingIn u functions function → ⊥
IsFirstIn u functions (Some first) = IsMissingIn u functions first × ((function : ℕ) → IsMissingIn u functions function → first ≤ function)

-- the first function by number that is used and has no definition
abbrev pub IsFirstMissing : UnitParts → Option ℕ → Type 0
IsFirstMissing u first = IsFirstIn u (used_functions u) first

abbrev pub unit_nodes : UnitParts → ℕ
unit_nodes u = count.unit_nodes u.functions

-- a unit with more nodes is too long
abbrev pub node_limit : ℕ
node_limit = NODE_LIMIT

-- How the first missing function is found.

-- the lesser of two numbers, where there are two
unfoldable pub lesser : Option ℕ → Option ℕ → Option ℕ
lesser None b = b
lesser (Some x) None = Some x
lesser (Some x) (Some y) = Some (min x y)

abbrev pub unless_defined : ℕ → Option Body → Option ℕ
unless_defined function None = Some function
unless_defined function (Some body) = None

-- the function, where it has no definition
unfoldable pub missing : UnitParts → ℕ → Option ℕ
missing u function = unless_defined function (body_in u.functions function)

unfoldable pub first_missing : UnitParts → List ℕ → Option ℕ
first_missing u [] = None
first_missing u (function ∷ functions) = lesser (missing u function) (first_missing u functions)
