-- Scopes of names (C17 6.2.1), as lists of declarations. A name stands for its number.
use Rattle.std.specs.Prelude.{ℕ, List, [], ◌∷◌, Option, Some, None, map, reverse, nat_eq}
use Rattle.std.specs.Map.{lookup}
use Rattle.indexmap.specs.IndexMap.{IndexMap, insert_entry}

-- the names that one scope declares, each with what it means
abbrev pub Scope : Type 0 → Type 0
Scope V = List (ℕ × V)

module _ {V : Type 0} where
  abbrev pub unless_found : Option V → Option V → Option V
  unless_found (Some v) outer = Some v
  unless_found None outer = outer

  -- The innermost scope that declares a name says what it means.
  abbrev pub found : List (Scope V) → ℕ → Option V
  found [] name = None
  found (scope ∷ outer) name = unless_found (lookup (nat_eq name) scope) (found outer name)

  abbrev pub found_here : List (Scope V) → ℕ → Option V
  found_here [] name = None
  found_here (scope ∷ outer) name = lookup (nat_eq name) scope

  -- A declaration in the innermost scope: a name that stands there takes the new meaning, and another one goes last.
  abbrev pub declare : List (Scope V) → ℕ → V → List (Scope V)
  declare [] name v = []
  declare (scope ∷ outer) name v = insert_entry nat_eq scope name v ∷ outer

  -- the scopes that maps hold, the innermost map last
  abbrev pub scopes_of : {S : Type 0} → List (IndexMap ℕ V S) → List (Scope V)
  scopes_of maps = reverse (map (λ m. m.entries) maps)
