-- An array that has its size behind its initializer.
use Rattle.std.proofs.Common.{◌≡◌, ◌∙◌, refl, ℕ, true, Option, Some, None}
use Rattle.eff_types.specs.declared.types.CType.{CType}
use Rattle.scopes.specs.Scope.{found_here}
use Rattle.type_declarations.specs.Declared.{variable_of, typed_again}
use Rattle.type_recursion.proofs.Continued.{then_gives}
use Rattle.type_rules.specs.Declarations.{array_completed, with_size}
use Rattle.type_rules.specs.Seen.{Seen}
use Rattle.type_rules.specs.declared.names.Entity.TheVariants as entity
use Rattle.type_rules.specs.declared.names.Entity.{Entity}

by_meaning : (t : CType) (name : ℕ) (e : Option Entity) (s : Seen) → with_size t name e s ≡ typed_again t name (variable_of e) s
by_meaning t name (Some (entity.Variable u storage number)) s = refl
by_meaning t name (Some e) s = refl
by_meaning t name None s = refl

pub completed-form : (name : ℕ) (t : CType) (s : Seen) → array_completed name t true s ≡ typed_again t name (variable_of (found_here s.scopes name)) s
completed-form name t s = then_gives _ (found_here s.scopes name) s ∙ by_meaning t name (found_here s.scopes name) s

pub ruleset completed_rules = (completed-form)
