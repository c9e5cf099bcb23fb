-- A further declaration of a variable of file scope.
use Rattle.std.proofs.Common.{◌≡◌, refl, ℕ, Bool, Some, None}
use Rattle.c_tree.specs.declared.words.Span.{Span}
use Rattle.eff_types.specs.declared.types.CType.{CType}
use Rattle.type_declarations.specs.Declared.{declared_again, file_place}
use Rattle.type_rules.specs.Declarations.{file_variable}
use Rattle.type_rules.specs.Reading.{and_then}
use Rattle.type_rules.specs.Seen.{Seen}
use Rattle.type_rules.specs.declared.declarators.Made.{Made}
use Rattle.type_rules.specs.declared.names.Entity.TheVariants as entity
use Rattle.type_rules.specs.declared.names.Entity.{Entity}
use Rattle.type_rules.specs.declared.specifiers.Specifiers.{Specifiers}

pub further-form : (name : Span) (own : ℕ) (b : Specifiers) (m : Made) (initialized : Bool) (t : CType) (e : Entity) (s : Seen) →
    file_variable name own b m initialized t (Some e) s ≡ declared_again name b m initialized t (file_place e) s
unfolding and_then
further-form name own b m initialized t (entity.Variable u storage (Some number)) s = refl
further-form name own b m initialized t (entity.Variable u storage None) s = refl
further-form name own b m initialized t e s = refl

pub ruleset further_rules = (further-form)
