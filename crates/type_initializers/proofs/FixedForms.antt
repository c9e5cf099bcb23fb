-- What is asked of places and values.
use Rattle.std.proofs.Common.{◌≡◌, refl, ℕ, true, false}
use Rattle.std.specs.Prelude.{if◌then◌else◌}
use denote.Hole.Carrier.{hidden}
use Rattle.core_unit.specs.Shapes.{is_array}
use Rattle.core_unit.specs.declared.expressions.Expr as form
use Rattle.core_unit.specs.declared.expressions.Expr.{Expr, end_of-Place, more_of-Place}
use Rattle.core_unit.specs.declared.expressions.Expr.TheBlock.{hidden-the_row-Place-1, shape-the_row-Place-1}
use Rattle.core_unit.specs.declared.expressions.Expr.TheVariants as expr
use Rattle.core_unit.specs.declared.expressions.Place.{Place}
use Rattle.core_unit.specs.declared.expressions.Place.TheVariants as place
use Rattle.core_unit.specs.declared.expressions.Storage.TheVariants as storage
use Rattle.core_unit.specs.declared.expressions.Storage.{Storage}
use Rattle.eff_types.specs.declared.types.CType.{CType}
use Rattle.type_initializers.specs.Parts.{is_static}
use Rattle.type_rules.specs.Constants.{is_known, worth}
use Rattle.type_rules.specs.Initializers.{is_static_variable, is_fixed_object, is_fixed_value}

pub variable-static : (at : ℕ) (s : Storage) (t : CType) → is_static_variable (place.Variable at s t) ≡ is_static s
variable-static at (storage.Static address) t = refl
variable-static at s t = refl

pub variable-fixed : (at : ℕ) (s : Storage) (t : CType) → is_fixed_object (place.Variable at s t) ≡ (if is_static s then is_array t else false)
variable-fixed at (storage.Static address) t = refl
variable-fixed at s t = refl

pub fixed-Function : (number : ℕ) (t : CType) → is_fixed_value (expr.Function number t) ≡ true
fixed-Function number t = refl

pub fixed-AddressOf : (p : Place) → is_fixed_value (expr.AddressOf p) ≡ is_static_variable p
unfolding hidden hidden-the_row-Place-1 shape-the_row-Place-1
fixed-AddressOf p = refl

address : (s : _) (p : Place) → form.AddressOf' s (more_of-Place p end_of-Place) ≡ expr.AddressOf p
unfolding hidden hidden-the_row-Place-1 shape-the_row-Place-1
address s p = refl

pub fixed-other : (e : Expr) → ((number : ℕ) (t : CType) → e ≡ expr.Function number t → ⊥) → ((p : Place) → e ≡ expr.AddressOf p → ⊥) →
    is_fixed_value e ≡ is_known (worth e)
fixed-other (form.Function number t) other none = absurd (other number t refl)
fixed-other (form.AddressOf' s (more_of-Place p end_of-Place)) other none = absurd (none p (address s p))
fixed-other e other none = refl

pub ruleset value_rules = (fixed-Function, fixed-AddressOf, fixed-other)

pub ruleset place_rules = (variable-static, variable-fixed)
