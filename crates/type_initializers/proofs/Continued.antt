-- How a single expression is read and what remains of its rule.
use Rattle.std.proofs.Common.{◌≡◌, ◌∙◌, refl, ap, Bool, false, Option, Some}
use Rattle.std.specs.Prelude.{if◌then◌else◌, ◌&&◌}
use Rattle.c_tree.specs.declared.expressions.Expr.{Expr}
use Rattle.c_tree.specs.declared.words.Span.{Span}
use Rattle.core_unit.specs.declared.body.Initializer.TheVariants as init
use Rattle.eff_types.specs.Conversion.{conversion}
use Rattle.eff_types.specs.Types.{is_pointer}
use Rattle.eff_types.specs.declared.types.CType.{CType}
use Rattle.scopes.specs.Scope.{found}
use Rattle.type_rules.specs.Constants.{is_null_constant}
use Rattle.type_rules.specs.Initializers.{scalar, scalar_by, by_other, by_name, mutex_named, is_mismatch, mismatches}
use Rattle.type_rules.specs.Primaries.{name}
use Rattle.type_rules.specs.Reading.{Good, and_then, gives, name_number}
use Rattle.type_rules.specs.Recursion.{expression}
use Rattle.type_rules.specs.Seen.{Seen}
use Rattle.type_rules.specs.declared.found.Operand.{Operand}
use Rattle.type_rules.specs.declared.names.Entity.TheVariants as entity
use Rattle.type_rules.specs.declared.names.Entity.{Entity}
use Rattle.type_initializers.specs.Parts.{is_mutex_constant}
use Rattle.type_operands.proofs.Casts.{null_asked}
use Rattle.type_recursion.proofs.Continued.{First, direct, behind_first, then_alike, then_good, then_bad, then_gives}

pub scalar-first : (fixed : Bool) (t : CType) → First (scalar fixed t)
unfolding scalar
scalar-first fixed t m s = direct _ m s

pub scalar-expression : (fixed : Bool) (t : CType) (e : Expr) (s : Seen) →
    scalar fixed t (expression e) s ≡ and_then (expression e s) (λ f u. scalar fixed t (gives f) u)
scalar-expression fixed t e s = scalar-first fixed t (expression e) s

pub scalar_by-reads : (fixed : Bool) (t : CType) (e : Expr) (s : Seen) →
    scalar_by fixed t (expression e) s ≡ and_then (expression e s) (λ f u. scalar_by fixed t (gives f) u)
scalar_by-reads fixed t e s = behind_first (scalar fixed t) _ (scalar-first fixed t) (expression e) s

pub other-reads : (fixed : Bool) (e : Expr) (s : Seen) → by_other fixed (expression e) s ≡ and_then (expression e s) (λ f u. by_other fixed (gives f) u)
other-reads fixed e s = direct _ (expression e) s

pub other_name-reads : (fixed : Bool) (at : Span) (s : Seen) → by_other fixed (name false at) s ≡ and_then (name false at s) (λ f u. by_other fixed (gives f) u)
other_name-reads fixed at s = direct _ (name false at) s

named_as : (fixed : Bool) (at : Span) (e : Option Entity) (s : Seen) →
    mutex_named fixed at e s ≡ (if is_mutex_constant e then Good init.Mutex s else by_other fixed (name false at) s)
named_as fixed at (Some entity.MutexInitializer) s = refl
named_as fixed at e s = refl

pub name-reads : (fixed : Bool) (at : Span) (s : Seen) →
    by_name fixed at s ≡ and_then (name_number at s)
    (λ n t. if is_mutex_constant (found t.scopes n) then Good init.Mutex t else by_other fixed (name false at) t)
unfolding by_name
name-reads fixed at s = then_alike (name_number at s) _ _ (λ n t. then_gives _ (found t.scopes n) t ∙ named_as fixed at (found t.scopes n) t)

-- Whether an operand is null counts only where it becomes a pointer.
pub mismatch_asked : (t : CType) (o : Operand) (null : Bool) → null ≡ (is_pointer t && is_null_constant o) →
    is_mismatch (conversion o.kind t null false) ≡ mismatches t o
mismatch_asked t o null asked =
    ap (λ b. is_mismatch (conversion o.kind t b false)) asked ∙ ap is_mismatch (null_asked o.kind t (is_null_constant o) false)

pub ruleset scalar_rules = (then_good, then_bad, then_gives, scalar-expression, scalar_by-reads)

pub ruleset other_rules = (then_good, then_bad, then_gives, other-reads, other_name-reads)

pub ruleset name_rules = (then_good, then_bad, name-reads)

pub ruleset braced_rules = (then_good, then_bad, then_gives, scalar-expression)
