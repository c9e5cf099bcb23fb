-- Conversions of what may be null, and casts to `void` and to another type.
use Rattle.std.proofs.Common.{◌≡◌, ◌∙◌, refl, sym, ℕ, Bool, true, false, true≢false, ◌&&◌}
use Rattle.eff_types.proofs.ConversionLines.{conversion-lines}
use Rattle.eff_types.specs.Conversion.{conversion}
use Rattle.eff_types.specs.Types.{is_pointer, is_void}
use Rattle.eff_types.specs.declared.types.CType.{CType, Void}
use Rattle.core_unit.specs.declared.expressions.Expr.TheVariants as expr
use Rattle.core_unit.specs.declared.operators.Cause.TheVariants as cause
use Rattle.type_rules.specs.Constants.{is_null_constant}
use Rattle.type_rules.specs.Conversions.{converted_by, cast_to}
use Rattle.type_rules.specs.Operands.{found_value}
use Rattle.type_rules.specs.Reading.{Good, and_then}
use Rattle.type_rules.specs.Seen.{Seen}
use Rattle.type_rules.specs.declared.found.Operand.{Operand}

both_asked : (pointer null : Bool) → ((pointer && null) && pointer) ≡ (null && pointer)
both_asked true true = refl
both_asked true false = refl
both_asked false true = refl
both_asked false false = refl

-- Whether a value is null counts only where it becomes a pointer.
pub null_asked : (from to : CType) (null explicit : Bool) → conversion from to (is_pointer to && null) explicit ≡ conversion from to null explicit
null_asked from to null explicit =
    conversion-lines from to (is_pointer to && null) explicit
    ∙ rw (both_asked (is_pointer to) null) (sym (conversion-lines from to null explicit))

pub cast_void : (place : ℕ) (to : CType) (o : Operand) (s : Seen) → is_void to ≡ true →
    cast_to place to o s ≡ Good (found_value place Void (expr.Discard o.node)) s
cast_void place Void o s h = refl
cast_void place _ o s h = absurd (true≢false (sym h))

pub cast_other : (place : ℕ) (to : CType) (o : Operand) (s : Seen) → is_void to ≡ false → cast_to place to o s ≡
    and_then (converted_by cause.Cast place to o (conversion o.kind to (is_null_constant o) true) s) (λ c t. Good (found_value place to c.node) t)
cast_other place Void o s h = absurd (true≢false h)
cast_other place _ o s h = refl
