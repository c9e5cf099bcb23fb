-- Conversions and casts keep what was seen, and make typed nodes.
use Rattle.std.proofs.Common.{◌≡◌, ℕ, Bool, true, false, refl, sym, ◌∙◌, ap, length, Option, Some, None, inl, inr}
use Rattle.std.specs.Prelude.{◌&&◌, ◌||◌, ◌⊎◌, Result, Ok, Err}
use denote.Hole.Carrier.{hidden}
use Rattle.eff_types.specs.Conversion.{conversion}
use Rattle.eff_types.specs.Types.{is_number, is_pointer, is_void, points_to, is_function_pointer, is_data_pointer, is_void_pointer, same_outside}
use Rattle.eff_types.specs.declared.conversions.Conversion.{Conversion}
use Rattle.eff_types.specs.declared.conversions.Conversion.TheVariants as as_a
use Rattle.eff_types.specs.declared.conversions.Mismatch.{Mismatch}
use Rattle.eff_types.specs.declared.conversions.Mismatch.TheVariants as mismatch
use Rattle.eff_types.specs.declared.levels.Level.{Level}
use Rattle.eff_types.specs.declared.types.CType.{CType, Void, Char, Int, Unsigned, Mutex, Struct, Pointer', Array', Function'}
use Rattle.eff_types.proofs.Sameness.{same-eq}
use Rattle.eff_types.proofs.TypeLaws.{same_outside-refl}
use Rattle.core_unit.specs.Shapes.{is_scalar}
use Rattle.core_unit.specs.Structures.{IsWithin}
use Rattle.core_unit.specs.Typed.{Tables, is_conversion, are_numbers, are_data_pointers, are_function_pointers}
use Rattle.core_unit.specs.Typing.{type_of}
use Rattle.core_unit.proofs.Equations.{type_of-Convert}
use Rattle.core_unit.specs.declared.expressions.Expr as tree
use Rattle.core_unit.specs.declared.expressions.Expr.{Expr, Row_of-Expr, end_of-Expr, more_of-Expr}
use Rattle.core_unit.specs.declared.expressions.Expr.TheBlock.{hidden-the_row-Expr-0, shape-the_row-Expr-0, hidden-the_row-Place-1, shape-the_row-Place-1, hidden-the_row-Expr-2, shape-the_row-Expr-2}
use Rattle.core_unit.specs.declared.operators.Cause.{Cause}
use Rattle.core_unit.specs.declared.operators.Cause.TheVariants as cause
use Rattle.type_rules.specs.Constants.{is_null_constant, is_null, is_zero_number, is_known_zero, worth}
use Rattle.type_rules.specs.Conversions.{null_cause, converted_as, converted_by, converted}
use Rattle.type_rules.specs.Operands.{turned}
use Rattle.type_rules.specs.Reading.{Good, and_then}
use Rattle.type_rules.specs.Seen.{Seen}
use Rattle.type_rules.specs.Types.{is_result}
use Rattle.type_rules.specs.declared.found.Operand.{Operand}
use Rattle.type_laws.proofs.Conversions.{Told, ToldOf, conversion_told}
use Rattle.type_laws.proofs.Fits.{why_of, number_fits, effects_fit, pointer_fits, null_fits, data_is_pointer, other_is_data, function_pointer_is_pointer}
use Rattle.type_laws.proofs.Formed.{IsFormed, within_of_formed, within_more}
use Rattle.type_laws.proofs.Operands.{IsOperand, IsTypedOperand}
use Rattle.type_laws.proofs.Triples.{Triple, Lawful, Leads, gives_keeps, fails_keeps, noted_keeps}
use Rattle.type_laws.proofs.Typed as typed
use Rattle.type_laws.proofs.Types.{or_right, or_left, and_left, and_right, number_is_result}

-- the operand in the type
abbrev pub IsIn : CType → Operand → Seen → Type 0
IsIn to c s = IsOperand c s × (c.kind ≡ to)

pointer_is_result : (t : CType) → is_pointer t ≡ true → is_result t ≡ true
pointer_is_result t e = or_right (is_void t) (is_scalar t) (or_right (is_number t) (is_pointer t) e)

pub within_tables : (s : Seen) (u : Tables) (t : CType) → Leads s u → IsFormed s.structures t → IsWithin (length u.structures) t
within_tables s u t leads formed = within_more _ _ t leads.stay.many (within_of_formed s.structures t formed)

-- only a number or `void *` is null
pub null_type : (e : Expr) → is_null e ≡ true → is_number (type_of e) || is_void_pointer (type_of e) ≡ true
unfolding is_null type_of points_to hidden hidden-the_row-Expr-0 shape-the_row-Expr-0 hidden-the_row-Place-1 shape-the_row-Place-1 hidden-the_row-Expr-2 shape-the_row-Expr-2
null_type tree.Null h = refl
null_type (tree.Convert' why to _ (more_of-Expr e end_of-Expr)) h = and_left (is_number to || is_void_pointer to) (is_zero_number e) h
null_type e h = or_left (is_number (type_of e)) (is_void_pointer (type_of e)) (and_left (is_number (type_of e)) (is_known_zero (worth e)) h)

-- a cast to the type that a scalar has
pointer_cast : (t : CType) (function : Bool) → is_function_pointer t ≡ function → is_pointer t ≡ true → is_conversion cause.Cast t t ≡ true
pointer_cast t true e p =
    third_of (are_numbers t t) (are_function_pointers t t) (are_data_pointers t t)
    (both_and (is_function_pointer t) (is_function_pointer t) (same_outside t t) e e (same_outside-refl t))
  where
    both_and : (a b c : Bool) → a ≡ true → b ≡ true → c ≡ true → (a && b && c) ≡ true
    both_and true true true p q r = refl
    both_and false b c p q r = absurd (cc)
    both_and a false c p q r = absurd (cc)
    both_and a b false p q r = absurd (cc)

    third_of : (a b c : Bool) → b ≡ true → (a || b || c) ≡ true
    third_of true b c p = refl
    third_of false true c p = refl
    third_of a false c p = absurd (cc)
pointer_cast t false e p =
    last_of (are_numbers t t) (are_function_pointers t t) (are_data_pointers t t)
    (both (is_data_pointer t) (is_data_pointer t) (other_is_data t p e) (other_is_data t p e))
  where
    both : (a b : Bool) → a ≡ true → b ≡ true → a && b ≡ true
    both true b p q = q
    both false b p q = p

    last_of : (a b c : Bool) → c ≡ true → (a || b || c) ≡ true
    last_of true b c p = refl
    last_of false true c p = refl
    last_of false false true p = refl
    last_of a b false p = absurd (cc)

same_cast : (t : CType) → is_scalar t ≡ true → is_conversion cause.Cast t t ≡ true
same_cast Char s = refl
same_cast Int s = refl
same_cast Unsigned s = refl
same_cast (Pointer' p t) s = pointer_cast (Pointer' p t) (is_function_pointer (Pointer' p t)) refl refl
same_cast Void s = absurd (cc)
same_cast Mutex s = absurd (cc)
same_cast (Struct k) s = absurd (cc)
same_cast (Array' _ t n) s = absurd (cc)
same_cast (Function' _ _ _ _ _) s = absurd (cc)

scalar_of_result : (t : CType) → is_result t ≡ true → is_void t ≡ false → is_scalar t ≡ true
scalar_of_result t r v = of (is_void t) (is_scalar t) r v
  where
    of : (a b : Bool) → a || b ≡ true → a ≡ false → b ≡ true
    of true b p q = absurd (cc)
    of false b p q = p

second_of : (a b c : Bool) → (a && b && c) ≡ true → b ≡ true
second_of true b c e = and_left b c e
second_of false b c e = absurd (cc)

function_result : (a c : Bool) (t : CType) → (a && is_function_pointer t && c) ≡ true → is_result t ≡ true
function_result a c t e = pointer_is_result t (function_pointer_is_pointer t (second_of a (is_function_pointer t) c e))

pointer_result : (a c d : Bool) (t : CType) → ((a && is_data_pointer t && c) ≡ true) ⊎ ((a && is_data_pointer t && d) ≡ true) → is_result t ≡ true
pointer_result a c d t (inl e) = pointer_is_result t (data_is_pointer t (second_of a (is_data_pointer t) c e))
pointer_result a c d t (inr e) = pointer_is_result t (data_is_pointer t (second_of a (is_data_pointer t) d e))

module _ (pre : Tables → Type 0) (s : Seen) (to : CType) (o : Operand) (lawful : Lawful s) (formed : IsFormed s.structures to) (known : IsOperand o s)
    (is_typed : (u : Tables) → pre u → IsTypedOperand o u) where
  turned_keeps : (why : Cause) → is_conversion why o.kind to ≡ true → is_result to ≡ true → Triple pre (IsIn to) IsTypedOperand s (Good (turned why to o) s)
  turned_keeps why fits result =
      gives_keeps s (turned why to o) lawful ((formed, type_of-Convert why to o.node, result), refl) (λ u leads knows p.
      typed.typed-Convert u why to o.node (is_typed u p) (within_tables s u to leads formed) (ap (λ t. is_conversion why t to) known.1 ∙ fits))

  warned_keeps : (why : Cause) (level : Option Level) → is_conversion why o.kind to ≡ true → is_result to ≡ true
      → Triple pre (IsIn to) IsTypedOperand s (converted_as why to o (as_a.Effects level) s)
  unfolding and_then
  warned_keeps cause.Cast None fits result = turned_keeps cause.Cast fits result
  warned_keeps cause.Implicit None fits result = turned_keeps cause.Implicit fits result
  warned_keeps cause.Null None fits result = turned_keeps cause.Null fits result
  warned_keeps why (Some level) fits result =
      noted_keeps s _ (turned why to o) lawful ((formed, type_of-Convert why to o.node, result), refl) (λ u leads knows p.
      typed.typed-Convert u why to o.node (is_typed u p) (within_tables s u to leads formed) (ap (λ t. is_conversion why t to) known.1 ∙ fits))

  null_keeps : (explicit : Bool) → Told o.kind to (is_null_constant o) explicit as_a.Null
      → Triple pre (IsIn to) IsTypedOperand s (Good (turned (null_cause (why_of explicit) o.kind to) to o) s)
  null_keeps explicit told =
      let of_null : is_number o.kind || is_void_pointer o.kind ≡ true =
      ap (λ t. is_number t || is_void_pointer t) (sym known.1) ∙ null_type o.node (and_left (is_null_constant o) (is_pointer to) told.1) in
      let pointer : is_pointer to ≡ true = and_right (is_null_constant o) (is_pointer to) told.1 in
      turned_keeps (null_cause (why_of explicit) o.kind to) (null_fits explicit o.kind to told.0 pointer of_null) (pointer_is_result to pointer)

  as_keeps : (explicit : Bool) (how : Conversion) → (explicit ≡ true → is_void to ≡ false) → Told o.kind to (is_null_constant o) explicit how
      → Triple pre (IsIn to) IsTypedOperand s (converted_as (why_of explicit) to o how s)
  as_keeps true as_a.Same solid told =
      let result : is_result to ≡ true = ap is_result (sym (same-eq o.kind to told)) ∙ known.2 in
      turned_keeps cause.Cast (ap (λ t. is_conversion cause.Cast t to) (same-eq o.kind to told) ∙ same_cast to (scalar_of_result to result (solid refl))) result
  as_keeps false as_a.Same solid told = gives_keeps s o lawful (known, same-eq o.kind to told) (λ u leads knows p. is_typed u p)
  as_keeps true as_a.Number solid told = turned_keeps cause.Cast (number_fits true o.kind to told.0 told.1) (number_is_result to (and_right (is_number o.kind) (is_number to) told.1))
  as_keeps false as_a.Number solid told = turned_keeps cause.Implicit (number_fits false o.kind to told.0 told.1) (number_is_result to (and_right (is_number o.kind) (is_number to) told.1))
  as_keeps true as_a.Pointer solid told = turned_keeps cause.Cast (pointer_fits true o.kind to told.0 told.1) (pointer_result (is_data_pointer o.kind) (is_void_pointer o.kind || is_void_pointer to) true to told.1)
  as_keeps false as_a.Pointer solid told = turned_keeps cause.Implicit (pointer_fits false o.kind to told.0 told.1) (pointer_result (is_data_pointer o.kind) (is_void_pointer o.kind || is_void_pointer to) false to told.1)
  as_keeps true as_a.Null solid told = null_keeps true told
  as_keeps false as_a.Null solid told = null_keeps false told
  as_keeps true (as_a.Effects level) solid told = warned_keeps cause.Cast level (effects_fit true o.kind to told.0 told.1) (function_result (is_function_pointer o.kind) (same_outside o.kind to) to told.1)
  as_keeps false (as_a.Effects level) solid told = warned_keeps cause.Implicit level (effects_fit false o.kind to told.0 told.1) (function_result (is_function_pointer o.kind) (same_outside o.kind to) to told.1)

  by_keeps : (explicit : Bool) (at : ℕ) (r : Result Conversion Mismatch) → (explicit ≡ true → is_void to ≡ false)
      → ToldOf o.kind to (is_null_constant o) explicit r → Triple pre (IsIn to) IsTypedOperand s (converted_by (why_of explicit) at to o r s)
  by_keeps explicit at (Ok how) solid told = as_keeps explicit how solid told
  by_keeps explicit at (Err mismatch.Mismatch) solid told = fails_keeps s 3 at
  by_keeps explicit at (Err mismatch.LeftOut) solid told = fails_keeps s 11 o.place

  pub converted_keeps : Triple pre (IsIn to) IsTypedOperand s (converted to o s)
  unfolding converted
  converted_keeps =
      by_keeps false o.place (conversion o.kind to (is_null_constant o) false) (λ e. absurd (cc)) (conversion_told o.kind to (is_null_constant o) false)

  pub cast_keeps : (place : ℕ) → is_void to ≡ false
      → Triple pre (IsIn to) IsTypedOperand s (converted_by cause.Cast place to o (conversion o.kind to (is_null_constant o) true) s)
  cast_keeps place solid =
      by_keeps true place (conversion o.kind to (is_null_constant o) true) (λ e. solid) (conversion_told o.kind to (is_null_constant o) true)
