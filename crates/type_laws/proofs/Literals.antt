-- Constants, strings, parentheses, casts and `sizeof` keep what was seen, and make typed nodes.
use Rattle.std.proofs.Common.{◌≡◌, ℕ, ◌<◌, ◌≤◌, ◌+◌, ◌^◌, Bool, true, false, refl, ◌∙◌, ap, subst, List, length, Option, Some, None, arith}
use Rattle.std.specs.Prelude.{◌||◌, nat_le, if◌then◌else◌}
use Rattle.std.proofs.lemmas.Bool.{leb-true}
use Rattle.c_text.specs.Numbers.{number_of, typed as number_typed, value_within, greatest, has_suffix, read_number, digits_of}
use Rattle.c_text.specs.Forms.{is_first}
use Rattle.c_tree.specs.declared.words.Span.{Span}
use Rattle.eff_types.specs.Conversion.{conversion}
use Rattle.eff_types.specs.Types.{is_void}
use Rattle.eff_types.specs.declared.types.CType.{CType, Void, Char, Int, Unsigned, Mutex, Struct, Pointer', Array', Function'}
use Rattle.core_unit.specs.Shapes.{number_type}
use Rattle.core_unit.specs.Typed.{Tables, is_value}
use Rattle.core_unit.proofs.Equations.{type_of-Number, type_of-Discard}
use Rattle.core_unit.specs.declared.expressions.Expr.TheVariants as expr
use Rattle.core_unit.specs.declared.operators.Cause.TheVariants as cause
use Rattle.type_rules.specs.Constants.{is_null_constant}
use Rattle.type_rules.specs.Conversions.{cast_to, cast, converted_by}
use Rattle.type_rules.specs.Literals.{Literal, literal, number_in}
use Rattle.type_rules.specs.Operands.{operand, found_value}
use Rattle.type_rules.specs.Primaries.{number, literal_found, parenthesised}
use Rattle.type_rules.specs.Reading.{Read, Good, and_then, text_of}
use Rattle.type_rules.specs.Seen.{Seen}
use Rattle.type_rules.specs.declared.found.Found.{Found}
use Rattle.type_rules.specs.declared.found.Operand.{Operand}
use Rattle.type_laws.proofs.Converted.{cast_keeps}
use Rattle.type_laws.proofs.Formed.{IsFormed, formed_stays}
use Rattle.type_laws.proofs.Naming.{typed_as}
use Rattle.type_laws.proofs.Operands.{IsFound, IsTypedFound, IsOperand, IsTypedOperand, operand_keeps}
use Rattle.type_laws.proofs.Operations.{node_keeps, formed_number}
use Rattle.type_laws.proofs.Triples.{Triple, Keeps, Always, Lawful, then_keeps, gives_keeps, anyway}
use Rattle.type_laws.proofs.Typed as typed
use Rattle.type_laws.proofs.Types.{is_given, given_of_result, number_is_result, number_is_number, value_of_result}

-- a number is in range
abbrev pub IsInRange : Literal → Type 0
IsInRange l = l.bits < 2 ^ 32

greatest_fits : (suffix first : Bool) → (if suffix || first then 4294967295 else 2147483647) < 2 ^ 32
greatest_fits true first = omega arith
greatest_fits false true = omega arith
greatest_fits false false = omega arith

within_fits : (word : List ℕ) (limit : ℕ) (v : Option ℕ) → limit < 2 ^ 32 → IsInRange (literal (number_typed word (value_within limit v)))
within_fits word limit None below = omega arith
within_fits word limit (Some v) below = of (nat_le v limit) refl
  where
    of : (test : Bool) → nat_le v limit ≡ test → IsInRange (literal (number_typed word (if test then Some v else None)))
    of true e = let fits : v ≤ limit = leb-true v limit e in omega arith
    of false e = omega arith

value_fits : (word : List ℕ) (test : Bool) → IsInRange (literal (number_typed word (if test then value_within (greatest word) (read_number (digits_of word)) else None)))
value_fits word true = within_fits word (greatest word) (read_number (digits_of word)) (greatest_fits (has_suffix word) (is_first 48 word))
value_fits word false = omega arith

number_fits : (word : List ℕ) → IsInRange (literal (number_of word))
number_fits word = value_fits word (nat_le (length word) (length (digits_of word) + 1))

pub literal_keeps : (called : Bool) (at : Span) → Keeps Always IsFound (IsTypedFound called) (number at)
unfolding number number_in
literal_keeps called at s lawful =
    let l = literal (number_of (text_of s.source at)) in
    gives_keeps s (literal_found at.start l) lawful
    (formed_number s l.sign, (type_of-Number l.sign l.bits, given_of_result (number_type l.sign) (number_is_result (number_type l.sign) (number_is_number l.sign)))) (λ u leads knows p.
    typed_as called u (expr.Number l.sign l.bits) (typed.typed-Number u l.sign l.bits (number_fits (text_of s.source at))))

-- parentheses
pub parenthesised_keeps : (called : Bool) (place : ℕ) (expression : Seen → Read Found) → Keeps Always IsFound (IsTypedFound called) expression
    → Keeps Always IsFound (IsTypedFound called) (parenthesised place expression)
unfolding parenthesised and_then
parenthesised_keeps called place expression keeps s lawful =
    then_keeps s (expression s) _ (keeps s lawful) (λ f t t_lawful t_stay known. gives_keeps t (record f { place = place }) t_lawful known (λ u leads knows p. p.1))

-- a type
abbrev pub IsType : CType → Seen → Type 0
IsType t s = IsFormed s.structures t

abbrev pub Nothing : CType → Tables → Type 0
Nothing t u = Unit {0}

-- a cast
cast_of : (pre : Tables → Type 0) (s : Seen) (place : ℕ) (to : CType) (o : Operand) → is_void to ≡ false → Lawful s → IsFormed s.structures to → IsOperand o s
    → ((u : Tables) → pre u → IsTypedOperand o u)
    → Triple pre IsFound (IsTypedFound false) s
    (and_then (converted_by cause.Cast place to o (conversion o.kind to (is_null_constant o) true) s) (λ c t. Good (found_value place to c.node) t))
unfolding and_then
cast_of pre s place to o solid lawful formed known is_typed =
    then_keeps s _ _ (cast_keeps pre s to o lawful formed known is_typed place solid) (λ c t t_lawful t_stay c_known.
    node_keeps _ t place to c.node t_lawful (subst (λ k. IsFormed t.structures k) c_known.1 c_known.0.0) (c_known.0.1 ∙ c_known.1)
    (subst (λ k. is_given k ≡ true) c_known.1 (given_of_result c.kind c_known.0.2)) (λ u leads p. p.1))

cast_to_keeps : (pre : Tables → Type 0) (s : Seen) (place : ℕ) (to : CType) (o : Operand) → Lawful s → IsFormed s.structures to → IsOperand o s
    → ((u : Tables) → pre u → IsTypedOperand o u) → Triple pre IsFound (IsTypedFound false) s (cast_to place to o s)
cast_to_keeps pre s place Void o lawful formed known is_typed =
    node_keeps pre s place Void (expr.Discard o.node) lawful formed (type_of-Discard o.node) refl (λ u leads p.
    typed.typed-Discard u o.node (is_typed u p) (ap is_value known.1 ∙ value_of_result o.kind known.2))
cast_to_keeps pre s place Char o lawful formed known is_typed = cast_of pre s place Char o refl lawful formed known is_typed
cast_to_keeps pre s place Int o lawful formed known is_typed = cast_of pre s place Int o refl lawful formed known is_typed
cast_to_keeps pre s place Unsigned o lawful formed known is_typed = cast_of pre s place Unsigned o refl lawful formed known is_typed
cast_to_keeps pre s place Mutex o lawful formed known is_typed = cast_of pre s place Mutex o refl lawful formed known is_typed
cast_to_keeps pre s place (Struct k) o lawful formed known is_typed = cast_of pre s place (Struct k) o refl lawful formed known is_typed
cast_to_keeps pre s place (Pointer' p t) o lawful formed known is_typed = cast_of pre s place (Pointer' p t) o refl lawful formed known is_typed
cast_to_keeps pre s place (Array' p t n) o lawful formed known is_typed = cast_of pre s place (Array' p t n) o refl lawful formed known is_typed
cast_to_keeps pre s place (Function' p r z ps e) o lawful formed known is_typed = cast_of pre s place (Function' p r z ps e) o refl lawful formed known is_typed

pub casts_keep : (place : ℕ) (name : Seen → Read CType) (expression : Seen → Read Found) → Keeps Always IsType Nothing name
    → Keeps Always IsFound (IsTypedFound false) expression → Keeps Always IsFound (IsTypedFound false) (cast place name expression)
unfolding cast and_then
casts_keep place name expression name_keeps keeps s lawful =
    then_keeps s (name s) _ (name_keeps s lawful) (λ to t t_lawful t_stay formed.
    then_keeps t (operand expression t) _ (anyway t _ (operand_keeps Always expression keeps t t_lawful)) (λ o v v_lawful v_stay known.
    cast_to_keeps _ v place to o v_lawful (formed_stays t.structures v.structures to v_stay t_lawful.open_are_empty formed) known (λ u p. p.1)))
