-- Numbers in operations: a promoted number and one in a sign are typed, and have the type of the sign.
use Rattle.std.proofs.Common.{◌≡◌, ℕ, Bool, true, false, refl, sym, ◌∙◌, ap}
use Rattle.std.specs.Prelude.{if◌then◌else◌}
use Rattle.eff_types.specs.Types.{is_number, same}
use Rattle.eff_types.specs.declared.types.CType.{CType, Void, Char, Int, Unsigned, Mutex, Struct, Pointer', Array', Function'}
use Rattle.eff_types.proofs.Sameness.{same-eq}
use Rattle.core_unit.specs.Shapes.{is_scalar, number_type, sign_of}
use Rattle.core_unit.specs.Structures.{IsWithin}
use Rattle.core_unit.specs.Typed.{Tables, IsTyped, is_asked, is_conversion}
use Rattle.core_unit.specs.Typing.{type_of}
use Rattle.core_unit.proofs.Equations.{type_of-Convert}
use Rattle.core_unit.specs.declared.operators.Cause.TheVariants as cause
use Rattle.core_unit.specs.declared.operators.Sign.{Sign}
use Rattle.core_unit.specs.declared.operators.Sign.TheVariants.{Signed, Unsigned as Without}
use Rattle.type_rules.specs.Operands.{is_char, promoted, in_sign, turned}
use Rattle.type_rules.specs.declared.found.Operand.{Operand}
use Rattle.type_laws.proofs.Operands.{IsTypedOperand}
use Rattle.type_laws.proofs.Typed as typed
use Rattle.type_laws.proofs.Types.{promoted_number, asked_of_scalar}

pub char_is : (t : CType) → is_char t ≡ true → t ≡ Char
char_is Char e = refl
char_is Void e = absurd (cc)
char_is Int e = absurd (cc)
char_is Unsigned e = absurd (cc)
char_is Mutex e = absurd (cc)
char_is (Struct k) e = absurd (cc)
char_is (Pointer' _ t) e = absurd (cc)
char_is (Array' _ t n) e = absurd (cc)
char_is (Function' _ _ _ _ _) e = absurd (cc)

within_number : (count : ℕ) (sign : Sign) → IsWithin count (number_type sign)
unfolding IsWithin
within_number count Signed = tt
within_number count Without = tt

-- a `char` becomes an `int`
char_converts : (t : CType) → t ≡ Char → is_conversion cause.Implicit t Int ≡ true
unfolding same
char_converts t e = ap (λ (x : CType). is_conversion cause.Implicit x Int) e

-- a promoted number takes another sign
sign_converts : (a b : Sign) → same (number_type a) (number_type b) ≡ false → is_conversion cause.Implicit (number_type a) (number_type b) ≡ true
unfolding same
sign_converts Signed Signed e = sym e
sign_converts Signed Without e = refl
sign_converts Without Signed e = refl
sign_converts Without Without e = sym e

choose_kind : (o : Operand) (char : Bool) → is_char o.kind ≡ char → type_of o.node ≡ o.kind
    → type_of (if char then turned cause.Implicit Int o else o).node ≡ (if char then turned cause.Implicit Int o else o).kind
choose_kind o true e is = type_of-Convert cause.Implicit Int o.node
choose_kind o false e is = is

pub promoted_kind : (o : Operand) → type_of o.node ≡ o.kind → type_of (promoted o).node ≡ (promoted o).kind
unfolding promoted
promoted_kind o is = choose_kind o (is_char o.kind) refl is

choose_number : (o : Operand) (char : Bool) → is_char o.kind ≡ char → is_number o.kind ≡ true
    → (if char then turned cause.Implicit Int o else o).kind ≡ number_type (sign_of o.kind)
choose_number o true e number = sym (ap (λ t. number_type (sign_of t)) (char_is o.kind e))
choose_number o false e number = promoted_number o.kind number e

pub promoted_is : (o : Operand) → is_number o.kind ≡ true → (promoted o).kind ≡ number_type (sign_of o.kind)
unfolding promoted
promoted_is o number = choose_number o (is_char o.kind) refl number

choose_typed : (u : Tables) (o : Operand) (char : Bool) → is_char o.kind ≡ char → type_of o.node ≡ o.kind → IsTyped u o.node
    → IsTyped u (if char then turned cause.Implicit Int o else o).node
choose_typed u o true e is h = typed.typed-Convert u cause.Implicit Int o.node h (within_number _ Signed) (char_converts (type_of o.node) (is ∙ char_is o.kind e))
choose_typed u o false e is h = h

pub promoted_typed : (u : Tables) (o : Operand) → type_of o.node ≡ o.kind → IsTypedOperand o u → IsTypedOperand (promoted o) u
unfolding promoted
promoted_typed u o is h = choose_typed u o (is_char o.kind) refl is h

choose_asked : (o : Operand) (char : Bool) → is_char o.kind ≡ char → is_scalar o.kind ≡ true → is_asked (if char then turned cause.Implicit Int o else o).kind ≡ true
choose_asked o true e scalar = refl
choose_asked o false e scalar = asked_of_scalar o.kind scalar e

pub promoted_asked : (o : Operand) → is_scalar o.kind ≡ true → is_asked (promoted o).kind ≡ true
unfolding promoted
promoted_asked o scalar = choose_asked o (is_char o.kind) refl scalar

-- a number in a sign
choose_sign : (sign : Sign) (o : Operand) (alike : Bool) → same o.kind (number_type sign) ≡ alike → type_of o.node ≡ o.kind
    → type_of (if alike then o else turned cause.Implicit (number_type sign) o).node ≡ number_type sign
choose_sign sign o true e is = is ∙ same-eq o.kind (number_type sign) e
choose_sign sign o false e is = type_of-Convert cause.Implicit (number_type sign) o.node

pub in_sign_is : (sign : Sign) (o : Operand) → type_of o.node ≡ o.kind → type_of (in_sign sign o).node ≡ number_type sign
unfolding in_sign
in_sign_is sign o is = choose_sign sign (promoted o) (same (promoted o).kind (number_type sign)) refl (promoted_kind o is)

choose_in : (u : Tables) (sign old : Sign) (o : Operand) (alike : Bool) → same o.kind (number_type sign) ≡ alike → type_of o.node ≡ o.kind
    → o.kind ≡ number_type old → IsTyped u o.node → IsTyped u (if alike then o else turned cause.Implicit (number_type sign) o).node
choose_in u sign old o true e is number h = h
choose_in u sign old o false e is number h =
    typed.typed-Convert u cause.Implicit (number_type sign) o.node h (within_number _ sign)
    (ap (λ t. is_conversion cause.Implicit t (number_type sign)) (is ∙ number)
    ∙ sign_converts old sign (ap (λ t. same t (number_type sign)) (sym number) ∙ e))

pub in_sign_typed : (u : Tables) (sign : Sign) (o : Operand) → type_of o.node ≡ o.kind → is_number o.kind ≡ true → IsTypedOperand o u
    → IsTypedOperand (in_sign sign o) u
unfolding in_sign
in_sign_typed u sign o is number h =
    choose_in u sign (sign_of o.kind) (promoted o) (same (promoted o).kind (number_type sign)) refl (promoted_kind o is) (promoted_is o number)
    (promoted_typed u o is h)
