-- What the rules of typing ask of types, in the words of the typed unit.
use Rattle.std.proofs.Common.{◌≡◌, Bool, true, false, refl, sym, ◌∙◌}
use Rattle.std.specs.Prelude.{not, ◌&&◌, ◌||◌}
use Rattle.eff_types.specs.Types.{is_number, is_void, is_function}
use Rattle.eff_types.specs.declared.types.CType.{CType, Void, Char, Int, Unsigned, Mutex, Struct, Pointer', Array', Function'}
use Rattle.core_unit.specs.Shapes.{is_array, is_pointer, is_scalar, is_promoted, number_type, sign_of}
use Rattle.core_unit.specs.Typed.{is_asked, is_value}
use Rattle.core_unit.specs.declared.operators.Sign.{Sign}
use Rattle.core_unit.specs.declared.operators.Sign.TheVariants.{Signed, Unsigned as Without}
use Rattle.type_rules.specs.Operands.{is_whole, is_char}
use Rattle.type_rules.specs.Types.{is_result}

-- what an lvalue designates: neither `void` nor a function (C17 6.3.2.1)
abbrev pub is_object : CType → Bool
is_object t = not (is_void t) && not (is_function t)

-- what a value may have: a result of a call, or a function that is called
abbrev pub is_given : CType → Bool
is_given t = is_result t || is_function t

pub and_intro : (a b : Bool) → a ≡ true → b ≡ true → a && b ≡ true
and_intro true b p q = q
and_intro false b p q = p

pub and_left : (a b : Bool) → a && b ≡ true → a ≡ true
and_left true b p = refl
and_left false b p = p

pub and_right : (a b : Bool) → a && b ≡ true → b ≡ true
and_right true b p = p
and_right false b p = absurd (cc)

pub or_left : (a b : Bool) → a ≡ true → a || b ≡ true
or_left true b p = refl
or_left false b p = absurd (cc)

pub or_right : (a b : Bool) → b ≡ true → a || b ≡ true
or_right true b p = refl
or_right false b p = p

-- one of two, and not the second
pub or_not : (a b : Bool) → a || b ≡ true → b ≡ false → a ≡ true
or_not true b p n = refl
or_not false b p n = sym n ∙ p

pub not_true : (a : Bool) → not a ≡ true → a ≡ false
not_true true p = sym p
not_true false p = refl

-- what isn't refused holds
pub not_refused : (a : Bool) → not a ≡ false → a ≡ true
not_refused true p = refl
not_refused false p = sym p

pub scalar_of_object : (t : CType) → is_object t ≡ true → is_array t ≡ false → is_whole t ≡ false → is_scalar t ≡ true
scalar_of_object Void o a w = o
scalar_of_object Char o a w = refl
scalar_of_object Int o a w = refl
scalar_of_object Unsigned o a w = refl
scalar_of_object Mutex o a w = sym w
scalar_of_object (Struct n) o a w = sym w
scalar_of_object (Pointer' _ t) o a w = refl
scalar_of_object (Array' _ t n) o a w = sym a
scalar_of_object (Function' _ _ _ _ _) o a w = o

-- a scalar or nothing is no function
pub value_of_result : (t : CType) → is_result t ≡ true → is_value t ≡ true
value_of_result Void r = refl
value_of_result Char r = refl
value_of_result Int r = refl
value_of_result Unsigned r = refl
value_of_result Mutex r = refl
value_of_result (Struct n) r = refl
value_of_result (Pointer' _ t) r = refl
value_of_result (Array' _ t n) r = refl
value_of_result (Function' _ _ _ _ _) r = r

pub result_of_scalar : (t : CType) → is_scalar t ≡ true → is_result t ≡ true
result_of_scalar t s = or_right (is_void t) (is_scalar t) s

pub given_of_result : (t : CType) → is_result t ≡ true → is_given t ≡ true
given_of_result t r = or_left (is_result t) (is_function t) r

-- a number once it is promoted
pub promoted_number : (t : CType) → is_number t ≡ true → is_char t ≡ false → t ≡ number_type (sign_of t)
promoted_number Char n c = let clash : ⊥ = cc in absurd clash
promoted_number Int n c = refl
promoted_number Unsigned n c = refl
promoted_number Void n c = let clash : ⊥ = cc in absurd clash
promoted_number Mutex n c = let clash : ⊥ = cc in absurd clash
promoted_number (Struct k) n c = let clash : ⊥ = cc in absurd clash
promoted_number (Pointer' _ t) n c = let clash : ⊥ = cc in absurd clash
promoted_number (Array' _ t k) n c = let clash : ⊥ = cc in absurd clash
promoted_number (Function' _ _ _ _ _) n c = let clash : ⊥ = cc in absurd clash

pub promoted_sign : (s : Sign) → is_promoted (number_type s) ≡ true
promoted_sign Signed = refl
promoted_sign Without = refl

pub number_is_number : (s : Sign) → is_number (number_type s) ≡ true
number_is_number Signed = refl
number_is_number Without = refl

pub number_is_result : (t : CType) → is_number t ≡ true → is_result t ≡ true
number_is_result t n = or_right (is_void t) (is_scalar t) (or_left (is_number t) (is_pointer t) n)

-- a scalar that isn't a `char` is asked by `!`
pub asked_of_scalar : (t : CType) → is_scalar t ≡ true → is_char t ≡ false → is_asked t ≡ true
asked_of_scalar Void s c = s
asked_of_scalar Char s c = sym c
asked_of_scalar Int s c = refl
asked_of_scalar Unsigned s c = refl
asked_of_scalar Mutex s c = s
asked_of_scalar (Struct n) s c = s
asked_of_scalar (Pointer' _ t) s c = refl
asked_of_scalar (Array' _ t n) s c = s
asked_of_scalar (Function' _ _ _ _ _) s c = s
