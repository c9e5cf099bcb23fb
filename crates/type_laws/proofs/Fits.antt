-- What an allowed conversion tells makes its node fit.
use Rattle.std.proofs.Common.{◌≡◌, Bool, true, false, refl, sym, inl, inr}
use Rattle.std.specs.Prelude.{not, ◌&&◌, ◌||◌, ◌⊎◌, if◌then◌else◌}
use Rattle.eff_types.specs.Types.{is_number, is_pointer, is_function, points_to, is_function_pointer, is_data_pointer, is_void_pointer, same, same_outside}
use Rattle.eff_types.specs.declared.types.CType.{CType, Void, Char, Int, Unsigned, Mutex, Struct, Pointer', Array', Function', end_of-CType, more_of-CType}
use Rattle.core_unit.specs.Typed.{is_conversion, are_numbers, are_data_pointers, are_function_pointers}
use Rattle.core_unit.specs.declared.operators.Cause.{Cause}
use Rattle.core_unit.specs.declared.operators.Cause.TheVariants as cause
use Rattle.type_rules.specs.Conversions.{null_cause}

-- without a cast
first_fits : (a b c s : Bool) → a ≡ true → s ≡ false → (a || b || c) && not s ≡ true
first_fits true b c false p q = refl
first_fits true b c true p q = absurd (cc)
first_fits false b c s p q = absurd (cc)

pub second_fits : (a b c s : Bool) → b ≡ true → s ≡ false → (a || b || c) && not s ≡ true
second_fits true b c false p q = refl
second_fits false true c false p q = refl
second_fits a false c s p q = absurd (cc)
second_fits a b c true p q = absurd (cc)

pub third_fits : (a b c s : Bool) → c ≡ true → s ≡ false → (a || b || c) && not s ≡ true
third_fits true b c false p q = refl
third_fits false true c false p q = refl
third_fits false false true false p q = refl
third_fits a b false s p q = absurd (cc)
third_fits a b c true p q = absurd (cc)

-- with one
first_casts : (a b c : Bool) → a ≡ true → (a || b || c) ≡ true
first_casts true b c p = refl
first_casts false b c p = absurd (cc)

second_casts : (a b c : Bool) → b ≡ true → (a || b || c) ≡ true
second_casts true b c p = refl
second_casts false true c p = refl
second_casts a false c p = absurd (cc)

third_casts : (a b c : Bool) → c ≡ true → (a || b || c) ≡ true
third_casts true b c p = refl
third_casts false true c p = refl
third_casts false false true p = refl
third_casts a b false p = absurd (cc)

-- a pointer to `void` is one to data
pub void_is_data : (t : CType) → is_void_pointer t ≡ true → is_data_pointer t ≡ true
unfolding points_to
void_is_data (Pointer' _ (more_of-CType Void end_of-CType)) e = refl
void_is_data (Pointer' _ (more_of-CType t end_of-CType)) e = absurd (cc)
void_is_data Void e = absurd (cc)
void_is_data Char e = absurd (cc)
void_is_data Int e = absurd (cc)
void_is_data Unsigned e = absurd (cc)
void_is_data Mutex e = absurd (cc)
void_is_data (Struct k) e = absurd (cc)
void_is_data (Array' _ t n) e = absurd (cc)
void_is_data (Function' _ _ _ _ _) e = absurd (cc)

not_of : (b : Bool) → b ≡ false → not b ≡ true
not_of true e = sym e
not_of false e = refl

-- a pointer that leads to no function leads to data
pub other_is_data : (t : CType) → is_pointer t ≡ true → is_function_pointer t ≡ false → is_data_pointer t ≡ true
unfolding points_to
other_is_data (Pointer' _ (more_of-CType t end_of-CType)) e f = not_of (is_function t) f
other_is_data Void e f = absurd (cc)
other_is_data Char e f = absurd (cc)
other_is_data Int e f = absurd (cc)
other_is_data Unsigned e f = absurd (cc)
other_is_data Mutex e f = absurd (cc)
other_is_data (Struct k) e f = absurd (cc)
other_is_data (Array' _ t n) e f = absurd (cc)
other_is_data (Function' _ _ _ _ _) e f = absurd (cc)

pub data_is_pointer : (t : CType) → is_data_pointer t ≡ true → is_pointer t ≡ true
unfolding points_to
data_is_pointer (Pointer' _ t) e = refl
data_is_pointer Void e = e
data_is_pointer Char e = e
data_is_pointer Int e = e
data_is_pointer Unsigned e = e
data_is_pointer Mutex e = e
data_is_pointer (Struct k) e = e
data_is_pointer (Array' _ t n) e = e
data_is_pointer (Function' _ _ _ _ _) e = e

pub function_pointer_is_pointer : (t : CType) → is_function_pointer t ≡ true → is_pointer t ≡ true
unfolding points_to
function_pointer_is_pointer (Pointer' _ t) e = refl
function_pointer_is_pointer Void e = e
function_pointer_is_pointer Char e = e
function_pointer_is_pointer Int e = e
function_pointer_is_pointer Unsigned e = e
function_pointer_is_pointer Mutex e = e
function_pointer_is_pointer (Struct k) e = e
function_pointer_is_pointer (Array' _ t n) e = e
function_pointer_is_pointer (Function' _ _ _ _ _) e = e

-- the cause of a conversion that is written, and of another one
abbrev pub why_of : Bool → Cause
why_of true = cause.Cast
why_of false = cause.Implicit

regroup : (a b c : Bool) → (a && b && c) ≡ true → (a && b) && c ≡ true
regroup true true true e = refl
regroup true true false e = e
regroup true false c e = absurd (cc)
regroup false b c e = absurd (cc)

drop_third : (a b c : Bool) → (a && b && c) ≡ true → a && b ≡ true
drop_third true true c e = refl
drop_third true false c e = absurd (cc)
drop_third false b c e = absurd (cc)

pub number_fits : (explicit : Bool) (from to : CType) → same from to ≡ false → is_number from && is_number to ≡ true → is_conversion (why_of explicit) from to ≡ true
number_fits true from to other numbers = first_casts (are_numbers from to) (are_function_pointers from to) (are_data_pointers from to) numbers
number_fits false from to other numbers =
    first_fits (are_numbers from to) (are_function_pointers from to) (are_data_pointers from to && (is_void_pointer from || is_void_pointer to)) (same from to)
    numbers other

pub effects_fit : (explicit : Bool) (from to : CType) → same from to ≡ false
    → (is_function_pointer from && is_function_pointer to && same_outside from to) ≡ true → is_conversion (why_of explicit) from to ≡ true
effects_fit true from to other functions = second_casts (are_numbers from to) (are_function_pointers from to) (are_data_pointers from to) functions
effects_fit false from to other functions =
    second_fits (are_numbers from to) (are_function_pointers from to) (are_data_pointers from to && (is_void_pointer from || is_void_pointer to)) (same from to)
    functions other

pub pointer_fits : (explicit : Bool) (from to : CType) → same from to ≡ false
    → ((is_data_pointer from && is_data_pointer to && (is_void_pointer from || is_void_pointer to)) ≡ true)
    ⊎ ((is_data_pointer from && is_data_pointer to && explicit) ≡ true)
    → is_conversion (why_of explicit) from to ≡ true
pointer_fits true from to other (inl e) =
    third_casts (are_numbers from to) (are_function_pointers from to) (are_data_pointers from to)
    (drop_third (is_data_pointer from) (is_data_pointer to) (is_void_pointer from || is_void_pointer to) e)
pointer_fits true from to other (inr e) =
    third_casts (are_numbers from to) (are_function_pointers from to) (are_data_pointers from to)
    (drop_third (is_data_pointer from) (is_data_pointer to) true e)
pointer_fits false from to other (inl e) =
    third_fits (are_numbers from to) (are_function_pointers from to) (are_data_pointers from to && (is_void_pointer from || is_void_pointer to)) (same from to)
    (regroup (is_data_pointer from) (is_data_pointer to) (is_void_pointer from || is_void_pointer to) e) other
pointer_fits false from to other (inr e) = absurd (no_third (is_data_pointer from) (is_data_pointer to) e)
  where
    no_third : (a b : Bool) → (a && b && false) ≡ true → ⊥
    no_third true true e = cc
    no_third true false e = cc
    no_third false b e = cc

-- a null pointer constant
null_given : (n p v f : Bool) → p ≡ true → (n || (v && f)) ≡ true → (n && p) || (v && f) ≡ true
null_given true true v f e g = refl
null_given true false v f e g = absurd (cc)
null_given false p v f e g = g

pub null_fits : (explicit : Bool) (from to : CType) → same from to ≡ false → is_pointer to ≡ true → is_number from || is_void_pointer from ≡ true
    → is_conversion (null_cause (why_of explicit) from to) from to ≡ true
null_fits explicit from to other pointer null = of (is_number from || (is_void_pointer from && is_function_pointer to)) refl
  where
    not_function : (n v f : Bool) → (n || (v && f)) ≡ false → n || v ≡ true → f ≡ false
    not_function true v f a b = absurd (cc)
    not_function false true f a b = a
    not_function false false f a b = absurd (cc)

    is_void_one : (n v f : Bool) → (n || (v && f)) ≡ false → n || v ≡ true → v ≡ true
    is_void_one true v f a b = absurd (cc)
    is_void_one false true f a b = refl
    is_void_one false false f a b = b

    pair : (a b v w : Bool) → a ≡ true → b ≡ true → v ≡ true → (a && b) && (v || w) ≡ true
    pair true true true w p q r = refl
    pair false b v w p q r = absurd (cc)
    pair a false v w p q r = absurd (cc)
    pair a b false w p q r = absurd (cc)

    pair_of_data : (a b : Bool) → a ≡ true → b ≡ true → a && b ≡ true
    pair_of_data true b p q = q
    pair_of_data false b p q = p

    data_fits : (explicit : Bool) → is_void_pointer from ≡ true → is_data_pointer to ≡ true → is_conversion (why_of explicit) from to ≡ true
    data_fits true v d =
        third_casts (are_numbers from to) (are_function_pointers from to) (are_data_pointers from to)
        (pair_of_data (is_data_pointer from) (is_data_pointer to) (void_is_data from v) d)
    data_fits false v d =
        third_fits (are_numbers from to) (are_function_pointers from to) (are_data_pointers from to && (is_void_pointer from || is_void_pointer to)) (same from to)
        (pair (is_data_pointer from) (is_data_pointer to) (is_void_pointer from) (is_void_pointer to) (void_is_data from v) d v) other

    of : (test : Bool) → (is_number from || (is_void_pointer from && is_function_pointer to)) ≡ test
        → is_conversion (if test then cause.Null else why_of explicit) from to ≡ true
    of true e = null_given (is_number from) (is_pointer to) (is_void_pointer from) (is_function_pointer to) pointer e
    of false e =
        data_fits explicit (is_void_one (is_number from) (is_void_pointer from) (is_function_pointer to) e null)
        (other_is_data to pointer (not_function (is_number from) (is_void_pointer from) (is_function_pointer to) e null))
