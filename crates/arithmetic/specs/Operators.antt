-- The operators on numbers of 32 bits, by their bits: what each gives, or the kind of its trap.
use Rattle.std.specs.Prelude.{ℕ, ◌-◌, ◌^◌, Bool, true, false, not, ◌&&◌, if◌then◌else◌, nat_lt, ℤ, pos, ◌+ℤ◌, ◌-ℤ◌, ◌*ℤ◌, neg_ℤ, int_lt, int_le, int_div, int_rem, unsigned_abs, bit_and, bit_or, bit_xor, Result, Ok, Err}
use Rattle.std.specs.Int.{int_div_euclid}
use Rattle.std.specs.Ordering.{int_eq}
use Rattle.core_unit.specs.declared.operators.ArithmeticOperator.{ArithmeticOperator}
use Rattle.core_unit.specs.declared.operators.ArithmeticOperator.TheVariants.{Multiply, Divide, Remainder, Add, Subtract, LeftShift, RightShift, And, ExclusiveOr, Or}
use Rattle.core_unit.specs.declared.operators.ComparisonOperator.{ComparisonOperator}
use Rattle.core_unit.specs.declared.operators.ComparisonOperator.TheVariants.{Equal, NotEqual, Less, Greater, LessOrEqual, GreaterOrEqual}
use Rattle.core_unit.specs.declared.operators.Sign.{Sign}
use Rattle.core_unit.specs.declared.operators.Sign.TheVariants.{Signed, Unsigned as Without}
use Rattle.arithmetic.specs.Numbers.{value_of, bits_of, is_value, narrowed}
use Rattle.arithmetic.specs.declared.traps.TrapKind.{TrapKind}
use Rattle.arithmetic.specs.declared.traps.TrapKind.TheVariants.{Overflow, Division, Shift}

-- A quotient or a remainder, rounded toward zero. There is none by 0, and none where a quotient of this sign can't have the value: of the least
-- number and -1 (C17 6.5.5).
abbrev pub divided : (ℤ → ℤ → ℤ) → Sign → ℤ → ℤ → Result ℕ TrapKind
divided part sign a b = if not (int_eq b (pos 0)) && is_value sign (int_div a b) then Ok (bits_of (part a b)) else Err Division

-- Only numbers that aren't negative are shifted to the left, as far as the result fits; unsigned ones wrap (C17 6.5.7).
abbrev pub is_shifted_left : Sign → ℤ → Bool
is_shifted_left Without z = true
is_shifted_left Signed z = int_le (pos 0) z && int_lt z (pos (2 ^ 31))

-- By a count from 0 to 31. A negative count has bits from 2^31 on.
abbrev pub shifted_left : Sign → ℤ → ℕ → Result ℕ TrapKind
shifted_left sign a count =
    if nat_lt count 32 && is_shifted_left sign (a *ℤ pos (2 ^ count)) then Ok (bits_of (a *ℤ pos (2 ^ count))) else Err Shift

-- A negative number keeps its sign: the quotient by the power of 2 is rounded down (C17 6.5.7 leaves this open).
abbrev pub shifted_right : ℤ → ℕ → Result ℕ TrapKind
shifted_right a count = if nat_lt count 32 then Ok (bits_of (int_div_euclid a (pos (2 ^ count)))) else Err Shift

-- An operator on two numbers of a sign (C17 6.5.5 to 6.5.7 and 6.5.10 to 6.5.12); of a shift, the sign is that of the left one.
abbrev pub computed : ArithmeticOperator → Sign → ℕ → ℕ → Result ℕ TrapKind
computed Multiply sign a b = narrowed Overflow sign (value_of sign a *ℤ value_of sign b)
computed Divide sign a b = divided int_div sign (value_of sign a) (value_of sign b)
computed Remainder sign a b = divided int_rem sign (value_of sign a) (value_of sign b)
computed Add sign a b = narrowed Overflow sign (value_of sign a +ℤ value_of sign b)
computed Subtract sign a b = narrowed Overflow sign (value_of sign a -ℤ value_of sign b)
computed LeftShift sign a b = shifted_left sign (value_of sign a) b
computed RightShift sign a b = shifted_right (value_of sign a) b
computed And sign a b = Ok (bit_and a b)
computed ExclusiveOr sign a b = Ok (bit_xor a b)
computed Or sign a b = Ok (bit_or a b)

-- unary `-` and `~` (C17 6.5.3.3), and the function `abs` (C17 7.22.6.1)
abbrev pub negated : Sign → ℕ → Result ℕ TrapKind
negated sign a = narrowed Overflow sign (neg_ℤ (value_of sign a))

abbrev pub complement : ℕ → ℕ
complement a = 2 ^ 32 - 1 - a

abbrev pub absolute : ℕ → Result ℕ TrapKind
absolute a = narrowed Overflow Signed (pos (unsigned_abs (value_of Signed a)))

-- A comparison of two values (C17 6.5.8 and 6.5.9).
abbrev pub holds : ComparisonOperator → ℤ → ℤ → Bool
holds Equal a b = int_eq a b
holds NotEqual a b = not (int_eq a b)
holds Less a b = int_lt a b
holds Greater a b = int_lt b a
holds LessOrEqual a b = int_le a b
holds GreaterOrEqual a b = int_le b a

-- what a comparison gives
abbrev pub truth : Bool → ℕ
truth true = 1
truth false = 0
