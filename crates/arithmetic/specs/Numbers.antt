-- Numbers of 32 bits: the value of bits, the bits of a value, and what is given where a value has none (C17 6.2.6.2 and 6.3.1.3). A `char` is
-- such a number too, a signed one (this project's own rule).
use Rattle.std.specs.Prelude.{ℕ, ◌-◌, ◌^◌, Bool, ◌&&◌, if◌then◌else◌, nat_lt, ℤ, pos, negsuc, ◌-ℤ◌, int_lt, int_le, unsigned_abs, Result, Ok, Err}
use Rattle.std.specs.Int.{int_rem_euclid}
use Rattle.core_unit.specs.declared.operators.Sign.{Sign}
use Rattle.core_unit.specs.declared.operators.Sign.TheVariants.{Signed, Unsigned as Without}
use Rattle.arithmetic.specs.declared.traps.TrapKind.{TrapKind}

-- The value of bits as a number of this sign; a signed number is in two's complement (C17 6.2.6.2).
abbrev pub value_of : Sign → ℕ → ℤ
value_of Without bits = pos bits
value_of Signed bits = if nat_lt bits (2 ^ 31) then pos bits else pos bits -ℤ pos (2 ^ 32)

-- The bits of an integer: its remainder modulo 2^32, from 0 to 2^32 - 1 (C17 6.3.1.3; that a signed number wraps here is this project's own rule).
abbrev pub bits_of : ℤ → ℕ
bits_of z = unsigned_abs (int_rem_euclid z (pos (2 ^ 32)))

-- Whether a number of this sign can have the value: from -2^31 to 2^31 - 1, or from 0 to 2^32 - 1 (C17 5.2.4.2.1).
abbrev pub is_value : Sign → ℤ → Bool
is_value Without z = int_le (pos 0) z && int_lt z (pos (2 ^ 32))
is_value Signed z = int_le (negsuc (2 ^ 31 - 1)) z && int_lt z (pos (2 ^ 31))

-- What an operation gives whose exact result this is: an unsigned one wraps, and a signed one that doesn't fit traps (C17 6.2.5 and 6.5).
abbrev pub narrowed : TrapKind → Sign → ℤ → Result ℕ TrapKind
narrowed trap Without z = Ok (bits_of z)
narrowed trap Signed z = if is_value Signed z then Ok (bits_of z) else Err trap

-- A number of one sign becomes one of another (C17 6.3.1.3).
abbrev pub converted : Sign → Sign → ℕ → ℕ
converted from to bits = bits_of (value_of from bits)
