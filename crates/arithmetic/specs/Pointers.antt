-- The arithmetic of pointers by their addresses, in words; the null pointer has address 0.
use Rattle.std.specs.Prelude.{ℕ, ◌^◌, ◌&&◌, not, if◌then◌else◌, nat_eq, ℤ, pos, neg_ℤ, ◌+ℤ◌, ◌-ℤ◌, ◌*ℤ◌, int_le, int_div, unsigned_abs, Result, Ok, Err}
use Rattle.arithmetic.specs.Numbers.{bits_of}
use Rattle.arithmetic.specs.declared.operations.Direction.{Direction}
use Rattle.arithmetic.specs.declared.operations.Direction.TheVariants.{Forward, Backward}
use Rattle.arithmetic.specs.declared.traps.TrapKind.{TrapKind}
use Rattle.arithmetic.specs.declared.traps.TrapKind.TheVariants.{BadPointer}

-- The address so many words further on: one from 1 to 2^20, of a pointer that isn't null (C17 6.5.6; the bounds are this project's own).
abbrev pub moved : ℕ → ℤ → Result ℕ TrapKind
moved address distance =
    let there = pos address +ℤ distance in
    if not (nat_eq address 0) && int_le (pos 1) there && int_le there (pos (2 ^ 20)) then Ok (unsigned_abs there) else Err BadPointer

-- so many objects of this many words, on or back
abbrev pub distance : Direction → ℤ → ℕ → ℤ
distance Forward number words = number *ℤ pos words
distance Backward number words = neg_ℤ (number *ℤ pos words)

-- How many objects of this many words lie between two addresses, rounded toward zero, as the bits of an `int` (C17 6.5.6; that any two pointers
-- have a difference is this project's own rule).
abbrev pub difference : ℕ → ℕ → ℕ → ℕ
difference words a b = bits_of (int_div (pos a -ℤ pos b) (pos words))
