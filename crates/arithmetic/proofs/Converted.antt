-- A conversion between numbers keeps the bits.
use Rattle.std.proofs.Common.{◌≡◌, ℕ, ◌^◌, ◌<◌, arith}
use Rattle.std.proofs.lemmas.Bool.Decides.{nat_tests}
use Rattle.std.proofs.lemmas.Int.{ints}
use Rattle.core_unit.specs.declared.operators.Sign.{Sign}
use Rattle.core_unit.specs.declared.operators.Sign.TheVariants.{Signed, Unsigned as Without}
use Rattle.arithmetic.specs.Numbers.{value_of, bits_of, converted}

pub bits_of-value_of : (sign : Sign) (bits : ℕ) → bits < 2 ^ 32 → bits_of (value_of sign bits) ≡ bits
bits_of-value_of Without bits h = omega arith
bits_of-value_of Signed bits h = grind (arith, nat_tests, ints)

pub same_bits : (from to : Sign) (bits : ℕ) → bits < 2 ^ 32 → converted from to bits ≡ bits
same_bits from to bits h = bits_of-value_of from bits h
