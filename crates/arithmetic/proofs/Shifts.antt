-- Of a signed number that is shifted to the left: whether it fits afterwards.
use Rattle.std.proofs.Common.{◌≡◌, ◌∙◌, refl, sym, ap, subst, mul_comm, ℕ, zero, suc, ◌+◌, ◌-◌, ◌*◌, ◌/◌, ◌%◌, ◌^◌, ◌<◌, ◌≤◌, Bool, true, false, ◌&&◌, if◌then◌else◌, Result, Ok, Err, ℤ, pos, negsuc, ◌*ℤ◌, neg_ℤ, nat_lt, arith}
use Rattle.std.proofs.Math.Nat.{div-lt_iff_lt-mul, le-div_iff_mul-le, mul-lt-mul_of_pos_right, mul-le-mul_right, le-mul_of_pos_right}
use Rattle.std.proofs.lemmas.Bool.Decides.{nat_tests}
use Rattle.std.proofs.lemmas.Int.{ints}
use Rattle.std.proofs.lemmas.Nat.{pow_pos, pow-add}
use Rattle.core_unit.specs.declared.operators.Sign.TheVariants.{Signed}
use Rattle.arithmetic.specs.Numbers.{value_of, bits_of}
use Rattle.arithmetic.specs.Operators.{is_shifted_left, shifted_left}
use Rattle.arithmetic.specs.declared.traps.TrapKind.{TrapKind}
use Rattle.arithmetic.specs.declared.traps.TrapKind.TheVariants.{Shift}

whole : (count : ℕ) → count < 32 → 2 ^ (31 - count) * 2 ^ count ≡ 2 ^ 31
whole count h = let all : 31 - count + count ≡ 31 = omega arith in sym (pow-add 2 (31 - count) count) ∙ ap (λ n. 2 ^ n) all

small : (left : ℕ) → left < 2 ^ 31 → value_of Signed left ≡ pos left
small left h = grind (arith, nat_tests)

large : (left : ℕ) → left < 2 ^ 32 → 2 ^ 31 ≤ left → value_of Signed left ≡ negsuc (2 ^ 32 - 1 - left)
large left h k = grind (arith, nat_tests, ints)

-- Below the half of 2^32 a product is a value.
fits : (n : ℕ) → n < 2 ^ 31 → is_shifted_left Signed (pos n) ≡ true
fits n h = grind (arith, nat_tests)

fits_not : (n : ℕ) → 2 ^ 31 ≤ n → is_shifted_left Signed (pos n) ≡ false
fits_not n h = grind (arith, nat_tests)

negative : (n : ℕ) → 0 < n → is_shifted_left Signed (neg_ℤ (pos n)) ≡ false
negative zero h = absurd (omega arith)
negative (suc n) h = refl

-- the outcome, once the tests are known
by_tests : (z : ℤ) (count : ℕ) (few fit : Bool) → nat_lt count 32 ≡ few → is_shifted_left Signed (z *ℤ pos (2 ^ count)) ≡ fit →
    shifted_left Signed z count ≡ (if few && fit then Ok (bits_of (z *ℤ pos (2 ^ count))) else Err Shift)
by_tests z count few fit e f = rw (e, f) refl

below : (left count : ℕ) → count < 32 → left / 2 ^ (31 - count) ≡ 0 → left * 2 ^ count < 2 ^ 31
below left count h e =
    let less : left < 1 * 2 ^ (31 - count) = (div-lt_iff_lt-mul (pow_pos (31 - count))).0 (omega arith) in
    let front : left < 2 ^ (31 - count) = omega arith in
    subst (λ n. left * 2 ^ count < n) (whole count h) (mul-lt-mul_of_pos_right front (pow_pos count))

above : (left count : ℕ) → count < 32 → 0 < left / 2 ^ (31 - count) → 2 ^ 31 ≤ left * 2 ^ count
above left count h e =
    let least : 1 * 2 ^ (31 - count) ≤ left = (le-div_iff_mul-le (pow_pos (31 - count))).0 (omega arith) in
    let front : 2 ^ (31 - count) ≤ left = omega arith in
    subst (λ n. n ≤ left * 2 ^ count) (whole count h) (mul-le-mul_right (2 ^ count) front)

-- A number that fits afterwards is shifted, and nothing of it is lost.
pub shifts : (left count : ℕ) → count < 32 → left / 2 ^ (31 - count) ≡ 0 →
    ◌≡◌ {A = Result ℕ TrapKind} (Ok (left * 2 ^ count % 2 ^ 32)) (shifted_left Signed (value_of Signed left) count)
shifts left count h e =
    let low : left * 2 ^ count < 2 ^ 31 = below left count h e in
    let more : left ≤ left * 2 ^ count = le-mul_of_pos_right left (pow_pos count) in
    rw (small left (omega arith)) (sym (by_tests (pos left) count true true (grind (arith, nat_tests)) (fits (left * 2 ^ count) low)))

fits_no_more : (left count : ℕ) (b : Bool) → nat_lt left (2 ^ 31) ≡ b → left < 2 ^ 32 → count < 32 → 0 < left / 2 ^ (31 - count) →
    is_shifted_left Signed (value_of Signed left *ℤ pos (2 ^ count)) ≡ false
fits_no_more left count true e range h k = rw (small left (grind (arith, nat_tests))) (fits_not (left * 2 ^ count) (above left count h k))
fits_no_more left count false e range h k =
    let one : 0 < 2 ^ count = pow_pos count in
    let some : 2 ^ count ≤ 2 ^ count * suc (2 ^ 32 - 1 - left) = le-mul_of_pos_right (2 ^ count) (omega arith) in
    rw (large left range (grind (arith, nat_tests))) (negative (suc (2 ^ 32 - 1 - left) * 2 ^ count) (omega (arith, mul_comm (2 ^ count) (suc (2 ^ 32 - 1 - left)))))

-- One that doesn't fit traps.
pub overflows : (left count : ℕ) → left < 2 ^ 32 → count < 32 → 0 < left / 2 ^ (31 - count) →
    ◌≡◌ {A = Result ℕ TrapKind} (Err Shift) (shifted_left Signed (value_of Signed left) count)
overflows left count range h k =
    sym (by_tests (value_of Signed left) count true false (grind (arith, nat_tests)) (fits_no_more left count (nat_lt left (2 ^ 31)) refl range h k))

-- So does a count from 32 on.
pub too_far : (z : ℤ) (count : ℕ) → 32 ≤ count → ◌≡◌ {A = Result ℕ TrapKind} (Err Shift) (shifted_left Signed z count)
too_far z count h = sym (by_tests z count false (is_shifted_left Signed (z *ℤ pos (2 ^ count))) (grind (arith, nat_tests)) refl)
