-- The value of at most ten digits stays small.
use Rattle.std.proofs.Common.{◌≡◌, ℕ, ◌+◌, ◌*◌, ◌^◌, ◌≤◌, add-one, arith, ◌∙◌}
use Rattle.std.proofs.Math.Nat.{pow-suc, pow-le-pow_right}

-- a bound on the value of so many digits
pub power_more : (n : ℕ) → 10 ^ (n + 1) ≡ 10 * 10 ^ n
power_more n = rw add-one (pow-suc 10 n ∙ omega arith)

pub power_at_most : (n : ℕ) → n ≤ 10 → 10 ^ n ≤ 10000000000
power_at_most n h = pow-le-pow_right (omega arith) h
