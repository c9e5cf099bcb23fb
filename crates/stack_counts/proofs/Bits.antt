-- What an element adds to a count.
use Rattle.std.proofs.Common.{ℕ, Bool, cond}

abbrev pub bit : Bool → ℕ
bit b = cond b 1 0
