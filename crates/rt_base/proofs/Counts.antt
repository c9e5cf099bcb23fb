-- What follows from one call to the next of counts of faults.
use Rattle.std.proofs.Common.{ℕ, ◌≤◌, arith}
use Rattle.rt_base.specs.Outside.{Rose}

-- a count that rose in one of several calls rose in all of them together
pub Rose-wider : (first before now last : ℕ) → first ≤ before → Rose before now → now ≤ last → Rose first last
Rose-wider first before now last a rose b = omega arith

-- the count of an outside that never fails does not rise
pub Rose-never : Rose 0 0 → ⊥
Rose-never rose = omega arith
