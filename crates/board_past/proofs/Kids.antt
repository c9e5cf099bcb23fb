-- A pass has a larger number than the pass that made it.
use Rattle.std.proofs.Common.{◌<◌, ℕ, zero, suc, arith}
use Rattle.board_past.specs.Lives.{kid}

pub kid_above : (number j : ℕ) → number < kid number j
kid_above number zero = omega arith
kid_above number (suc j) = let before = kid_above number j in omega arith
