use Rattle.std.proofs.Common.{◌≤◌, ◌-◌, length}
use Rattle.c_text.proofs.Reached.{Reached}
use Rattle.c_text.proofs.spelling.tokens.Given as goal

-- the source is cut up to here, and its tokens so far are found
abbrev pub invariant-loop-at : goal.invariant-loop-at
invariant-loop-at l = record { reached : Reached l.source l.at l.alone l.found; within : l.at ≤ length l.source }

abbrev pub decreases-loop-at : goal.decreases-loop-at
decreases-loop-at l = length l.source - l.at
