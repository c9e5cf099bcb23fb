use Rattle.std.proofs.Common.{◌≡◌, ◌-◌, drop, length}
use Rattle.c_text.specs.Escapes.{unknown_escape}
use Rattle.c_text.proofs.escape.unknown_escape.Given as goal

-- the first unknown escape stands in what is left
abbrev pub invariant-loop-at : goal.invariant-loop-at
invariant-loop-at l = unknown_escape 0 0 l.word ≡ unknown_escape 0 l.at (drop l.at l.word)

abbrev pub decreases-loop-at : goal.decreases-loop-at
decreases-loop-at l = length l.word - l.at
