use Rattle.std.proofs.Common.{◌≡◌, ◌-◌, ◌++◌, length, drop}
use Rattle.c_text.specs.Escapes.{text_values, values_after}
use Rattle.c_text.proofs.value.text_values.Given as goal

-- the values so far, and those of what is left
abbrev pub invariant-loop-at : goal.invariant-loop-at
invariant-loop-at l = text_values l.word ≡ l.values.items ++ values_after 0 (drop l.at l.word)

abbrev pub decreases-loop-at : goal.decreases-loop-at
decreases-loop-at l = length l.word - l.at
