-- What a life makes a pass hold.
use Rattle.std.specs.Prelude.{ℕ, zero, suc, ◌+◌}
use Rattle.reports.specs.Passes.{Held, born, reported, makes, joins}
use Rattle.board_past.specs.Walks.{steps_of}
use Rattle.board_past.specs.declared.past.Life.{Life, First, Made', Reported', Split', Joined'}

-- the number of the pass that a pass made by its j-th split: 2^j * (2 * number + 1). No two passes of a board have one number.
abbrev pub kid : ℕ → ℕ → ℕ
kid number zero = number + number + 1
kid number (suc j) = kid number j + kid number j

-- how often the pass was split
abbrev pub splits : Life → ℕ
splits First = 0
splits (Made' _ split) = 0
splits (Reported' _ before stack answer) = splits before
splits (Split' _ before) = splits before + 1
splits (Joined' _ before _ other) = splits before

abbrev pub held_of : Life → Held
held_of First = born 0
held_of (Made' _ split) = born (kid (held_of split).number (splits split))
held_of (Reported' _ before stack answer) = reported (held_of before) (steps_of stack.value) answer
held_of (Split' _ before) = makes (held_of before) (kid (held_of before).number (splits before + 1))
held_of (Joined' _ before _ other) = joins (held_of before) (held_of other)
