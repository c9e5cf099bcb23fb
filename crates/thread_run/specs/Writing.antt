-- What is kept of the bytes that a thread writes (this project's own rule).
use Rattle.std.specs.Prelude.{ℕ, ◌+◌, List, [], ◌∷◌, ◌++◌, length, nat_lt, if◌then◌else◌}
use Rattle.mcode.specs.declared.events.Ask.{Ask}
use Rattle.mcode.specs.declared.events.Ask.TheVariants.{Out}
use Rattle.src_model.specs.Outputs.{output_room}

-- the first bytes, and how many came behind them
pub record Written : Type 0 where
  pub kept : List ℕ
  pub dropped : ℕ

abbrev pub with_byte : ℕ → Written → Written
with_byte byte w =
    if nat_lt (length w.kept) output_room then record { kept = w.kept ++ byte ∷ []; dropped = w.dropped }
    else record { kept = w.kept; dropped = w.dropped + 1 }

-- after an event
abbrev pub written : Ask → Written → Written
written (Out byte) w = with_byte byte w
written _ w = w
