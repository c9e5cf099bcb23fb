-- What is put before these words, at one of them, and behind them.
use Rattle.std.proofs.Common.{arith}
use Rattle.type_units.proofs.Initials.{put_before, put_here, put_behind}
use Rattle.type_units.proofs.words.put.Goals as goal

pub returns-then-note-first : goal.returns-then-note-first
returns-then-note-first c = put_before _ _ _ c.if-note-first.true

pub returns-then-at-len : goal.returns-then-at-len
returns-then-at-len c = put_here _ _ _ _ (omega arith) c.bits_of.ensures

pub returns-else-at-len : goal.returns-else-at-len
returns-else-at-len c = put_behind _ _ _ (omega arith) (omega arith)
