-- What remains of a text that is written piece by piece.
use Rattle.std.proofs.Common.{◌≡◌, ℕ, List, ◌++◌, ◌∙◌, append_assoc}
use Rattle.rt_base.specs.Outside.{SinkState, TakesAll, FailsWithin}
use Rattle.rt_base.proofs.Pieces.{takes_more, fails_behind}

-- a front of the whole text was taken, and the rest remains
pub record Remains (old now : SinkState) (rest whole : List ℕ) : Type 0 where
  pub front : List ℕ
  pub parts : front ++ rest ≡ whole
  pub taken : TakesAll front old now

-- after one piece more
pub Remains-next : (old between new : SinkState) (piece rest whole : List ℕ) → Remains old between (piece ++ rest) whole → TakesAll piece between new → Remains old new rest whole
Remains-next old between new piece rest whole r a = record {
  front = r.front ++ piece;
  parts = append_assoc r.front piece rest ∙ r.parts;
  taken = takes_more old between new r.front piece r.taken a;
}

-- after a fault within a piece
pub Remains-fault : (old between new : SinkState) (piece rest whole : List ℕ) → Remains old between (piece ++ rest) whole → FailsWithin piece between new → FailsWithin whole old new
Remains-fault old between new piece rest whole r b =
    fails_behind old between new r.front piece rest whole r.taken b r.parts
