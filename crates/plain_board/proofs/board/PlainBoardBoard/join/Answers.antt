-- What the other pass holds is joined.
use Rattle.plain_board.proofs.PassLaws.{pass_joins, pass_fair}
use Rattle.plain_board.proofs.board.PlainBoardBoard.join.Goals as goal

pub invariant_of-pass : goal.invariant_of-pass
invariant_of-pass c = rw c.joins.ensures (pass_joins _ _ _ _ c.pass.invariant c.other.invariant)

pub returns-clause-belongs : goal.returns-clause-belongs
returns-clause-belongs c = record { tells = pass_fair _ _ (invariant_of-pass c) }
