-- The pass that is made holds nothing, and its maker keeps the rest.
use Rattle.plain_board.proofs.PassLaws.{pass_makes, pass_fair}
use Rattle.plain_board.proofs.board.PlainBoardBoard.split.Goals as goal

pub invariant_of-pass : goal.invariant_of-pass
invariant_of-pass c = rw c.split.ensures.held (pass_makes _ _ _ c.pass.invariant)

pub returns-clause-belongs : goal.returns-clause-belongs
returns-clause-belongs c = record { tells = pass_fair _ _ (invariant_of-pass c) }
