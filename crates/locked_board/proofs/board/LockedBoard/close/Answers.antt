use Rattle.locked_board.proofs.LockRule.{lock_closes}
use Rattle.locked_board.proofs.board.LockedBoard.close.Goals as goal

pub returns-in-Some : goal.returns-in-Some
returns-in-Some g c =
    lock_closes c.args.pass.seat.id c.args.pass.seat.me.0 _ _ c.close_with-closed.ensures.values.2 c.requires.seat.lives c.requires.whole c.word-out.result c.word-out.ensures c.if-out-eq0.true c.in-Some.book c.in-Some.ensures.value
