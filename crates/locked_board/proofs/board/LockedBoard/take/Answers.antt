use Rattle.std.proofs.Common.{Some, ap, ◌∙◌, arith}
use Rattle.locked_board.specs.Locked.{Seated}
use Rattle.locked_board.proofs.LockRule.{lock_takes_book, took_book, carried_first}
use Rattle.locked_board.proofs.board.LockedBoard.take.Goals as goal

pub compare_exchange-requires : goal.compare_exchange-requires
compare_exchange-requires g c =
    (c.tries.invariant.2 ∙ c.requires.table, omega (arith, c.args.self.now.one), lock_takes_book _ _ _)

pub exchange-requires : goal.exchange-requires
exchange-requires g c =
    let told = c.compare_exchange.ensures in
    let took = took_book c.tries.seat.me c.compare_exchange.new.seat.me c.compare_exchange.result c.if-compare_exchange-eq0.true told.2 in
    (told.0 ∙ (c.tries.invariant.2 ∙ c.requires.table), (Some took.0, carried_first c.tries.seat.me c.compare_exchange.new.seat.me _ took.0 took.1))
