use Rattle.std.proofs.Common.{ap, ◌∙◌, arith}
use Rattle.locked_board.specs.Locked.{Seated}
use Rattle.locked_board.proofs.LockRule.{lock_looks, lock_joins}
use Rattle.locked_board.proofs.Seats.{same_table}
use Rattle.locked_board.proofs.board.LockedBoardBoard.join.Goals as goal

pub join_seat-requires : goal.join_seat-requires
join_seat-requires g c =
    let pass = c.requires.belongs in
    let other = c.requires.other in
    (same_table _ _ pass.tables, same_table _ _ other.tables, other.seat.bare, omega (arith, c.args.self.now.one), lock_joins _ _ _ _ pass.seat.lives other.seat.lives)

pub load-requires : goal.load-requires
load-requires g c =
    let joined = c.join_seat.ensures in
    let pass = c.requires.belongs in
    let lives = ap (λ (me : Seated). me.0.live) joined.2 ∙ pass.seat.lives in
    (joined.0 ∙ same_table _ _ pass.tables, omega (arith, c.args.self.now.one), lock_looks _ _ _ lives)
