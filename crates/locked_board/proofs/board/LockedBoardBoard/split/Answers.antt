use Rattle.std.proofs.Common.{ap, ◌∙◌, arith}
use Rattle.context_set.proofs.Tree.{kid_above}
use Rattle.locked_board.specs.Locked.{Seated}
use Rattle.locked_board.proofs.LockRule.{lock_looks, lock_splits}
use Rattle.locked_board.proofs.Seats.{same_table}
use Rattle.locked_board.proofs.board.LockedBoardBoard.split.Goals as goal

pub split_seat-seat-requires : goal.split_seat-seat-requires
split_seat-seat-requires g c =
    let pass = c.requires.belongs in
    (same_table _ _ pass.tables, omega (arith, c.args.self.now.one), lock_splits _ _ pass.seat.lives)

pub load-requires : goal.load-requires
load-requires g c =
    let cut = c.split_seat-seat.ensures in
    let pass = c.requires.belongs in
    let lives = ap (λ (me : Seated). me.0.live) cut.2 ∙ pass.seat.lives in
    (cut.0 ∙ same_table _ _ pass.tables, omega (arith, c.args.self.now.one), lock_looks _ _ _ lives)

pub returns-clause-made_later : goal.returns-clause-made_later
returns-clause-made_later g c =
    let v = c.args.pass.now.seat.me.0 in
    let above = kid_above v.held.number v.splits in
    let number = ap (λ (me : Seated). me.0.held.number) c.split_seat-seat.ensures.4 in
    λ none. omega (arith, above, number, none)
