use Rattle.std.proofs.Common.{ℕ, Some, List, ◌∷◌, sym, ap, ◌∙◌, subst, arith}
use Rattle.atomic_table.specs.Table.{rest}
use Rattle.locked_board.specs.declared.book.LockView.{LockView}
use Rattle.locked_board.specs.Locked.{Slot, Seated, last_report, IsWritten}
use Rattle.locked_board.proofs.LockRule.{lock_gives_book}
use Rattle.locked_board.proofs.board.LockedBoard.give.Goals as goal

pub store-requires : goal.store-requires
store-requires g c =
    let book = c.args.book in
    let laid = c.exchange.ensures in
    let carries = ap (λ (me : Seated). me.1) laid.3 ∙ ap (λ (slots : List (ℕ × Slot)). (0, Some book) ∷ rest slots) c.requires.carries in
    let written = subst (λ (v : LockView). IsWritten v book (last_report book)) (sym (ap (λ (me : Seated). me.0) laid.3)) c.requires.written in
    (laid.0 ∙ c.requires.table, omega (arith, c.args.self.now.one), lock_gives_book _ _ _ book c.args.self.now.slot carries written)
