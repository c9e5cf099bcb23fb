use Rattle.std.proofs.Common.{ℕ, Option, Some, List, ◌∷◌, sym, ap, ◌∙◌, subst, arith}
use Rattle.atomic_table.specs.Table.{rest}
use Rattle.word_mem.specs.declared.book.Book.{Book}
use Rattle.word_mem.specs.declared.book.LockView.{LockView}
use Rattle.word_mem.specs.Locked.{Seated, last_event, IsWritten}
use Rattle.word_mem.proofs.LockRule.{lock_gives_book}
use Rattle.word_mem.proofs.locked.LockedWords.give.Goals as goal

pub store-requires : goal.store-requires
store-requires g c =
    let book = c.args.book in
    let laid = c.exchange.ensures in
    let carries = ap (λ (me : Seated). me.1) laid.3 ∙ ap (λ (slots : List (ℕ × Option Book)). (0, Some book) ∷ rest slots) c.requires.carries in
    let written = subst (λ (v : LockView). IsWritten c.args.self.now.table.shared.key.value v book (last_event book.journal.items)) (sym (ap (λ (me : Seated). me.0) laid.3)) c.requires.written in
    (laid.0 ∙ c.requires.table, omega (arith, c.args.self.now.one), lock_gives_book c.args.self.now.table.shared.key.value _ _ _ book c.args.self.now.slot carries written)
