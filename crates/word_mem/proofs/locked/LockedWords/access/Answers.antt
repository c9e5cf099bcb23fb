use Rattle.std.proofs.Common.{sym, ap, ◌∙◌, subst}
use Rattle.word_mem.specs.declared.event.WordEvent.{WordEvent}
use Rattle.word_mem.specs.declared.book.LockView.{LockView}
use Rattle.word_mem.specs.Held.{did}
use Rattle.word_mem.specs.Locked.{Seated, last_event, IsWritten}
use Rattle.word_mem.proofs.LockRule.{within_book, IsWritten-access}
use Rattle.word_mem.proofs.locked.LockedWords.access.Goals as goal

pub access-found-requires : goal.access-found-requires
access-found-requires g c = within_book _ _ _ c.take-book.result.journal.items _ c.take-book.ensures.words c.requires.seat.opens c.requires.within

pub give-requires-clause-written : goal.give-requires-clause-written
give-requires-clause-written g c =
    let opening = c.args.self.now.table.shared.key.value in
    let book = c.take-book.result in
    let next = c.access-found.new.self in
    let call = c.access-found.ensures in
    let written = IsWritten-access opening c.args.pass.now.seat.me.0 book.words.items book.journal.items next c.args.pass.now.number c.args.at c.access-found.result c.args.access c.requires.seat.lives c.take-book.ensures.words c.requires.seat.opens c.requires.within call.found call.words call.journal c.requires.number in
    subst (λ (u : LockView). IsWritten opening u next (last_event next.journal.items)) (sym (ap (λ (me : Seated). me.0) c.take-book.ensures.seat)) written.0

pub returns-clause-held : goal.returns-clause-held
returns-clause-held g c =
    let v = c.args.pass.now.seat.me.0 in
    let book = c.take-book.result in
    let next = c.access-found.new.self in
    let call = c.access-found.ensures in
    let written = IsWritten-access c.args.self.now.table.shared.key.value v book.words.items book.journal.items next c.args.pass.now.number c.args.at c.access-found.result c.args.access c.requires.seat.lives c.take-book.ensures.words c.requires.seat.opens c.requires.within call.found call.words call.journal c.requires.number in
    let given = ap (λ (me : Seated). me.0.view.held) c.give.ensures.seat in
    let taken = ap (λ (me : Seated). did me.0.view.held (last_event next.journal.items)) c.take-book.ensures.seat in
    given ∙ (taken ∙ ap (λ (e : WordEvent). did v.view.held e) written.1)
