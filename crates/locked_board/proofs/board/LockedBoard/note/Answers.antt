use Rattle.std.proofs.Common.{sym, ap, ◌∙◌, subst}
use Rattle.locked_board.specs.declared.book.LockView.{LockView}
use Rattle.reports.specs.Passes.{Report, report_of, reported}
use Rattle.locked_board.specs.Locked.{Seated, last_report, IsWritten}
use Rattle.locked_board.proofs.LockRule.{written_report}
use Rattle.locked_board.proofs.board.LockedBoard.note.Goals as goal

pub give-requires-clause-written : goal.give-requires-clause-written
give-requires-clause-written g c =
    let book = c.take-book.result in
    let next = c.report-answer.new.self in
    let written = written_report c.args.seat.now.me.0 book next (report_of c.args.stack.now c.report-answer.result) c.requires.seat.lives c.report-answer.ensures c.law_fair.ensures in
    subst (λ (u : LockView). IsWritten u next (last_report next)) (sym (ap (λ (me : Seated). me.0) c.take-book.ensures.seat)) written.0

pub returns-clause-held : goal.returns-clause-held
returns-clause-held g c =
    let v = c.args.seat.now.me.0 in
    let book = c.take-book.result in
    let next = c.report-answer.new.self in
    let r = report_of c.args.stack.now c.report-answer.result in
    let written = written_report v book next r c.requires.seat.lives c.report-answer.ensures c.law_fair.ensures in
    let given = ap (λ (me : Seated). me.0.held) c.give.ensures.seat in
    let taken = ap (λ (me : Seated). reported me.0.held (last_report next).stack (last_report next).answer) c.take-book.ensures.seat in
    given ∙ (taken ∙ ap (λ (x : Report). reported v.held x.stack x.answer) written.1)
