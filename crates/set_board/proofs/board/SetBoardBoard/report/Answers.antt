use Rattle.std.proofs.Common.{sym, subst}
use Rattle.context_set.specs.Passes.{held_of}
use Rattle.reports.specs.Passes.{Held, reported}
use Rattle.set_board.specs.Mirrors.{IsBoardPass}
use Rattle.set_board.proofs.Mirroring.{noted_mirror}
use Rattle.set_board.proofs.Fair.{here, to_set, from_set, exact_here}
use Rattle.set_board.proofs.board.SetBoardBoard.report.Goals as goal

pub note-answer-requires-clause-pass : goal.note-answer-requires-clause-pass
note-answer-requires-clause-pass c = to_set c.args.self.now.set c.args.self.now.wide c.args.pass.now.ctx c.args.pass.now.past c.requires.belongs

pub returns-clause-belongs : goal.returns-clause-belongs
returns-clause-belongs c =
    let self = c.args.self.now in
    let pass = c.args.pass.now in
    let note = c.note-answer in
    let m = noted_mirror (held_of pass.ctx) (held_of note.new.ctx) pass.past c.args.stack.now note.result c.requires.belongs.mirror c.requires.stack.few note.ensures.noted in
    subst (λ (h : Held). IsBoardPass (here self.set self.wide) note.new.ctx h) (sym c.reported.ensures) (from_set self.set self.wide note.new.ctx (reported pass.past c.args.stack.now note.result) note.ensures.pass m)

pub returns-clause-exact : goal.returns-clause-exact
returns-clause-exact c = λ exact alone.
    let self = c.args.self.now in
    let pass = c.args.pass.now in
    let note = c.note-answer in
    let m = noted_mirror (held_of pass.ctx) (held_of note.new.ctx) pass.past c.args.stack.now note.result c.requires.belongs.mirror c.requires.stack.few note.ensures.noted in
    exact_here self.set self.wide note.new.ctx pass.past c.args.stack.now note.result note.ensures.pass m alone
