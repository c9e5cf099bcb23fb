use Rattle.std.proofs.Common.{sym, subst}
use Rattle.context_set.specs.Passes.{held_of}
use Rattle.reports.specs.Passes.{Held, joins}
use Rattle.set_board.specs.Mirrors.{IsBoardPass}
use Rattle.set_board.proofs.Mirroring.{join_mirror}
use Rattle.set_board.proofs.Fair.{here, to_set, from_set}
use Rattle.set_board.proofs.board.SetBoardBoard.join.Goals as goal

pub join-requires-clause-pass : goal.join-requires-clause-pass
join-requires-clause-pass c = to_set c.args.self.now.set c.args.self.now.wide c.args.pass.now.ctx c.args.pass.now.past c.requires.belongs

pub join-requires-clause-other : goal.join-requires-clause-other
join-requires-clause-other c = to_set c.args.self.now.set c.args.self.now.wide c.args.other.ctx c.args.other.past c.requires.other

pub returns-clause-belongs : goal.returns-clause-belongs
returns-clause-belongs c =
    let self = c.args.self.now in
    let pass = c.args.pass.now in
    let other = c.args.other in
    let joined = c.join in
    let m = join_mirror (held_of pass.ctx) (held_of joined.new.pass) (held_of other.ctx) pass.past other.past c.requires.belongs.mirror c.requires.other.mirror joined.ensures.held in
    subst (λ (h : Held). IsBoardPass (here self.set self.wide) joined.new.pass h) (sym c.joins.ensures) (from_set self.set self.wide joined.new.pass (joins pass.past other.past) joined.ensures.pass m)
