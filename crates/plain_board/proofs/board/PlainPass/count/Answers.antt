-- The first pass keeps its list by a report.
use Rattle.std.proofs.Common.{Option, ap, ◌∙◌, subst}
use Rattle.reports.specs.Prefixes.{has_room}
use Rattle.plain_board.specs.declared.counts.Counts.{Counts}
use Rattle.plain_board.specs.Passes.{PlainParts, IsPass}
use Rattle.plain_board.proofs.PassLaws.{pass_reports, pass_exact, pass_fair}
use Rattle.plain_board.proofs.board.PlainPass.count.Goals as goal

pub invariant_of-self : goal.invariant_of-self
invariant_of-self c =
    let past = c.self.inside.past in
    let p = subst (λ (o : Option Counts). IsPass o past) c.in-Some.is c.self.invariant in
    rw (c.reported.ensures, c.walked.ensures)
    (pass_reports c.in-Some.counts c.count-answer.new.self past p c.args.stack.now c.requires.stack c.count-answer.ensures.held c.count-answer.result c.count-answer.ensures.counted c.count-answer.ensures.noted)

pub returns-clause-belongs : goal.returns-clause-belongs
returns-clause-belongs c = record { tells = pass_fair _ _ (invariant_of-self c) }

pub returns-clause-exact : goal.returns-clause-exact
returns-clause-exact c =
    let past = c.self.inside.past in
    let p = subst (λ (o : Option Counts). IsPass o past) c.in-Some.is c.self.invariant in
    pass_exact c.in-Some.counts c.count-answer.new.self past p c.args.stack.now c.requires.stack c.count-answer.ensures.held c.count-answer.result c.count-answer.ensures.counted
    ∙ ap (λ (q : PlainParts). has_room q.held.own c.args.stack.now) c.self.view_is
