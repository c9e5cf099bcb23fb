-- What is gathered of the first pass is the counts of all reports, and in order the totals.
use Rattle.std.specs.Prelude.{◌^◌}
use Rattle.std.proofs.Common.{Option, ◌<◌, length, sym, subst}
use Rattle.reports.specs.Passes.{IsWhole, all_reports}
use Rattle.stack_counts.specs.Totals.{AreTotals}
use Rattle.stack_counts.proofs.Sums.{few_in_all}
use Rattle.plain_board.specs.declared.counts.Counts.{Counts}
use Rattle.plain_board.specs.Passes.{PlainParts, IsPass}
use Rattle.plain_board.proofs.PassLaws.{pass_room, pass_short, pass_counts}
use Rattle.plain_board.proofs.board.PlainBoard.collect.Goals as goal

pub stacks-requires-clause-many : goal.stacks-requires-clause-many
stacks-requires-clause-many c =
    let past = c.pass.inside.past in
    pass_room c.in-Some.counts past (subst (λ (o : Option Counts). IsPass o past) c.in-Some.is c.pass.invariant)

pub stacks-requires-clause-short : goal.stacks-requires-clause-short
stacks-requires-clause-short c =
    let past = c.pass.inside.past in
    let whole = subst (λ (q : PlainParts). IsWhole q.held) (sym c.pass.view_is) c.requires.whole in
    let few = subst (λ (q : PlainParts). length (all_reports q.held) < 2 ^ 64) (sym c.pass.view_is) c.requires.few in
    pass_short c.in-Some.counts past (subst (λ (o : Option Counts). IsPass o past) c.in-Some.is c.pass.invariant) whole few

pub returns-clause-totals : goal.returns-clause-totals
returns-clause-totals c =
    let past = c.pass.inside.past in
    let whole = subst (λ (q : PlainParts). IsWhole q.held) (sym c.pass.view_is) c.requires.whole in
    let few = subst (λ (q : PlainParts). length (all_reports q.held) < 2 ^ 64) (sym c.pass.view_is) c.requires.few in
    let p = subst (λ (o : Option Counts). IsPass o past) c.in-Some.is c.pass.invariant in
    let counts = pass_counts c.in-Some.counts past p whole few c.in_ok-stacks.stacks c.in_ok-stacks.ensures in
    subst (λ (q : PlainParts). AreTotals (all_reports q.held) c.sort_stacks.new.stacks) c.pass.view_is (c.sort_stacks.ensures (all_reports past) counts)

pub returns-clause-few : goal.returns-clause-few
returns-clause-few c = few_in_all (all_reports c.args.pass.held) c.sort_stacks.new.stacks (returns-clause-totals c) c.requires.few
