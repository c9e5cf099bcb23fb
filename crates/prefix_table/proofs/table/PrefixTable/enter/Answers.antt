-- Each step walks on to the next prefix, or there is no room for it.
use Rattle.std.proofs.Common.{◌≡◌, None}
use Rattle.prefix_table.proofs.Walked.{walk_begins, walk_step, walk_stops}
use Rattle.prefix_table.proofs.table.PrefixTable.enter.Goals as goal

pub each-init : goal.each-init
each-init c = walk_begins c.args.self.now c.law_firsts.ensures

pub returns-in_err-enter_edge-clause-held : goal.returns-in_err-enter_edge-clause-held
returns-in_err-enter_edge-clause-held c =
    (walk_stops c.args.self.now c.each.self c.enter_edge.new.self c.args.stack.now c.each.step-index _ c.each.parent c.each-test.true c.each.invariant c.in_err-enter_edge.ensures.none).0

pub returns-in_err-enter_edge-clause-room : goal.returns-in_err-enter_edge-clause-room
returns-in_err-enter_edge-clause-room c =
    let fact = walk_stops c.args.self.now c.each.self c.enter_edge.new.self c.args.stack.now c.each.step-index _ c.each.parent c.each-test.true c.each.invariant c.in_err-enter_edge.ensures.none in
    let none : c.from_residual.result ≡ None = c.from_residual.ensures in
    rw none fact.1

pub each-preserved : goal.each-preserved
each-preserved c =
    walk_step c.args.self.now c.each.self c.enter_edge.new.self c.args.stack.now c.each.step-index _ c.each.parent c.in_ok-enter_edge.field-0 c.each-test.true c.each.invariant c.in_ok-enter_edge.ensures.held c.in_ok-enter_edge.ensures.number
