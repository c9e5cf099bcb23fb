-- Each turn takes the front of the typing's warnings and one violation.
use Rattle.std.proofs.Common.{◌≡◌, ◌∙◌, sym, ap, length}
use Rattle.std.proofs.lemmas.Result.{err_from_is_err_and}
use Rattle.printing.proofs.Gathering.{remains_all, remains_last}
use Rattle.warning_text.proofs.Order.{ended_text, front_fails, violation_fails, turn}
use Rattle.warning_text.proofs.merging.write_merged.Goals as goal

pub each-init : goal.each-init
each-init g c = remains_all _ _ _

pub returns-in_err-write_all_typed : goal.returns-in_err-write_all_typed
returns-in_err-write_all_typed g c =
    let p = err_from_is_err_and c.from_residual.result c.from_residual.ensures.1 in
    let many : length c.args.verdicts.now.chains ≡ length c.warnings-warning-items.result.now = c.warnings-warning-items.ensures.paired ∙ ap length (sym c.warnings-warning-items.ensures.warnings) in
    let fault = front_fails c.args.source.now c.args.unit.now c.each.rest.now c.warnings-warning-items.result.now c.args.verdicts.now.chains c.each.index _ c.chain_at-chain.result.now c.ahead.result.now _ _ _ _ _
    c.each-test.true many c.chain_at-chain.ensures c.ahead.ensures c.each.invariant _ c.in_err-write_all_typed.ensures in
    rw p.1 (rw c.warnings-warning-items.ensures.warnings at fault)

pub returns-in_err-write_with_chain : goal.returns-in_err-write_with_chain
returns-in_err-write_with_chain g c =
    let p = err_from_is_err_and c.from_residual-in_err-write_with_chain.result c.from_residual-in_err-write_with_chain.ensures.1 in
    let many : length c.args.verdicts.now.chains ≡ length c.warnings-warning-items.result.now = c.warnings-warning-items.ensures.paired ∙ ap length (sym c.warnings-warning-items.ensures.warnings) in
    let fault = violation_fails c.args.source.now c.args.unit.now c.each.rest.now c.warnings-warning-items.result.now c.args.verdicts.now.chains c.each.index _ c.chain_at-chain.result.now c.ahead.result.now _ _ _ _ _
    c.each-test.true many c.chain_at-chain.ensures c.ahead.ensures c.each.invariant _ _ _ c.in_ok-write_all_typed.ensures c.in_err-write_with_chain.ensures in
    rw p.1 (rw c.warnings-warning-items.ensures.warnings at fault)

pub each-preserved : goal.each-preserved
each-preserved g c =
    let many : length c.args.verdicts.now.chains ≡ length c.warnings-warning-items.result.now = c.warnings-warning-items.ensures.paired ∙ ap length (sym c.warnings-warning-items.ensures.warnings) in
    turn c.args.source.now c.args.unit.now c.each.rest.now c.warnings-warning-items.result.now c.args.verdicts.now.chains c.each.index _ c.chain_at-chain.result.now c.ahead.result.now _ _ _ _ _
    c.each-test.true many c.chain_at-chain.ensures c.ahead.ensures c.each.invariant _ _ _ _ c.behind-rest.result.now c.in_ok-write_all_typed.ensures c.in_ok-write_with_chain.ensures c.behind-rest.ensures

pub returns : goal.returns
returns g c =
    let left = rw (ended_text c.args.source.now c.args.unit.now c.each.rest.now c.warnings-warning-items.result.now _ c.each.index c.each-test.false) at c.each.invariant in
    let done = remains_last c.write_all_typed-2.result _ _ _ _ _ _ _ _ left c.write_all_typed-2.ensures in
    rw c.warnings-warning-items.ensures.warnings at done
