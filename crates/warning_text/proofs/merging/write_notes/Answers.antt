-- Each turn writes a note more.
use Rattle.std.proofs.lemmas.Result.{err_from_is_err_and}
use Rattle.printing.proofs.Gathering.{gathers_next, fails_at}
use Rattle.warning_text.specs.WarningText.{chain_note}
use Rattle.warning_text.proofs.merging.write_notes.Goals as goal

pub returns-in_err-write_reason : goal.returns-in_err-write_reason
returns-in_err-write_reason g c =
    let p = err_from_is_err_and c.from_residual.result c.from_residual.ensures.1 in
    rw p.1 (fails_at (chain_note c.args.source.now c.args.unit.now c.args.level) c.args.chain.now c.each.step-index _ _ _ _ _ _ c.each-test.true c.each.invariant c.in_err-write_reason.ensures)

pub each-preserved : goal.each-preserved
each-preserved g c =
    gathers_next (chain_note c.args.source.now c.args.unit.now c.args.level) c.args.chain.now c.each.step-index _ _ _ _ _ _ _ c.each-test.true c.each.invariant c.in_ok-write_reason.ensures
