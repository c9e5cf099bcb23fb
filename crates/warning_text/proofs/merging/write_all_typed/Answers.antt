-- Each turn writes a line more.
use Rattle.std.proofs.lemmas.Result.{err_from_is_err_and}
use Rattle.printing.proofs.Gathering.{gathers_next, fails_at}
use Rattle.warning_text.specs.WarningText.{typed_line}
use Rattle.warning_text.proofs.merging.write_all_typed.Goals as goal

pub returns-in_err-write_typed : goal.returns-in_err-write_typed
returns-in_err-write_typed g c =
    let p = err_from_is_err_and c.from_residual.result c.from_residual.ensures.1 in
    rw p.1 (fails_at (typed_line c.args.source.now) c.args.typed.now c.each.warning-index _ _ _ _ _ _ c.each-test.true c.each.invariant c.in_err-write_typed.ensures)

pub each-preserved : goal.each-preserved
each-preserved g c =
    gathers_next (typed_line c.args.source.now) c.args.typed.now c.each.warning-index _ _ _ _ _ _ _ c.each-test.true c.each.invariant c.in_ok-write_typed.ensures
