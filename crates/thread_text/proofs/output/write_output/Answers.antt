-- What was kept, and then what was dropped.
use Rattle.std.proofs.Common.{◌<◌, length, rules}
use Rattle.std.proofs.lemmas.Result.{err_from_is_err_and}
use Rattle.printing.proofs.Gathering.{gathered_behind, fails_before}
use Rattle.thread_text.specs.ThreadText.{kept_text, dropped_text}
use Rattle.thread_text.proofs.Outputs.{output_some}
use Rattle.thread_text.proofs.output.write_output.Goals as goal

pub returns-in_err-write_kept : goal.returns-in_err-write_kept
returns-in_err-write_kept g c =
    let p = err_from_is_err_and c.from_residual.result c.from_residual.ensures.1 in
    let some : 0 < length c.args.output.now = search rules in
    let whole = output_some c.args.number c.args.output.now c.args.dropped some in
    rw p.1
    (rw whole (fails_before (kept_text c.args.number c.args.output.now) (dropped_text c.args.number c.args.dropped) c.args.text.now _ _ c.in_err-write_kept.ensures))

pub returns : goal.returns
returns g c =
    let some : 0 < length c.args.output.now = search rules in
    let whole = output_some c.args.number c.args.output.now c.args.dropped some in
    rw whole
    (gathered_behind c.write_dropped.result (kept_text c.args.number c.args.output.now) (dropped_text c.args.number c.args.dropped) c.args.text.now _ _ _ _ _ c.in_ok-write_kept.ensures c.write_dropped.ensures)
