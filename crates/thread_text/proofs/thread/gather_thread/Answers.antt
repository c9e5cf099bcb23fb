-- The ending, and then the output.
use Rattle.std.proofs.lemmas.Result.{err_from_is_err_and}
use Rattle.printing.proofs.Gathering.{gathered_behind, fails_before}
use Rattle.thread_text.specs.ThreadText.{ending_line, output_text}
use Rattle.thread_text.proofs.thread.gather_thread.Goals as goal

pub returns-in_err-write_ending : goal.returns-in_err-write_ending
returns-in_err-write_ending g c =
    let p = err_from_is_err_and c.from_residual.result c.from_residual.ensures.1 in
    rw p.1
    (fails_before (ending_line c.args.options.now c.args.number c.args.end) (output_text c.args.number c.args.output.now c.args.dropped) c.args.text.now _ _ c.in_err-write_ending.ensures)

pub returns : goal.returns
returns g c =
    gathered_behind c.write_output.result (ending_line c.args.options.now c.args.number c.args.end) (output_text c.args.number c.args.output.now c.args.dropped) c.args.text.now
    _ _ _ _ _ c.in_ok-write_ending.ensures c.write_output.ensures
