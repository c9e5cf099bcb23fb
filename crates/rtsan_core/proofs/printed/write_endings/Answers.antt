-- a fault within a line leaves the lines before it and a prefix of it
use Rattle.std.proofs.lemmas.Result.{err_from_is_err_and}
use Rattle.built_reports.specs.RunText.{thread_line}
use Rattle.rt_base.proofs.Pieces.{fails_next}
use Rattle.rtsan_core.proofs.printed.write_endings.Goals as goal

pub returns-in_err-write_ending : goal.returns-in_err-write_ending
returns-in_err-write_ending g c =
    let p = err_from_is_err_and c.from_residual.result c.from_residual.ensures.1 in
    let part = rw c.thread-item.is at c.in_err-write_ending.ensures in
    rw p.1 (fails_next (λ thread. thread_line thread.number thread.end) c.args.threads.now c.each.thread-index c.thread-item.result _ _ _ c.each-test.true c.each.invariant part)
