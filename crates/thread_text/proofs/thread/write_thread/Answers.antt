-- All of the text, and then the rest of the buffer.
use Rattle.std.proofs.lemmas.Result.{err_from_is_err_and}
use Rattle.printing.proofs.Gathering.{written_whole}
use Rattle.thread_text.proofs.thread.write_thread.Goals as goal

pub returns-in_err-gather_thread : goal.returns-in_err-gather_thread
returns-in_err-gather_thread g c =
    let p = err_from_is_err_and c.from_residual.result c.from_residual.ensures.1 in
    rw p.1 (rw c.new-text.ensures at c.in_err-gather_thread.ensures)

pub returns : goal.returns
returns g c = written_whole c.flush.result _ _ _ _ _ (rw c.new-text.ensures at c.in_ok-gather_thread.ensures) c.flush.ensures.written
