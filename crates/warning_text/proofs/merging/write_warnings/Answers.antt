-- All of the text, and then the rest of the buffer.
use Rattle.std.proofs.lemmas.Result.{err_from_is_err_and}
use Rattle.printing.proofs.Gathering.{written_whole}
use Rattle.warning_text.proofs.merging.write_warnings.Goals as goal

pub returns-in_err-write_merged : goal.returns-in_err-write_merged
returns-in_err-write_merged g c =
    let p = err_from_is_err_and c.from_residual.result c.from_residual.ensures.1 in
    rw p.1 (rw (c.new-text.ensures, c.new-source.ensures) at c.in_err-write_merged.ensures)

pub returns : goal.returns
returns g c = written_whole c.flush.result _ _ _ _ _ (rw (c.new-text.ensures, c.new-source.ensures) at c.in_ok-write_merged.ensures) c.flush.ensures.written
