-- Each turn gathers a piece more.
use Rattle.std.proofs.lemmas.Result.{err_from_is_err_and}
use Rattle.printing.proofs.Gathering.{gathers_next, fails_at}
use Rattle.printing.proofs.buffer.TextBuffer.write_pieces.Goals as goal

pub returns-in_err-write : goal.returns-in_err-write
returns-in_err-write g c =
    let p = err_from_is_err_and c.from_residual.result c.from_residual.ensures.1 in
    rw p.1 (fails_at (λ piece. piece.now) c.args.pieces.now c.each.piece-index _ _ _ _ _ _ c.each-test.true c.each.invariant (rw c.as_bytes.ensures.value at c.in_err-write.ensures))

pub each-preserved : goal.each-preserved
each-preserved g c =
    gathers_next (λ piece. piece.now) c.args.pieces.now c.each.piece-index _ _ _ _ _ _ _ c.each-test.true c.each.invariant (rw c.as_bytes.ensures.value at c.in_ok-write.ensures)
