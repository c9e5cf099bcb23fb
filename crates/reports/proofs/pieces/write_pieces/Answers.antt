-- a fault within a piece leaves the pieces before it and a prefix of it
use Rattle.std.proofs.lemmas.Result.{err_from_is_err_and}
use Rattle.rt_base.proofs.Pieces.{fails_next}
use Rattle.reports.proofs.pieces.write_pieces.Goals as goal

pub returns-in_err-write_all : goal.returns-in_err-write_all
returns-in_err-write_all g c =
    let p = err_from_is_err_and c.from_residual.result c.from_residual.ensures.1 in
    rw p.1
    (fails_next
    (λ piece. piece.now)
    c.args.pieces.now
    c.loop-piece.piece-index
    _
    _
    _
    _
    c.loop-piece-test.true
    c.loop-piece.invariant
    (rw c.as_bytes.ensures.value at c.in_err-write_all.ensures.written))
