-- The sink was handed what was held, and then the piece.
use Rattle.printing.proofs.Gathering.{gathered_through}
use Rattle.printing.proofs.buffer.TextBuffer.write.Goals as goal

pub returns : goal.returns
returns g c =
    gathered_through c.write_all.result c.args.piece.now c.args.self.now c.flush.new.self c.holds-2.new.self _ _ _ (rw (c.holds.ensures.full c.if-holds.false) at c.in_ok-flush.ensures.written)
    c.in_ok-flush.ensures.empty (c.holds-2.ensures.full c.if-holds-2.false) c.write_all.ensures.written
