-- the pieces so far were gathered
use Rattle.std.proofs.Common.{take}
use Rattle.std.specs.List.{flat_map}
use Rattle.printing.specs.Gathered.{Gathers}
use Rattle.printing.proofs.buffer.TextBuffer.write_pieces.Given as goal

abbrev pub invariant-each : goal.invariant-each
invariant-each g l =
    Gathers (flat_map (λ piece. piece.now) (take l.piece-index l.pieces)) l.initial.self (g.S.Sink.state l.initial.out) l.self (g.S.Sink.state l.out)
