-- the sink took the pieces so far
use Rattle.std.proofs.Common.{take}
use Rattle.std.specs.List.{flat_map}
use Rattle.rt_base.specs.Outside.{TakesAll}
use Rattle.reports.proofs.pieces.write_pieces.Given as goal

abbrev pub invariant-loop-piece : goal.invariant-loop-piece
invariant-loop-piece g l =
    TakesAll (flat_map (λ piece. piece.now) (take l.piece-index l.pieces)) (g.S.Sink.state l.initial.out) (g.S.Sink.state l.out)
