use Rattle.std.proofs.Common.{◌≡◌, ◌++◌}
use Rattle.suppress.proofs.SplitLemmas.{pieces_left, work_left}
use Rattle.suppress.specs.Pattern.{pieces_in}
use Rattle.suppress.proofs.pattern.PieceList.split.Given as goal

abbrev pub invariant-loop-rest : goal.invariant-loop-rest
invariant-loop-rest l = pieces_in l.fn.bytes ≡ l.pieces.items ++ pieces_left l.rest

abbrev pub decreases-loop-rest : goal.decreases-loop-rest
decreases-loop-rest l = work_left l.rest
