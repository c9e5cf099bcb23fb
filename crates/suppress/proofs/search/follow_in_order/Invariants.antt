use Rattle.std.proofs.Common.{◌↔◌, false, [], ◌∷◌, ◌++◌, drop}
use Rattle.suppress.specs.Layout.{IsLaidOut}
use Rattle.suppress.proofs.LayoutLemmas.{Follows}
use Rattle.suppress.proofs.search.follow_in_order.Given as goal

-- what is left of the pieces follows in what is left of the text exactly where all of them do in all of it
abbrev pub invariant-loop-piece : goal.invariant-loop-piece
invariant-loop-piece l =
    Follows l.anchored_end (drop l.piece-index l.front ++ l.last ∷ []) l.rest
    ↔ IsLaidOut false l.anchored_end l.fn.pieces l.fn.text
