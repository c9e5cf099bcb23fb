use Rattle.std.proofs.lemmas.List.{take_rest}
use Rattle.suppress.proofs.OccurrenceLemmas.{IsNowhere-search, IsNowhere-longer, IsAfterFirst-search}
use Rattle.suppress.proofs.search.after_first_place.Goals as goal

pub returns-then-text-piece : goal.returns-then-text-piece
returns-then-text-piece c = IsNowhere-longer c.args.piece.now c.args.text.now c.if-text-piece.true

pub returns-in-None : goal.returns-in-None
returns-in-None c = IsNowhere-search c.args.piece.now c.args.text.now c.in-None.ensures

pub returns-in-Some : goal.returns-in-Some
returns-in-Some c = rw take_rest (IsAfterFirst-search c.args.piece.now c.args.text.now c.in-Some.at c.in-Some.ensures.0 c.in-Some.ensures.1)
