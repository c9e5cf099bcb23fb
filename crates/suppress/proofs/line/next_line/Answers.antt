use Rattle.std.proofs.Common.{sym, refl}
use Rattle.suppress.proofs.LineLemmas.{lines_of-parts}
use Rattle.suppress.proofs.line.next_line.Goals as goal

pub returns-clause-first : goal.returns-clause-first
returns-clause-first c =
    rw (c.without_carriage_return.ensures, c.unwrap_or.ensures)
    (lines_of-parts c.args.text.now c.split_first.result.0.now c.split_first.result.1 _ (sym c.if-is_empty.ensures) refl c.split_first.ensures.parts c.split_first.ensures.shorter)
