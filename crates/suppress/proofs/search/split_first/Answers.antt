use Rattle.std.proofs.lemmas.List.{take_rest}
use Rattle.std.proofs.Common.{sym}
use Rattle.suppress.proofs.SplitLemmas.{slice_split-at_place, slice_split-nowhere}
use Rattle.suppress.proofs.search.split_first.Goals as goal

pub returns-in-None-clause-parts : goal.returns-in-None-clause-parts
returns-in-None-clause-parts c = slice_split-nowhere _ c.args.text.now (sym c.in-None.ensures)

pub returns-in-Some-clause-parts : goal.returns-in-Some-clause-parts
returns-in-Some-clause-parts c =
    rw take_rest (slice_split-at_place _ c.args.text.now c.in-Some.at (sym c.in-Some.ensures))
