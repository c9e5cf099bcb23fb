-- The invariant gives the end of what is left at the byte, and only_end says that it is the only one.
use Rattle.std.proofs.Common.{◌≡◌, ◌+◌, true, false, Some, None, get_or, arith}
use Rattle.std.proofs.lemmas.Bool.Decides.{nat_tests}
use Rattle.c_text.specs.Forms.{ends_string, breaks_string, marks_string}
use Rattle.c_text.proofs.Ends.{only_end, end_here, end_broken, end_none}
use Rattle.c_text.proofs.words.string_end.Goals as goal

pub returns-then-byte-eq34 : goal.returns-then-byte-eq34
returns-then-byte-eq34 c =
    let ends : ends_string c.loop-at.marked (get_or c.args.text.now c.loop-at.at 0) ≡ true = grind (arith, nat_tests) in
    only_end ends_string breaks_string marks_string c.args.text.now (Some (c.loop-at.at + 1))
    (end_here ends_string breaks_string marks_string _ c.args.text.now c.loop-at.at c.loop-at.marked c.loop-at-test.true ends c.loop-at.invariant)

pub returns-then-byte-eq10 : goal.returns-then-byte-eq10
returns-then-byte-eq10 c =
    let goes : ends_string c.loop-at.marked (get_or c.args.text.now c.loop-at.at 0) ≡ false = grind (arith, nat_tests) in
    let breaks : breaks_string c.loop-at.marked (get_or c.args.text.now c.loop-at.at 0) ≡ true = grind (arith, nat_tests) in
    only_end ends_string breaks_string marks_string c.args.text.now None
    (end_broken ends_string breaks_string marks_string _ c.args.text.now c.loop-at.at c.loop-at.marked c.loop-at-test.true goes breaks c.loop-at.invariant)

pub returns : goal.returns
returns c =
    only_end ends_string breaks_string marks_string c.args.text.now None
    (end_none ends_string breaks_string marks_string _ c.args.text.now c.loop-at.at c.loop-at.marked c.loop-at-test.false c.loop-at.invariant)
