-- The invariant gives the end of what is left at the byte, and only_end says that it is the only one.
use Rattle.std.proofs.Common.{◌≡◌, ◌+◌, true, Some, None, get_or, arith}
use Rattle.std.proofs.lemmas.Bool.Decides.{nat_tests}
use Rattle.c_text.specs.Forms.{ends_comment, breaks_comment, marks_comment}
use Rattle.c_text.proofs.Ends.{only_end, end_here, end_none}
use Rattle.c_text.proofs.words.comment_end.Goals as goal

pub returns-then-byte-eq47 : goal.returns-then-byte-eq47
returns-then-byte-eq47 c =
    let ends : ends_comment c.loop-at.marked (get_or c.args.text.now c.loop-at.at 0) ≡ true = grind (arith, nat_tests) in
    only_end ends_comment breaks_comment marks_comment c.args.text.now (Some (c.loop-at.at + 1))
    (end_here ends_comment breaks_comment marks_comment _ c.args.text.now c.loop-at.at c.loop-at.marked c.loop-at-test.true ends c.loop-at.invariant)

pub returns : goal.returns
returns c =
    only_end ends_comment breaks_comment marks_comment c.args.text.now None
    (end_none ends_comment breaks_comment marks_comment _ c.args.text.now c.loop-at.at c.loop-at.marked c.loop-at-test.false c.loop-at.invariant)
