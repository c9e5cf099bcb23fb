-- Three bytes are tried, then two, then one.
use Rattle.c_text.proofs.FirstBytes.{front_three, front_stray}
use Rattle.c_text.proofs.scan.mark.Goals as goal

pub returns-then-is_mark-clause-front : goal.returns-then-is_mark-clause-front
returns-then-is_mark-clause-front c =
    front_three c.args.left.now (c.is_mark.ensures.yes c.if-is_mark.true).0 (c.is_mark.ensures.yes c.if-is_mark.true).1

pub returns-clause-front : goal.returns-clause-front
returns-clause-front c =
    front_stray c.args.left.now (c.is_mark.ensures.no c.if-is_mark.false) (c.is_mark-2.ensures.no c.if-is_mark-2.false)
    c.requires (c.is_mark-3.ensures.no c.if-is_mark-3.false c.requires)
