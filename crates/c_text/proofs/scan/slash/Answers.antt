-- The byte behind the slash tells a comment.
use Rattle.std.proofs.Common.{◌+◌, refl, ◌∙◌, ap}
use Rattle.std.specs.List.{list_all}
use Rattle.c_text.specs.declared.form.Form.TheVariants.{Comment, Stray}
use Rattle.c_text.specs.declared.form.StrayKind.TheVariants.{OpenComment}
use Rattle.c_text.specs.Bytes.{is_in_line}
use Rattle.c_text.specs.Forms.{when, closed_or, is_comment_end}
use Rattle.c_text.proofs.FirstBytes.{front_comment, front_slash}
use Rattle.c_text.proofs.scan.slash.Goals as goal

pub returns-then-follows-clause-front : goal.returns-then-follows-clause-front
returns-then-follows-clause-front c =
    front_comment (λ word. when (list_all is_in_line word) Comment) c.args.left.now 47 c.line_comment.result.length c.line_comment.result.form
    (c.follows.ensures.yes c.if-follows.true).0 c.requires.first (c.follows.ensures.yes c.if-follows.true).1 (λ o. refl) c.line_comment.ensures _ _
    (c.behind_one-then-follows.ensures.form ∙ c.behind_one.ensures.form)
    (c.behind_one-then-follows.ensures.length ∙ ap (λ n. 1 + n) c.behind_one.ensures.length)

pub returns-then-follows-2-clause-front : goal.returns-then-follows-2-clause-front
returns-then-follows-2-clause-front c =
    front_comment (closed_or is_comment_end Comment (Stray OpenComment)) c.args.left.now 42 c.block_comment.result.length c.block_comment.result.form
    (c.follows-2.ensures.yes c.if-follows-2.true).0 c.requires.first (c.follows-2.ensures.yes c.if-follows-2.true).1 (λ o. refl) c.block_comment.ensures _ _
    (c.behind_one-then-follows-2-2.ensures.form ∙ c.behind_one-then-follows-2.ensures.form)
    (c.behind_one-then-follows-2-2.ensures.length ∙ ap (λ n. 1 + n) c.behind_one-then-follows-2.ensures.length)

pub returns-clause-front : goal.returns-clause-front
returns-clause-front c =
    front_slash c.args.left.now c.mark.result.form c.mark.result.length c.requires.some c.mark.ensures.some c.requires.first
    (λ two. (c.follows.ensures.no c.if-follows.false two, c.follows-2.ensures.no c.if-follows-2.false two)) c.mark.ensures.front
