-- The only end is the end, and without one the beginning stands alone.
use Rattle.std.proofs.Common.{Option, ℕ, refl, subst}
use Rattle.c_text.specs.declared.form.Form.TheVariants.{Comment, Stray}
use Rattle.c_text.specs.declared.form.StrayKind.TheVariants.{OpenComment}
use Rattle.c_text.specs.Ends.{IsOnlyEnd}
use Rattle.c_text.specs.Forms.{is_comment_end}
use Rattle.c_text.proofs.Front.{front_closed, front_unclosed}
use Rattle.c_text.proofs.scan.block_comment.Goals as goal

pub returns-in-Some : goal.returns-in-Some
returns-in-Some c =
    let P : Option ℕ → Type 0 = λ o. IsOnlyEnd is_comment_end o c.args.rest.now in
    front_closed is_comment_end Comment (Stray OpenComment) c.in-Some.length c.args.rest.now refl (subst P c.in-Some.is c.comment_end.ensures)

pub returns-in-None : goal.returns-in-None
returns-in-None c =
    let P : Option ℕ → Type 0 = λ o. IsOnlyEnd is_comment_end o c.args.rest.now in
    front_unclosed is_comment_end Comment (Stray OpenComment) c.args.rest.now (subst P c.in-None.is c.comment_end.ensures)
