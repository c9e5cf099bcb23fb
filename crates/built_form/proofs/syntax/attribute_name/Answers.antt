-- Neither of the two names comes next.
use Rattle.std.proofs.Common.{List}
use Rattle.built_form.specs.declared.item.Mark.{Mark}
use Rattle.built_form.specs.Form.{Lexeme, Begins, word_of}
use Rattle.built_form.specs.Form.Part.{Word}
use Rattle.built_form.proofs.Parts.{any_err}
use Rattle.built_form.proofs.Items.{no_word}
use Rattle.built_form.proofs.syntax.attribute_name.Goals as goal

pub returns-in_err-part-clause-none : goal.returns-in_err-part-clause-none
returns-in_err-part-clause-none c =
    any_err ((mark : Mark) (rest : List Lexeme) → Begins (Word (word_of mark)) c.args.cursor.now rest → ⊥) c.from_residual.result
    (no_word c.args.cursor.now c.if-take.ensures.none (rw c.if-take.ensures.same at c.in_err-part.ensures.none))
