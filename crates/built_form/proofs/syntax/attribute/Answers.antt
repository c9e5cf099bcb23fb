-- What stands before the name of the attribute isn't there, or no name, or what stands behind it isn't.
use Rattle.built_form.specs.Form.{spelled_mark}
use Rattle.built_form.specs.Reading.{FindsNone}
use Rattle.built_form.proofs.Parts.{any_err}
use Rattle.built_form.proofs.Items.{mark_no_front, mark_no_word, mark_no_end}
use Rattle.built_form.proofs.syntax.attribute.Goals as goal

pub returns-in_err-parts-clause-none : goal.returns-in_err-parts-clause-none
returns-in_err-parts-clause-none c =
    any_err (FindsNone spelled_mark c.args.cursor.now) c.from_residual.result (mark_no_front c.args.cursor.now c.in_err-parts.ensures.none)

pub returns-in_err-mark-clause-none : goal.returns-in_err-mark-clause-none
returns-in_err-mark-clause-none c =
    any_err (FindsNone spelled_mark c.args.cursor.now) c.from_residual-in_err-mark.result
    (mark_no_word c.args.cursor.now c.parts.new.self c.in_ok-parts.ensures.read c.in_err-mark.ensures.none)

pub returns-in_err-parts-2-clause-none : goal.returns-in_err-parts-2-clause-none
returns-in_err-parts-2-clause-none c =
    any_err (FindsNone spelled_mark c.args.cursor.now) c.from_residual-in_err-parts-2.result
    (mark_no_end c.args.cursor.now c.parts.new.self c.attribute_name.new.cursor c.in_ok-mark.mark c.in_ok-parts.ensures.read
    c.in_ok-mark.ensures.read c.in_err-parts-2.ensures.none)
