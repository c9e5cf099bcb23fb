-- No attribute where a bracket is.
use Rattle.built_form.proofs.Items.{marked_no_mark}
use Rattle.built_form.proofs.syntax.ending.Goals as goal

pub returns-in_err-mark-clause-none : goal.returns-in_err-mark-clause-none
returns-in_err-mark-clause-none c = λ _. marked_no_mark c.args.cursor.now c.if-not-sees.ensures.yes c.in_err-mark.ensures.none
