-- No name and parameters after the first word.
use Rattle.built_form.proofs.Items.{main_no_head, void_no_head}
use Rattle.built_form.proofs.syntax.item.Goals as goal

pub returns-in_err-name-clause-none : goal.returns-in_err-name-clause-none
returns-in_err-name-clause-none c =
    λ _. main_no_head c.args.cursor.now c.take.new.self c.if-take.ensures.read c.in_err-name.ensures.none

pub returns-in_err-name-2-clause-none : goal.returns-in_err-name-2-clause-none
returns-in_err-name-2-clause-none c =
    λ _. void_no_head c.args.cursor.now c.part.new.self (rw c.if-take.ensures.same at c.in_ok-part.ensures.read) c.in_err-name-2.ensures.none
