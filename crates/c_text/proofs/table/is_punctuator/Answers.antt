-- A word of a length is looked for among the punctuators of this length.
use Rattle.std.proofs.Common.{◌∙◌}
use Rattle.c_text.proofs.Marks.{one_byte, two_bytes, three_bytes, no_bytes}
use Rattle.c_text.proofs.table.is_punctuator.Goals as goal

pub returns-then-word-eq1 : goal.returns-then-word-eq1
returns-then-word-eq1 c = c.is_one_of.ensures ∙ one_byte c.args.word.now c.if-word-eq1.true

pub returns-then-word-eq2 : goal.returns-then-word-eq2
returns-then-word-eq2 c = c.is_one_of-then-word-eq2.ensures ∙ two_bytes c.args.word.now c.if-word-eq2.true

pub returns-then-word-eq3 : goal.returns-then-word-eq3
returns-then-word-eq3 c = c.is_one_of-then-word-eq3.ensures ∙ three_bytes c.args.word.now c.if-word-eq3.true

pub returns : goal.returns
returns c = no_bytes c.args.word.now c.if-word-eq1.false c.if-word-eq2.false c.if-word-eq3.false
