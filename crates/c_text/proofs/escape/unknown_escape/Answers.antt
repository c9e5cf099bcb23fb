use Rattle.std.proofs.Common.{◌∙◌, sym, ap}
use Rattle.std.proofs.lemmas.List.{drop_all}
use Rattle.c_text.specs.Escapes.{unknown_escape}
use Rattle.c_text.proofs.escape.unknown_escape.Goals as goal

pub returns-in-None-clause-value : goal.returns-in-None-clause-value
returns-in-None-clause-value c = sym (c.loop-at.invariant ∙ c.past.ensures.none c.in-None.is)

pub loop-at-preserved : goal.loop-at-preserved
loop-at-preserved c = c.loop-at.invariant ∙ c.in-Some.ensures.next

pub returns-clause-value : goal.returns-clause-value
returns-clause-value c = sym (c.loop-at.invariant ∙ ap (unknown_escape 0 c.loop-at.at) (drop_all c.loop-at.at c.args.word.now c.loop-at-test.false))
