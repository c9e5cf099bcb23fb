use Rattle.std.proofs.Common.{sym}
use Rattle.c_codegen.proofs.NameEquations.{first_none, first_more_word}
use Rattle.c_codegen.proofs.names.first_in_words.Goals as goal

pub each-init : goal.each-init
each-init c = sym (first_none c.args.unit.now)

pub each-preserved : goal.each-preserved
each-preserved c =
    first_more_word c.args.unit.now c.args.words.now c.each.word-index c.each.first c.first_in_word.result c.lesser-first.result c.each-test.true
    c.each.invariant c.first_in_word.ensures c.lesser-first.ensures
