use Rattle.core_unit.proofs.Sums.{one_more}
use Rattle.type_initializers.proofs.WordForms.{words_sum}
use Rattle.type_initializers.proofs.words.+words.Goals as goal

pub all_words-each-preserved : goal.all_words-each-preserved
all_words-each-preserved t c =
    one_more _ _ words_sum c.args.parts.now c.each.part-index c.each.total c.part-item.result c.initializer_words.result c.add-total.result c.each-test.true
    c.part-item.is c.each.invariant c.initializer_words.ensures c.add-total.ensures
