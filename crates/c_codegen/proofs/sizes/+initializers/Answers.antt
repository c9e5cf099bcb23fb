use Rattle.core_unit.proofs.Sums.{one_more}
use Rattle.c_codegen.proofs.Sums.{listed_sum}
use Rattle.c_codegen.proofs.sizes.+initializers.Goals as goal

pub initializers_size-each-preserved : goal.initializers_size-each-preserved
initializers_size-each-preserved t c =
    one_more _ _ listed_sum c.args.initializers.now c.each.initializer-index c.each.total c.initializer-item.result c.initializer_size.result c.sum-total.result
    c.each-test.true c.initializer-item.is c.each.invariant c.initializer_size.ensures c.sum-total.ensures
