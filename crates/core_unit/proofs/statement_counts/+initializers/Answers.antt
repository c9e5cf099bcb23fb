use Rattle.core_unit.proofs.Sums.{one_more, listed_sum}
use Rattle.core_unit.proofs.statement_counts.+initializers.Goals as goal

pub initializers_nodes-each-preserved : goal.initializers_nodes-each-preserved
initializers_nodes-each-preserved t c =
    one_more _ _ listed_sum c.args.initializers.now c.each.initializer-index c.each.total c.initializer-item.result c.initializer_nodes.result c.sum-total.result
    c.each-test.true c.initializer-item.is c.each.invariant c.initializer_nodes.ensures c.sum-total.ensures
