use Rattle.core_unit.proofs.Sums.{one_more, arguments_sum}
use Rattle.core_unit.proofs.counts.+counting.Goals as goal

pub all_nodes-each-preserved : goal.all_nodes-each-preserved
all_nodes-each-preserved t c =
    one_more _ _ arguments_sum c.args.expressions.now c.each.expression-index c.each.total c.expression-item.result c.nodes.result c.sum-total.result c.each-test.true
    c.expression-item.is c.each.invariant c.nodes.ensures c.sum-total.ensures
