use Rattle.core_unit.proofs.Sums.{one_more}
use Rattle.c_codegen.proofs.Refused.{nodes_sum}
use Rattle.c_codegen.proofs.refusals.functions_nodes.Goals as goal

pub each-preserved : goal.each-preserved
each-preserved c =
    one_more _ _ nodes_sum c.args.functions.now c.each.function-index c.each.total c.function-item.result c.function_nodes.result c.sum-total.result
    c.each-test.true c.function-item.is c.each.invariant c.function_nodes.ensures c.sum-total.ensures
