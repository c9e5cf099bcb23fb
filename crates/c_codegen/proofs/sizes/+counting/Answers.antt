use Rattle.std.proofs.Common.{refl}
use Rattle.core_unit.proofs.Sums.{one_more}
use Rattle.c_codegen.specs.Sizes.{size}
use Rattle.c_codegen.proofs.Sums.{arguments_sum}
use Rattle.c_codegen.proofs.sizes.+counting.Goals as goal

pub arguments_size-each-preserved : goal.arguments_size-each-preserved
arguments_size-each-preserved t c =
    one_more _ _ arguments_sum c.args.expressions.now c.each.expression-index c.each.total c.expression-item.result c.sum.result c.sum-total.result
    c.each-test.true c.expression-item.is c.each.invariant (c.sum.ensures (size c.expression-item.result) 1 c.size.ensures refl) c.sum-total.ensures
