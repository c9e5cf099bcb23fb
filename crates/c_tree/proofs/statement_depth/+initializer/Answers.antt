use Rattle.std.proofs.Common.{◌≡◌, max, arith}
use Rattle.std.proofs.lemmas.Grind.{common_steps}
use Rattle.c_tree.specs.Depth.{saturated, init_depth}
use Rattle.c_tree.proofs.Equations.{deepest-more, deepest-end, saturated-max}
use Rattle.c_tree.proofs.statement_depth.+initializer.Goals as goal

pub initializers-loop-init-preserved : goal.initializers-loop-init-preserved
initializers-loop-init-preserved t c =
    let most : c.max-depth.result ≡ max c.loop-init.depth (saturated (init_depth c.init-item.result)) = grind (arith, common_steps, saturated-max) in
    deepest-more init_depth c.args.all.now c.loop-init.init-index c.init-item.result _ c.loop-init.depth c.max-depth.result c.loop-init.invariant
    c.loop-init-test.true c.init-item.is most

pub initializers-returns : goal.initializers-returns
initializers-returns t c = deepest-end init_depth c.args.all.now c.loop-init.init-index _ c.loop-init.depth c.loop-init.invariant c.loop-init-test.false
