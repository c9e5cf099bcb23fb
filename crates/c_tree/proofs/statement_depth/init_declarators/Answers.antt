use Rattle.std.proofs.Common.{◌≡◌, max, arith}
use Rattle.std.proofs.lemmas.Grind.{common_steps}
use Rattle.c_tree.specs.Depth.{saturated, init_declarator_depth}
use Rattle.c_tree.proofs.Equations.{deepest-more, deepest-end, saturated-max}
use Rattle.c_tree.proofs.statement_depth.init_declarators.Goals as goal

pub loop-one-preserved : goal.loop-one-preserved
loop-one-preserved c =
    let most : c.max-depth.result ≡ max c.loop-one.depth (saturated (init_declarator_depth c.one-item.result)) = grind (arith, common_steps, saturated-max) in
    deepest-more init_declarator_depth c.args.all.now c.loop-one.one-index c.one-item.result _ c.loop-one.depth c.max-depth.result c.loop-one.invariant
    c.loop-one-test.true c.one-item.is most

pub returns : goal.returns
returns c = deepest-end init_declarator_depth c.args.all.now c.loop-one.one-index _ c.loop-one.depth c.loop-one.invariant c.loop-one-test.false
