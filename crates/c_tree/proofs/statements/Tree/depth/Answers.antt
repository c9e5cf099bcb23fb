use Rattle.std.proofs.Common.{◌≡◌, max, arith, ap, sym, ◌∙◌, map}
use Rattle.std.proofs.lemmas.Grind.{common_steps}
use Rattle.c_tree.specs.Depth.{saturated, deepest, external_depth}
use Rattle.c_tree.proofs.Equations.{deepest-more, deepest-end, saturated-max}
use Rattle.c_tree.proofs.StatementEquations.{depth-Tree}
use Rattle.c_tree.proofs.statements.Tree.depth.Goals as goal

pub loop-one-preserved : goal.loop-one-preserved
loop-one-preserved c =
    let most : c.max-depth.result ≡ max c.loop-one.depth (saturated (external_depth c.one-item.result)) = grind (arith, common_steps, saturated-max) in
    deepest-more external_depth c.as_slice-one-items.result.now c.loop-one.one-index c.one-item.result _ c.loop-one.depth
    c.max-depth.result c.loop-one.invariant c.loop-one-test.true c.one-item.is most

pub returns : goal.returns
returns c =
    deepest-end external_depth c.as_slice-one-items.result.now c.loop-one.one-index _ c.loop-one.depth c.loop-one.invariant c.loop-one-test.false
    ∙ ap (λ xs. saturated (deepest (map external_depth xs))) c.as_slice-one-items.ensures ∙ ap saturated (sym (depth-Tree c.args.self.now))
