use Rattle.std.proofs.Common.{◌≡◌, max, arith, ap, sym, ◌∙◌}
use Rattle.std.proofs.lemmas.Grind.{common_steps}
use Rattle.c_tree.specs.Depth.{saturated, item_depth, expr_depth, statement_depth, optional_statement_depth}
use Rattle.c_tree.proofs.Equations.{deepest-more, deepest-end, saturated-max}
use Rattle.c_tree.proofs.StatementEquations.{saturated-three, depth-If}
use Rattle.c_tree.proofs.statement_depth.+statement.Goals as goal

pub items-loop-item-preserved : goal.items-loop-item-preserved
items-loop-item-preserved t c =
    let most : c.max-depth.result ≡ max c.loop-item.depth (saturated (item_depth c.item-item.result)) = grind (arith, common_steps, saturated-max) in
    deepest-more item_depth c.args.all.now c.loop-item.item-index c.item-item.result _ c.loop-item.depth c.max-depth.result c.loop-item.invariant
    c.loop-item-test.true c.item-item.is most

pub items-returns : goal.items-returns
items-returns t c = deepest-end item_depth c.args.all.now c.loop-item.item-index _ c.loop-item.depth c.loop-item.invariant c.loop-item-test.false

pub statement-returns-in-If : goal.statement-returns-in-If
statement-returns-in-If t c =
    let inner : c.max.result ≡ max (saturated (statement_depth c.in-If.then)) (saturated (optional_statement_depth c.in-If.other)) = cc in
    let outer : c.max-in-If.result ≡ max (saturated (expr_depth c.in-If.condition)) c.max.result = cc in
    saturated-three (expr_depth c.in-If.condition) (statement_depth c.in-If.then) (optional_statement_depth c.in-If.other)
    c.max.result c.max-in-If.result c.node-in-If.result inner outer c.node-in-If.ensures
    ∙ ap saturated (sym (depth-If c.in-If.field-0 c.in-If.condition c.in-If.then c.in-If.other))
    ∙ ap (λ s. saturated (statement_depth s)) (sym c.in-If.is)
