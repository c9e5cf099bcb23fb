use Rattle.std.proofs.Common.{◌≡◌, ◌∙◌, sym, ap, ◌+◌, [], ◌∷◌}
use Rattle.core_unit.specs.Layout.{told}
use Rattle.core_unit.specs.Nodes.{begun_nodes, optional_nodes, stmt_nodes}
use Rattle.core_unit.proofs.StatementEquations.{nodes-For}
use Rattle.core_unit.proofs.Sums.{one_more, statements_sum, begun_sum, begun_expression, begun_statement, small}
use Rattle.core_unit.proofs.statement_counts.+statements.Goals as goal
use Rattle.core_unit.proofs.statement_counts.+statements.Goals.{begun_nodes-in-Expression, begun_nodes-in_default}

pub statements_nodes-each-preserved : goal.statements_nodes-each-preserved
statements_nodes-each-preserved t c =
    one_more _ _ statements_sum c.args.statements.now c.each.statement-index c.each.total c.statement-item.result c.statement_nodes.result c.sum-total.result
    c.each-test.true c.statement-item.is c.each.invariant c.statement_nodes.ensures c.sum-total.ensures

pub begun_nodes-each-preserved : goal.begun_nodes-each-preserved
begun_nodes-each-preserved t c =
    let counted : c.match-statement.count ≡ told (begun_nodes (c.statement-item.result ∷ [])) =
    elim c.match-statement.branch [
      | begun_nodes-in-Expression w ↦ w.count-is ∙ begun_expression c.statement-item.result _ w.nodes-count.result w.in-Expression.is w.nodes-count.ensures
      | begun_nodes-in_default w ↦
          w.count-is ∙ begun_statement c.statement-item.result w.statement_nodes-count.result w.in_default.not-Expression w.statement_nodes-count.ensures
    ] in
    one_more _ _ begun_sum c.args.statements.now c.each.statement-index c.each.total c.statement-item.result c.match-statement.count c.sum-total.result
    c.each-test.true c.statement-item.is c.each.invariant counted c.sum-total.ensures

pub statement_nodes-returns-in-For : goal.statement_nodes-returns-in-For
statement_nodes-returns-in-For t c =
    let start = c.in-For.start in
    let condition = c.in-For.condition in
    let step = c.in-For.step in
    let begun : c.begun_nodes.result ≡ told (begun_nodes start) = cc in
    let body : c.statement_nodes-in-For.result ≡ told (stmt_nodes c.in-For.body) = cc in
    let first = c.sum-begun.ensures 1 (begun_nodes start) small begun in
    let second = c.sum-in-For.ensures (1 + begun_nodes start) (optional_nodes condition) first c.optional_nodes.ensures in
    let third = c.sum-head.ensures (1 + begun_nodes start + optional_nodes condition) (optional_nodes step) second c.optional_nodes-in-For.ensures in
    c.sum-in-For-2.ensures (1 + begun_nodes start + optional_nodes condition + optional_nodes step) (stmt_nodes c.in-For.body) third body
    ∙ ap told (sym (ap stmt_nodes c.in-For.is ∙ nodes-For start condition step c.in-For.body))
