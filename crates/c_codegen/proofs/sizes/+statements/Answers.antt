use Rattle.std.proofs.Common.{◌≡◌, ◌∙◌, refl, sym, ap, ◌+◌}
use Rattle.core_unit.specs.Layout.{told}
use Rattle.c_codegen.specs.Sizes.{statement_size, list_size, test_size, optional_size}
use Rattle.c_codegen.proofs.SizeEquations.{size-For}
use Rattle.core_unit.proofs.Sums.{one_more}
use Rattle.c_codegen.proofs.Sums.{statements_sum}
use Rattle.c_codegen.proofs.sizes.+statements.Goals as goal

pub list_size-each-preserved : goal.list_size-each-preserved
list_size-each-preserved t c =
    one_more _ _ statements_sum c.args.statements.now c.each.statement-index c.each.total c.statement-item.result c.statement_size.result c.sum-total.result
    c.each-test.true c.statement-item.is c.each.invariant c.statement_size.ensures c.sum-total.ensures

pub statement_size-returns-in-For : goal.statement_size-returns-in-For
statement_size-returns-in-For t c =
    let start = c.in-For.start in
    let test = c.in-For.test in
    let step = c.in-For.step in
    let begun : c.list_size-in-For.result ≡ told (list_size start) = cc in
    let body : c.statement_size-in-For.result ≡ told (statement_size c.in-For.body) = cc in
    let first = c.sum-head.ensures (list_size start) (test_size test) begun c.test_size.ensures in
    let second = c.sum-round.ensures (list_size start + test_size test) (statement_size c.in-For.body) first body in
    let third = c.sum-in-For.ensures (list_size start + test_size test + statement_size c.in-For.body) (optional_size step) second c.optional_size.ensures in
    c.sum-in-For-2.ensures (list_size start + test_size test + statement_size c.in-For.body + optional_size step) 2 third refl
    ∙ ap told (sym (ap statement_size c.in-For.is ∙ size-For start test step c.in-For.body))
