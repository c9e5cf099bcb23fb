use Rattle.std.proofs.Common.{◌∙◌, refl, ap, sym}
use Rattle.core_unit.specs.Places as unit
use Rattle.core_unit.proofs.StatementEquations.{spots-If, spots-For, spots-While, spots-DoWhile}
use Rattle.core_unit.specs.declared.body.Stmt.TheVariants as stmt
use Rattle.unit_spots.proofs.Compose.{two, three, four, more, ended}
use Rattle.unit_spots.proofs.walk.+stating.Goals as goal

pub stmt_spots-returns-in_ok-stmt_spots-in-If : goal.stmt_spots-returns-in_ok-stmt_spots-in-If
stmt_spots-returns-in_ok-stmt_spots-in-If t c =
    three c.stmts_spots-in-If.result (unit.stmt_spots c.args.statement.now) (unit.spots c.in-If.condition) (unit.stmt_spots c.in-If.inner) (unit.list_spots c.in-If.other)
    c.args.found.now c.spots-in-If.new.found c.stmt_spots.new.found c.stmts_spots-in-If.new.found
    (λ rest. ap (λ s. unit.stmt_spots s rest) c.in-If.is ∙ spots-If rest c.in-If.condition c.in-If.inner c.in-If.other)
    c.in_ok-spots-in-If.ensures (rw c.get.ensures at c.in_ok-stmt_spots-in-If.ensures) (rw c.as_slice-in-If.ensures at c.stmts_spots-in-If.ensures)

pub stmt_spots-returns-in_ok-spots-in-While : goal.stmt_spots-returns-in_ok-spots-in-While
stmt_spots-returns-in_ok-spots-in-While t c =
    two c.stmt_spots-in-While.result (unit.stmt_spots c.args.statement.now) (unit.spots c.in-Loop.condition) (unit.stmt_spots c.in-Loop.inner)
    c.args.found.now c.spots-in-While.new.found c.stmt_spots-in-While.new.found
    (λ rest. ap (λ s. unit.stmt_spots s rest) c.in-Loop.is ∙ (ap (λ k. unit.stmt_spots (stmt.Loop k c.in-Loop.condition c.in-Loop.inner) rest) c.in-While.is ∙ spots-While rest c.in-Loop.condition c.in-Loop.inner))
    c.in_ok-spots-in-While.ensures (rw c.get-in-While.ensures at c.stmt_spots-in-While.ensures)

pub stmt_spots-returns-in_ok-stmt_spots-in-DoWhile : goal.stmt_spots-returns-in_ok-stmt_spots-in-DoWhile
stmt_spots-returns-in_ok-stmt_spots-in-DoWhile t c =
    two c.spots-in-DoWhile.result (unit.stmt_spots c.args.statement.now) (unit.stmt_spots c.in-Loop.inner) (unit.spots c.in-Loop.condition)
    c.args.found.now c.stmt_spots-in-DoWhile.new.found c.spots-in-DoWhile.new.found
    (λ rest. ap (λ s. unit.stmt_spots s rest) c.in-Loop.is ∙ (ap (λ k. unit.stmt_spots (stmt.Loop k c.in-Loop.condition c.in-Loop.inner) rest) c.in-DoWhile.is ∙ spots-DoWhile rest c.in-Loop.condition c.in-Loop.inner))
    (rw c.get-in-DoWhile.ensures at c.in_ok-stmt_spots-in-DoWhile.ensures) c.spots-in-DoWhile.ensures

pub stmt_spots-returns-in_ok-stmt_spots-in-For : goal.stmt_spots-returns-in_ok-stmt_spots-in-For
stmt_spots-returns-in_ok-stmt_spots-in-For t c =
    four c.optional_spots-in-For.result (unit.stmt_spots c.args.statement.now) (unit.list_spots c.in-For.start) (unit.optional_spots c.in-For.test) (unit.stmt_spots c.in-For.inner) (unit.optional_spots c.in-For.step)
    c.args.found.now c.stmts_spots-in-For.new.found c.optional_spots.new.found c.stmt_spots-in-For.new.found c.optional_spots-in-For.new.found
    (λ rest. ap (λ s. unit.stmt_spots s rest) c.in-For.is ∙ spots-For rest c.in-For.start c.in-For.test c.in-For.step c.in-For.inner)
    (rw c.as_slice-in-For.ensures at c.in_ok-stmts_spots-in-For.ensures) c.in_ok-optional_spots-in-For.ensures (rw c.get-in-For.ensures at c.in_ok-stmt_spots-in-For.ensures) c.optional_spots-in-For.ensures

pub stmts_spots-each-preserved : goal.stmts_spots-each-preserved
stmts_spots-each-preserved t c =
    more unit.list_spots unit.stmt_spots (λ x xs rest. refl) c.args.statements.now c.each.statement-index c.statement-item.result c.args.found.now c.each.found
    c.stmt_spots.new.found c.each-test.true c.statement-item.is c.each.invariant c.in_ok-stmt_spots.ensures

pub stmts_spots-returns : goal.stmts_spots-returns
stmts_spots-returns t c =
    ended unit.list_spots (λ rest. refl) c.args.statements.now c.each.statement-index c.args.found.now c.each.found c.each-test.false c.each.invariant
