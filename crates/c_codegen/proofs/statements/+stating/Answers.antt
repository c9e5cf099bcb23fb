use Rattle.c_codegen.proofs.StatedStatements.{statements_start, statements_next}
use Rattle.c_codegen.proofs.statements.+stating.Goals as goal

pub emit_statements-each-init : goal.emit_statements-each-init
emit_statements-each-init t c = statements_start c.args.unit.now c.args.draft.now c.args.jumps.out c.args.jumps.back

pub emit_statements-each-preserved : goal.emit_statements-each-preserved
emit_statements-each-preserved t c =
    statements_next c.args.unit.now c.args.draft.now c.each.draft c.emit_statement.new.draft c.args.statements.now c.each.statement-index c.statement-item.result c.args.jumps.out
    c.args.jumps.back c.each-test.true c.statement-item.is c.each.invariant c.in_ok-emit_statement.ensures.code c.in_ok-emit_statement.ensures.long
