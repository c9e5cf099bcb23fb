use Rattle.std.proofs.Common.{sym}
use Rattle.c_codegen.specs.Names.{statement_names}
use Rattle.c_codegen.proofs.NameEquations.{first_none, first_more}
use Rattle.c_codegen.proofs.names.+stating.Goals as goal

pub first_in_statements-each-init : goal.first_in_statements-each-init
first_in_statements-each-init t c = sym (first_none c.args.unit.now)

pub first_in_statements-each-preserved : goal.first_in_statements-each-preserved
first_in_statements-each-preserved t c =
    first_more _ statement_names c.args.statements.now c.each.statement-index c.statement-item.result c.each.first c.first_in_statement.result c.lesser-first.result c.each-test.true c.statement-item.is
    c.each.invariant c.first_in_statement.ensures c.lesser-first.ensures
