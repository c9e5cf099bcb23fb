use Rattle.std.proofs.Common.{sym}
use Rattle.c_codegen.specs.Names.{names}
use Rattle.c_codegen.proofs.NameEquations.{first_none, first_more}
use Rattle.c_codegen.proofs.names.+naming.Goals as goal

pub first_in_arguments-each-init : goal.first_in_arguments-each-init
first_in_arguments-each-init t c = sym (first_none c.args.unit.now)

pub first_in_arguments-each-preserved : goal.first_in_arguments-each-preserved
first_in_arguments-each-preserved t c =
    first_more _ names c.args.arguments.now c.each.argument-index c.argument-item.result c.each.first c.first_in_value.result c.lesser-first.result c.each-test.true c.argument-item.is
    c.each.invariant c.first_in_value.ensures c.lesser-first.ensures
