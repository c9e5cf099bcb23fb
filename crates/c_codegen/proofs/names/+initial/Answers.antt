use Rattle.std.proofs.Common.{sym}
use Rattle.c_codegen.specs.Names.{initializer_names}
use Rattle.c_codegen.proofs.NameEquations.{first_none, first_more}
use Rattle.c_codegen.proofs.names.+initial.Goals as goal

pub first_in_initializers-each-init : goal.first_in_initializers-each-init
first_in_initializers-each-init t c = sym (first_none c.args.unit.now)

pub first_in_initializers-each-preserved : goal.first_in_initializers-each-preserved
first_in_initializers-each-preserved t c =
    first_more _ initializer_names c.args.initializers.now c.each.initializer-index c.initializer-item.result c.each.first c.first_in_initializer.result c.lesser-first.result c.each-test.true c.initializer-item.is
    c.each.invariant c.first_in_initializer.ensures c.lesser-first.ensures
