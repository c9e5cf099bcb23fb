use Rattle.std.proofs.Common.{sym}
use Rattle.c_codegen.specs.Names.{function_names}
use Rattle.c_codegen.proofs.NameEquations.{first_none, first_more}
use Rattle.c_codegen.proofs.names.first_in_functions.Goals as goal

pub each-init : goal.each-init
each-init c = sym (first_none c.args.unit.now)

pub each-preserved : goal.each-preserved
each-preserved c =
    first_more _ function_names c.args.functions.now c.each.function-index c.function-item.result c.each.first c.first_in_function.result c.lesser-first.result c.each-test.true c.function-item.is
    c.each.invariant c.first_in_function.ensures c.lesser-first.ensures
