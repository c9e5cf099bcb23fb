use Rattle.std.proofs.Common.{◌≤◌, ap, arith, length}
use Rattle.built_codegen.proofs.Checks.{nodes_grow, code_short}
use Rattle.built_codegen.proofs.emission.emit_unit.Goals as goal

pub emit_function-requires-clause-low : goal.emit_function-requires-clause-low
emit_function-requires-clause-low c =
    let u = c.args.unit.now in
    let known : c.loop-id.id ≤ length u.functions = omega arith in
    omega (arith, ap length c.loop-id.invariant.code, code_short u c.loop-id.id, nodes_grow u c.loop-id.id (length u.functions) known)

pub new-requires : goal.new-requires
new-requires c =
    let u = c.args.unit.now in
    let known : c.loop-id.id ≤ length u.functions = omega arith in
    omega (arith, ap length c.loop-id.invariant.code, code_short u c.loop-id.id, nodes_grow u c.loop-id.id (length u.functions) known)
