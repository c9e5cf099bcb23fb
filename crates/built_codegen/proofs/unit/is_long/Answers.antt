use Rattle.std.proofs.Common.{rules, ◌≡◌, ◌<◌, ◌≤◌, suc, ap, arith, length}
use Rattle.std.specs.Prelude.{slice_get}
use Rattle.built_codegen.specs.Unit.{nodes_in, body_nodes, unit_nodes, node_limit}
use Rattle.built_codegen.proofs.Checks.{nodes_grow}
use Rattle.built_codegen.proofs.unit.is_long.Goals as goal

pub returns-in-None : goal.returns-in-None
returns-in-None c =
    let u = c.args.unit.now in
    let here : nodes_in (slice_get u.functions c.loop-id.id) ≡ body_nodes c.function.result.now.body = ap nodes_in c.function.ensures in
    let known : suc c.loop-id.id ≤ length u.functions = omega arith in
    let more = nodes_grow u (suc c.loop-id.id) (length u.functions) known in
    let long : node_limit < unit_nodes u = omega (arith, here, more, c.in-None.ensures) in
    (λ _. long, λ _. search rules)
