use Rattle.std.proofs.Common.{◌≡◌, ◌+◌}
use Rattle.built_codegen.specs.Unit.{nodes_below, node_limit}
use Rattle.built_codegen.proofs.unit.is_long.Given as goal

abbrev pub invariant-loop-id : goal.invariant-loop-id
invariant-loop-id l = l.room + nodes_below l.unit l.id ≡ node_limit
