-- The nodes of the statements so far.
use Rattle.std.proofs.Common.{◌≡◌, take}
use Rattle.core_unit.specs.Layout.{told}
use Rattle.core_unit.specs.Nodes.{list_nodes, begun_nodes}
use Rattle.core_unit.proofs.statement_counts.+statements.Given as goal

abbrev pub invariant-statements_nodes-each : goal.invariant-statements_nodes-each
invariant-statements_nodes-each l = l.total ≡ told (list_nodes (take l.statement-index l.statements))

abbrev pub invariant-begun_nodes-each : goal.invariant-begun_nodes-each
invariant-begun_nodes-each l = l.total ≡ told (begun_nodes (take l.statement-index l.statements))
