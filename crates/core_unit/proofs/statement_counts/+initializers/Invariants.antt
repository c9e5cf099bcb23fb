-- The nodes of the initializers so far.
use Rattle.std.proofs.Common.{◌≡◌, take}
use Rattle.core_unit.specs.Layout.{told}
use Rattle.core_unit.specs.Nodes.{listed_nodes}
use Rattle.core_unit.proofs.statement_counts.+initializers.Given as goal

abbrev pub invariant-initializers_nodes-each : goal.invariant-initializers_nodes-each
invariant-initializers_nodes-each l = l.total ≡ told (listed_nodes (take l.initializer-index l.initializers))
