-- The nodes of the expressions so far.
use Rattle.std.proofs.Common.{◌≡◌, take}
use Rattle.core_unit.specs.Layout.{told}
use Rattle.core_unit.specs.Nodes.{arguments_nodes}
use Rattle.core_unit.proofs.counts.+counting.Given as goal

abbrev pub invariant-all_nodes-each : goal.invariant-all_nodes-each
invariant-all_nodes-each l = l.total ≡ told (arguments_nodes (take l.expression-index l.expressions))
