-- The nodes of the functions so far.
use Rattle.std.proofs.Common.{◌≡◌, take}
use Rattle.core_unit.specs.Layout.{told}
use Rattle.core_unit.specs.Nodes.{unit_nodes}
use Rattle.c_codegen.proofs.refusals.functions_nodes.Given as goal

abbrev pub invariant-each : goal.invariant-each
invariant-each l = l.total ≡ told (unit_nodes (take l.function-index l.functions))
