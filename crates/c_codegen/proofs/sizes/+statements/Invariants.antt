-- The sizes of the statements so far.
use Rattle.std.proofs.Common.{◌≡◌, take}
use Rattle.core_unit.specs.Layout.{told}
use Rattle.c_codegen.specs.Sizes.{list_size}
use Rattle.c_codegen.proofs.sizes.+statements.Given as goal

abbrev pub invariant-list_size-each : goal.invariant-list_size-each
invariant-list_size-each l = l.total ≡ told (list_size (take l.statement-index l.statements))
