-- The sizes of the arguments so far.
use Rattle.std.proofs.Common.{◌≡◌, take}
use Rattle.core_unit.specs.Layout.{told}
use Rattle.c_codegen.specs.Sizes.{arguments_size}
use Rattle.c_codegen.proofs.sizes.+counting.Given as goal

abbrev pub invariant-arguments_size-each : goal.invariant-arguments_size-each
invariant-arguments_size-each l = l.total ≡ told (arguments_size (take l.expression-index l.expressions))
