-- The sizes of the initializers so far.
use Rattle.std.proofs.Common.{◌≡◌, take}
use Rattle.core_unit.specs.Layout.{told}
use Rattle.c_codegen.specs.Sizes.{listed_size}
use Rattle.c_codegen.proofs.sizes.+initializers.Given as goal

abbrev pub invariant-initializers_size-each : goal.invariant-initializers_size-each
invariant-initializers_size-each l = l.total ≡ told (listed_size (take l.initializer-index l.initializers))
