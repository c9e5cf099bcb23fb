-- The first missing function of those so far.
use Rattle.std.proofs.Common.{◌≡◌, take}
use Rattle.std.specs.Prelude.{flat_map}
use Rattle.c_codegen.specs.Names.{initializer_names}
use Rattle.c_codegen.specs.Refusals.{first_missing}
use Rattle.c_codegen.proofs.names.+initial.Given as goal

abbrev pub invariant-first_in_initializers-each : goal.invariant-first_in_initializers-each
invariant-first_in_initializers-each l = l.first ≡ first_missing l.unit (flat_map initializer_names (take l.initializer-index l.initializers))
