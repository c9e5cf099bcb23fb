-- The first missing function of those so far.
use Rattle.std.proofs.Common.{◌≡◌, take}
use Rattle.std.specs.Prelude.{flat_map}
use Rattle.c_codegen.specs.Names.{names}
use Rattle.c_codegen.specs.Refusals.{first_missing}
use Rattle.c_codegen.proofs.names.+naming.Given as goal

abbrev pub invariant-first_in_arguments-each : goal.invariant-first_in_arguments-each
invariant-first_in_arguments-each l = l.first ≡ first_missing l.unit (flat_map names (take l.argument-index l.arguments))
