-- None of the functions so far has this type.
use Rattle.std.proofs.Common.{◌≡◌, Some, drop}
use Rattle.c_codegen.specs.Entries.{first_of_signature}
use Rattle.c_codegen.proofs.types.signature_number.Given as goal

abbrev pub invariant-each : goal.invariant-each
invariant-each l = first_of_signature 0 l.unit.functions (Some l.signature) ≡ first_of_signature l.id (drop l.id l.unit.functions) (Some l.signature)
