-- The entry is found among the functions from this one on.
use Rattle.c_codegen.proofs.Refused.{IsFrom}
use Rattle.c_codegen.proofs.refusals.entry_function.Given as goal

abbrev pub invariant-each : goal.invariant-each
invariant-each l = IsFrom l.unit l.name l.id
