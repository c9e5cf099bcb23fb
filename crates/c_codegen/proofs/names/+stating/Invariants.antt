-- The first missing function of those so far.
use Rattle.std.proofs.Common.{◌≡◌, take}
use Rattle.std.specs.Prelude.{flat_map}
use Rattle.c_codegen.specs.Names.{statement_names}
use Rattle.c_codegen.specs.Refusals.{first_missing}
use Rattle.c_codegen.proofs.names.+stating.Given as goal

abbrev pub invariant-first_in_statements-each : goal.invariant-first_in_statements-each
invariant-first_in_statements-each l = l.first ≡ first_missing l.unit (flat_map statement_names (take l.statement-index l.statements))
