-- The functions so far.
use Rattle.std.proofs.Common.{◌≡◌}
use Rattle.c_codegen.specs.Functions.{AddsFunctions}
use Rattle.c_codegen.proofs.functions.emit_functions.Given as goal

abbrev pub invariant-each : goal.invariant-each
invariant-each l = AddsFunctions l.unit l.id l.initial.draft l.draft l.initial.entries l.entries × (l.id ≡ l.function-index)
