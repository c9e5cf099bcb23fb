-- The parameters so far.
use Rattle.std.proofs.Common.{◌≡◌}
use Rattle.c_codegen.proofs.StatedFunctions.{AreBound}
use Rattle.c_codegen.proofs.functions.emit_binds.Given as goal

abbrev pub invariant-each : goal.invariant-each
invariant-each l = AreBound l.initial.draft l.draft l.offset l.parameters × (l.offset ≡ l.parameter-index)
