use Rattle.built_codegen.specs.Unit.{HasNoEntryBelow}
use Rattle.built_codegen.proofs.unit.entry_function.Given as goal

abbrev pub invariant-loop-id : goal.invariant-loop-id
invariant-loop-id l = HasNoEntryBelow l.unit l.entry l.id
