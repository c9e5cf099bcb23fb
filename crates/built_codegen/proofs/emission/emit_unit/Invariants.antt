use Rattle.std.proofs.Common.{◌≡◌}
use Rattle.built_codegen.specs.Instructions.{unit_code, unit_entries}
use Rattle.built_codegen.proofs.emission.emit_unit.Given as goal

abbrev pub invariant-loop-id : goal.invariant-loop-id
invariant-loop-id l =
    record { code : l.instructions ≡ unit_code l.unit l.id; entries : l.entries ≡ unit_entries l.unit l.id }
