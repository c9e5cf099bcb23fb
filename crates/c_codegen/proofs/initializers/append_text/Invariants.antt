-- The characters so far.
use Rattle.std.proofs.Common.{◌≡◌, ◌++◌, take}
use Rattle.c_codegen.proofs.initializers.append_text.Given as goal

abbrev pub invariant-each : goal.invariant-each
invariant-each l = (l.draft.instructions ≡ l.initial.draft.instructions) × (l.draft.texts ≡ l.initial.draft.texts ++ take l.byte-index l.bytes)
