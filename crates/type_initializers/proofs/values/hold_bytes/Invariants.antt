-- What was noted, and the bytes that remain.
use Rattle.std.proofs.Common.{◌≡◌, drop}
use Rattle.type_initializers.specs.Held.{held}
use Rattle.type_rules.specs.Literals.{text_initially}
use Rattle.type_initializers.proofs.values.hold_bytes.Given as goal

abbrev pub invariant-each : goal.invariant-each
invariant-each l = held l.storage (text_initially l.at l.bytes) l.initial.typing ≡ held l.storage (text_initially l.next (drop l.byte-index l.bytes)) l.typing
