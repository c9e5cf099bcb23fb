-- The words of the bytes so far are held.
use Rattle.type_operands.proofs.StringBytes.{IsHeld}
use Rattle.type_operands.proofs.strings.hold_bytes.Given as goal

abbrev pub invariant-each : goal.invariant-each
invariant-each l = IsHeld l.fn.typing l.typing l.fn.address l.bytes l.at l.byte-index
