-- The bytes of the strings so far.
use Rattle.std.proofs.Common.{◌≡◌, take}
use Rattle.std.specs.List.{flat_map}
use Rattle.c_text.specs.Escapes.{text_values}
use Rattle.type_rules.specs.Reading.{text_of}
use Rattle.type_operands.proofs.strings.text_in.Given as goal

abbrev pub invariant-each : goal.invariant-each
invariant-each l = l.bytes.items ≡ flat_map (λ at. text_values (text_of l.typing.source at)) (take l.string-index l.strings)
