use Rattle.std.proofs.Common.{◌≡◌, ◌++◌, ◌-◌}
use Rattle.std.specs.Prelude.{string_bytes, flat_map}
use Rattle.std.specs.List.{range_with_len}
use Rattle.command.specs.Generated.{call_line}
use Rattle.command.proofs.generated.append_calls.Given as goal

abbrev pub invariant-calls : goal.invariant-calls
invariant-calls l =
    string_bytes l.initial.text ++ flat_map call_line (range_with_len 0 l.count)
    ≡ string_bytes l.text ++ flat_map call_line (range_with_len l.number (l.count - l.number))
