use Rattle.std.proofs.Common.{◌≡◌, ◌++◌, ◌-◌}
use Rattle.std.specs.Prelude.{string_bytes, flat_map}
use Rattle.std.specs.List.{range_with_len}
use Rattle.command.specs.Generated.{function_line}
use Rattle.command.proofs.generated.append_functions.Given as goal

abbrev pub invariant-functions : goal.invariant-functions
invariant-functions l =
    string_bytes l.initial.text ++ flat_map function_line (range_with_len 1 (l.count - 1))
    ≡ string_bytes l.text ++ flat_map function_line (range_with_len l.number (l.count - l.number))
