use Rattle.std.proofs.Common.{◌≡◌, ◌++◌, take}
use Rattle.std.specs.Prelude.{string_bytes, flat_map}
use Rattle.command.proofs.generated.append.Given as goal

abbrev pub invariant-each : goal.invariant-each
invariant-each l = string_bytes l.text ≡ string_bytes l.initial.text ++ flat_map (λ piece. piece.now) (take l.piece-index l.pieces)
