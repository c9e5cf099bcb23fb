-- The types of the parameters so far.
use Rattle.std.proofs.Common.{◌≡◌, map, take}
use Rattle.type_declarators.proofs.parts.parameter_types.Given as goal

abbrev pub invariant-each : goal.invariant-each
invariant-each l = l.types ≡ map (λ p. p.kind) (take l.parameter-index l.parameters)
