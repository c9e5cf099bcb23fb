-- What was copied so far is what was passed.
use Rattle.std.proofs.Common.{◌≡◌, take}
use Rattle.type_statements.proofs.bodies.copy_parameters.Given as goal

abbrev pub invariant-each : goal.invariant-each
invariant-each l = l.copies ≡ take l.parameter-index l.parameters
