-- The effects of the functions so far.
use Rattle.std.proofs.Common.{◌≡◌, take}
use Rattle.type_rules.specs.Units.{effects_of_all}
use Rattle.type_units.proofs.reading.effects_of_all.Given as goal

abbrev pub invariant-each : goal.invariant-each
invariant-each l = l.effects.items ≡ effects_of_all (take l.function-index l.functions)
