-- The attributes that are left add to what was added.
use Rattle.std.proofs.Common.{◌≡◌, ◌++◌, drop}
use Rattle.type_rules.specs.Types.{effects_in}
use Rattle.type_specifiers.proofs.attributes.effects_in.Given as goal

abbrev pub invariant-each : goal.invariant-each
invariant-each l = effects_in l.attributes ≡ l.effects ++ effects_in (drop l.attribute-index l.attributes)
