-- What was noted, and where, and the parts that remain.
use Rattle.std.proofs.Common.{◌≡◌, ◌+◌, map, sum, drop}
use Rattle.type_initializers.specs.Held.{held, values_from}
use Rattle.type_rules.specs.InitialValues.{initializer_words}
use Rattle.type_initializers.proofs.values.+holding.Given as goal

abbrev pub invariant-hold_all-each : goal.invariant-hold_all-each
invariant-hold_all-each l = record {
  place : l.initial.next + sum (map initializer_words l.parts) ≡ l.next + sum (map initializer_words (drop l.part-index l.parts));
  noted : held l.storage (values_from l.initial.next l.parts) l.initial.typing ≡ held l.storage (values_from l.next (drop l.part-index l.parts)) l.typing;
}
