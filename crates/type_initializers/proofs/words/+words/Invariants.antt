-- The words of the initializers so far.
use Rattle.std.proofs.Common.{◌≡◌, take, map, sum}
use Rattle.core_unit.specs.Layout.{told}
use Rattle.type_rules.specs.InitialValues.{initializer_words}
use Rattle.type_initializers.proofs.words.+words.Given as goal

abbrev pub invariant-all_words-each : goal.invariant-all_words-each
invariant-all_words-each l = l.total ≡ told (sum (map initializer_words (take l.part-index l.parts)))
