-- The words that are left add to what was added.
use Rattle.std.proofs.Common.{◌≡◌, ◌++◌, drop, flat_map}
use Rattle.type_rules.specs.Types.{effects_of_word}
use Rattle.type_specifiers.proofs.attributes.add_words.Given as goal

abbrev pub invariant-each : goal.invariant-each
invariant-each l = l.initial.effects ++ flat_map effects_of_word l.words ≡ l.effects ++ flat_map effects_of_word (drop l.word-index l.words)
