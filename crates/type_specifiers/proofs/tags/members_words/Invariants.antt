-- The words of the members so far.
use Rattle.std.proofs.Common.{◌≡◌, take, map, sum}
use Rattle.core_unit.specs.Layout.{told, words_of}
use Rattle.type_specifiers.proofs.tags.members_words.Given as goal

abbrev pub invariant-each : goal.invariant-each
invariant-each l = l.words ≡ told (sum (map (λ m. words_of l.structures m.kind) (take l.member-index l.members)))
