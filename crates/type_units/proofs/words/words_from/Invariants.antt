-- What is put so far of what is noted.
use Rattle.std.proofs.Common.{◌≡◌, take}
use Rattle.type_rules.specs.Units.{words_from}
use Rattle.type_units.proofs.words.words_from.Given as goal

abbrev pub invariant-each : goal.invariant-each
invariant-each l = l.words.items ≡ words_from l.first l.count (take l.note-index l.notes)
