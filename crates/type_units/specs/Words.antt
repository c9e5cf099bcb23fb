-- What words hold at first, as it is put into them one after the other: the code's own words.
use Rattle.std.specs.Prelude.{ℕ, ◌+◌, nat_eq, if◌then◌else◌, List, [], ◌∷◌}
use Rattle.core_unit.specs.Words.{packed}
use Rattle.type_rules.specs.declared.notes.Initial.{Initial}

-- the words from this place on, with what one of them holds at first
unfoldable pub with_initial : ℕ → Initial → List ℕ → List ℕ
with_initial first i [] = []
with_initial first i (word ∷ words) = (if nat_eq i.at first then packed i.word else word) ∷ with_initial (first + 1) i words
