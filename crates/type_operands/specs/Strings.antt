-- What a word of a string holds at first: one byte of it, which stands nowhere where it is zero (C17 6.4.5 and 6.7.9).
use Rattle.std.specs.Prelude.{ℕ, nat_eq, if◌then◌else◌, List, [], ◌∷◌}
use Rattle.core_unit.specs.declared.words.Word.TheVariants as word
use Rattle.type_rules.specs.declared.notes.Initial.{Initial}

abbrev pub byte_initially : ℕ → ℕ → List Initial
byte_initially at byte = if nat_eq byte 0 then [] else record { at = at; word = word.Number byte } ∷ []
