-- The constants and strings of a source, by how they are spelled (C17 6.4.4 and 6.4.5).
use Rattle.std.specs.Prelude.{ℕ, ◌+◌, Bool, true, false, nat_eq, if◌then◌else◌, List, [], ◌∷◌, flat_map, Option, Some, None}
use Rattle.c_text.specs.Escapes.{text_values, character_value}
use Rattle.c_text.specs.Numbers.{number_of}
use Rattle.c_text.specs.declared.number.Number.{Number}
use Rattle.c_tree.specs.declared.words.Span.{Span}
use Rattle.core_unit.specs.declared.operators.Sign.{Sign}
use Rattle.core_unit.specs.declared.operators.Sign.TheVariants.{Signed, Unsigned as Without}
use Rattle.core_unit.specs.declared.words.Word.TheVariants as word
use Rattle.type_rules.specs.Reading.{text_of}
use Rattle.type_rules.specs.declared.notes.Initial.{Initial}

abbrev pub sign_told : Bool → Sign
sign_told true = Without
sign_told false = Signed

-- A number of the source, by its sign and its bits. Each that the parser reads is one.
pub record Literal : Type 0 where
  pub sign : Sign
  pub bits : ℕ

abbrev pub literal : Option Number → Literal
literal (Some n) = record { sign = sign_told n.is_unsigned; bits = n.value }
literal None = record { sign = Signed; bits = 0 }

unfoldable pub number_in : List ℕ → Span → Literal
number_in source at = literal (number_of (text_of source at))

-- a character constant, which is an `int`
unfoldable pub character_in : List ℕ → Span → ℕ
character_in source at = character_value (text_of source at)

-- the bytes of adjacent strings, which are joined, without the zero byte behind them
unfoldable pub text_in : List ℕ → List Span → List ℕ
text_in source strings = flat_map (λ at. text_values (text_of source at)) strings

-- what the words of a text hold at first, from an address on
unfoldable pub text_initially : ℕ → List ℕ → List Initial
text_initially at [] = []
text_initially at (byte ∷ bytes) =
    if nat_eq byte 0 then text_initially (at + 1) bytes else record { at = at; word = word.Number byte } ∷ text_initially (at + 1) bytes
