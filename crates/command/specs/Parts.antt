-- What the code holds of a line, as the definitions see it.
use Rattle.std.specs.Prelude.{[], ◌∷◌, ◌++◌, Option, option_map}
use Rattle.command.specs.declared.line.Line.{Line as LineHeld}
use Rattle.command.specs.declared.line.Part.{Part}
use Rattle.command.specs.declared.line.Part.TheVariants.{Word, Setting}
use Rattle.command.specs.Lines.{Line, texts, pairs, pair_of, with_word, with_option}

abbrev pub line_seen : LineHeld → Line
line_seen line = record { words = texts line.words.items; given = pairs line.given.items }

-- the line with the part before all else
abbrev pub before : Part → Line → Line
before (Word word) line = with_word word.now line
before (Setting given) line = with_option given.name.now given.value.now line

abbrev pub with_part : Part → Option Line → Option Line
with_part part line = option_map (before part) line

-- the line with the part behind all else
abbrev pub pushed : Line → Part → Line
pushed line (Word word) = record { words = line.words ++ word.now ∷ []; given = line.given }
pushed line (Setting given) = record { words = line.words; given = line.given ++ pair_of given ∷ [] }
