-- The faults of a single piece.
use Rattle.std.specs.Prelude.{ℕ, List, Option, Some, None}
use Rattle.c_text.specs.declared.TokenKind.TheVariants.{Name, Keyword, Number, Character, Text, Punctuator}
use Rattle.c_text.specs.declared.form.Form.{Form}
use Rattle.c_text.specs.declared.form.Form.TheVariants.{White, Comment, Directive, Word, Stray}
use Rattle.c_text.specs.declared.form.StrayKind.{StrayKind}
use Rattle.c_text.specs.declared.form.StrayKind.TheVariants.{Byte, OpenComment, OpenQuote, Line}
use Rattle.c_text.specs.declared.form.Fault.{Fault}
use Rattle.c_text.specs.Numbers.{number_value}
use Rattle.c_text.specs.Escapes.{unknown_escape}

-- 1 bad byte, 2 open comment, 3 open string, 6 bad directive
abbrev pub stray_number : StrayKind → ℕ
stray_number Byte = 1
stray_number OpenComment = 2
stray_number OpenQuote = 3
stray_number Line = 6

-- 4 number out of range: a run of a number that is no constant
abbrev pub number_fault : Option ℕ → Option Fault
number_fault None = Some (record { number = 4; offset = 0 })
number_fault (Some v) = None

-- 5 unknown escape, at its `\`
abbrev pub escape_fault : Option ℕ → Option Fault
escape_fault None = None
escape_fault (Some at) = Some (record { number = 5; offset = at })

-- The fault of a piece, if it has one, by its number; the offset is counted from the piece's first byte.
abbrev pub fault_in : Form → List ℕ → Option Fault
fault_in White word = None
fault_in Comment word = None
fault_in Directive word = None
fault_in (Word Name) word = None
fault_in (Word Keyword) word = None
fault_in (Word Number) word = number_fault (number_value word)
fault_in (Word Character) word = escape_fault (unknown_escape 0 0 word)
fault_in (Word Text) word = escape_fault (unknown_escape 0 0 word)
fault_in (Word Punctuator) word = None
fault_in (Stray stray) word = Some (record { number = stray_number stray; offset = 0 })
