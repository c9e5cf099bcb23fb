-- The tokens as the grammar sees them.
use Rattle.std.specs.Prelude.{ℕ, Bool, ◌==◌, List, [], ◌∷◌, map, if◌then◌else◌, codes}
use Rattle.std.specs.List.{list_any}
use Rattle.std.specs.Str.{bytes_eq}
use Rattle.c_text.specs.Spelling.{text_of}
use Rattle.c_text.specs.declared.Token.{Token}
use Rattle.c_text.specs.declared.TokenKind.{TokenKind}
use Rattle.c_text.specs.declared.TokenKind.TheVariants as kinds
use Rattle.c_tree.specs.declared.words.Span.{Span}
use Rattle.c_grammar.specs.declared.terminal.Terminal.{Terminal}
use Rattle.c_grammar.specs.declared.terminal.Terminal.TheVariants.{Name, Number, Character, Text, Unused, Typedef, Static, Extern, ThreadLocal, Inline, NoReturn, Const, Volatile, Restrict, Void, Char, Int, Signed, Unsigned, Struct, Enum, Attribute, If, Else, While, Do, For, Break, Continue, Return, Sizeof, OpenBracket, CloseBracket, OpenParen, CloseParen, OpenBrace, CloseBrace, Dot, Arrow, Increment, Decrement, Ampersand, Star, Plus, Minus, Tilde, Exclamation, Slash, Percent, LeftShift, RightShift, Less, Greater, LessOrEqual, GreaterOrEqual, EqualEqual, NotEqual, Caret, Bar, AndAnd, OrOr, Question, Colon, Semicolon, Equal, StarEqual, SlashEqual, PercentEqual, PlusEqual, MinusEqual, LeftShiftEqual, RightShiftEqual, AmpersandEqual, CaretEqual, BarEqual, Comma}

-- a token with what it is and its text
pub record Lexeme : Type 0 where
  pub terminal : Terminal
  pub token : Token
  pub text : List ℕ

-- The terminal of a word by a table; a word that stands in none is unused by the grammar.
pub record Spelled : Type 0 where
  pub word : List ℕ
  pub terminal : Terminal

abbrev pub spelled : List ℕ → Terminal → Spelled
spelled word terminal = record { word = word; terminal = terminal }

abbrev pub terminal_in : List Spelled → List ℕ → Terminal
terminal_in [] text = Unused
terminal_in (entry ∷ more) text = if bytes_eq entry.word text then entry.terminal else terminal_in more text

unfoldable pub keyword_terminals : List Spelled
keyword_terminals =
    spelled (codes "typedef") Typedef ∷ spelled (codes "static") Static ∷ spelled (codes "extern") Extern
    ∷ spelled (codes "_Thread_local") ThreadLocal ∷ spelled (codes "inline") Inline ∷ spelled (codes "_Noreturn") NoReturn
    ∷ spelled (codes "const") Const ∷ spelled (codes "volatile") Volatile ∷ spelled (codes "restrict") Restrict
    ∷ spelled (codes "void") Void ∷ spelled (codes "char") Char ∷ spelled (codes "int") Int ∷ spelled (codes "signed") Signed
    ∷ spelled (codes "unsigned") Unsigned ∷ spelled (codes "struct") Struct ∷ spelled (codes "enum") Enum
    ∷ spelled (codes "__attribute__") Attribute ∷ spelled (codes "if") If ∷ spelled (codes "else") Else ∷ spelled (codes "while") While
    ∷ spelled (codes "do") Do ∷ spelled (codes "for") For ∷ spelled (codes "break") Break ∷ spelled (codes "continue") Continue
    ∷ spelled (codes "return") Return ∷ spelled (codes "sizeof") Sizeof ∷ []

unfoldable pub punctuator_terminals : List Spelled
punctuator_terminals =
    spelled (codes "[") OpenBracket ∷ spelled (codes "]") CloseBracket ∷ spelled (codes "(") OpenParen ∷ spelled (codes ")") CloseParen
    ∷ spelled (codes "{") OpenBrace ∷ spelled (codes "}") CloseBrace ∷ spelled (codes ".") Dot ∷ spelled (codes "->") Arrow
    ∷ spelled (codes "++") Increment ∷ spelled (codes "--") Decrement ∷ spelled (codes "&") Ampersand ∷ spelled (codes "*") Star
    ∷ spelled (codes "+") Plus ∷ spelled (codes "-") Minus ∷ spelled (codes "~") Tilde ∷ spelled (codes "!") Exclamation
    ∷ spelled (codes "/") Slash ∷ spelled (codes "%") Percent ∷ spelled (codes "<<") LeftShift ∷ spelled (codes ">>") RightShift
    ∷ spelled (codes "<") Less ∷ spelled (codes ">") Greater ∷ spelled (codes "<=") LessOrEqual ∷ spelled (codes ">=") GreaterOrEqual
    ∷ spelled (codes "==") EqualEqual ∷ spelled (codes "!=") NotEqual ∷ spelled (codes "^") Caret ∷ spelled (codes "|") Bar
    ∷ spelled (codes "&&") AndAnd ∷ spelled (codes "||") OrOr ∷ spelled (codes "?") Question ∷ spelled (codes ":") Colon
    ∷ spelled (codes ";") Semicolon ∷ spelled (codes "=") Equal ∷ spelled (codes "*=") StarEqual ∷ spelled (codes "/=") SlashEqual
    ∷ spelled (codes "%=") PercentEqual ∷ spelled (codes "+=") PlusEqual ∷ spelled (codes "-=") MinusEqual
    ∷ spelled (codes "<<=") LeftShiftEqual ∷ spelled (codes ">>=") RightShiftEqual ∷ spelled (codes "&=") AmpersandEqual
    ∷ spelled (codes "^=") CaretEqual ∷ spelled (codes "|=") BarEqual ∷ spelled (codes ",") Comma ∷ []

abbrev pub terminal_of : TokenKind → List ℕ → Terminal
terminal_of kinds.Name text = Name
terminal_of kinds.Number text = Number
terminal_of kinds.Character text = Character
terminal_of kinds.Text text = Text
terminal_of kinds.Keyword text = terminal_in keyword_terminals text
terminal_of kinds.Punctuator text = terminal_in punctuator_terminals text

-- the tokens of a source
abbrev pub lexeme_of : List ℕ → Token → Lexeme
lexeme_of source token = record { terminal = terminal_of token.kind (text_of source token); token = token; text = text_of source token }

abbrev pub lexemes_of : List ℕ → List Token → List Lexeme
lexemes_of source tokens = map (λ token. lexeme_of source token) tokens

-- where it stands, and its first byte
abbrev pub span : Lexeme → Span
span t = record { start = t.token.start; end = t.token.end }

abbrev pub place : Lexeme → ℕ
place t = t.token.start

-- terminals by their numbers, so that they can be compared
abbrev pub number : Terminal → ℕ
number Number = 0
number Character = 1
number Text = 2
number Unused = 3
number Typedef = 4
number Static = 5
number Extern = 6
number ThreadLocal = 7
number Inline = 8
number NoReturn = 9
number Const = 10
number Volatile = 11
number Restrict = 12
number Void = 13
number Char = 14
number Int = 15
number Signed = 16
number Unsigned = 17
number Struct = 18
number Enum = 19
number Attribute = 20
number If = 21
number Else = 22
number While = 23
number Do = 24
number For = 25
number Break = 26
number Continue = 27
number Return = 28
number Sizeof = 29
number OpenBracket = 30
number CloseBracket = 31
number OpenParen = 32
number CloseParen = 33
number OpenBrace = 34
number CloseBrace = 35
number Dot = 36
number Arrow = 37
number Increment = 38
number Decrement = 39
number Ampersand = 40
number Star = 41
number Plus = 42
number Minus = 43
number Tilde = 44
number Exclamation = 45
number Slash = 46
number Percent = 47
number LeftShift = 48
number RightShift = 49
number Less = 50
number Greater = 51
number LessOrEqual = 52
number GreaterOrEqual = 53
number EqualEqual = 54
number NotEqual = 55
number Caret = 56
number Bar = 57
number AndAnd = 58
number OrOr = 59
number Question = 60
number Colon = 61
number Semicolon = 62
number Equal = 63
number StarEqual = 64
number SlashEqual = 65
number PercentEqual = 66
number PlusEqual = 67
number MinusEqual = 68
number LeftShiftEqual = 69
number RightShiftEqual = 70
number AmpersandEqual = 71
number CaretEqual = 72
number BarEqual = 73
number Comma = 74
number Name = 75

-- all of them; names stand last
abbrev pub terminals : List Terminal
terminals =
    Number ∷ Character ∷ Text ∷ Unused ∷ Typedef ∷ Static ∷ Extern ∷ ThreadLocal ∷ Inline ∷ NoReturn ∷ Const ∷ Volatile ∷ Restrict ∷ Void ∷ Char ∷
    Int ∷ Signed ∷ Unsigned ∷ Struct ∷ Enum ∷ Attribute ∷ If ∷ Else ∷ While ∷ Do ∷ For ∷ Break ∷ Continue ∷ Return ∷ Sizeof ∷ OpenBracket ∷
    CloseBracket ∷ OpenParen ∷ CloseParen ∷ OpenBrace ∷ CloseBrace ∷ Dot ∷ Arrow ∷ Increment ∷ Decrement ∷ Ampersand ∷ Star ∷ Plus ∷ Minus ∷ Tilde ∷
    Exclamation ∷ Slash ∷ Percent ∷ LeftShift ∷ RightShift ∷ Less ∷ Greater ∷ LessOrEqual ∷ GreaterOrEqual ∷ EqualEqual ∷ NotEqual ∷ Caret ∷ Bar ∷
    AndAnd ∷ OrOr ∷ Question ∷ Colon ∷ Semicolon ∷ Equal ∷ StarEqual ∷ SlashEqual ∷ PercentEqual ∷ PlusEqual ∷ MinusEqual ∷ LeftShiftEqual ∷
    RightShiftEqual ∷ AmpersandEqual ∷ CaretEqual ∷ BarEqual ∷ Comma ∷ Name ∷ []

abbrev pub is : Terminal → Lexeme → Bool
is terminal t = number terminal == number t.terminal

-- one of these
abbrev pub is_among : List Terminal → Lexeme → Bool
is_among all t = list_any (λ terminal. is terminal t) all

abbrev pub has_text : List (List ℕ) → Lexeme → Bool
has_text texts t = list_any (λ text. bytes_eq text t.text) texts
