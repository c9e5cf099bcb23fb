-- What is left to be read, and what is declared where it stands.
use Rattle.std.specs.Prelude.{ℕ, ◌-◌, Bool, true, false, List, [], ◌∷◌, length, drop}
use Rattle.c_text.specs.declared.TokenKind.TheVariants as kinds
use Rattle.c_grammar.specs.declared.terminal.Terminal.TheVariants as k
use Rattle.c_grammar.specs.Lexemes.{Lexeme}
use Rattle.c_grammar.specs.Rules.{Scope}

pub record Input : Type 0 where
  pub tokens : List Lexeme
  pub scope : Scope

-- what stands behind the last token: a word that no rule reads
abbrev pub nothing : Lexeme
nothing = record { terminal = k.Unused; token = record { kind = kinds.Punctuator; start = 0; end = 0 }; text = [] }

-- the next token, and the tokens behind it
unfoldable pub head : List Lexeme → Lexeme
head [] = nothing
head (t ∷ ts) = t

unfoldable pub behind : List Lexeme → List Lexeme
behind [] = []
behind (t ∷ ts) = ts

-- no token is left
unfoldable pub is_done : List Lexeme → Bool
is_done [] = true
is_done (t ∷ ts) = false

-- there is a next token, and it passes the test
unfoldable pub sees : (Lexeme → Bool) → List Lexeme → Bool
sees test [] = false
sees test (t ∷ ts) = test t

abbrev pub after_token : Input → Input
after_token i = record i { tokens = behind i.tokens }

abbrev pub with_scope : Input → Scope → Input
with_scope i s = record i { scope = s }

-- the scope as it was when this many names were declared
abbrev pub cut_scope : ℕ → Scope → Scope
cut_scope count s = record s { types = drop (length s.types - count) s.types }
