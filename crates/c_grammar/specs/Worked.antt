-- Lists of tokens written out, on which the definitions are tried.
use Rattle.std.specs.Prelude.{ℕ, ◌+◌, Bool, true, false, List, [], ◌∷◌, codes}
use Rattle.grammar.specs.Parser.{Outcome, Got, Bad, parse_all}
use Rattle.c_text.specs.declared.TokenKind.TheVariants.{Name}
use Rattle.c_tree.specs.declared.statements.Tree.{Tree}
use Rattle.c_grammar.specs.declared.terminal.Terminal.{Terminal}
use Rattle.c_grammar.specs.declared.terminal.Terminal.TheVariants as k
use Rattle.c_grammar.specs.Lexemes.{Lexeme}
use Rattle.c_grammar.specs.Rules.{Unit}
use Rattle.c_grammar.specs.Grammar.{c_grammar}
use Rattle.c_grammar.specs.Lookahead.{c_lookahead}

-- tokens at the places 0, 1, 2 and so on; of a name with its text, of others without
pub data Written : Type 0 where
  terminal : Terminal → Written
  name : List ℕ → Written

abbrev pub at : ℕ → Written → Lexeme
at place (terminal s) = record { terminal = s; token = record { kind = Name; start = place; end = place + 1 }; text = [] }
at place (name text) = record { terminal = k.Name; token = record { kind = Name; start = place; end = place + 1 }; text = text }

abbrev pub written_from : ℕ → List Written → List Lexeme
written_from place [] = []
written_from place (one ∷ more) = at place one ∷ written_from (place + 1) more

abbrev pub written : List Written → List Lexeme
written all = written_from 0 all

-- `void f(void) [[clang::`, which the word `nonbl` is written behind
abbrev pub cut_before : List Lexeme
cut_before =
    written (terminal k.Void ∷ name (codes "f") ∷ terminal k.OpenParen ∷ terminal k.Void ∷ terminal k.CloseParen ∷ terminal k.OpenBracket ∷ terminal k.OpenBracket
    ∷ name (codes "clang") ∷ terminal k.Colon ∷ terminal k.Colon ∷ [])

abbrev pub cut_word : Lexeme
cut_word = at 10 (name (codes "nonbl"))

-- whether the parser read all
abbrev pub is_read : Outcome Lexeme Tree → Bool
is_read (Got x depth left) = true
is_read (Bad deep left) = false

abbrev pub reads : ℕ → List Written → Bool
reads depth tokens = is_read (parse_all c_grammar c_lookahead depth Unit (written tokens))

-- the place at which the tokens are refused, 998 at the end of the file, and 999 where they are read
abbrev pub refused_place : List Lexeme → ℕ
refused_place [] = 998
refused_place (t ∷ more) = t.token.start

abbrev pub place_in : Outcome Lexeme Tree → ℕ
place_in (Got x depth left) = 999
place_in (Bad deep left) = refused_place left

abbrev pub refused_at : ℕ → List Written → ℕ
refused_at depth tokens = place_in (parse_all c_grammar c_lookahead depth Unit (written tokens))
