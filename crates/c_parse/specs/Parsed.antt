-- What the tokens of a source are read as, and where they are refused.
use Rattle.std.specs.Prelude.{◌≡◌, ℕ, ◌+◌, ◌≤◌, ◌⊎◌, Bool, true, false, List, [], ◌∷◌, length, Result, Ok, Err}
use Rattle.grammar.specs.Parser.{Outcome, Got, Bad, parse_all}
use Rattle.grammar.specs.Reading.{IsRead}
use Rattle.c_text.specs.declared.Token.{Token}
use Rattle.c_text.specs.declared.TokenKind.TheVariants.{Name}
use Rattle.c_tree.specs.declared.statements.Tree.{Tree}
use Rattle.c_tree.specs.Depth.{tree_depth}
use Rattle.c_grammar.specs.Lexemes.{Lexeme, lexemes_of}
use Rattle.c_grammar.specs.Rules.{Unit as WholeFile}
use Rattle.c_grammar.specs.Grammar.{c_grammar}
use Rattle.c_grammar.specs.Lookahead.{c_lookahead}
use Rattle.c_grammar.specs.Refusals.{deepest, GoesOnWithName, NumberAt, IsRefusedWith}
use Rattle.c_parse.specs.declared.ParseRefusal.{ParseRefusal}
use Rattle.c_parse.specs.declared.ParseRefusal.TheVariants.{Bad as Unread, NoMemory}
use Rattle.c_parse.specs.declared.file.Fault.{Fault}
use Rattle.c_parse.specs.declared.file.Fault.TheVariants.{Refused, NoMemory as NoMemoryToRead}

-- The grammar reads all tokens of the source as this tree, which is no deeper than 200.
abbrev pub IsParsed : List ℕ → List Token → Tree → Type 0
IsParsed source tokens tree = ((room : ℕ) × IsRead c_grammar room WholeFile (lexemes_of source tokens) tree) × (tree_depth tree ≤ deepest)

-- the first byte of the refused token, or the end of the source
abbrev pub place_of : List ℕ → List Lexeme → ℕ
place_of source [] = length source
place_of source (t ∷ more) = t.token.start

-- The tokens of the source are refused with this number, at the token of this index (at their count, at the end of the file)
-- and at this place.
pub record IsRefusedAt (source : List ℕ) (tokens : List Token) (number token place : ℕ) : Type 0 where
  pub rest : List Lexeme
  pub refused : IsRefusedWith source (lexemes_of source tokens) number rest
  pub counted : token + length rest ≡ length tokens
  pub placed : place ≡ place_of source rest

-- the fact holds of the number, the index and the place of the refused token, where there is one
abbrev pub IfBad : (ℕ → ℕ → ℕ → Type 0) → ParseRefusal → Type 0
IfBad P (Unread number token place) = P number token place
IfBad P NoMemory = Unit {0}

-- What is answered for a whole file is what the theory's parser says; where memory ran out it says nothing.
abbrev pub IsAnswer : Outcome Lexeme Tree → Result Tree Fault → Type 0
IsAnswer o (Ok tree) = (depth : ℕ) × (o ≡ Got tree depth [])
IsAnswer o (Err (Refused deep left)) = (rest : List Lexeme) × (o ≡ Bad deep rest) × (left ≡ length rest)
IsAnswer o (Err NoMemoryToRead) = Unit {0}

-- the token of a name that stands behind a source of this length, and is longer
abbrev pub new_token : ℕ → Token
new_token length = record { kind = Name; start = length; end = length + (length + 26) }

-- The Bool says whether the tokens have a reading that goes on with an ordinary name.
abbrev pub SaysIfNameGoesOn : List ℕ → List Token → Bool → Type 0
SaysIfNameGoesOn source before true = GoesOnWithName source (lexemes_of source before)
SaysIfNameGoesOn source before false = GoesOnWithName source (lexemes_of source before) → ⊥

-- the number of a refusal at the end of the file, and at a token, as `NumberAt` has them
abbrev pub NumberByDepth : Bool → ℕ → Type 0
NumberByDepth deep number = ((deep ≡ true) × (number ≡ 2)) ⊎ ((deep ≡ false) × (number ≡ 1))

abbrev pub IsNumberOf : List ℕ → List Lexeme → Bool → Lexeme → ℕ → Type 0
IsNumberOf source before deep t number = NumberAt source before deep (t ∷ []) number

-- the theory's parser refuses where so many tokens are left
abbrev pub IsRefusedFrom : List ℕ → List Token → Bool → ℕ → Type 0
IsRefusedFrom source tokens deep left =
    (rest : List Lexeme) × (parse_all c_grammar c_lookahead deepest WholeFile (lexemes_of source tokens) ≡ Bad deep rest) × (left ≡ length rest)
