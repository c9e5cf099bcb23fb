-- The number of a refusal, asked in the order 4, 3, 2, 1:
--
--   4 construct left out       the token is `...` or a keyword that the grammar doesn't use
--   3 reserved name declared   it is a reserved name, and an ordinary name in its place would be viable
--   2 nesting over 200         some greater depth would do
--   1 token not expected       else
--
-- The refused token is the first that makes the tokens up to it a prefix that isn't viable; where there is none,
-- the refusal is at the end of the file.
use Rattle.std.specs.Prelude.{◌≡◌, ℕ, ◌+◌, Bool, true, false, ◌⊎◌, ◌&&◌, List, [], ◌∷◌, ◌++◌, length, replicate}
use Rattle.c_text.specs.declared.TokenKind.TheVariants.{Name}
use Rattle.grammar.specs.Reading.{IsViable, HasFault}
use Rattle.c_grammar.specs.declared.terminal.Terminal.TheVariants as k
use Rattle.c_grammar.specs.Lexemes.{Lexeme, is, has_text}
use Rattle.c_grammar.specs.Rules.{Unit}
use Rattle.c_grammar.specs.Specifiers.{reserved_names}
use Rattle.c_grammar.specs.Grammar.{c_grammar}

abbrev pub deepest : ℕ
deepest = 200

abbrev pub is_reserved_name : Lexeme → Bool
is_reserved_name t = is k.Name t && has_text reserved_names t

-- An ordinary identifier that stands nowhere in the source: it is longer than all of it, and than each word that the
-- grammar or the library knows.
abbrev pub new_name : List ℕ → Lexeme
new_name source = record {
  terminal = k.Name;
  token = record { kind = Name; start = length source; end = length source + (length source + 26) };
  text = replicate (length source + 26) 97;
}

-- The tokens before have a reading that goes on with such a name.
abbrev pub GoesOnWithName : List ℕ → List Lexeme → Type 0
GoesOnWithName source before = IsViable c_grammar deepest Unit (before ++ (new_name source ∷ []))

-- Where depth alone is at fault the theory tells it by a Bool (HasFault).
abbrev pub NumberAt : List ℕ → List Lexeme → Bool → List Lexeme → ℕ → Type 0
NumberAt source before deep [] number = ((deep ≡ true) × (number ≡ 2)) ⊎ ((deep ≡ false) × (number ≡ 1))
NumberAt source before deep (t ∷ after) number =
    ((is k.Unused t ≡ true) × (number ≡ 4))
    ⊎ (((is k.Unused t ≡ false) × (is_reserved_name t ≡ true) × GoesOnWithName source before × (number ≡ 3))
    ⊎ (((is k.Unused t ≡ false) × ((is_reserved_name t ≡ true) → GoesOnWithName source before → ⊥))
    × (((deep ≡ true) × (number ≡ 2)) ⊎ ((deep ≡ false) × (number ≡ 1)))))

-- The tokens of a source are refused with this number, at the first of rest or at the end of the file where there is none.
abbrev pub IsRefusedWith : List ℕ → List Lexeme → ℕ → List Lexeme → Type 0
IsRefusedWith source tokens number rest =
    (deep : Bool) × (before : List Lexeme) × (tokens ≡ before ++ rest) × HasFault c_grammar deepest Unit tokens deep rest
    × NumberAt source before deep rest number
