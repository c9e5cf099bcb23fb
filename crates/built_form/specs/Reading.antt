-- What a part of the reader is asked for, and what it finds at the beginning of the lexemes that are left.
use Rattle.std.specs.Prelude.{◌≡◌, List, [], ◌∷◌, ◌++◌, map}
use Rattle.built_form.specs.declared.fixed.Fixed.{Fixed}
use Rattle.built_form.specs.declared.fixed.Fixed.TheVariants.{Sign as FixedSign, Keyword as FixedKeyword, Word as FixedWord}
use Rattle.built_form.specs.Form.{Lexeme, Part, Spells}
use Rattle.built_form.specs.Form.Part.{Sign, Keyword, Word, Ident}

-- the part of this text
abbrev pub part_of : Fixed → Part
part_of (FixedSign text) = Sign text.now
part_of (FixedKeyword text) = Keyword text.now
part_of (FixedWord text) = Word text.now

abbrev pub parts_of : List Fixed → List Part
parts_of fixed = map part_of fixed

-- The lexemes begin with the spelling of x and of nothing else of its kind, and the rest follows it.
pub record Finds {A : Type 0} (spelled : A → List Part) (lexemes : List Lexeme) (x : A) (rest : List Lexeme) : Type 0 where
  pub read : (parts : List Part) (end : List Lexeme) → Spells parts rest end → Spells (spelled x ++ parts) lexemes end
  pub only : (y : A) (parts : List Part) (end : List Lexeme) → Spells (spelled y ++ parts) lexemes end
      → (y ≡ x) × Spells parts rest end

-- The lexemes begin with the spelling of nothing of this kind.
pub record FindsNone {A : Type 0} (spelled : A → List Part) (lexemes : List Lexeme) : Type 0 where
  pub none : (y : A) (parts : List Part) (end : List Lexeme) → Spells (spelled y ++ parts) lexemes end → ⊥

-- Parts that no call begins with end the calls of a block: the first of them is a punctuator or a keyword.
abbrev pub EndsCalls : List Part → Type 0
EndsCalls [] = ⊥
EndsCalls (Sign text ∷ parts) = Unit {0}
EndsCalls (Keyword text ∷ parts) = Unit {0}
EndsCalls (Word text ∷ parts) = ⊥
EndsCalls (Ident name ∷ parts) = ⊥
