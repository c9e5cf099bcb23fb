-- The built form: which files are read so far (this project's own rule, a part of the grammar of C17 6.9 with Clang's attributes).
--   file = { function | main } .
--   function = "void" name "(" "void" ")" [ attribute ] ( ";" | calls "}" ) .
--   main = "int" "main" "(" "void" ")" calls "return" "0" ";" "}" .
--   calls = "{" { name "(" ")" ";" } .
--   attribute = "[" "[" "clang" ":" ":" ( "nonblocking" | "blocking" ) "]" "]" .
use Rattle.std.specs.Prelude.{◌≡◌, ℕ, List, [], ◌∷◌, ◌++◌, map, codes, Option, Some, None}
use Rattle.std.specs.List.{flat_map}
use Rattle.c_text.specs.Spelling.{text_of}
use Rattle.c_text.specs.declared.Token.{Token}
use Rattle.c_text.specs.declared.TokenKind.TheVariants.{Name, Keyword as KeywordKind, Punctuator}
use Rattle.built_form.specs.declared.item.Item.{Item}
use Rattle.built_form.specs.declared.item.Kind.{Kind}
use Rattle.built_form.specs.declared.item.Kind.TheVariants.{Void, Main}
use Rattle.built_form.specs.declared.item.Ending.{Ending}
use Rattle.built_form.specs.declared.item.Mark.{Mark}
use Rattle.built_form.specs.declared.item.Mark.TheVariants.{Nonblocking, Blocking}

-- a token with its text
pub record Lexeme : Type 0 where
  pub token : Token
  pub text : List ℕ

abbrev pub lexemes_of : List ℕ → List Token → List Lexeme
lexemes_of source tokens = map (λ t. record { token = t; text = text_of source t }) tokens

-- this token with this text is the first of the lexemes
abbrev pub IsFirst : Token → List ℕ → List Lexeme → Type 0
IsFirst token text lexemes = (rest : List Lexeme) × (lexemes ≡ record { token = token; text = text } ∷ rest)

-- what a place of the form takes: a punctuator of this text, a keyword of this text, any token of this text, or a name, which is
-- this token
pub data Part : Type 0 where
  Sign : List ℕ → Part
  Keyword : List ℕ → Part
  Word : List ℕ → Part
  Ident : Token → Part

-- a token is such a part; where a text is asked for alone, it tells the kind of the token too
abbrev pub IsPart : Lexeme → Part → Type 0
IsPart x (Sign text) = (x.token.kind ≡ Punctuator) × (x.text ≡ text)
IsPart x (Keyword text) = (x.token.kind ≡ KeywordKind) × (x.text ≡ text)
IsPart x (Word text) = x.text ≡ text
IsPart x (Ident name) = (x.token ≡ name) × (x.token.kind ≡ Name)

-- the first of the lexemes is this part, and the rest follows it
pub record Begins (part : Part) (lexemes rest : List Lexeme) : Type 0 where
  pub first : Lexeme
  pub split : lexemes ≡ first ∷ rest
  pub fits : IsPart first part

-- the lexemes begin with these parts, one by one, and the rest follows them
abbrev pub Spells : List Part → List Lexeme → List Lexeme → Type 0
Spells [] lexemes rest = lexemes ≡ rest
Spells (part ∷ parts) lexemes rest = (after : List Lexeme) × Begins part lexemes after × Spells parts after rest

-- `(void)`: a function without parameters (C17 6.7.6.3)
abbrev pub parameters : List Part
parameters = Sign (codes "(") ∷ Keyword (codes "void") ∷ Sign (codes ")") ∷ []

-- what an attribute is called (Clang's manual 'Function Effect Analysis')
abbrev pub word_of : Mark → List ℕ
word_of Nonblocking = codes "nonblocking"
word_of Blocking = codes "blocking"

-- what stands before an attribute's name, and behind it
abbrev pub attribute_front : List Part
attribute_front = Sign (codes "[") ∷ Sign (codes "[") ∷ Word (codes "clang") ∷ Sign (codes ":") ∷ Sign (codes ":") ∷ []

abbrev pub attribute_end : List Part
attribute_end = Sign (codes "]") ∷ Sign (codes "]") ∷ []

-- `[[clang::nonblocking]]` or `[[clang::blocking]]`
abbrev pub spelled_mark : Mark → List Part
spelled_mark mark = attribute_front ++ Word (word_of mark) ∷ attribute_end

-- a function has one attribute or none
abbrev pub spelled_attribute : Option Mark → List Part
spelled_attribute None = []
spelled_attribute (Some mark) = spelled_mark mark

-- a name, and these parts behind it
abbrev pub spelled_named : List Part → Token → List Part
spelled_named parts name = Ident name ∷ parts

-- a statement that calls a function, by its name (C17 6.5.2.2, 6.8.3)
abbrev pub call_end : List Part
call_end = Sign (codes "(") ∷ Sign (codes ")") ∷ Sign (codes ";") ∷ []

abbrev pub spelled_call : Token → List Part
spelled_call name = spelled_named call_end name

-- calls, one after the other
abbrev pub spelled_calls : List Token → List Part
spelled_calls names = flat_map spelled_call names

-- a block of calls (C17 6.8.2), which these parts close
abbrev pub spelled_block : List Part → List Token → List Part
spelled_block closing names = Sign (codes "{") ∷ (spelled_calls names ++ closing)

-- what closes a body that returns nothing
abbrev pub brace : List Part
brace = Sign (codes "}") ∷ []

-- a declaration ends with a semicolon, and a definition with its body (C17 6.7, 6.9.1)
abbrev pub spelled_body : Option (List Token) → List Part
spelled_body None = Sign (codes ";") ∷ []
spelled_body (Some calls) = spelled_block brace calls

-- what stands behind the parameters of a function that returns nothing
abbrev pub spelled_ending : Ending → List Part
spelled_ending ending = spelled_attribute ending.mark ++ spelled_body ending.calls

-- `main` returns 0 behind its calls (C17 5.1.2.2.1, 6.8.6.4)
abbrev pub return_zero : List Part
return_zero = Keyword (codes "return") ∷ Word (codes "0") ∷ Sign (codes ";") ∷ brace

-- what a function returns
abbrev pub result_of : Kind → List ℕ
result_of (Void ending) = codes "void"
result_of (Main calls) = codes "int"

-- what stands behind the parameters
abbrev pub spelled_kind : Kind → List Part
spelled_kind (Void ending) = spelled_ending ending
spelled_kind (Main calls) = spelled_block return_zero calls

-- a declaration or a definition of a function (C17 6.7, 6.9.1)
abbrev pub spelled_item : Item → List Part
spelled_item item = Keyword (result_of item.kind) ∷ (spelled_named parameters item.name ++ spelled_kind item.kind)

-- a file: its declarations and definitions, one after the other
abbrev pub spelled_items : List Item → List Part
spelled_items items = flat_map spelled_item items
