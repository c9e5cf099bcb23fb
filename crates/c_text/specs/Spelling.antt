-- The spelling of a whole text (C17 5.1.1.2 and 6.4, cut down to this project's subset): how it is cut
-- into pieces, the tokens that it is spelled as, and its first fault.
use Rattle.std.specs.Prelude.{◌≡◌, ℕ, ◌+◌, ◌<◌, ◌≤◌, Bool, true, false, ◌==◌, ◌||◌, if◌then◌else◌, List, [], ◌∷◌, ◌++◌, length, take, drop, Option, Some, None, slice_range}
use Rattle.std.specs.List.{list_any}
use Rattle.c_text.specs.declared.Token.{Token}
use Rattle.c_text.specs.declared.form.Form.{Form}
use Rattle.c_text.specs.declared.form.Form.TheVariants.{Word}
use Rattle.c_text.specs.declared.form.Fault.{Fault}
use Rattle.c_text.specs.Forms.{form_of}
use Rattle.c_text.specs.Faults.{fault_in}

-- a piece of a text: its bytes, and what they are spelled as
pub record Piece : Type 0 where
  pub form : Form
  pub word : List ℕ

-- Of the prefixes of `word ++ after` that are spelled as some form, `word` is the longest, and this is its
-- form (the rule of the longest match, C17 6.4).
pub record IsLongest (form_at : List ℕ → Option Form) (form : Form) (word after : List ℕ) : Type 0 where
  pub spelled : form_at word ≡ Some form
  pub longest : (other rest : List ℕ) (f : Form) → word ++ after ≡ other ++ rest → form_at other ≡ Some f → length other ≤ length word

-- the same of the first n bytes of a text
pub record IsFront (form_at : List ℕ → Option Form) (form : Form) (n : ℕ) (text : List ℕ) : Type 0 where
  pub within : n ≤ length text
  pub front : IsLongest form_at form (take n text) (drop n text)

-- The next piece of what is left of a text, and what comes after it. `alone`: no token stands before it on
-- its line.
pub record IsNext (alone : Bool) (piece : Piece) (left after : List ℕ) : Type 0 where
  pub split : left ≡ piece.word ++ after
  pub next : IsLongest (form_of alone) piece.form piece.word after

-- Whether no token stands on the line before what follows a piece: a token unmakes it, a line feed makes it so.
abbrev pub is_token : Form → Bool
is_token (Word kind) = true
is_token _ = false

abbrev pub alone_after : Bool → Piece → Bool
alone_after alone piece = if is_token piece.form then false else (alone || list_any (λ b. b == 10) piece.word)

-- the same after a list of pieces, and how many bytes they have
abbrev pub alone_after_all : Bool → List Piece → Bool
alone_after_all alone [] = alone
alone_after_all alone (p ∷ ps) = alone_after_all (alone_after alone p) ps

abbrev pub bytes_in : List Piece → ℕ
bytes_in [] = 0
bytes_in (p ∷ ps) = length p.word + bytes_in ps

-- A text begins with these pieces, each the next one and without a fault, and `after` is left behind them.
abbrev pub IsCut : Bool → List ℕ → List Piece → List ℕ → Type 0
IsCut alone left [] after = left ≡ after
IsCut alone left (p ∷ ps) after =
    (rest : List ℕ) × IsNext alone p left rest × (fault_in p.form p.word ≡ None) × IsCut (alone_after alone p) rest ps after

-- The token that a piece of n bytes at a place is, if it is one: comments, directives and white space stand
-- between tokens and give none. And the tokens among pieces of which the first begins at a place.
abbrev pub token_in : ℕ → Form → ℕ → List Token
token_in place (Word kind) n = record { kind = kind; start = place; end = place + n } ∷ []
token_in place _ n = []

abbrev pub tokens_in : ℕ → List Piece → List Token
tokens_in place [] = []
tokens_in place (p ∷ ps) = token_in place p.form (length p.word) ++ tokens_in (place + length p.word) ps

-- A text is spelled as these tokens: all of it is cut into pieces, and the tokens are those among them.
abbrev pub IsSpelled : List ℕ → List Token → Type 0
IsSpelled bytes tokens = (pieces : List Piece) × IsCut true bytes pieces [] × (tokens ≡ tokens_in 0 pieces)

-- The first fault of a text: behind pieces without a fault stands a next piece that has one.
pub record HasFaultAfter (pieces : List Piece) (piece : Piece) (left after : List ℕ) (number place : ℕ) : Type 0 where
  pub next : IsNext (alone_after_all true pieces) piece left after
  pub faulty : (fault : Fault) × (fault_in piece.form piece.word ≡ Some fault) × (number ≡ fault.number) × (place ≡ bytes_in pieces + fault.offset)

abbrev pub IsFirstFault : List ℕ → ℕ → ℕ → Type 0
IsFirstFault bytes number place =
    (pieces : List Piece) × (piece : Piece) × (left : List ℕ) × (after : List ℕ)
    × IsCut true bytes pieces left × HasFaultAfter pieces piece left after number place

-- the token stands within the source
abbrev pub IsWithin : List ℕ → Token → Type 0
IsWithin source token = (token.start ≤ token.end) × (token.end ≤ length source)

-- from this place on, each token has at least one byte and ends at or before the start of the next
abbrev pub IsInOrderFrom : ℕ → List Token → Type 0
IsInOrderFrom place [] = Unit {0}
IsInOrderFrom place (token ∷ tokens) = (place ≤ token.start) × (token.start < token.end) × IsInOrderFrom token.end tokens

abbrev pub IsInOrder : List Token → Type 0
IsInOrder = IsInOrderFrom 0

-- the bytes that the token is made of
abbrev pub text_of : List ℕ → Token → List ℕ
text_of source token = slice_range source token.start token.end
