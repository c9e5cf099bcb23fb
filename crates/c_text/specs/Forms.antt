-- What a word, that is a list of bytes, is spelled as. Its first byte tells which form it may have.
use Rattle.std.specs.Prelude.{ℕ, ◌+◌, Bool, true, false, ◌==◌, ◌&&◌, ◌||◌, not, if◌then◌else◌, List, [], ◌∷◌, length, take, drop, Option, Some, None, codes, nat_eq}
use Rattle.std.specs.List.{list_all, list_any, prefix_len, starts_with}
use Rattle.std.specs.Str.{bytes_eq}
use Rattle.c_text.specs.declared.TokenKind.{TokenKind}
use Rattle.c_text.specs.declared.TokenKind.TheVariants.{Name, Keyword, Number, Character, Text, Punctuator}
use Rattle.c_text.specs.declared.form.Form.{Form}
use Rattle.c_text.specs.declared.form.Form.TheVariants.{White, Comment, Directive, Word, Stray}
use Rattle.c_text.specs.declared.form.StrayKind.TheVariants.{Byte, OpenComment, OpenQuote, Line}
use Rattle.c_text.specs.Bytes.{is_white, is_blank, is_letter, is_digit, is_octal_digit, is_hex_digit, is_name_byte, is_number_byte, is_in_line}
use Rattle.c_text.specs.Words.{is_one_of, keywords, punctuators, headers}

abbrev pub is_empty : List ℕ → Bool
is_empty [] = true
is_empty (b ∷ rest) = false

-- whether the first byte is this one
abbrev pub is_first : ℕ → List ℕ → Bool
is_first byte [] = false
is_first byte (b ∷ rest) = b == byte

-- a form, where a test holds
abbrev pub when : Bool → Form → Option Form
when test form = if test then Some form else None

-- A text that goes on to its first end, and no further. Where a byte `ends` the text, `breaks` it or `marks`
-- the byte after it, may depend on whether it is marked itself.
abbrev pub is_first_end : (ends breaks marks : Bool → ℕ → Bool) → Bool → List ℕ → Bool
is_first_end ends breaks marks marked [] = false
is_first_end ends breaks marks marked (b ∷ rest) =
    if ends marked b then is_empty rest
    else (not (breaks marked b) && is_first_end ends breaks marks (marks marked b) rest)

-- What follows the `/*` of a comment: its first `*/` is its end (C17 6.4.9). A `*` marks the byte after it.
abbrev pub ends_comment : Bool → ℕ → Bool
ends_comment marked b = marked && (b == 47)

abbrev pub breaks_comment : Bool → ℕ → Bool
breaks_comment marked b = false

abbrev pub marks_comment : Bool → ℕ → Bool
marks_comment marked b = b == 42

abbrev pub is_comment_end : List ℕ → Bool
is_comment_end rest = is_first_end ends_comment breaks_comment marks_comment false rest

-- What follows the opening quote of a string: bytes other than `"`, `\` and line feeds, and escapes, and
-- then `"` (C17 6.4.5). A `\` that isn't marked marks the byte after it, which belongs to its escape, known
-- or not; the digits that an escape may take besides end no string.
abbrev pub ends_string : Bool → ℕ → Bool
ends_string marked b = not marked && (b == 34)

abbrev pub breaks_string : Bool → ℕ → Bool
breaks_string marked b = b == 10

abbrev pub marks_string : Bool → ℕ → Bool
marks_string marked b = not marked && (b == 92)

abbrev pub is_string_end : List ℕ → Bool
is_string_end rest = is_first_end ends_string breaks_string marks_string false rest

-- How many digits an escape takes after the byte c behind its `\`: as many as follow, octal ones at most
-- two more, hexadecimal ones after an `x` (C17 6.4.4.4).
abbrev pub further_digits : ℕ → List ℕ → ℕ
further_digits c rest =
    if is_octal_digit c then prefix_len is_octal_digit (take 2 rest)
    else (if c == 120 then prefix_len is_hex_digit rest else 0)

-- How many bytes an escape has after its `\`; none where a line feed or nothing follows, which is no escape.
abbrev pub escape_length : List ℕ → Option ℕ
escape_length [] = None
escape_length (c ∷ rest) = if c == 10 then None else Some (1 + further_digits c rest)

-- How many bytes the character has that begins a text: one byte other than `'`, `\` and a line feed, or one
-- escape (C17 6.4.4.4).
abbrev pub one_more : Option ℕ → Option ℕ
one_more None = None
one_more (Some n) = Some (1 + n)

abbrev pub character_length : List ℕ → Option ℕ
character_length [] = None
character_length (b ∷ rest) =
    if b == 92 then one_more (escape_length rest)
    else (if (b == 39) || (b == 10) then None else Some 1)

-- What follows the opening quote of a character constant: one character, and then `'` (that there is just
-- one is this project's own rule).
abbrev pub closes_after : Option ℕ → List ℕ → Bool
closes_after None rest = false
closes_after (Some n) rest = bytes_eq (drop n rest) (codes "'")

abbrev pub is_character_end : List ℕ → Bool
is_character_end rest = closes_after (character_length rest) rest

-- a text after its blanks
abbrev pub past_blanks : List ℕ → List ℕ
past_blanks text = drop (prefix_len is_blank text) text

-- what may follow the name of a header: blanks, and a `//` comment
abbrev pub is_line_rest : List ℕ → Bool
is_line_rest text = is_empty (past_blanks text) || starts_with nat_eq (past_blanks text) (codes "//")

-- a header that begins a text, with what may follow it
abbrev pub names_header : List ℕ → List ℕ → Bool
names_header text header = starts_with nat_eq text header && is_line_rest (drop (length header) text)

-- What follows the `#` of a directive, up to the line's end: `include` and a header's name (this project's
-- own rule).
abbrev pub is_include : List ℕ → Bool
is_include text = starts_with nat_eq text (codes "include") && list_any (names_header (past_blanks (drop 7 text))) headers

abbrev pub is_directive : List ℕ → Bool
is_directive rest = is_include (past_blanks rest)

-- An identifier is a keyword or a name (C17 6.4.1, 6.4.2).
abbrev pub name_kind : List ℕ → TokenKind
name_kind word = if is_one_of keywords word then Keyword else Name

-- What a word is by what follows its first byte or bytes: a form, where that closes, or else only these bytes
-- themselves, as a stray beginning; a word that closes is longer.
abbrev pub closed_or : (List ℕ → Bool) → Form → Form → List ℕ → Option Form
closed_or test form unclosed rest = if is_empty rest then Some unclosed else when (test rest) form

-- A `#` that is the first token on its line takes the line, any other only itself.
abbrev pub line_kind : List ℕ → Form
line_kind rest = if is_directive rest then Directive else Stray Line

abbrev pub line_form : Bool → List ℕ → Option Form
line_form true rest = when (list_all is_in_line rest) (line_kind rest)
line_form false rest = when (is_empty rest) (Stray Byte)

-- A punctuator, or a single byte that is none.
abbrev pub mark_form : List ℕ → Option Form
mark_form word = if is_one_of punctuators word then Some (Word Punctuator) else when (length word == 1) (Stray Byte)

-- Behind a `/`: both comments (C17 6.4.9), and the punctuators that begin so.
abbrev pub slash_form : List ℕ → Option Form
slash_form [] = mark_form (47 ∷ [])
slash_form (b ∷ rest) =
    if b == 47 then when (list_all is_in_line rest) Comment
    else (if b == 42 then closed_or is_comment_end Comment (Stray OpenComment) rest
    else mark_form (47 ∷ b ∷ rest))

-- What a word is spelled as, if anything. `alone`: no token stands before it on its line.
abbrev pub form_of : Bool → List ℕ → Option Form
form_of alone [] = None
form_of alone (b ∷ rest) =
    if is_white b then when (is_empty rest) White
    else (if is_letter b then when (list_all is_name_byte rest) (Word (name_kind (b ∷ rest)))
    else (if is_digit b then when (list_all is_number_byte rest) (Word Number)
    else (if b == 39 then closed_or is_character_end (Word Character) (Stray OpenQuote) rest
    else (if b == 34 then closed_or is_string_end (Word Text) (Stray OpenQuote) rest
    else (if b == 35 then line_form alone rest
    else (if b == 47 then slash_form rest
    else mark_form (b ∷ rest)))))))
