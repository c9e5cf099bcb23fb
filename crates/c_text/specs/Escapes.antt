-- Escapes, and the values of character constants and strings (C17 6.4.4.4, 6.4.5).
use Rattle.std.specs.Prelude.{ℕ, zero, suc, ◌+◌, ◌==◌, ◌||◌, if◌then◌else◌, List, [], ◌∷◌, take, Option, Some, None, unwrap_or}
use Rattle.c_text.specs.Bytes.{is_octal_digit}
use Rattle.c_text.specs.Forms.{is_empty, further_digits, escape_length}
use Rattle.c_text.specs.Numbers.{value_in, value_within}

-- the value of a simple escape, by the byte behind its `\`
abbrev pub simple_value : ℕ → Option ℕ
simple_value c =
    if c == 110 then Some 10  -- n, line feed
    else (if c == 116 then Some 9  -- t, horizontal tab
    else (if c == 114 then Some 13  -- r, carriage return
    else (if c == 97 then Some 7  -- a, alert
    else (if c == 98 then Some 8  -- b, backspace
    else (if c == 102 then Some 12  -- f, form feed
    else (if c == 118 then Some 11  -- v, vertical tab
    else (if (c == 92) || (c == 39) || (c == 34) || (c == 63) then Some c  -- \ ' " ?
    else None)))))))

-- the digits that an escape takes after the byte behind its `\`
abbrev pub escape_digits : ℕ → List ℕ → List ℕ
escape_digits c rest = take (further_digits c rest) rest

-- The value of the escape whose `\` stands before a text; none where it is unknown. It is at most 255.
abbrev pub escape_value : List ℕ → Option ℕ
escape_value [] = None
escape_value (c ∷ rest) =
    if is_octal_digit c then value_within 255 (Some (value_in 8 (c ∷ escape_digits c rest)))
    else (if c == 120 then (if is_empty (escape_digits c rest) then None else value_within 255 (Some (value_in 16 (escape_digits c rest))))
    else simple_value c)

-- the first unknown escape: the one at `place`, where it has no value, else a later one
abbrev pub first_unknown : Option ℕ → ℕ → Option ℕ → Option ℕ
first_unknown None place later = Some place
first_unknown (Some v) place later = later

-- Where the first unknown escape of a text stands that begins at `place`, after `skip` bytes of it.
abbrev pub unknown_escape : ℕ → ℕ → List ℕ → Option ℕ
unknown_escape skip place [] = None
unknown_escape zero place (b ∷ rest) =
    if b == 92 then first_unknown (escape_value rest) place (unknown_escape (unwrap_or (escape_length rest) 0) (place + 1) rest)
    else unknown_escape zero (place + 1) rest
unknown_escape (suc k) place (b ∷ rest) = unknown_escape k (place + 1) rest

-- The values of the bytes of a string from behind its opening quote on, after `skip` bytes: an escape is one byte.
abbrev pub values_after : ℕ → List ℕ → List ℕ
values_after skip [] = []
values_after zero (b ∷ rest) =
    if b == 34 then []
    else (if b == 92 then unwrap_or (escape_value rest) 0 ∷ values_after (unwrap_or (escape_length rest) 0) rest
    else b ∷ values_after zero rest)
values_after (suc k) (b ∷ rest) = values_after k rest

-- The values of a string's bytes, without the zero byte at its end (C17 6.4.5).
abbrev pub text_values : List ℕ → List ℕ
text_values word = values_after 1 word

-- The value of a character constant: that of its one byte or escape, never negative (C17 6.4.4.4; that the
-- value is the byte's is this project's own rule).
abbrev pub character_after : List ℕ → ℕ
character_after [] = 0
character_after (b ∷ rest) = if b == 92 then unwrap_or (escape_value rest) 0 else b

abbrev pub character_value : List ℕ → ℕ
character_value [] = 0
character_value (quote ∷ rest) = character_after rest
