-- Classes of bytes, by their ASCII codes.
use Rattle.std.specs.Prelude.{ℕ, Bool, ◌==◌, ◌&&◌, ◌||◌, not, nat_le}

-- from the first to the last of two bytes
abbrev pub is_within : ℕ → ℕ → ℕ → Bool
is_within first last b = nat_le first b && nat_le b last

-- white space: tab, line feed, vertical tab, form feed, carriage return, space (C17 6.4)
abbrev pub is_white : ℕ → Bool
is_white b = is_within 9 13 b || b == 32

-- a blank: space or tab
abbrev pub is_blank : ℕ → Bool
is_blank b = b == 32 || b == 9

-- a nondigit: a letter or `_` (C17 6.4.2.1)
abbrev pub is_letter : ℕ → Bool
is_letter b = is_within 97 122 b || is_within 65 90 b || b == 95

-- a digit
abbrev pub is_digit : ℕ → Bool
is_digit b = is_within 48 57 b

-- an octal digit
abbrev pub is_octal_digit : ℕ → Bool
is_octal_digit b = is_within 48 55 b

-- a hexadecimal digit
abbrev pub is_hex_digit : ℕ → Bool
is_hex_digit b = is_digit b || is_within 97 102 b || is_within 65 70 b

-- a byte of a name after its first
abbrev pub is_name_byte : ℕ → Bool
is_name_byte b = is_letter b || is_digit b

-- a byte of a number after its first
abbrev pub is_number_byte : ℕ → Bool
is_number_byte b = is_name_byte b || b == 46

-- no line feed
abbrev pub is_in_line : ℕ → Bool
is_in_line b = not (b == 10)
