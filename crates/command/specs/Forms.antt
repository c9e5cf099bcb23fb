-- The forms of single values.
use Rattle.std.specs.Prelude.{ℕ, ◌+◌, ◌-◌, ◌*◌, Bool, false, ◌==◌, ◌&&◌, ◌||◌, nat_le, nat_lt, if◌then◌else◌, List, [], ◌∷◌, length, Option, Some, None, option_map, option_and_then, fold, ℤ, pos, neg_ℤ}
use Rattle.std.specs.List.{list_all}

-- `0` to `9`
abbrev pub is_digit : ℕ → Bool
is_digit byte = nat_le 48 byte && nat_le byte 57

-- the value of decimal digits
abbrev pub value_of : List ℕ → ℕ
value_of digits = fold (λ value digit. value * 10 + (digit - 48)) 0 digits

-- a number is one to ten decimal digits
abbrev pub number_of : List ℕ → Option ℕ
number_of text =
    if length text == 0 then None
    else (if nat_lt 10 (length text) then None else (if list_all is_digit text then Some (value_of text) else None))

abbrev pub if_within : ℕ → ℕ → ℕ → Option ℕ
if_within low high number =
    if nat_lt number low then None else (if nat_lt high number then None else Some number)

-- a number from `low` to `high`
abbrev pub number_within : ℕ → ℕ → List ℕ → Option ℕ
number_within low high text = option_and_then (if_within low high) (number_of text)

-- an `int`: a number with an optional `-` (45) before it
abbrev pub argument_of : List ℕ → Option ℤ
argument_of [] = None
argument_of (byte ∷ bytes) =
    if byte == 45 then option_map (λ n. neg_ℤ (pos n)) (number_within 0 2147483648 bytes)
    else option_map (λ n. pos n) (number_within 0 2147483647 (byte ∷ bytes))

-- a letter or `_`
unfoldable pub is_letter : ℕ → Bool
is_letter byte = ((nat_le 97 byte && nat_le byte 122) || (nat_le 65 byte && nat_le byte 90)) || (byte == 95)

unfoldable pub is_name_byte : ℕ → Bool
is_name_byte byte = is_letter byte || is_digit byte

-- an identifier: a letter or `_`, then letters, digits and `_`
abbrev pub is_identifier : List ℕ → Bool
is_identifier [] = false
is_identifier (byte ∷ bytes) = is_letter byte && list_all is_name_byte bytes
