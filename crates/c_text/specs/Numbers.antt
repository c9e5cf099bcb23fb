-- Integer constants and their values (C17 6.4.4.1, cut down to at most one suffix `u` or `U`).
use Rattle.std.specs.Prelude.{ℕ, ◌+◌, ◌-◌, ◌*◌, Bool, ◌==◌, ◌||◌, not, nat_le, if◌then◌else◌, List, [], ◌∷◌, length, Option, Some, None, fold, min}
use Rattle.std.specs.List.{list_all, before_first}
use Rattle.c_text.specs.declared.number.Number.{Number}
use Rattle.c_text.specs.Bytes.{is_digit, is_octal_digit, is_hex_digit}
use Rattle.c_text.specs.Forms.{is_empty, is_first}

-- the value of a digit, also a hexadecimal one
abbrev pub digit_value : ℕ → ℕ
digit_value d = if is_digit d then d - 48 else (if nat_le 97 d then d - 87 else d - 55)

-- the value of digits in a base, after digits of the value v
abbrev pub value_after : ℕ → ℕ → List ℕ → ℕ
value_after base v digits = fold (λ n d. n * base + digit_value d) v digits

abbrev pub value_in : ℕ → List ℕ → ℕ
value_in base digits = value_after base 0 digits

abbrev pub is_suffix : ℕ → Bool
is_suffix b = b == 117 || b == 85

-- the digits of a constant, with what stands before them: all before the first `u` or `U`
abbrev pub digits_of : List ℕ → List ℕ
digits_of word = before_first is_suffix word

-- whether a suffix stands behind the digits
abbrev pub has_suffix : List ℕ → Bool
has_suffix word = not (length (digits_of word) == length word)

-- the value of the digits in a base, where each passes the test
abbrev pub read_digits : ℕ → (ℕ → Bool) → List ℕ → Option ℕ
read_digits base test digits = if list_all test digits then Some (value_in base digits) else None

-- what follows a first `0`: `x` or `X` and hexadecimal digits, or octal digits
abbrev pub read_after_zero : List ℕ → Option ℕ
read_after_zero [] = Some 0
read_after_zero (b ∷ rest) =
    if (b == 120) || (b == 88) then (if is_empty rest then None else read_digits 16 is_hex_digit rest)
    else read_digits 8 is_octal_digit (b ∷ rest)

-- the value of a constant's digits: hexadecimal, octal, decimal
abbrev pub read_number : List ℕ → Option ℕ
read_number [] = None
read_number (d ∷ rest) = if d == 48 then read_after_zero rest else read_digits 10 is_digit (d ∷ rest)

-- the greatest value: that of `int` for decimal digits without suffix, else that of `unsigned`
abbrev pub greatest : List ℕ → ℕ
greatest word = if has_suffix word || is_first 48 word then 4294967295 else 2147483647

-- A value, or 2^32 where it is above that, which is beyond every limit.
abbrev pub capped : ℕ → ℕ
capped v = min v 4294967296

abbrev pub capped_value : Option ℕ → Option ℕ
capped_value None = None
capped_value (Some v) = Some (capped v)

-- a value up to a limit
abbrev pub value_within : ℕ → Option ℕ → Option ℕ
value_within limit None = None
value_within limit (Some v) = if nat_le v limit then Some v else None

-- The value of an integer constant; none where the word is no constant, or out of range.
abbrev pub number_value : List ℕ → Option ℕ
number_value word =
    if nat_le (length word) (length (digits_of word) + 1) then value_within (greatest word) (read_number (digits_of word)) else None

-- A constant with its type: it is `unsigned` where it has a suffix or isn't in the range of `int`, else `int`.
abbrev pub typed : List ℕ → Option ℕ → Option Number
typed word None = None
typed word (Some v) = Some (record { value = v; is_unsigned = has_suffix word || not (nat_le v 2147483647) })

abbrev pub number_of : List ℕ → Option Number
number_of word = typed word (number_value word)
