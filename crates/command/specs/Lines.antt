-- What a list of words gives: positional words, and options with their values.
use Rattle.std.specs.Borrow.{Bor}
use Rattle.std.specs.Prelude.{ℕ, Bool, true, false, ◌==◌, nat_lt, if◌then◌else◌, List, [], ◌∷◌, ◌++◌, map, length, codes, Option, Some, None, option_map}
use Rattle.std.specs.Str.{bytes_eq}
use Rattle.std.specs.List.{before_first, after_first, position_or_len}
use Rattle.command.specs.declared.line.Given.{Given}

-- the words as texts
abbrev pub texts : List (Bor (List ℕ)) → List (List ℕ)
texts words = map (λ word. word.now) words

abbrev pub pair_of : Given → List ℕ × List ℕ
pair_of given = (given.name.now, given.value.now)

-- the options that were given, as pairs of a name and a value
abbrev pub pairs : List Given → List (List ℕ × List ℕ)
pairs given = map pair_of given

pub record Line : Type 0 where
  pub words : List (List ℕ)
  pub given : List (List ℕ × List ℕ)

abbrev pub empty_line : Line
empty_line = record { words = []; given = [] }

abbrev pub with_word : List ℕ → Line → Line
with_word word line = record { words = word ∷ line.words; given = line.given }

abbrev pub with_option : List ℕ → List ℕ → Line → Line
with_option name value line = record { words = line.words; given = (name, value) ∷ line.given }

-- the word begins with `-` (45) and isn't `-` alone
abbrev pub is_dashed : List ℕ → Bool
is_dashed [] = false
is_dashed (first ∷ []) = false
is_dashed (first ∷ second ∷ rest) = first == 45

-- the options, by their whole names
unfoldable pub is_option : List ℕ → Bool
is_option name =
    if bytes_eq name (codes "--options") then true
    else (if bytes_eq name (codes "--suppressions") then true
    else (if bytes_eq name (codes "--entry") then true
    else (if bytes_eq name (codes "--args") then true
    else (if bytes_eq name (codes "--schedule") then true
    else (if bytes_eq name (codes "--events") then true
    else (if bytes_eq name (codes "--wait-limit") then true
    else bytes_eq name (codes "--workers")))))))

-- `=` (61) stands in the word
abbrev pub is_equals : ℕ → Bool
is_equals byte = byte == 61

abbrev pub has_value : List ℕ → Bool
has_value word = nat_lt (position_or_len is_equals word) (length word)

abbrev pub name_in : List ℕ → List ℕ
name_in word = before_first is_equals word

abbrev pub value_in : List ℕ → List ℕ
value_in word = after_first is_equals word

-- Words before `--`, where an option may wait for its value. A word that isn't dashed is positional; an option is
-- `--name=value`, or `--name` and a value in a word of its own, which isn't dashed.
abbrev pub line_from : List (List ℕ) → Option (List ℕ) → Option Line
line_from [] None = Some empty_line
line_from [] (Some name) = None
line_from (word ∷ words) None =
    if is_dashed word then (
    if has_value word then (if is_option (name_in word) then option_map (with_option (name_in word) (value_in word)) (line_from words None) else None)
    else (if is_option word then line_from words (Some word) else None))
    else option_map (with_word word) (line_from words None)
line_from (word ∷ words) (Some name) =
    if is_dashed word then None else option_map (with_option name word) (line_from words None)

abbrev pub is_terminator : List ℕ → Bool
is_terminator word = bytes_eq word (codes "--")

-- positional words behind those of the line
abbrev pub followed_by : List (List ℕ) → Line → Line
followed_by words line = record { words = line.words ++ words; given = line.given }

-- the first `--` is dropped, and all words behind it are positional
abbrev pub line_of : List (List ℕ) → Option Line
line_of words = option_map (followed_by (after_first is_terminator words)) (line_from (before_first is_terminator words) None)
