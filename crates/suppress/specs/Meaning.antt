-- What one line of a suppression file says. The two kinds are those of Clang's manual
-- 'RealtimeSanitizer'; the rest is this project's own rule.
use Rattle.std.specs.Prelude.{ℕ, List, [], ◌∷◌, length, drop, slice_index, codes, nat_eq, ◌==◌, ◌||◌, Bool, if◌then◌else◌, Option, None, Some}
use Rattle.std.specs.List.{starts_with}
use Rattle.suppress.specs.declared.suppressions.Suppression.{Suppression}
use Rattle.suppress.specs.declared.suppressions.SuppressionKind.{SuppressionKind}
use Rattle.suppress.specs.declared.suppressions.SuppressionKind.TheVariants.{FunctionNameMatches, CallStackContains}
use Rattle.suppress.specs.Pattern.{pattern_of}

-- A line says nothing, names a suppression by its kind and its pattern's bytes, or is bad by a number.
pub data Meaning : Type 0 where
  silent : Meaning
  states : SuppressionKind → List ℕ → Meaning
  faulty : ℕ → Meaning

-- A line is silent where it is empty or begins with `#`.
abbrev pub is_silent : List ℕ → Bool
is_silent line = length line == 0 || slice_index line 0 == 35

-- A line of a kind begins with the kind's word and a colon.
abbrev pub kind_words : SuppressionKind → List ℕ
kind_words FunctionNameMatches = codes "function-name-matches:"
kind_words CallStackContains = codes "call-stack-contains:"

-- Whether the line is one of the kind.
abbrev pub is_of_kind : SuppressionKind → List ℕ → Bool
is_of_kind kind line = starts_with nat_eq line (kind_words kind)

-- A line of a kind with this pattern after the colon. Fault 2: the pattern is empty.
abbrev pub stated : SuppressionKind → List ℕ → Meaning
stated kind [] = faulty 2
stated kind (byte ∷ bytes) = states kind (byte ∷ bytes)

-- What a line of the kind says: its pattern is what follows the colon.
abbrev pub meaning_as : SuppressionKind → List ℕ → Meaning
meaning_as kind line = stated kind (drop (length (kind_words kind)) line)

-- What a line says. Fault 1: it is neither silent nor of one of the two kinds.
abbrev pub meaning_of : List ℕ → Meaning
meaning_of line =
    if is_silent line then silent
    else if is_of_kind FunctionNameMatches line then meaning_as FunctionNameMatches line
    else if is_of_kind CallStackContains line then meaning_as CallStackContains line
    else faulty 1

-- The suppression that a line with this meaning names, if it names one.
abbrev pub suppression_in : Meaning → Option Suppression
suppression_in silent = None
suppression_in (states kind pattern) = Some (record { kind = kind; pattern = pattern_of pattern })
suppression_in (faulty number) = None

-- The number of the fault of a line with this meaning, if it is bad.
abbrev pub fault_in : Meaning → Option ℕ
fault_in silent = None
fault_in (states kind pattern) = None
fault_in (faulty number) = Some number
