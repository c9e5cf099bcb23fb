-- What a suppression file says, by its lines. This project's own rules.
use Rattle.std.specs.Prelude.{◌≡◌, ℕ, ◌-◌, ◌<◌, ◌≤◌, nat_lt, List, [], length, slice_index_or, if◌then◌else◌, Option, None, Some}
use Rattle.std.specs.List.{filter_map}
use Rattle.suppress.specs.declared.suppressions.Suppression.{Suppression}
use Rattle.suppress.specs.declared.file.SupRefusal.{SupRefusal}
use Rattle.suppress.specs.declared.file.SupRefusal.TheVariants.{Bad, NoMemory}
use Rattle.suppress.specs.Meaning.{meaning_of, suppression_in, fault_in}

-- The suppressions that the lines name, in order.
abbrev pub suppressions_in : List (List ℕ) → List Suppression
suppressions_in lines = filter_map (λ line. suppression_in (meaning_of line)) lines

-- The fault of a line that is the n-th of its file, counted from 1. Fault 3: it is past the thousandth,
-- whatever it says.
abbrev pub fault_of : ℕ → List ℕ → Option ℕ
fault_of n line = if nat_lt 1000 n then Some 3 else fault_in (meaning_of line)

-- The fault of the n-th line, counted from 1.
abbrev pub fault_at : List (List ℕ) → ℕ → Option ℕ
fault_at lines n = fault_of n (slice_index_or lines (n - 1) [])

-- No line up to this number is bad.
abbrev pub NoFaultUpTo : List (List ℕ) → ℕ → Type 0
NoFaultUpTo lines last = (number : ℕ) → 0 < number → number ≤ last → fault_at lines number ≡ None

-- No line is bad.
abbrev pub NoFault : List (List ℕ) → Type 0
NoFault lines = NoFaultUpTo lines (length lines)

-- The first bad line is this one, and its fault has this number.
pub record IsFirstFault (lines : List (List ℕ)) (number line : ℕ) : Type 0 where
  pub from_one : 0 < line
  pub within : line ≤ length lines
  pub here : fault_at lines line ≡ Some number
  pub before : NoFaultUpTo lines (line - 1)

-- A refusal at the n-th line names that line and its fault. Want of memory says nothing of the line.
abbrev pub IsRefusalAt : ℕ → List ℕ → SupRefusal → Type 0
IsRefusalAt n text (Bad number line) = (line ≡ n) × (fault_of n text ≡ Some number)
IsRefusalAt n text NoMemory = Unit {0}

-- A refusal names the first bad line and its fault. Want of memory says nothing of the lines.
abbrev pub IsRefusal : List (List ℕ) → SupRefusal → Type 0
IsRefusal lines (Bad number line) = IsFirstFault lines number line
IsRefusal lines NoMemory = Unit {0}
