-- Why a command has neither warnings nor a run to print: each cause with its status and its line (this project's own lines).
use Rattle.std.specs.Prelude.{ℕ, ◌==◌, if◌then◌else◌, List, [], ◌∷◌, ◌++◌, codes, decimal}
use Rattle.std.specs.List.{concat}
use Rattle.c_text.specs.Place.{LineColumn}
use Rattle.core_unit.specs.declared.units.Which.{Which}
use Rattle.core_unit.specs.declared.units.Which.TheVariants as which
use Rattle.rtsan_core.specs.declared.status.Status.{Status}
use Rattle.rtsan_core.specs.declared.status.Status.TheVariants.{Refused, Usage, ReadFault, NoMemory, Limit, Unlinked}

-- in the order in which they are asked; want of memory may come in place of any other
pub data Cause : Type 0 where
  NoCommand : Cause
  Unreadable : (file : List ℕ) → Cause
  SourceTooLong : Cause
  Misspelled : (file : List ℕ) (place : LineColumn) (number : ℕ) → Cause
  Unread : (file : List ℕ) (place : LineColumn) (number : ℕ) → Cause
  Untyped : (file : List ℕ) (place : LineColumn) (number : ℕ) → Cause
  UnitTooLarge : Which → Cause
  NotBuilt : Cause
  Undefined : (name : List ℕ) → Cause
  CodeTooLong : Cause
  OutOfMemory : Cause

abbrev pub status_of : Cause → Status
status_of NoCommand = Usage
status_of (Unreadable file) = ReadFault
status_of SourceTooLong = Limit
status_of (Misspelled file place number) = Refused
status_of (Unread file place number) = Refused
status_of (Untyped file place number) = Refused
status_of (UnitTooLarge which) = Limit
status_of NotBuilt = Refused
status_of (Undefined name) = Unlinked
status_of CodeTooLong = Limit
status_of OutOfMemory = NoMemory

-- what is wrong at the first fault of a text, by its number
abbrev pub fault_text : ℕ → List ℕ
fault_text number =
    if number == 1 then codes "bad byte"
    else (if number == 2 then codes "open comment"
    else (if number == 3 then codes "open string"
    else (if number == 4 then codes "number out of range"
    else (if number == 5 then codes "unknown escape"
    else codes "bad directive"))))

-- why a token is refused, by its number
abbrev pub refusal_text : ℕ → List ℕ
refusal_text number =
    if number == 1 then codes "token not expected"
    else (if number == 2 then codes "nesting over 200"
    else (if number == 3 then codes "reserved name declared"
    else codes "construct left out"))

-- which rule of typing is broken, by its number
abbrev pub type_text : ℕ → List ℕ
type_text number =
    if number == 1 then codes "unknown name"
    else (if number == 2 then codes "redefinition"
    else (if number == 3 then codes "type mismatch"
    else (if number == 4 then codes "effects conflict"
    else (if number == 5 then codes "wrong count of arguments"
    else (if number == 6 then codes "not an lvalue"
    else (if number == 7 then codes "not constant"
    else (if number == 8 then codes "unknown member"
    else (if number == 9 then codes "bad initializer"
    else (if number == 10 then codes "incomplete type"
    else codes "left-out conversion")))))))))

-- the line of a limit that a unit passes
abbrev pub limit_line : Which → List ℕ
limit_line which.Functions = codes "rtsan: limit: functions\n"
limit_line which.Parameters = codes "rtsan: limit: parameters\n"
limit_line which.CallSites = codes "rtsan: limit: call sites\n"
limit_line which.StaticWords = codes "rtsan: limit: static words\n"
limit_line which.ThreadWords = codes "rtsan: limit: thread words\n"
limit_line which.FrameWords = codes "rtsan: limit: frame words\n"

-- the line of a refused source: its texts one after the other
unfoldable pub refused_line : List ℕ → List ℕ → List ℕ → List ℕ → List ℕ → List ℕ → List ℕ
refused_line file line column layer number text =
    concat (file ∷ codes ":" ∷ line ∷ codes ":" ∷ column ∷ codes ": refused: " ∷ layer ∷ codes " " ∷ number ∷ codes " " ∷ text ∷ codes "\n" ∷ [])

-- a line of text
abbrev pub line : List ℕ → List ℕ
line text = text ++ 10 ∷ []

abbrev pub line_of : Cause → List ℕ
line_of NoCommand = line (codes "usage: rtsan check FILE | step FILE")
line_of (Unreadable file) = line (codes "rtsan: read fault: " ++ file)
line_of SourceTooLong = line (codes "rtsan: limit: source bytes")
line_of (Misspelled file place number) =
    refused_line file (decimal place.line) (decimal place.column) (codes "text") (decimal number) (fault_text number)
line_of (Unread file place number) =
    refused_line file (decimal place.line) (decimal place.column) (codes "parse") (decimal number) (refusal_text number)
line_of (Untyped file place number) =
    refused_line file (decimal place.line) (decimal place.column) (codes "type") (decimal number) (type_text number)
line_of (UnitTooLarge which) = limit_line which
line_of NotBuilt = line (codes "rtsan: not built")
line_of (Undefined name) = line (codes "rtsan: unlinked: " ++ name)
line_of CodeTooLong = line (codes "rtsan: limit: code")
line_of OutOfMemory = line (codes "rtsan: no memory")
