-- What is true of each code.
use Rattle.std.specs.Prelude.{◌≡◌, ℕ, ◌^◌, ◌<◌, ◌≤◌, Bool, true, false, ◌||◌, nat_lt, List, length, Option, Some, slice_get}
use Rattle.mcode.specs.Machine.{Program}
use Rattle.mcode.specs.declared.code.Instruction.{Instruction}
use Rattle.mcode.specs.declared.code.Instruction.TheVariants.{SetLocal, SetThreadLocal, GoTo, GoIfZero, GoIfNotZero, Fill, FillText, Put, CheckHalt, EnterFunction, EnterThrough, Bind, CallRow}
use Rattle.machine_code.specs.Bounds.{IsOffset}

-- at most so many instructions
abbrev pub code_limit : ℕ
code_limit = 2 ^ 21

-- what an instruction names is low enough for addresses to be told
abbrev pub IsLowInstruction : Instruction → Type 0
IsLowInstruction (SetLocal offset) = IsOffset offset
IsLowInstruction (SetThreadLocal offset) = IsOffset offset
IsLowInstruction (Fill offset word count) = IsOffset offset
IsLowInstruction (FillText offset at count) = IsOffset offset × (at ≤ 2 ^ 31)
IsLowInstruction (Put offset level) = IsOffset offset
IsLowInstruction (Bind offset back level) = IsOffset offset
IsLowInstruction (CallRow row site count) = row ≤ 2 ^ 20
IsLowInstruction _ = Unit {0}

-- a call site that an instruction names has a low number
abbrev pub IsLowSite : Instruction → Type 0
IsLowSite (EnterFunction function site) = site < 2 ^ 20
IsLowSite (EnterThrough count site) = site < 2 ^ 20
IsLowSite (CallRow row site count) = site < 2 ^ 20
IsLowSite _ = Unit {0}

abbrev pub is_check : Option Instruction → Bool
is_check (Some CheckHalt) = true
is_check _ = false

-- from here to there it goes on, or to a load of the halt word
abbrev pub lands : List Instruction → (place to : ℕ) → Bool
lands instructions place to = nat_lt place to || is_check (slice_get instructions to)

-- each jump of an instruction lands so
abbrev pub GoesOn : List Instruction → (place : ℕ) → Instruction → Type 0
GoesOn instructions place (GoTo to) = lands instructions place to ≡ true
GoesOn instructions place (GoIfZero to) = lands instructions place to ≡ true
GoesOn instructions place (GoIfNotZero to) = lands instructions place to ≡ true
GoesOn instructions place _ = Unit {0}

pub record IsCode (c : Program) : Type 0 where
  pub short : length c.instructions ≤ code_limit
  pub static_words : c.static_words ≤ 2 ^ 20
  pub functions : length c.entries ≤ 4096
  pub sites : (place : ℕ) (i : Instruction) → slice_get c.instructions place ≡ Some i → IsLowSite i
  pub low : (place : ℕ) (i : Instruction) → slice_get c.instructions place ≡ Some i → IsLowInstruction i
  pub jumps : (place : ℕ) (i : Instruction) → slice_get c.instructions place ≡ Some i → GoesOn c.instructions place i
