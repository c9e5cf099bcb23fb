-- What keeps the numbers of a thread small: where its frames and the addresses of its library calls stand.
use Rattle.std.specs.Prelude.{ℕ, suc, ◌+◌, ◌-◌, ◌^◌, ◌<◌, ◌≤◌, List, [], ◌∷◌}
use Rattle.mcode.specs.Machine.{Machine}
use Rattle.mcode.specs.Memory.{halt, frame_limit, stack_words}
pub use Rattle.mcode.specs.Memory.{table_words, IsInTable}
use Rattle.mcode.specs.declared.events.Ask.{Ask}
use Rattle.mcode.specs.declared.events.Ask.TheVariants.{Enter, Leave, Create}
use Rattle.mcode.specs.declared.stages.Stage.{Stage}
use Rattle.mcode.specs.declared.stages.Stage.TheVariants.{MarkLive, ReadHeader, MarkFreed, TellThread, TryJoin, AwaitJoin, ReadResult, WriteResult, TryLock, AwaitLock, Unlock, ReadText}
use Rattle.mcode.specs.declared.thread.Caller.{Caller}
use Rattle.mcode.specs.declared.thread.Mode.{Mode}
use Rattle.mcode.specs.declared.thread.Mode.TheVariants.{Filling, Spelling, Calling}

-- The word may answer the event: one of 64 threads was started, or none.
abbrev pub CanAnswer : Ask → ℕ → Type 0
CanAnswer (Create function argument) word = word < 64
CanAnswer _ word = Unit {0}

-- a function is entered only where fewer frames stand than there can be
abbrev pub HasRoom : Ask → (frames : ℕ) → Type 0
HasRoom (Enter function site) frames = frames < frame_limit
HasRoom _ frames = Unit {0}

-- how many frames stand after an event, where so many stood before
abbrev pub frame_count : Ask → (frames : ℕ) → ℕ
frame_count (Enter function site) frames = suc frames
frame_count Leave frames = frames - 1
frame_count _ frames = frames

-- the addresses of a stage are those of objects, and its threads those that there can be
abbrev pub IsLowStage : Stage → Type 0
IsLowStage (MarkLive at words) = at < halt
IsLowStage (ReadHeader at) = at < halt
IsLowStage (MarkFreed at words) = at < halt
IsLowStage (TellThread at child) = at < halt
IsLowStage (TryJoin child to) = child < 64
IsLowStage (AwaitJoin child to) = child < 64
IsLowStage (ReadResult child to) = child < 64
IsLowStage (WriteResult at word) = at < halt
IsLowStage (TryLock at) = at < halt
IsLowStage (AwaitLock at) = at < halt
IsLowStage (Unlock at) = at < halt
IsLowStage (ReadText at) = at < halt
IsLowStage _ = Unit {0}

-- an offset in a frame, of instructions too
abbrev pub IsOffset : ℕ → Type 0
IsOffset offset = offset ≤ 2 ^ 20

-- so far from their start the characters of a text stand in the code's texts
abbrev pub IsTextPlace : (at moved : ℕ) → Type 0
IsTextPlace at moved = at ≤ 2 ^ 31 + moved

-- A word is stored at an offset only where it stands below the halt word, so offsets stay low, and with them the places of characters.
abbrev pub IsLowMode : Mode → Type 0
IsLowMode (Filling offset word count) = IsOffset offset
IsLowMode (Spelling offset at count) = IsOffset offset × IsTextPlace at offset
IsLowMode (Calling stage) = IsLowStage stage
IsLowMode _ = Unit {0}

abbrev pub AreLow : List Caller → Type 0
AreLow [] = Unit {0}
AreLow (caller ∷ callers) = (caller.base ≤ stack_words) × AreLow callers

-- what is true of each thread
pub record IsThread (t : Machine) : Type 0 where
  pub number : t.number < 64
  pub base : t.base ≤ stack_words
  pub top : t.top ≤ stack_words
  pub callers : AreLow t.callers
  pub mode : IsLowMode t.mode
