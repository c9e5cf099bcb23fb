-- The plain machine: what its instructions do, one line each (this project's own rule).
use Rattle.std.specs.Prelude.{ℕ, zero, suc, ◌+◌, ◌==◌, List, [], ◌∷◌, length, Option, Some, None, Result, Ok, Err, slice_get, nat_lt, if◌then◌else◌}
use Rattle.built_code.specs.declared.code.Instruction.{Instruction}
use Rattle.built_code.specs.declared.code.Instruction.TheVariants.{CheckHalt, EnterFunction, ReachFunction, SetValue, LeaveFunction, FailWith}
use Rattle.built_code.specs.declared.events.TrapKind.{TrapKind}
use Rattle.built_code.specs.declared.events.TrapKind.TheVariants.{NullCall, StackOverflow, NoValue}
use Rattle.built_code.specs.declared.events.Ask.{Ask}
use Rattle.built_code.specs.declared.events.Ask.TheVariants.{Load, Store, Enter, Leave, Reach, Trap}
use Rattle.built_code.specs.declared.events.Finish.TheVariants.{Returned, Exited, Trapped, Halted}
use Rattle.built_code.specs.declared.frames.Frame.{Frame}
use Rattle.built_code.specs.declared.thread.Mode.{Mode}
use Rattle.built_code.specs.declared.thread.Mode.TheVariants.{Starting, Entering, Running, Failing, Giving, Telling, Stopping, Done}
use Rattle.built_code.specs.Words.{halt, done_of, result_of, number_word, signed_number}
use Rattle.built_code.specs.Steps.{Step, Quiet, Makes, Ends, asked, answered}

-- code: its instructions, for each function the pc (the number in the code) of its first one, and the entry function
pub record Program : Type 0 where
  pub instructions : List Instruction
  pub entries : List (Option ℕ)
  pub entry : ℕ

-- a thread: its number, its pc (the number of its next instruction), its value, its frames, the latest first, and what it is at
pub record Machine : Type 0 where
  pub number : ℕ
  pub pc : ℕ
  pub value : ℕ
  pub frames : List Frame
  pub mode : Mode

-- at most so many frames stand
abbrev pub frame_limit : ℕ
frame_limit = 256

abbrev pub flattened : Option (Option ℕ) → Option ℕ
flattened None = None
flattened (Some pc) = pc

-- where the code of a function begins; none where it has no definition
abbrev pub entry_of : Program → ℕ → Option ℕ
entry_of c function = flattened (slice_get c.entries function)

-- the pc to go to, or why there is none
abbrev pub entry_or_trap : Option ℕ → Result ℕ TrapKind
entry_or_trap None = Err NullCall
entry_or_trap (Some pc) = Ok pc

-- the way into a function: its first instruction, where a frame has room
abbrev pub way_in : Program → Machine → ℕ → Result ℕ TrapKind
way_in c t function =
    if nat_lt (length t.frames) frame_limit then entry_or_trap (entry_of c function) else Err StackOverflow

abbrev pub enters : Machine → (function site back : ℕ) → Result ℕ TrapKind → Step Machine
enters t function site back (Ok pc) =
    Makes (Enter function site) (λ _. record t { pc = pc; frames = record { back = back; site = site } ∷ t.frames; mode = Running })
enters t function site back (Err kind) = Quiet (record t { mode = Failing kind })

-- a halt word that isn't 0 ends the thread; else it goes on so
abbrev pub unless_halted : Machine → ℕ → Machine → Machine
unless_halted t word on = if word == 0 then on else record t { mode = Done Halted }

-- the site from which the latest frame was entered
abbrev pub site_on_top : List Frame → ℕ
site_on_top [] = 0
site_on_top (frame ∷ frames) = frame.site

-- what a thread is at when its first function is left: thread 0 exits, another one gives its result
abbrev pub left_by : Machine → Mode
left_by t = if t.number == 0 then Stopping (Exited (signed_number t.value)) else Giving

-- the latest frame goes, and the thread with the last one
abbrev pub leaves : Machine → List Frame → Machine
leaves t [] = record t { mode = left_by t }
leaves t (frame ∷ []) = record t { frames = []; mode = left_by t }
leaves t (frame ∷ below ∷ frames) = record t { pc = frame.back; frames = below ∷ frames }

-- what an instruction does; past the last one nothing has a value
abbrev pub does : Program → Machine → Option Instruction → Step Machine
does c t (Some CheckHalt) = Makes (Load halt) (λ word. unless_halted t word (record t { pc = t.pc + 1 }))
does c t (Some (EnterFunction function site)) = enters t function site (t.pc + 1) (way_in c t function)
does c t (Some (ReachFunction function)) =
    Makes (Reach function (site_on_top t.frames)) (λ _. record t { pc = t.pc + 1 })
does c t (Some (SetValue number)) = Quiet (record t { pc = t.pc + 1; value = number })
does c t (Some LeaveFunction) = Makes Leave (λ _. leaves t t.frames)
does c t (Some (FailWith kind)) = Quiet (record t { mode = Failing kind })
does c t None = Quiet (record t { mode = Failing NoValue })

-- what a thread does, by what it is at
abbrev pub moves : Program → Machine → Mode → Step Machine
moves c t (Starting function) = Makes (Load halt) (λ word. unless_halted t word (record t { mode = Entering function }))
moves c t (Entering function) = enters t function 0 0 (way_in c t function)
moves c t Running = does c t (slice_get c.instructions t.pc)
moves c t (Failing kind) = Makes (Trap kind) (λ _. record t { mode = Stopping (Trapped kind) })
moves c t Giving = Makes (Store (result_of t.number) (number_word t.value)) (λ _. record t { mode = Telling })
moves c t Telling = Makes (Store (done_of t.number) 1) (λ _. record t { mode = Done Returned })
moves c t (Stopping finish) = Makes (Store halt 1) (λ _. record t { mode = Done finish })
moves c t (Done finish) = Ends finish

abbrev pub move : Program → Machine → Step Machine
move c t = moves c t t.mode

-- where a step is quiet the thread goes on, and else it stays
abbrev pub stays : (Machine → Machine) → Machine → Step Machine → Machine
stays go t (Quiet next) = go next
stays go t (Makes event after) = t
stays go t (Ends finish) = t

-- the quiet instructions that come next, at most so many
abbrev pub park : Program → ℕ → Machine → Machine
park c zero t = t
park c (suc n) t = stays (park c n) t (move c t)

-- the next event of a thread, or its finish
abbrev pub machine_next : Program → Machine → Ask
machine_next c t = asked (move c t)

-- the thread after that event, answered by this word: quiet instructions are run until an event comes
abbrev pub machine_after : Program → Machine → ℕ → Machine
machine_after c t word = park c (length c.instructions + 2) (answered (move c t) t word)

-- a thread at its start, before the first function is entered
abbrev pub started : (number function : ℕ) → Machine
started number function =
    record { number = number; pc = 0; value = 0; frames = []; mode = Starting function }

-- a thread that is cut short: the store of halt is the one event left
abbrev pub cut_short : Machine → Machine
cut_short t = record t { mode = Stopping Halted }
