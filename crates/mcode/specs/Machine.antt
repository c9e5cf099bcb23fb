-- The plain machine: what its instructions do, one line each (this project's own rules; each does what a part of the evaluation of a C program does).
use Rattle.std.specs.Prelude.{ℕ, zero, suc, ◌+◌, Bool, true, false, not, ◌&&◌, nat_eq, nat_lt, nat_le, if◌then◌else◌, List, [], ◌∷◌, length, drop, map, reverse, Option, Some, None, Result, Ok, Err, ℤ, pos, slice_get, slice_index}
use Rattle.std.specs.Option.{option_map_or}
use Rattle.arithmetic.specs.Numbers.{value_of}
use Rattle.arithmetic.specs.Operators.{truth}
use Rattle.arithmetic.specs.Values.{applied, applied_to, member_of, is_true, number, bits_in}
use Rattle.arithmetic.specs.declared.traps.TrapKind.{TrapKind}
use Rattle.arithmetic.specs.declared.traps.TrapKind.TheVariants.{BadWord, NullCall, StackOverflow, NoreturnReturned, NoValue}
use Rattle.core_unit.specs.Units.{row_target}
use Rattle.core_unit.specs.Words.{packed}
use Rattle.core_unit.specs.declared.operators.Sign.TheVariants.{Signed}
use Rattle.core_unit.specs.declared.operators.StepValue.{StepValue}
use Rattle.core_unit.specs.declared.operators.StepValue.TheVariants.{Prefix, Postfix}
use Rattle.core_unit.specs.declared.words.Word.{Word}
use Rattle.core_unit.specs.declared.words.Word.TheVariants.{Zero, Number, DataPointer, FunctionPointer}
use Rattle.eff_types.specs.Effects.{is_below}
use Rattle.eff_types.specs.declared.levels.Level.{Level}
use Rattle.eff_types.specs.declared.levels.Level.TheVariants.{Plain}
use Rattle.mcode.specs.Memory.{halt, done_of, result_of, region_of, stack_of, frame_limit, stack_words, held_limit}
use Rattle.mcode.specs.Stages.{Staged, Onto, Again, Gives, Traps, Exits, Halts, held_at, call_begins, stage_asks, stage_after, turned_to}
use Rattle.mcode.specs.Steps.{Step, Quiet, Makes, Ends, asks, does, asked, answered, turned_by}
use Rattle.mcode.specs.Words.{unpacked, accessed, argument}
use Rattle.mcode.specs.declared.code.Entry.{Entry}
use Rattle.mcode.specs.declared.code.Instruction.{Instruction}
use Rattle.mcode.specs.declared.code.Instruction.TheVariants as instruction
use Rattle.mcode.specs.declared.code.Served.{Served}
use Rattle.mcode.specs.declared.code.Served.TheVariants as served
use Rattle.mcode.specs.declared.events.Ask.{Ask}
use Rattle.mcode.specs.declared.events.Ask.TheVariants.{Load, Store, Enter, Leave, Reach, Trap}
use Rattle.mcode.specs.declared.events.Finish.TheVariants.{Returned, Exited, Trapped, Halted}
use Rattle.mcode.specs.declared.events.Turned.{Turned}
use Rattle.mcode.specs.declared.thread.Caller.{Caller}
use Rattle.mcode.specs.declared.thread.Mode.{Mode}
use Rattle.mcode.specs.declared.thread.Mode.TheVariants.{Starting, Entering, Running, Filling, Spelling, Calling, Failing, Delivering, Telling, Stopping, Done}

-- Code: its instructions; the characters of the strings that initialize block variables, by their bytes; what it knows of each function that is
-- defined, by its number; the entry function; how many words static storage has.
pub record Program : Type 0 where
  pub instructions : List Instruction
  pub texts : List ℕ
  pub entries : List (Option Entry)
  pub entry : ℕ
  pub static_words : ℕ

-- A thread: its number, the place of its next instruction, the value, the held values and the functions that it is in, the latest first, where the
-- frame of the latest stands on the stack and where the next one would, and what the thread is at.
pub record Machine : Type 0 where
  pub number : ℕ
  pub pc : ℕ
  pub value : Word
  pub held : List Word
  pub callers : List Caller
  pub base : ℕ
  pub top : ℕ
  pub mode : Mode

abbrev pub entry_in : Option (Option Entry) → Option Entry
entry_in (Some entry) = entry
entry_in None = None

-- what is known of a function; none where it isn't defined
abbrev pub entry_of : Program → ℕ → Option Entry
entry_of c function = entry_in (slice_get c.entries function)

-- the value, and on with the next instruction
abbrev pub gives : Machine → Word → Step Machine
gives t value = Quiet (record t { pc = suc t.pc; value = value })

abbrev pub goes : Machine → (place : ℕ) → Step Machine
goes t place = Quiet (record t { pc = place })

abbrev pub failing : Machine → TrapKind → Machine
failing t kind = record t { mode = Failing kind }

abbrev pub fails : Machine → TrapKind → Step Machine
fails t kind = Quiet (failing t kind)

abbrev pub finds : Machine → Result Word TrapKind → Step Machine
finds t (Ok value) = gives t value
finds t (Err kind) = fails t kind

abbrev pub finds_of_held : Machine → Result Word TrapKind → Step Machine
finds_of_held t (Ok value) = Quiet (record t { pc = suc t.pc; value = value; held = drop 1 t.held })
finds_of_held t (Err kind) = fails t kind

-- an access at the address that was found
abbrev pub accesses_at : Machine → Result ℕ TrapKind → (ℕ → Step Machine) → Step Machine
accesses_at t (Ok at) go = go at
accesses_at t (Err kind) go = fails t kind

-- through a pointer
abbrev pub accesses : Machine → Word → (ℕ → Step Machine) → Step Machine
accesses t pointer go = accesses_at t (accessed pointer) go

-- a word for a function serves a load of pointers to functions of its type's number, at most at its level
abbrev pub serves_function : Option Entry → Level → Served → Bool
serves_function (Some entry) level (served.FunctionPointer signature least) = nat_eq entry.signature signature && not (is_below level least)
serves_function _ level _ = false

abbrev pub is_number_served : Served → Bool
is_number_served served.Number = true
is_number_served _ = false

abbrev pub is_pointer_served : Served → Bool
is_pointer_served served.DataPointer = true
is_pointer_served _ = false

abbrev pub serves_at : Program → Served → Word → Bool
serves_at c kind Zero = true
serves_at c kind (Number bits) = is_number_served kind
serves_at c kind (DataPointer at) = is_pointer_served kind
serves_at c kind (FunctionPointer function level) = serves_function (entry_of c function) level kind
serves_at c kind _ = false

-- the thread with the word that it loaded, or trapped
abbrev pub serve : Program → Machine → Served → Option Word → Machine
serve c t kind (Some word) = if serves_at c kind word then record t { pc = suc t.pc; value = word } else failing t BadWord
serve c t kind None = failing t BadWord

-- a pointer to a function is stored at the level of the store
abbrev pub written_at : Level → Word → Word
written_at level (FunctionPointer function own) = FunctionPointer function level
written_at level word = word

-- a halt word that isn't 0 ends the thread; else it goes on so
abbrev pub unless_halted : Machine → ℕ → Machine → Machine
unless_halted t word on = if nat_eq word 0 then on else record t { mode = Done Halted }

abbrev pub local_address : Program → Machine → ℕ → ℕ
local_address c t offset = stack_of c.static_words t.number + t.base + offset

-- a word is stored at an offset of the frame, and then the thread goes on so
abbrev pub puts : Program → Machine → (offset : ℕ) → (word : ℕ) → Machine → Step Machine
puts c t offset word on = accesses t (DataPointer (local_address c t offset)) (λ at. does (Store at word) on)

abbrev pub filling : (offset word left : ℕ) → Mode
filling offset word zero = Running
filling offset word (suc left) = Filling offset word (suc left)

-- a word is stored so many times
abbrev pub fills : Program → Machine → (offset word count : ℕ) → Step Machine
fills c t offset word zero = Quiet (record t { mode = Running })
fills c t offset word (suc left) = puts c t offset word (record t { mode = filling (suc offset) word left })

abbrev pub spelling : (offset at left : ℕ) → Mode
spelling offset at zero = Running
spelling offset at (suc left) = Spelling offset at (suc left)

-- so many characters are stored, of which the first one is this one of the texts
abbrev pub spells : Program → Machine → (offset at count : ℕ) → Step Machine
spells c t offset at zero = Quiet (record t { mode = Running })
spells c t offset at (suc left) =
    puts c t offset (packed (number (slice_index c.texts at))) (record t { mode = spelling (suc offset) (suc at) left })

abbrev pub has_room : Machine → Entry → Bool
has_room t entry = nat_lt (length t.callers) frame_limit && nat_le (t.top + entry.frame_words) stack_words

-- a function is entered, where it is defined and its frame has room
abbrev pub enters : Machine → (function site back more : ℕ) → Option Entry → Step Machine
enters t function site back more None = fails t NullCall
enters t function site back more (Some entry) =
    if has_room t entry then does (Enter function site) (record t {
      pc = entry.place;
      callers = record { function = function; site = site; back = back; base = t.base; more = more } ∷ t.callers;
      base = t.top;
      top = t.top + entry.frame_words;
      mode = Running;
    }) else fails t StackOverflow

abbrev pub enters_through : Program → Machine → Word → (site : ℕ) → Step Machine
enters_through c t (FunctionPointer function level) site = enters t function site (suc t.pc) 1 (entry_of c function)
enters_through c t _ site = fails t NullCall

abbrev pub site_on_top : List Caller → ℕ
site_on_top [] = 0
site_on_top (caller ∷ callers) = caller.site

abbrev pub more_on_top : List Caller → ℕ
more_on_top [] = 0
more_on_top (caller ∷ callers) = caller.more

-- what is known of the function that the thread is in
abbrev pub entry_on_top : Program → List Caller → Option Entry
entry_on_top c [] = None
entry_on_top c (caller ∷ callers) = entry_of c caller.function

-- the status that a thread exits with when its first function is left
abbrev pub status_of : Option Entry → Word → ℤ
status_of (Some entry) value = if entry.gives_number then value_of Signed (bits_in value) else pos 0
status_of None value = pos 0

-- the first function, this one, was left: thread 0 exits, another thread returns
abbrev pub left : Program → Machine → (function : ℕ) → Mode
left c t function = if nat_eq t.number 0 then Stopping (Exited (status_of (entry_of c function) t.value)) else Delivering function

-- the latest function is left, and the thread with the first one
abbrev pub leaves : Program → Machine → List Caller → Machine
leaves c t [] = failing t NoValue
leaves c t (caller ∷ []) = record t { callers = []; base = caller.base; top = t.base; mode = left c t caller.function }
leaves c t (caller ∷ below ∷ callers) = record t { pc = caller.back; callers = below ∷ callers; base = caller.base; top = t.base }

-- the value of `++` or `--`, of the new value and the old one (C17 6.5.2.4, 6.5.3.1)
abbrev pub value_of_step : StepValue → (new old : Word) → Word
value_of_step Prefix new old = new
value_of_step Postfix new old = old

-- how a library call goes on
abbrev pub staged : Machine → Staged → Machine
staged t (Onto stage) = record t { mode = Calling stage }
staged t (Again stage) = record t { mode = Calling stage }
staged t (Gives value) = record t { value = value; mode = Running }
staged t (Traps kind) = failing t kind
staged t (Exits bits) = record t { mode = Stopping (Exited (value_of Signed bits)) }
staged t Halts = record t { mode = Done Halted }

-- What an instruction does. Behind the last one nothing has a value.
abbrev pub act : Program → Machine → Instruction → Step Machine
act c t (instruction.SetValue word) = gives t word
act c t (instruction.SetLocal offset) = gives t (DataPointer (local_address c t offset))
act c t (instruction.SetThreadLocal offset) = gives t (DataPointer (region_of c.static_words t.number + offset))
act c t instruction.HoldValue =
    if nat_lt (length t.held) held_limit then Quiet (record t { pc = suc t.pc; held = t.value ∷ t.held }) else fails t StackOverflow
act c t (instruction.LoadAs kind) = accesses t t.value (λ at. asks (Load at) (λ word. serve c t kind (unpacked word)))
act c t (instruction.StoreAs level) =
    accesses t (held_at t.held 0) (λ at. does (Store at (packed (written_at level t.value))) (record t { pc = suc t.pc; held = drop 1 t.held }))
act c t (instruction.Change operator) = finds t (applied_to operator t.value)
act c t (instruction.Apply operation) = finds_of_held t (applied operation (held_at t.held 0) t.value)
act c t (instruction.Advance operation) = finds t (applied operation (held_at t.held 0) (Number 1))
act c t (instruction.StoreStep level which) =
    accesses t (held_at t.held 1) (λ at. does (Store at (packed (written_at level t.value)))
    (record t { pc = suc t.pc; value = value_of_step which t.value (held_at t.held 0); held = drop 2 t.held }))
act c t (instruction.Shift offset) = finds t (member_of offset t.value)
act c t instruction.Truth = gives t (number (truth (is_true t.value)))
act c t (instruction.GoTo place) = goes t place
act c t (instruction.GoIfZero place) = goes t (if is_true t.value then suc t.pc else place)
act c t (instruction.GoIfNotZero place) = goes t (if is_true t.value then place else suc t.pc)
act c t (instruction.Fill offset word count) = fills c (record t { pc = suc t.pc }) offset word count
act c t (instruction.FillText offset at count) = spells c (record t { pc = suc t.pc }) offset at count
act c t (instruction.Put offset level) = puts c t offset (packed (written_at level t.value)) (record t { pc = suc t.pc })
act c t (instruction.Guard count) = if is_true (held_at t.held count) then goes t (suc t.pc) else fails t NullCall
act c t instruction.CheckHalt = asks (Load halt) (λ word. unless_halted t word (record t { pc = suc t.pc }))
act c t (instruction.EnterFunction function site) = enters t function site (suc t.pc) 0 (entry_of c function)
act c t (instruction.EnterThrough count site) = enters_through c t (held_at t.held count) site
act c t (instruction.ReachFunction function) = does (Reach function (site_on_top t.callers)) (record t { pc = suc t.pc })
act c t (instruction.Bind offset back level) = puts c t offset (packed (written_at level (held_at t.held back))) (record t { pc = suc t.pc })
act c t (instruction.Forget count) = Quiet (record t { pc = suc t.pc; held = drop (count + more_on_top t.callers) t.held })
act c t (instruction.CallRow row site count) =
    does (Reach (row_target row) site) (staged (record t { pc = suc t.pc; held = drop count t.held }) (call_begins row t.held))
act c t instruction.FallOff = if option_map_or (λ entry. entry.falls) (entry_on_top c t.callers) false then gives t Zero else fails t NoValue
act c t instruction.LeaveFunction =
    if option_map_or (λ entry. entry.noreturn) (entry_on_top c t.callers) false then fails t NoreturnReturned else does Leave (leaves c t t.callers)
act c t (instruction.FailWith kind) = fails t kind

abbrev pub acts : Program → Machine → Option Instruction → Step Machine
acts c t (Some i) = act c t i
acts c t None = fails t NoValue

abbrev pub result_level_of : Option Entry → Level
result_level_of (Some entry) = entry.result_level
result_level_of None = Plain

-- What a thread does, by what it is at.
abbrev pub moves : Program → Machine → Mode → Step Machine
moves c t (Starting function) = asks (Load halt) (λ word. unless_halted t word (record t { mode = Entering function }))
moves c t (Entering function) = enters t function 0 0 0 (entry_of c function)
moves c t Running = acts c t (slice_get c.instructions t.pc)
moves c t (Filling offset word count) = fills c t offset word count
moves c t (Spelling offset at count) = spells c t offset at count
moves c t (Calling stage) =
    Makes (stage_asks t.number stage) (λ word. staged t (stage_after t.number stage word)) (λ word. turned_to (stage_after t.number stage word))
moves c t (Failing kind) = does (Trap kind) (record t { mode = Stopping (Trapped kind) })
moves c t (Delivering function) =
    does (Store (result_of t.number) (packed (written_at (result_level_of (entry_of c function)) t.value))) (record t { mode = Telling })
moves c t Telling = does (Store (done_of t.number) 1) (record t { mode = Done Returned })
moves c t (Stopping finish) = does (Store halt 1) (record t { mode = Done finish })
moves c t (Done finish) = Ends finish

abbrev pub move : Program → Machine → Step Machine
move c t = moves c t t.mode

-- where a step is quiet the thread goes on, and else it stays
abbrev pub stays : (Machine → Machine) → Machine → Step Machine → Machine
stays go t (Quiet next) = go next
stays go t (Makes event after turned) = t
stays go t (Ends finish) = t

-- the quiet instructions that come next, at most so many
abbrev pub park : Program → ℕ → Machine → Machine
park c zero t = t
park c (suc n) t = stays (park c n) t (move c t)

-- The next event of a thread, or its finish. A thread is always parked at one.
abbrev pub machine_next : Program → Machine → Ask
machine_next c t = asked (move c t)

-- the thread after that event, answered by this word: quiet instructions are done until an event comes
abbrev pub machine_after : Program → Machine → ℕ → Machine
machine_after c t word = park c (length c.instructions + 2) (answered (move c t) t word)

-- whether the event was then a failed try
abbrev pub machine_turned : Program → Machine → ℕ → Turned
machine_turned c t word = turned_by (move c t) word

-- a thread at its start, before its first function is entered
abbrev pub machine_start : (number function : ℕ) → (arguments : List ℕ) → Machine
machine_start thread function arguments = record {
  number = thread;
  pc = 0;
  value = Zero;
  held = reverse (map (λ word. argument (unpacked word)) arguments);
  callers = [];
  base = 0;
  top = 0;
  mode = Starting function;
}

-- a thread that is cut short: the store of halt is the one event left
abbrev pub machine_cut : Machine → Machine
machine_cut t = record t { mode = Stopping Halted }
