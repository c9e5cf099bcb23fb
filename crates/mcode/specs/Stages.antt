-- Calls of library functions, stage by stage: what each asks, and what follows the answer (C17 7.22.3, 7.21.7, 7.22.4 and 7.22.6.1, POSIX for
-- threads and `usleep`; the events, and that a call is tried again and again, are this project's own).
use Rattle.std.specs.Prelude.{ℕ, ◌+◌, ◌-◌, ◌*◌, ◌%◌, ◌^◌, nat_eq, nat_lt, if◌then◌else◌, List, [], ◌∷◌, Option, Some, None, Result, Ok, Err, slice_get, slice_index_or}
use Rattle.core_unit.specs.Words.{packed}
use Rattle.core_unit.specs.declared.words.Word.{Word}
use Rattle.core_unit.specs.declared.words.Word.TheVariants.{Zero, Number, DataPointer, FunctionPointer, Mutex, Live, Freed}
use Rattle.arithmetic.specs.Operators.{absolute}
use Rattle.arithmetic.specs.Values.{number, bits_in}
use Rattle.arithmetic.specs.declared.traps.TrapKind.{TrapKind}
use Rattle.arithmetic.specs.declared.traps.TrapKind.TheVariants.{NullCall, BadAccess, BadWord, BadFree, BadUnlock, Abort}
use Rattle.mcode.specs.Memory.{halt, break_word, done_of, result_of}
use Rattle.mcode.specs.Words.{unpacked, accessed}
use Rattle.mcode.specs.declared.events.Ask.{Ask}
use Rattle.mcode.specs.declared.events.Ask.TheVariants.{Load, Store, Exchange, FetchAdd, FetchSub, Create, Out}
use Rattle.mcode.specs.declared.events.Turned.{Turned}
use Rattle.mcode.specs.declared.events.Turned.TheVariants.{Went, FailedTry}
use Rattle.mcode.specs.declared.stages.Stage.{Stage}
use Rattle.mcode.specs.declared.stages.Stage.TheVariants.{TakeBlock, ReturnBlock, MarkLive, ReadHeader, MarkFreed, CreateThread, TellThread, TryJoin, AwaitJoin, ReadResult, WriteResult, TryLock, AwaitLock, Unlock, ReadText, WriteText, EndText, WriteByte}

-- how a call goes on
pub data Staged : Type 0 where
  Onto : Stage → Staged
  -- after a try that failed
  Again : Stage → Staged
  -- it is done, with this value, which is zero where the function gives none
  Gives : Word → Staged
  Traps : TrapKind → Staged
  -- the thread exits with a status of these bits
  Exits : ℕ → Staged
  -- the thread saw that all threads are to halt
  Halts : Staged

-- at the address that was found
abbrev pub at_found : Result ℕ TrapKind → (ℕ → Staged) → Staged
at_found (Ok at) go = go at
at_found (Err kind) go = Traps kind

-- through a pointer to an object
abbrev pub through : Word → (ℕ → Staged) → Staged
through pointer go = at_found (accessed pointer) go

-- A value that was held, which counts from the latest.
abbrev pub held_at : List Word → ℕ → Word
held_at held place = slice_index_or held place Zero

-- what a call begins with, by the values of its arguments, the last one first

-- `malloc` and `calloc`, of so many words
abbrev pub takes_block : ℕ → Staged
takes_block words = if nat_lt words (2 ^ 32) then Onto (TakeBlock words) else Gives Zero

-- The header stands before the block. No pointer that a run makes is above 2^20, so the test is for states that no run comes to.
abbrev pub frees : Word → Staged
frees Zero = Gives Zero
frees (DataPointer at) = if nat_lt (at - 1) halt then Onto (ReadHeader (at - 1)) else Traps BadAccess
frees _ = Traps BadFree

abbrev pub creates : (to function argument : Word) → Staged
creates to (FunctionPointer function level) argument = Onto (CreateThread to function (packed argument))
creates to _ argument = Traps NullCall

-- one of 64 threads is waited for; for another number the call gives ESRCH, which is 3
abbrev pub joins : (thread : ℕ) → (to : Word) → Staged
joins thread to = if nat_lt thread 64 then Onto (TryJoin thread to) else Gives (Number 3)

abbrev pub gives_absolute : Result ℕ TrapKind → Staged
gives_absolute (Ok bits) = Gives (number bits)
gives_absolute (Err kind) = Traps kind

-- the functions in the order of the library table
abbrev pub row_begins : List (List Word → Staged)
row_begins =
    (λ held. takes_block (bits_in (held_at held 0)))  -- malloc
    ∷ (λ held. takes_block (bits_in (held_at held 1) * bits_in (held_at held 0)))  -- calloc
    ∷ (λ held. frees (held_at held 0))  -- free
    ∷ (λ held. creates (held_at held 3) (held_at held 1) (held_at held 0))  -- pthread_create, whose second argument is ignored
    ∷ (λ held. joins (bits_in (held_at held 1)) (held_at held 0))  -- pthread_join
    ∷ (λ held. through (held_at held 0) (λ at. Onto (TryLock at)))  -- pthread_mutex_lock
    ∷ (λ held. through (held_at held 0) (λ at. Onto (Unlock at)))  -- pthread_mutex_unlock
    ∷ (λ held. Gives Zero)  -- usleep
    ∷ (λ held. through (held_at held 0) (λ at. Onto (ReadText at)))  -- puts
    ∷ (λ held. Onto (WriteByte (bits_in (held_at held 0) % 256)))  -- putchar
    ∷ (λ held. gives_absolute (absolute (bits_in (held_at held 0))))  -- abs
    ∷ (λ held. Gives Zero)  -- __rtsan_disable
    ∷ (λ held. Gives Zero)  -- __rtsan_enable
    ∷ (λ held. Exits (bits_in (held_at held 0)))  -- exit
    ∷ (λ held. Traps Abort)  -- abort
    ∷ []

abbrev pub begins_by : Option (List Word → Staged) → List Word → Staged
begins_by (Some begins) held = begins held
begins_by None held = Traps NullCall

-- A call of the function of a row, which counts from 0 (there is no other row).
abbrev pub call_begins : (row : ℕ) → List Word → Staged
call_begins row held = begins_by (slice_get row_begins row) held

-- The event of a stage, in the thread of this number.
abbrev pub stage_asks : (thread : ℕ) → Stage → Ask
stage_asks thread (TakeBlock words) = FetchAdd break_word (words + 1)
stage_asks thread (ReturnBlock words) = FetchSub break_word (words + 1)
stage_asks thread (MarkLive at words) = Store at (packed (Live words))
stage_asks thread (ReadHeader at) = Load at
stage_asks thread (MarkFreed at words) = Exchange at (packed (Live words)) (packed (Freed words))
stage_asks thread (CreateThread to function argument) = Create function argument
stage_asks thread (TellThread at child) = Store at (packed (number child))
stage_asks thread (TryJoin child to) = Load (done_of child)
stage_asks thread (AwaitJoin child to) = Load halt
stage_asks thread (ReadResult child to) = Load (result_of child)
stage_asks thread (WriteResult at word) = Store at word
stage_asks thread (TryLock at) = Exchange at 0 (packed (Mutex thread))
stage_asks thread (AwaitLock at) = Load halt
stage_asks thread (Unlock at) = Exchange at (packed (Mutex thread)) 0
stage_asks thread (ReadText at) = Load at
stage_asks thread (WriteText at byte) = Out byte
stage_asks thread EndText = Out 10
stage_asks thread (WriteByte byte) = Out byte

-- a halt word that isn't 0 ends the thread
abbrev pub unless_halted : ℕ → Staged → Staged
unless_halted word on = if nat_eq word 0 then on else Halts

-- a block that was taken at this address, where the heap has room for it
abbrev pub took : (at words : ℕ) → Staged
took at words = if nat_lt (2 ^ 20) (at + words + 1) then Onto (ReturnBlock words) else Onto (MarkLive at words)

abbrev pub frees_block : ℕ → Option Word → Staged
frees_block at (Some (Live words)) = Onto (MarkFreed at words)
frees_block at _ = Traps BadFree

-- a thread that was started has a number; where none was, the call gives EAGAIN, which is 11
abbrev pub created : (child : ℕ) → (to : Word) → Staged
created child to = if nat_eq child 0 then Gives (Number 11) else through to (λ at. Onto (TellThread at child))

abbrev pub joined : (child : ℕ) → (to : Word) → Staged
joined child Zero = Gives Zero
joined child to = Onto (ReadResult child to)

-- what stood where a mutex is to be locked
abbrev pub locked : ℕ → Option Word → Staged
locked at (Some Zero) = Gives Zero
locked at (Some (Mutex holder)) = Again (AwaitLock at)
locked at _ = Traps BadWord

-- The characters of a text are of type `char`, and zero ends it.
abbrev pub read_text : ℕ → Option Word → Staged
read_text at (Some Zero) = Onto EndText
read_text at (Some (Number bits)) = Onto (WriteText at (bits % 256))
read_text at _ = Traps BadWord

-- What follows a stage, in the thread of this number, by the answer.
abbrev pub stage_after : (thread : ℕ) → Stage → (answer : ℕ) → Staged
stage_after thread (TakeBlock words) answer = took answer words
stage_after thread (ReturnBlock words) answer = Gives Zero
stage_after thread (MarkLive at words) answer = Gives (DataPointer (at + 1))
stage_after thread (ReadHeader at) answer = frees_block at (unpacked answer)
stage_after thread (MarkFreed at words) answer = if nat_eq answer (packed (Live words)) then Gives Zero else Traps BadFree
stage_after thread (CreateThread to function argument) answer = created answer to
stage_after thread (TellThread at child) answer = Gives Zero
stage_after thread (TryJoin child to) answer = if nat_eq answer 0 then Again (AwaitJoin child to) else joined child to
stage_after thread (AwaitJoin child to) answer = unless_halted answer (Onto (TryJoin child to))
stage_after thread (ReadResult child to) answer = through to (λ at. Onto (WriteResult at answer))
stage_after thread (WriteResult at word) answer = Gives Zero
stage_after thread (TryLock at) answer = locked at (unpacked answer)
stage_after thread (AwaitLock at) answer = unless_halted answer (Onto (TryLock at))
stage_after thread (Unlock at) answer = if nat_eq answer (packed (Mutex thread)) then Gives Zero else Traps BadUnlock
stage_after thread (ReadText at) answer = read_text at (unpacked answer)
stage_after thread (WriteText at byte) answer = if nat_lt (at + 1) halt then Onto (ReadText (at + 1)) else Traps BadAccess
stage_after thread EndText answer = Gives Zero
stage_after thread (WriteByte byte) answer = Gives (number byte)

-- whether the answer made the event a failed try
abbrev pub turned_to : Staged → Turned
turned_to (Again stage) = FailedTry
turned_to _ = Went
