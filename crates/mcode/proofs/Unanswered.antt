-- The word beside an event that nothing answers changes nothing.
use Rattle.std.proofs.Common.{◌≡◌, refl, ap, ℕ, zero, suc, ◌+◌, Bool, true, false, length, slice_get, Option, Some, None, Result, Ok, Err, if◌then◌else◌, nat_lt}
use Rattle.std.specs.Option.{option_map_or}
use Rattle.arithmetic.specs.Values.{applied, applied_to, member_of, is_true}
use Rattle.arithmetic.specs.declared.traps.TrapKind.{TrapKind}
use Rattle.arithmetic.specs.declared.traps.TrapKind.TheVariants.{NullCall, StackOverflow, NoreturnReturned, NoValue}
use Rattle.core_unit.specs.Words.{packed}
use Rattle.core_unit.specs.declared.words.Word.{Word}
use Rattle.core_unit.specs.declared.words.Word.TheVariants.{Zero, Number, DataPointer, FunctionPointer}
use Rattle.mcode.specs.Laws.{IgnoresUnanswered}
use Rattle.mcode.specs.Machine.{Program, Machine, accesses_at, finds, finds_of_held, fails, goes, gives, puts, filling, spelling, fills, spells, has_room, entry_of, entry_on_top, enters, enters_through, leaves, local_address, staged, written_at, act, acts, moves, move, park, serve}
use Rattle.mcode.specs.Memory.{held_limit}
use Rattle.mcode.specs.Stages.{held_at, stage_asks, stage_after, turned_to}
use Rattle.mcode.specs.Steps.{Step, Quiet, Makes, Ends, is_answered, asks, does, asked, answered, turned_by}
use Rattle.mcode.specs.Words.{accessed, unpacked}
use Rattle.mcode.specs.declared.code.Entry.{Entry}
use Rattle.mcode.specs.declared.code.Instruction.{Instruction}
use Rattle.mcode.specs.declared.code.Instruction.TheVariants as instruction
use Rattle.mcode.specs.declared.events.Ask.{Ask}
use Rattle.mcode.specs.declared.events.Ask.TheVariants.{Load, Store, Enter, Leave}
use Rattle.mcode.specs.declared.events.Turned.{Turned}
use Rattle.mcode.specs.declared.stages.Stage.{Stage}
use Rattle.mcode.specs.declared.stages.Stage.TheVariants.{TakeBlock, ReturnBlock, MarkLive, ReadHeader, MarkFreed, CreateThread, TellThread, TryJoin, AwaitJoin, ReadResult, WriteResult, TryLock, AwaitLock, Unlock, ReadText, WriteText, EndText, WriteByte}
use Rattle.mcode.specs.declared.thread.Mode.{Mode}
use Rattle.mcode.specs.declared.thread.Mode.TheVariants.{Starting, Entering, Running, Filling, Spelling, Calling, Failing, Delivering, Telling, Stopping, Done}

-- the word beside an event that nothing answers is ignored
abbrev pub IsIgnored : {S : Type 0} → Ask → (ℕ → S) → (ℕ → Turned) → Type 0
IsIgnored event after turned = is_answered event ≡ false → (word other : ℕ) → (after word ≡ after other) × (turned word ≡ turned other)

abbrev pub Ignores : {S : Type 0} → Step S → Type 0
Ignores (Quiet s) = Unit {0}
Ignores (Makes event after turned) = IsIgnored event after turned
Ignores (Ends finish) = Unit {0}

-- So it is of the event or the finish that a step shows.
pub same_answered : {S : Type 0} (made : Step S) (s : S) (word other : ℕ) → Ignores made → is_answered (asked made) ≡ false → (answered made s word ≡ answered made s other) × (turned_by made word ≡ turned_by made other)
same_answered (Quiet t) s word other ignores e = (refl, refl)
same_answered (Makes event after turned) s word other ignores e = ignores e word other
same_answered (Ends finish) s word other ignores e = (refl, refl)

-- Stages.

pub stage_ignores : (thread : ℕ) (stage : Stage) → is_answered (stage_asks thread stage) ≡ false → (word other : ℕ) → stage_after thread stage word ≡ stage_after thread stage other
stage_ignores thread (TakeBlock words) e word other = let clash : ⊥ = cc in absurd clash
stage_ignores thread (ReturnBlock words) e word other = refl
stage_ignores thread (MarkLive at words) e word other = refl
stage_ignores thread (ReadHeader at) e word other = let clash : ⊥ = cc in absurd clash
stage_ignores thread (MarkFreed at words) e word other = let clash : ⊥ = cc in absurd clash
stage_ignores thread (CreateThread to function argument) e word other = let clash : ⊥ = cc in absurd clash
stage_ignores thread (TellThread at child) e word other = refl
stage_ignores thread (TryJoin child to) e word other = let clash : ⊥ = cc in absurd clash
stage_ignores thread (AwaitJoin child to) e word other = let clash : ⊥ = cc in absurd clash
stage_ignores thread (ReadResult child to) e word other = let clash : ⊥ = cc in absurd clash
stage_ignores thread (WriteResult at stored) e word other = refl
stage_ignores thread (TryLock at) e word other = let clash : ⊥ = cc in absurd clash
stage_ignores thread (AwaitLock at) e word other = let clash : ⊥ = cc in absurd clash
stage_ignores thread (Unlock at) e word other = let clash : ⊥ = cc in absurd clash
stage_ignores thread (ReadText at) e word other = let clash : ⊥ = cc in absurd clash
stage_ignores thread (WriteText at byte) e word other = refl
stage_ignores thread EndText e word other = refl
stage_ignores thread (WriteByte byte) e word other = refl

-- Instructions.

chosen : {S : Type 0} (b : Bool) (x y : Step S) → Ignores x → Ignores y → Ignores (if b then x else y)
chosen true x y p q = p
chosen false x y p q = q

access_ignores : (t : Machine) (found : Result ℕ TrapKind) (go : ℕ → Step Machine) → ((at : ℕ) → Ignores (go at)) → Ignores (accesses_at t found go)
access_ignores t (Ok at) go on = on at
access_ignores t (Err kind) go on = tt

finds_ignores : (t : Machine) (found : Result Word TrapKind) → Ignores (finds t found)
finds_ignores t (Ok value) = tt
finds_ignores t (Err kind) = tt

held_ignores : (t : Machine) (found : Result Word TrapKind) → Ignores (finds_of_held t found)
held_ignores t (Ok value) = tt
held_ignores t (Err kind) = tt

puts_ignores : (c : Program) (t : Machine) (offset word : ℕ) (on : Machine) → Ignores (puts c t offset word on)
puts_ignores c t offset word on =
    access_ignores t (accessed (DataPointer (local_address c t offset))) (λ at. does (Store at word) on) (λ at e a b. (refl, refl))

fills_ignores : (c : Program) (t : Machine) (offset word count : ℕ) → Ignores (fills c t offset word count)
fills_ignores c t offset word zero = tt
fills_ignores c t offset word (suc left) = puts_ignores c t offset word (record t { mode = filling (suc offset) word left })

spells_ignores : (c : Program) (t : Machine) (offset at count : ℕ) → Ignores (spells c t offset at count)
spells_ignores c t offset at zero = tt
spells_ignores c t offset at (suc left) = puts_ignores c t offset _ (record t { mode = spelling (suc offset) (suc at) left })

enters_ignores : (t : Machine) (function site back more : ℕ) (found : Option Entry) → Ignores (enters t function site back more found)
enters_ignores t function site back more None = tt
enters_ignores t function site back more (Some entry) = chosen (has_room t entry) (does (Enter function site) _) (fails t StackOverflow) (λ e a b. (refl, refl)) tt

through_ignores : (c : Program) (t : Machine) (called : Word) (site : ℕ) → Ignores (enters_through c t called site)
through_ignores c t (FunctionPointer function level) site = enters_ignores t function site (suc t.pc) 1 (entry_of c function)
through_ignores c t _ site = tt

act_ignores : (c : Program) (t : Machine) (i : Instruction) → Ignores (act c t i)
act_ignores c t (instruction.SetValue word) = tt
act_ignores c t (instruction.SetLocal offset) = tt
act_ignores c t (instruction.SetThreadLocal offset) = tt
act_ignores c t instruction.HoldValue =
    chosen (nat_lt (length t.held) held_limit) (Quiet _) (fails t StackOverflow) tt tt
act_ignores c t (instruction.LoadAs kind) =
    access_ignores t (accessed t.value) (λ at. asks (Load at) (λ word. serve c t kind (unpacked word))) (λ at e a b. let clash : ⊥ = cc in absurd clash)
act_ignores c t (instruction.StoreAs level) =
    access_ignores t (accessed (held_at t.held 0)) (λ at. does (Store at (packed (written_at level t.value))) _) (λ at e a b. (refl, refl))
act_ignores c t (instruction.Change operator) = finds_ignores t (applied_to operator t.value)
act_ignores c t (instruction.Apply operation) = held_ignores t (applied operation (held_at t.held 0) t.value)
act_ignores c t (instruction.Advance operation) = finds_ignores t (applied operation (held_at t.held 0) (Number 1))
act_ignores c t (instruction.StoreStep level which) =
    access_ignores t (accessed (held_at t.held 1)) (λ at. does (Store at (packed (written_at level t.value))) _) (λ at e a b. (refl, refl))
act_ignores c t (instruction.Shift offset) = finds_ignores t (member_of offset t.value)
act_ignores c t instruction.Truth = tt
act_ignores c t (instruction.GoTo place) = tt
act_ignores c t (instruction.GoIfZero place) = tt
act_ignores c t (instruction.GoIfNotZero place) = tt
act_ignores c t (instruction.Fill offset word count) = fills_ignores c (record t { pc = suc t.pc }) offset word count
act_ignores c t (instruction.FillText offset at count) = spells_ignores c (record t { pc = suc t.pc }) offset at count
act_ignores c t (instruction.Put offset level) = puts_ignores c t offset (packed (written_at level t.value)) (record t { pc = suc t.pc })
act_ignores c t (instruction.Guard count) = chosen (is_true (held_at t.held count)) (goes t (suc t.pc)) (fails t NullCall) tt tt
act_ignores c t instruction.CheckHalt = λ e a b. let clash : ⊥ = cc in absurd clash
act_ignores c t (instruction.EnterFunction function site) = enters_ignores t function site (suc t.pc) 0 (entry_of c function)
act_ignores c t (instruction.EnterThrough count site) = through_ignores c t (held_at t.held count) site
act_ignores c t (instruction.ReachFunction function) = λ e a b. (refl, refl)
act_ignores c t (instruction.Bind offset back level) = puts_ignores c t offset (packed (written_at level (held_at t.held back))) (record t { pc = suc t.pc })
act_ignores c t (instruction.Forget count) = tt
act_ignores c t (instruction.CallRow row site count) = λ e a b. (refl, refl)
act_ignores c t instruction.FallOff =
    chosen (option_map_or (λ entry. entry.falls) (entry_on_top c t.callers) false) (gives t Zero) (fails t NoValue) tt tt
act_ignores c t instruction.LeaveFunction =
    chosen (option_map_or (λ entry. entry.noreturn) (entry_on_top c t.callers) false) (fails t NoreturnReturned) (does Leave (leaves c t t.callers)) tt (λ e a b. (refl, refl))
act_ignores c t (instruction.FailWith kind) = tt

acts_ignore : (c : Program) (t : Machine) (found : Option Instruction) → Ignores (acts c t found)
acts_ignore c t (Some i) = act_ignores c t i
acts_ignore c t None = tt

moves_ignore : (c : Program) (t : Machine) (mode : Mode) → Ignores (moves c t mode)
moves_ignore c t (Starting function) = λ e a b. let clash : ⊥ = cc in absurd clash
moves_ignore c t (Entering function) = enters_ignores t function 0 0 0 (entry_of c function)
moves_ignore c t Running = acts_ignore c t (slice_get c.instructions t.pc)
moves_ignore c t (Filling offset word count) = fills_ignores c t offset word count
moves_ignore c t (Spelling offset at count) = spells_ignores c t offset at count
moves_ignore c t (Calling stage) = λ e a b.
    let same = stage_ignores t.number stage e a b in (ap (staged t) same, ap turned_to same)
moves_ignore c t (Failing kind) = λ e a b. (refl, refl)
moves_ignore c t (Delivering function) = λ e a b. (refl, refl)
moves_ignore c t Telling = λ e a b. (refl, refl)
moves_ignore c t (Stopping finish) = λ e a b. (refl, refl)
moves_ignore c t (Done finish) = tt

pub ignores_unanswered : (c : Program) → IgnoresUnanswered c
ignores_unanswered c = record {
  states = λ t word other e. ap (park c (length c.instructions + 2)) (same_answered (move c t) t word other (moves_ignore c t t.mode) e).0;
  tries = λ t word other e. (same_answered (move c t) t word other (moves_ignore c t t.mode) e).1;
}
