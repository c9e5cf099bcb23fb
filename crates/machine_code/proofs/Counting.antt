-- How many functions a thread is in after an event: one more where one was entered, one less where one was left.
use Rattle.std.proofs.Common.{◌≡◌, refl, sym, ap, ◌∙◌, ℕ, zero, suc, ◌+◌, ◌-◌, Bool, true, false, List, [], ◌∷◌, length, drop, Option, Some, None, Result, Ok, Err, nat_eq, nat_lt, nat_le, ◌&&◌, if◌then◌else◌, slice_get, slice_index, arith}
use Rattle.std.proofs.lemmas.Bool.Decides.{nat_tests}
use Rattle.std.specs.Option.{option_map_or}
use Rattle.arithmetic.specs.Values.{applied, applied_to, member_of, is_true, number}
use Rattle.arithmetic.specs.declared.traps.TrapKind.{TrapKind}
use Rattle.arithmetic.specs.declared.traps.TrapKind.TheVariants.{NullCall, StackOverflow, NoValue, NoreturnReturned}
use Rattle.core_unit.specs.Words.{packed}
use Rattle.core_unit.specs.declared.words.Word.{Word}
use Rattle.core_unit.specs.declared.words.Word.TheVariants.{Zero, Undefined, Number, DataPointer, FunctionPointer, Mutex, Live, Freed}
use Rattle.mcode.specs.Machine.{Program, Machine, entry_of, entry_on_top, finds, finds_of_held, accesses_at, serves_at, serve, written_at, value_of_step, local_address, unless_halted, puts, filling, fills, spelling, spells, enters, enters_through, leaves, fails, staged, act, acts, moves, move, stays, park, machine_next, machine_after}
use Rattle.mcode.specs.Memory.{frame_limit, held_limit, stack_words}
use Rattle.mcode.specs.Stages.{Staged, Onto, Again, Gives, Traps, Exits, Halts, held_at, stage_asks, stage_after}
use Rattle.mcode.specs.Steps.{Step, Quiet, Makes, Ends, asks, does, asked, answered}
use Rattle.mcode.specs.Words.{accessed, unpacked}
use Rattle.mcode.specs.declared.code.Entry.{Entry}
use Rattle.mcode.specs.declared.code.Instruction.{Instruction}
use Rattle.mcode.specs.declared.code.Instruction.TheVariants as i
use Rattle.mcode.specs.declared.code.Served.{Served}
use Rattle.mcode.specs.declared.events.Ask.TheVariants.{Load, Store, Enter, Leave}
use Rattle.mcode.specs.declared.events.Finish.TheVariants.{Halted}
use Rattle.mcode.specs.declared.stages.Stage.{Stage}
use Rattle.mcode.specs.declared.stages.Stage.TheVariants as stage
use Rattle.mcode.specs.declared.thread.Caller.{Caller}
use Rattle.mcode.specs.declared.thread.Mode.{Mode}
use Rattle.mcode.specs.declared.thread.Mode.TheVariants.{Starting, Entering, Running, Filling, Spelling, Calling, Failing, Delivering, Telling, Stopping, Done}
use Rattle.machine_code.specs.Bounds.{HasRoom, frame_count}

abbrev depth : Machine → ℕ
depth t = length t.callers

-- A step counts them right, and enters one only where there is room.
abbrev Counts : ℕ → Step Machine → Type 0
Counts n (Quiet s) = depth s ≡ n
Counts n (Makes event after turned) = HasRoom event n × ((word : ℕ) → depth (after word) ≡ frame_count event n)
Counts n (Ends finish) = Unit {0}

counts_if : (n : ℕ) (b : Bool) (x y : Step Machine) → Counts n x → Counts n y → Counts n (if b then x else y)
counts_if n true x y p q = p
counts_if n false x y p q = q

depth_if : (n : ℕ) (b : Bool) (x y : Machine) → depth x ≡ n → depth y ≡ n → depth (if b then x else y) ≡ n
depth_if n true x y p q = p
depth_if n false x y p q = q

finds_counts : (t : Machine) (found : Result Word TrapKind) → Counts (depth t) (finds t found)
finds_counts t (Ok value) = refl
finds_counts t (Err kind) = refl

finds_of_held_counts : (t : Machine) (found : Result Word TrapKind) → Counts (depth t) (finds_of_held t found)
finds_of_held_counts t (Ok value) = refl
finds_of_held_counts t (Err kind) = refl

serve_counts : (c : Program) (t : Machine) (kind : Served) (found : Option Word) → depth (serve c t kind found) ≡ depth t
serve_counts c t kind None = refl
serve_counts c t kind (Some word) = depth_if (depth t) (serves_at c kind word) _ _ refl refl

halted_counts : (t : Machine) (word : ℕ) (on : Machine) → depth on ≡ depth t → depth (unless_halted t word on) ≡ depth t
halted_counts t word on e = depth_if (depth t) (nat_eq word 0) on (record t { mode = Done Halted }) e refl

load_counts : (c : Program) (t : Machine) (kind : Served) (found : Result ℕ TrapKind) →
    Counts (depth t) (accesses_at t found (λ at. asks (Load at) (λ word. serve c t kind (unpacked word))))
load_counts c t kind (Ok at) = (tt, λ word. serve_counts c t kind (unpacked word))
load_counts c t kind (Err trap) = refl

store_counts : (t : Machine) (found : Result ℕ TrapKind) (word : ℕ) (on : Machine) → depth on ≡ depth t → Counts (depth t) (accesses_at t found (λ at. does (Store at word) on))
store_counts t (Ok at) word on e = (tt, λ answer. e)
store_counts t (Err kind) word on e = refl

puts_counts : (c : Program) (t : Machine) (offset word : ℕ) (on : Machine) → depth on ≡ depth t → Counts (depth t) (puts c t offset word on)
puts_counts c t offset word on e = store_counts t (accessed (DataPointer (local_address c t offset))) word on e

fills_counts : (c : Program) (t : Machine) (offset word count : ℕ) → Counts (depth t) (fills c t offset word count)
fills_counts c t offset word zero = refl
fills_counts c t offset word (suc left) = puts_counts c t offset word (record t { mode = filling (suc offset) word left }) refl

spells_counts : (c : Program) (t : Machine) (offset at count : ℕ) → Counts (depth t) (spells c t offset at count)
spells_counts c t offset at zero = refl
spells_counts c t offset at (suc left) =
    puts_counts c t offset (packed (number (slice_index c.texts at))) (record t { mode = spelling (suc offset) (suc at) left }) refl

entered_if : (t : Machine) (on : Machine) (function site : ℕ) (a b : Bool) → depth on ≡ suc (depth t) → nat_lt (depth t) frame_limit ≡ a →
    Counts (depth t) (if a && b then does (Enter function site) on else fails t StackOverflow)
entered_if t on function site true true e room = (grind (arith, nat_tests), λ word. e)
entered_if t on function site true false e room = refl
entered_if t on function site false b e room = refl

enters_counts : (t : Machine) (function site back more : ℕ) (found : Option Entry) → Counts (depth t) (enters t function site back more found)
enters_counts t function site back more None = refl
enters_counts t function site back more (Some entry) =
    entered_if t (record t {
      pc = entry.place;
      callers = record { function = function; site = site; back = back; base = t.base; more = more } ∷ t.callers;
      base = t.top;
      top = t.top + entry.frame_words;
      mode = Running;
    }) function site (nat_lt (depth t) frame_limit) (nat_le (t.top + entry.frame_words) stack_words) (omega arith) refl

through_counts : (c : Program) (t : Machine) (callee : Word) (site : ℕ) → Counts (depth t) (enters_through c t callee site)
through_counts c t (FunctionPointer function level) site = enters_counts t function site (suc t.pc) 1 (entry_of c function)
through_counts c t Zero site = refl
through_counts c t Undefined site = refl
through_counts c t (Number bits) site = refl
through_counts c t (DataPointer at) site = refl
through_counts c t (Mutex thread) site = refl
through_counts c t (Live words) site = refl
through_counts c t (Freed words) site = refl

leaves_counts : (c : Program) (t : Machine) (callers : List Caller) → t.callers ≡ callers → depth (leaves c t callers) ≡ length callers - 1
leaves_counts c t [] e = omega (arith, ap length e)
leaves_counts c t (caller ∷ []) e = omega arith
leaves_counts c t (caller ∷ below ∷ callers) e = omega arith

staged_counts : (t : Machine) (s : Staged) → depth (staged t s) ≡ depth t
staged_counts t (Onto stage) = refl
staged_counts t (Again stage) = refl
staged_counts t (Gives value) = refl
staged_counts t (Traps kind) = refl
staged_counts t (Exits bits) = refl
staged_counts t Halts = refl

act_counts : (c : Program) (t : Machine) (instruction : Instruction) → Counts (depth t) (act c t instruction)
act_counts c t (i.SetValue word) = refl
act_counts c t (i.SetLocal offset) = refl
act_counts c t (i.SetThreadLocal offset) = refl
act_counts c t i.HoldValue = counts_if (depth t) (nat_lt (length t.held) held_limit) (Quiet (record t { pc = suc t.pc; held = t.value ∷ t.held })) (fails t StackOverflow) refl refl
act_counts c t (i.LoadAs kind) = load_counts c t kind (accessed t.value)
act_counts c t (i.StoreAs level) =
    store_counts t (accessed (held_at t.held 0)) (packed (written_at level t.value)) (record t { pc = suc t.pc; held = drop 1 t.held }) refl
act_counts c t (i.Change operator) = finds_counts t (applied_to operator t.value)
act_counts c t (i.Apply operation) = finds_of_held_counts t (applied operation (held_at t.held 0) t.value)
act_counts c t (i.Advance operation) = finds_counts t (applied operation (held_at t.held 0) (Number 1))
act_counts c t (i.StoreStep level which) =
    store_counts t (accessed (held_at t.held 1)) (packed (written_at level t.value))
    (record t { pc = suc t.pc; value = value_of_step which t.value (held_at t.held 0); held = drop 2 t.held }) refl
act_counts c t (i.Shift offset) = finds_counts t (member_of offset t.value)
act_counts c t i.Truth = refl
act_counts c t (i.GoTo place) = refl
act_counts c t (i.GoIfZero place) = refl
act_counts c t (i.GoIfNotZero place) = refl
act_counts c t (i.Fill offset word count) = fills_counts c (record t { pc = suc t.pc }) offset word count
act_counts c t (i.FillText offset at count) = spells_counts c (record t { pc = suc t.pc }) offset at count
act_counts c t (i.Put offset level) = puts_counts c t offset (packed (written_at level t.value)) (record t { pc = suc t.pc }) refl
act_counts c t (i.Guard count) = counts_if (depth t) (is_true (held_at t.held count)) (Quiet (record t { pc = suc t.pc })) (fails t NullCall) refl refl
act_counts c t i.CheckHalt = (tt, λ word. halted_counts t word (record t { pc = suc t.pc }) refl)
act_counts c t (i.EnterFunction function site) = enters_counts t function site (suc t.pc) 0 (entry_of c function)
act_counts c t (i.EnterThrough count site) = through_counts c t (held_at t.held count) site
act_counts c t (i.ReachFunction function) = (tt, λ word. refl)
act_counts c t (i.Bind offset back level) =
    puts_counts c t offset (packed (written_at level (held_at t.held back))) (record t { pc = suc t.pc }) refl
act_counts c t (i.Forget count) = refl
act_counts c t (i.CallRow row site count) = (tt, λ word. staged_counts (record t { pc = suc t.pc; held = drop count t.held }) _)
act_counts c t i.FallOff =
    counts_if (depth t) (option_map_or (λ entry. entry.falls) (entry_on_top c t.callers) false) (Quiet (record t { pc = suc t.pc; value = Zero })) (fails t NoValue) refl refl
act_counts c t i.LeaveFunction =
    counts_if (depth t) (option_map_or (λ entry. entry.noreturn) (entry_on_top c t.callers) false) (fails t NoreturnReturned) (does Leave (leaves c t t.callers))
    refl (tt, λ word. leaves_counts c t t.callers refl)
act_counts c t (i.FailWith kind) = refl

acts_counts : (c : Program) (t : Machine) (found : Option Instruction) → Counts (depth t) (acts c t found)
acts_counts c t (Some instruction) = act_counts c t instruction
acts_counts c t None = refl

-- no stage enters or leaves a function
stage_room : (thread n : ℕ) (s : Stage) → HasRoom (stage_asks thread s) n × (frame_count (stage_asks thread s) n ≡ n)
stage_room thread n (stage.TakeBlock words) = (tt, refl)
stage_room thread n (stage.ReturnBlock words) = (tt, refl)
stage_room thread n (stage.MarkLive at words) = (tt, refl)
stage_room thread n (stage.ReadHeader at) = (tt, refl)
stage_room thread n (stage.MarkFreed at words) = (tt, refl)
stage_room thread n (stage.CreateThread to function argument) = (tt, refl)
stage_room thread n (stage.TellThread at child) = (tt, refl)
stage_room thread n (stage.TryJoin child to) = (tt, refl)
stage_room thread n (stage.AwaitJoin child to) = (tt, refl)
stage_room thread n (stage.ReadResult child to) = (tt, refl)
stage_room thread n (stage.WriteResult at word) = (tt, refl)
stage_room thread n (stage.TryLock at) = (tt, refl)
stage_room thread n (stage.AwaitLock at) = (tt, refl)
stage_room thread n (stage.Unlock at) = (tt, refl)
stage_room thread n (stage.ReadText at) = (tt, refl)
stage_room thread n (stage.WriteText at byte) = (tt, refl)
stage_room thread n stage.EndText = (tt, refl)
stage_room thread n (stage.WriteByte byte) = (tt, refl)

moves_counts : (c : Program) (t : Machine) (m : Mode) → Counts (depth t) (moves c t m)
moves_counts c t (Starting function) = (tt, λ word. halted_counts t word (record t { mode = Entering function }) refl)
moves_counts c t (Entering function) = enters_counts t function 0 0 0 (entry_of c function)
moves_counts c t Running = acts_counts c t (slice_get c.instructions t.pc)
moves_counts c t (Filling offset word count) = fills_counts c t offset word count
moves_counts c t (Spelling offset at count) = spells_counts c t offset at count
moves_counts c t (Calling s) =
    let stays = stage_room t.number (depth t) s in
    (stays.0, λ word. staged_counts t (stage_after t.number s word) ∙ sym stays.1)
moves_counts c t (Failing kind) = (tt, λ word. refl)
moves_counts c t (Delivering function) = (tt, λ word. refl)
moves_counts c t Telling = (tt, λ word. refl)
moves_counts c t (Stopping finish) = (tt, λ word. refl)
moves_counts c t (Done finish) = tt

asked_room : (n : ℕ) (step : Step Machine) → Counts n step → HasRoom (asked step) n
asked_room n (Quiet s) h = tt
asked_room n (Makes event after turned) h = h.0
asked_room n (Ends finish) h = tt

-- A function is entered only where there is room.
pub next_room : (c : Program) (t : Machine) → HasRoom (machine_next c t) (length t.callers)
next_room c t = asked_room (depth t) (move c t) (moves_counts c t t.mode)

answered_counts : (t : Machine) (word : ℕ) (step : Step Machine) → Counts (depth t) step → depth (answered step t word) ≡ frame_count (asked step) (depth t)
answered_counts t word (Quiet s) h = h
answered_counts t word (Makes event after turned) h = h.1 word
answered_counts t word (Ends finish) h = refl

stays_counts : (go : Machine → Machine) → ((s : Machine) → depth (go s) ≡ depth s) → (t : Machine) (step : Step Machine) → Counts (depth t) step →
    depth (stays go t step) ≡ depth t
stays_counts go on t (Quiet s) h = on s ∙ h
stays_counts go on t (Makes event after turned) h = refl
stays_counts go on t (Ends finish) h = refl

-- quiet instructions keep the functions
park_counts : (c : Program) (n : ℕ) (t : Machine) → depth (park c n t) ≡ depth t
park_counts c zero t = refl
park_counts c (suc n) t = stays_counts (park c n) (park_counts c n) t (move c t) (moves_counts c t t.mode)

pub frames_counted : (c : Program) (t : Machine) (word : ℕ) → length (machine_after c t word).callers ≡ frame_count (machine_next c t) (length t.callers)
frames_counted c t word =
    park_counts c (length c.instructions + 2) (answered (move c t) t word) ∙ answered_counts t word (move c t) (moves_counts c t t.mode)
