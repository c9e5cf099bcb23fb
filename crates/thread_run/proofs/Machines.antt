-- The functions that a machine is in change by its events alone, as the frames of a trace do; and what its events name is low.
use Rattle.std.proofs.Common.{◌≡◌, refl, sym, ap, ◌∙◌, subst, arith, ℕ, zero, suc, ◌+◌, ◌<◌, ◌^◌, Bool, true, false, nat_lt, nat_le, nat_eq, ◌&&◌, if◌then◌else◌, List, [], ◌∷◌, length, drop, Option, Some, None, Result, Ok, Err, All, slice_get}
use Rattle.std.proofs.lemmas.Bool.{ltb-true}
use Rattle.std.proofs.lemmas.List.Elements.{All-cons, All-head, All-tail}
use Rattle.std.proofs.lemmas.Option.{slice_get_within}
use Rattle.std.specs.Option.{option_map_or}
use Rattle.arithmetic.specs.Values.{is_true}
use Rattle.arithmetic.specs.declared.traps.TrapKind.{TrapKind}
use Rattle.arithmetic.specs.declared.traps.TrapKind.TheVariants.{NullCall}
use Rattle.core_unit.specs.Words.{packed}
use Rattle.core_unit.specs.declared.words.Word.{Word}
use Rattle.core_unit.specs.declared.words.Word.TheVariants as word
use Rattle.ctx_set.specs.declared.steps.StackStep.{StackStep}
use Rattle.machine_code.specs.Codes.{IsCode, IsLowSite}
use Rattle.mcode.specs.Machine.{Program, Machine, entry_in, entry_of, goes, fails, finds, finds_of_held, accesses_at, puts, fills, spells, has_room, enters, enters_through, site_on_top, entry_on_top, leaves, staged, act, acts, moves, move, stays, park, machine_next, machine_after, machine_turned, unless_halted, serve, serves_at, local_address, written_at, value_of_step}
use Rattle.mcode.specs.Stages.{Staged, Onto, Again, Gives, Traps, Exits, Halts, held_at, stage_after, call_begins, turned_to, at_found, frees_block, joined, locked, read_text}
use Rattle.mcode.specs.Steps.{Step, Quiet, Makes, Ends, asks, does, asked, answered, turned_by}
use Rattle.mcode.specs.Words.{accessed, unpacked}
use Rattle.mcode.specs.Memory.{halt}
use Rattle.mcode.specs.declared.code.Entry.{Entry}
use Rattle.mcode.specs.declared.code.Instruction.{Instruction}
use Rattle.mcode.specs.declared.code.Instruction.TheVariants as instruction
use Rattle.mcode.specs.declared.events.Ask.{Ask}
use Rattle.mcode.specs.declared.events.Ask.TheVariants.{Load, Store, Exchange, FetchAdd, FetchSub, Enter, Leave, Reach, Create, Out, Trap, Over}
use Rattle.mcode.specs.declared.events.Turned.TheVariants.{FailedTry}
use Rattle.mcode.specs.declared.stages.Stage.{Stage}
use Rattle.mcode.specs.declared.stages.Stage.TheVariants.{TakeBlock, ReturnBlock, MarkLive, ReadHeader, MarkFreed, CreateThread, TellThread, TryJoin, AwaitJoin, ReadResult, WriteResult, TryLock, AwaitLock, Unlock, ReadText, WriteText, EndText, WriteByte}
use Rattle.mcode.specs.declared.thread.Caller.{Caller}
use Rattle.mcode.specs.declared.thread.Mode.{Mode}
use Rattle.mcode.specs.declared.thread.Mode.TheVariants.{Starting, Entering, Running, Filling, Spelling, Calling, Failing, Delivering, Telling, Stopping, Done}
use Rattle.reports.specs.Stacks.{IsStep}
use Rattle.thread_run.specs.Called.{step_of, steps_in}
use Rattle.thread_run.specs.Detecting.{framed}
use Rattle.thread_run.specs.Threads.{is_creation}

-- what an event of a thread in these functions names
abbrev pub IsLow : List Caller → Ask → Type 0
IsLow callers (Enter function site) = (function < 4096) × (site < 2 ^ 20) × (length callers < 256)
IsLow callers (Reach target site) = site < 2 ^ 20
IsLow callers _ = Unit {0}

-- between two tries of one call, the halt word is loaded next
abbrev pub awaits : Mode → Bool
awaits (Calling (AwaitJoin child to)) = true
awaits (Calling (AwaitLock at)) = true
awaits _ = false

-- a step of a thread in these functions
abbrev pub Fine : List Caller → Step Machine → Type 0
Fine callers (Quiet t) = t.callers ≡ callers
Fine callers (Makes event after turned) =
    IsLow callers event × ((word : ℕ) → steps_in (after word).callers ≡ framed event (steps_in callers)) × ((word : ℕ) → turned word ≡ FailedTry → awaits (after word).mode ≡ true)
Fine callers (Ends finish) = Unit {0}

fine_if : (callers : List Caller) (b : Bool) (x y : Step Machine) → (b ≡ true → Fine callers x) → Fine callers y → Fine callers (if b then x else y)
fine_if callers true x y p q = p refl
fine_if callers false x y p q = q

keeps_if : (callers : List Caller) (b : Bool) (x y : Machine) → x.callers ≡ callers → y.callers ≡ callers → (if b then x else y).callers ≡ callers
keeps_if callers true x y p q = p
keeps_if callers false x y p q = q

fine_finds : (t : Machine) (r : Result Word TrapKind) → Fine t.callers (finds t r)
fine_finds t (Ok value) = refl
fine_finds t (Err kind) = refl

fine_finds_of_held : (t : Machine) (r : Result Word TrapKind) → Fine t.callers (finds_of_held t r)
fine_finds_of_held t (Ok value) = refl
fine_finds_of_held t (Err kind) = refl

fine_access : (t : Machine) (r : Result ℕ TrapKind) (go : ℕ → Step Machine) → ((at : ℕ) → Fine t.callers (go at)) → Fine t.callers (accesses_at t r go)
fine_access t (Ok at) go h = h at
fine_access t (Err kind) go h = refl

fine_puts : (c : Program) (t : Machine) (offset stored : ℕ) (on : Machine) → on.callers ≡ t.callers → Fine t.callers (puts c t offset stored on)
fine_puts c t offset stored on e = fine_access t (accessed (word.DataPointer (local_address c t offset))) (λ at. does (Store at stored) on) (λ at. (tt, λ answer. ap steps_in e, λ answer e. cc))

fine_fills : (c : Program) (t : Machine) (offset stored count : ℕ) → Fine t.callers (fills c t offset stored count)
fine_fills c t offset stored zero = refl
fine_fills c t offset stored (suc left) = fine_puts c t offset stored _ refl

fine_spells : (c : Program) (t : Machine) (offset at count : ℕ) → Fine t.callers (spells c t offset at count)
fine_spells c t offset at zero = refl
fine_spells c t offset at (suc left) = fine_puts c t offset _ _ refl

known_low : (c : Program) → IsCode c → (function : ℕ) (found : Option (Option Entry)) (entry : Entry) → slice_get c.entries function ≡ found → entry_in found ≡ Some entry → function < 4096
known_low c lawful function (Some known) entry e h = let within = slice_get_within c.entries function known e in omega (arith, within, lawful.functions)
known_low c lawful function None entry e h = cc

room_few : (a b : Bool) (n : ℕ) → a ≡ nat_lt n 256 → (a && b) ≡ true → n < 256
room_few true b n e h = ltb-true n 256 (sym e)
room_few false b n e h = cc

fine_enters : (c : Program) → IsCode c → (t : Machine) (function site back more : ℕ) (found : Option Entry) → entry_of c function ≡ found → site < 2 ^ 20 → Fine t.callers (enters t function site back more found)
fine_enters c lawful t function site back more None e low = refl
fine_enters c lawful t function site back more (Some entry) e low =
    fine_if t.callers (has_room t entry) _ _
    (λ room. ((known_low c lawful function (slice_get c.entries function) entry refl e, low, room_few (nat_lt (length t.callers) 256) (nat_le (t.top + entry.frame_words) 4096) (length t.callers) refl room), λ answer. refl, λ answer e. cc))
    refl

fine_enters_through : (c : Program) → IsCode c → (t : Machine) (callee : Word) (site : ℕ) → site < 2 ^ 20 → Fine t.callers (enters_through c t callee site)
fine_enters_through c lawful t (word.FunctionPointer function level) site low = fine_enters c lawful t function site _ _ (entry_of c function) refl low
fine_enters_through c lawful t word.Zero site low = refl
fine_enters_through c lawful t word.Undefined site low = refl
fine_enters_through c lawful t (word.Number bits) site low = refl
fine_enters_through c lawful t (word.DataPointer at) site low = refl
fine_enters_through c lawful t (word.Mutex thread) site low = refl
fine_enters_through c lawful t (word.Live words) site low = refl
fine_enters_through c lawful t (word.Freed words) site low = refl

leaves_one : (c : Program) (t : Machine) (callers : List Caller) → t.callers ≡ callers → steps_in (leaves c t callers).callers ≡ drop 1 (steps_in callers)
leaves_one c t [] e = ap steps_in e
leaves_one c t (caller ∷ []) e = refl
leaves_one c t (caller ∷ below ∷ callers) e = refl

staged_same : (t : Machine) (s : Staged) → (staged t s).callers ≡ t.callers
staged_same t (Onto stage) = refl
staged_same t (Again stage) = refl
staged_same t (Gives value) = refl
staged_same t (Traps kind) = refl
staged_same t (Exits bits) = refl
staged_same t Halts = refl

-- how a call goes on after a failed try
abbrev OnlyAwaits : Staged → Type 0
OnlyAwaits (Again stage) = awaits (Calling stage) ≡ true
OnlyAwaits _ = Unit {0}

only_if : (b : Bool) (x y : Staged) → OnlyAwaits x → OnlyAwaits y → OnlyAwaits (if b then x else y)
only_if true x y p q = p
only_if false x y p q = q

only_found : (r : Result ℕ TrapKind) (go : ℕ → Staged) → ((at : ℕ) → OnlyAwaits (go at)) → OnlyAwaits (at_found r go)
only_found (Ok at) go h = h at
only_found (Err kind) go h = tt

only_frees : (at : ℕ) (found : Option Word) → OnlyAwaits (frees_block at found)
only_frees at (Some (word.Live words)) = tt
only_frees at (Some word.Zero) = tt
only_frees at (Some word.Undefined) = tt
only_frees at (Some (word.Number bits)) = tt
only_frees at (Some (word.DataPointer to)) = tt
only_frees at (Some (word.FunctionPointer function level)) = tt
only_frees at (Some (word.Mutex thread)) = tt
only_frees at (Some (word.Freed words)) = tt
only_frees at None = tt

only_joined : (child : ℕ) (to : Word) → OnlyAwaits (joined child to)
only_joined child word.Zero = tt
only_joined child word.Undefined = tt
only_joined child (word.Number bits) = tt
only_joined child (word.DataPointer to) = tt
only_joined child (word.FunctionPointer function level) = tt
only_joined child (word.Mutex thread) = tt
only_joined child (word.Live words) = tt
only_joined child (word.Freed words) = tt

only_locked : (at : ℕ) (found : Option Word) → OnlyAwaits (locked at found)
only_locked at (Some (word.Mutex thread)) = refl
only_locked at (Some word.Zero) = tt
only_locked at (Some word.Undefined) = tt
only_locked at (Some (word.Number bits)) = tt
only_locked at (Some (word.DataPointer to)) = tt
only_locked at (Some (word.FunctionPointer function level)) = tt
only_locked at (Some (word.Live words)) = tt
only_locked at (Some (word.Freed words)) = tt
only_locked at None = tt

only_text : (at : ℕ) (found : Option Word) → OnlyAwaits (read_text at found)
only_text at (Some word.Zero) = tt
only_text at (Some (word.Number bits)) = tt
only_text at (Some word.Undefined) = tt
only_text at (Some (word.DataPointer to)) = tt
only_text at (Some (word.FunctionPointer function level)) = tt
only_text at (Some (word.Mutex thread)) = tt
only_text at (Some (word.Live words)) = tt
only_text at (Some (word.Freed words)) = tt
only_text at None = tt

stage_only : (thread : ℕ) (stage : Stage) (answer : ℕ) → OnlyAwaits (stage_after thread stage answer)
stage_only thread (TakeBlock words) answer = only_if (nat_lt (2 ^ 20) (answer + words + 1)) _ _ tt tt
stage_only thread (ReturnBlock words) answer = tt
stage_only thread (MarkLive at words) answer = tt
stage_only thread (ReadHeader at) answer = only_frees at (unpacked answer)
stage_only thread (MarkFreed at words) answer = only_if (nat_eq answer (packed (word.Live words))) _ _ tt tt
stage_only thread (CreateThread to function argument) answer = only_if (nat_eq answer 0) _ _ tt (only_found (accessed to) _ (λ at. tt))
stage_only thread (TellThread at child) answer = tt
stage_only thread (TryJoin child to) answer = only_if (nat_eq answer 0) _ _ refl (only_joined child to)
stage_only thread (AwaitJoin child to) answer = only_if (nat_eq answer 0) _ _ tt tt
stage_only thread (ReadResult child to) answer = only_found (accessed to) _ (λ at. tt)
stage_only thread (WriteResult at stored) answer = tt
stage_only thread (TryLock at) answer = only_locked at (unpacked answer)
stage_only thread (AwaitLock at) answer = only_if (nat_eq answer 0) _ _ tt tt
stage_only thread (Unlock at) answer = only_if (nat_eq answer (packed (word.Mutex thread))) _ _ tt tt
stage_only thread (ReadText at) answer = only_text at (unpacked answer)
stage_only thread (WriteText at byte) answer = only_if (nat_lt (at + 1) halt) _ _ tt tt
stage_only thread EndText answer = tt
stage_only thread (WriteByte byte) answer = tt

again_awaits : (t : Machine) (s : Staged) → OnlyAwaits s → turned_to s ≡ FailedTry → awaits (staged t s).mode ≡ true
again_awaits t (Again stage) h e = h
again_awaits t (Onto stage) h e = cc
again_awaits t (Gives value) h e = cc
again_awaits t (Traps kind) h e = cc
again_awaits t (Exits bits) h e = cc
again_awaits t Halts h e = cc

fine_stage : (t : Machine) (stage : Stage) → Fine t.callers (moves (record { instructions = []; texts = []; entries = []; entry = 0; static_words = 0 }) t (Calling stage))
fine_stage t (TakeBlock words) = (tt, λ answer. ap steps_in (staged_same t (stage_after t.number (TakeBlock words) answer)), λ answer e. again_awaits t (stage_after t.number (TakeBlock words) answer) (stage_only t.number (TakeBlock words) answer) e)
fine_stage t (ReturnBlock words) = (tt, λ answer. ap steps_in (staged_same t (stage_after t.number (ReturnBlock words) answer)), λ answer e. again_awaits t (stage_after t.number (ReturnBlock words) answer) (stage_only t.number (ReturnBlock words) answer) e)
fine_stage t (MarkLive at words) = (tt, λ answer. ap steps_in (staged_same t (stage_after t.number (MarkLive at words) answer)), λ answer e. again_awaits t (stage_after t.number (MarkLive at words) answer) (stage_only t.number (MarkLive at words) answer) e)
fine_stage t (ReadHeader at) = (tt, λ answer. ap steps_in (staged_same t (stage_after t.number (ReadHeader at) answer)), λ answer e. again_awaits t (stage_after t.number (ReadHeader at) answer) (stage_only t.number (ReadHeader at) answer) e)
fine_stage t (MarkFreed at words) = (tt, λ answer. ap steps_in (staged_same t (stage_after t.number (MarkFreed at words) answer)), λ answer e. again_awaits t (stage_after t.number (MarkFreed at words) answer) (stage_only t.number (MarkFreed at words) answer) e)
fine_stage t (CreateThread to function argument) = (tt, λ answer. ap steps_in (staged_same t (stage_after t.number (CreateThread to function argument) answer)), λ answer e. again_awaits t (stage_after t.number (CreateThread to function argument) answer) (stage_only t.number (CreateThread to function argument) answer) e)
fine_stage t (TellThread at child) = (tt, λ answer. ap steps_in (staged_same t (stage_after t.number (TellThread at child) answer)), λ answer e. again_awaits t (stage_after t.number (TellThread at child) answer) (stage_only t.number (TellThread at child) answer) e)
fine_stage t (TryJoin child to) = (tt, λ answer. ap steps_in (staged_same t (stage_after t.number (TryJoin child to) answer)), λ answer e. again_awaits t (stage_after t.number (TryJoin child to) answer) (stage_only t.number (TryJoin child to) answer) e)
fine_stage t (AwaitJoin child to) = (tt, λ answer. ap steps_in (staged_same t (stage_after t.number (AwaitJoin child to) answer)), λ answer e. again_awaits t (stage_after t.number (AwaitJoin child to) answer) (stage_only t.number (AwaitJoin child to) answer) e)
fine_stage t (ReadResult child to) = (tt, λ answer. ap steps_in (staged_same t (stage_after t.number (ReadResult child to) answer)), λ answer e. again_awaits t (stage_after t.number (ReadResult child to) answer) (stage_only t.number (ReadResult child to) answer) e)
fine_stage t (WriteResult at stored) = (tt, λ answer. ap steps_in (staged_same t (stage_after t.number (WriteResult at stored) answer)), λ answer e. again_awaits t (stage_after t.number (WriteResult at stored) answer) (stage_only t.number (WriteResult at stored) answer) e)
fine_stage t (TryLock at) = (tt, λ answer. ap steps_in (staged_same t (stage_after t.number (TryLock at) answer)), λ answer e. again_awaits t (stage_after t.number (TryLock at) answer) (stage_only t.number (TryLock at) answer) e)
fine_stage t (AwaitLock at) = (tt, λ answer. ap steps_in (staged_same t (stage_after t.number (AwaitLock at) answer)), λ answer e. again_awaits t (stage_after t.number (AwaitLock at) answer) (stage_only t.number (AwaitLock at) answer) e)
fine_stage t (Unlock at) = (tt, λ answer. ap steps_in (staged_same t (stage_after t.number (Unlock at) answer)), λ answer e. again_awaits t (stage_after t.number (Unlock at) answer) (stage_only t.number (Unlock at) answer) e)
fine_stage t (ReadText at) = (tt, λ answer. ap steps_in (staged_same t (stage_after t.number (ReadText at) answer)), λ answer e. again_awaits t (stage_after t.number (ReadText at) answer) (stage_only t.number (ReadText at) answer) e)
fine_stage t (WriteText at byte) = (tt, λ answer. ap steps_in (staged_same t (stage_after t.number (WriteText at byte) answer)), λ answer e. again_awaits t (stage_after t.number (WriteText at byte) answer) (stage_only t.number (WriteText at byte) answer) e)
fine_stage t EndText = (tt, λ answer. ap steps_in (staged_same t (stage_after t.number EndText answer)), λ answer e. again_awaits t (stage_after t.number EndText answer) (stage_only t.number EndText answer) e)
fine_stage t (WriteByte byte) = (tt, λ answer. ap steps_in (staged_same t (stage_after t.number (WriteByte byte) answer)), λ answer e. again_awaits t (stage_after t.number (WriteByte byte) answer) (stage_only t.number (WriteByte byte) answer) e)

top_low : (callers : List Caller) → All IsStep (steps_in callers) → site_on_top callers < 2 ^ 20
top_low [] h = omega arith
top_low (caller ∷ callers) h = (All-head IsStep (step_of caller) (steps_in callers) h).call

served_same : (c : Program) (t : Machine) (kind : _) (found : Option Word) → (serve c t kind found).callers ≡ t.callers
served_same c t kind (Some value) = keeps_if t.callers (serves_at c kind value) _ _ refl refl
served_same c t kind None = refl

halted_same : (t on : Machine) (answer : ℕ) → on.callers ≡ t.callers → (unless_halted t answer on).callers ≡ t.callers
halted_same t on answer e = keeps_if t.callers (nat_eq answer 0) _ _ e refl

fine_act : (c : Program) → IsCode c → (t : Machine) → All IsStep (steps_in t.callers) → (i : Instruction) → IsLowSite i → Fine t.callers (act c t i)
fine_act c lawful t steps (instruction.SetValue value) low = refl
fine_act c lawful t steps (instruction.SetLocal offset) low = refl
fine_act c lawful t steps (instruction.SetThreadLocal offset) low = refl
fine_act c lawful t steps instruction.HoldValue low = fine_if t.callers (nat_lt (length t.held) 1024) _ _ (λ _. refl) refl
fine_act c lawful t steps (instruction.LoadAs kind) low = fine_access t (accessed t.value) (λ at. asks (Load at) (λ word. serve c t kind (unpacked word))) (λ at. (tt, λ answer. ap steps_in (served_same c t kind (unpacked answer)), λ answer e. cc))
fine_act c lawful t steps (instruction.StoreAs level) low =
    fine_access t (accessed (held_at t.held 0)) (λ at. does (Store at (packed (written_at level t.value))) (record t { pc = suc t.pc; held = drop 1 t.held })) (λ at. (tt, λ answer. refl, λ answer e. cc))
fine_act c lawful t steps (instruction.Change operator) low = fine_finds t _
fine_act c lawful t steps (instruction.Apply operation) low = fine_finds_of_held t _
fine_act c lawful t steps (instruction.Advance operation) low = fine_finds t _
fine_act c lawful t steps (instruction.StoreStep level which) low =
    fine_access t (accessed (held_at t.held 1))
    (λ at. does (Store at (packed (written_at level t.value))) (record t { pc = suc t.pc; value = value_of_step which t.value (held_at t.held 0); held = drop 2 t.held }))
    (λ at. (tt, λ answer. refl, λ answer e. cc))
fine_act c lawful t steps (instruction.Shift offset) low = fine_finds t _
fine_act c lawful t steps instruction.Truth low = refl
fine_act c lawful t steps (instruction.GoTo place) low = refl
fine_act c lawful t steps (instruction.GoIfZero place) low = refl
fine_act c lawful t steps (instruction.GoIfNotZero place) low = refl
fine_act c lawful t steps (instruction.Fill offset stored count) low = fine_fills c (record t { pc = suc t.pc }) offset stored count
fine_act c lawful t steps (instruction.FillText offset at count) low = fine_spells c (record t { pc = suc t.pc }) offset at count
fine_act c lawful t steps (instruction.Put offset level) low = fine_puts c t offset _ _ refl
fine_act c lawful t steps (instruction.Guard count) low = fine_if t.callers (is_true (held_at t.held count)) (goes t (suc t.pc)) (fails t NullCall) (λ _. refl) refl
fine_act c lawful t steps instruction.CheckHalt low = (tt, λ answer. ap steps_in (halted_same t _ answer refl), λ answer e. cc)
fine_act c lawful t steps (instruction.EnterFunction function site) low = fine_enters c lawful t function site _ _ (entry_of c function) refl low
fine_act c lawful t steps (instruction.EnterThrough count site) low = fine_enters_through c lawful t _ site low
fine_act c lawful t steps (instruction.ReachFunction function) low = (top_low t.callers steps, λ answer. refl, λ answer e. cc)
fine_act c lawful t steps (instruction.Bind offset back level) low = fine_puts c t offset _ _ refl
fine_act c lawful t steps (instruction.Forget count) low = refl
fine_act c lawful t steps (instruction.CallRow row site count) low =
    (low, λ answer. ap steps_in (staged_same (record t { pc = suc t.pc; held = drop count t.held }) (call_begins row t.held)), λ answer e. cc)
fine_act c lawful t steps instruction.FallOff low = fine_if t.callers (option_map_or (λ entry. entry.falls) (entry_on_top c t.callers) false) _ _ (λ _. refl) refl
fine_act c lawful t steps instruction.LeaveFunction low =
    fine_if t.callers (option_map_or (λ entry. entry.noreturn) (entry_on_top c t.callers) false) _ _ (λ _. refl) (tt, λ answer. leaves_one c t t.callers refl, λ answer e. cc)
fine_act c lawful t steps (instruction.FailWith kind) low = refl

fine_acts : (c : Program) → IsCode c → (t : Machine) → All IsStep (steps_in t.callers) → (found : Option Instruction) → slice_get c.instructions t.pc ≡ found → Fine t.callers (acts c t found)
fine_acts c lawful t steps (Some i) e = fine_act c lawful t steps i (lawful.sites t.pc i e)
fine_acts c lawful t steps None e = refl

fine_moves : (c : Program) → IsCode c → (t : Machine) → All IsStep (steps_in t.callers) → (m : Mode) → Fine t.callers (moves c t m)
fine_moves c lawful t steps (Starting function) = (tt, λ answer. ap steps_in (halted_same t _ answer refl), λ answer e. cc)
fine_moves c lawful t steps (Entering function) = fine_enters c lawful t function 0 0 0 (entry_of c function) refl (omega arith)
fine_moves c lawful t steps Running = fine_acts c lawful t steps (slice_get c.instructions t.pc) refl
fine_moves c lawful t steps (Filling offset stored count) = fine_fills c t offset stored count
fine_moves c lawful t steps (Spelling offset at count) = fine_spells c t offset at count
fine_moves c lawful t steps (Calling stage) = fine_stage t stage
fine_moves c lawful t steps (Failing kind) = (tt, λ answer. refl, λ answer e. cc)
fine_moves c lawful t steps (Delivering function) = (tt, λ answer. refl, λ answer e. cc)
fine_moves c lawful t steps Telling = (tt, λ answer. refl, λ answer e. cc)
fine_moves c lawful t steps (Stopping finish) = (tt, λ answer. refl, λ answer e. cc)
fine_moves c lawful t steps (Done finish) = tt

stays_same : (go : Machine → Machine) (t : Machine) → ((next : Machine) → All IsStep (steps_in next.callers) → (go next).callers ≡ next.callers) → All IsStep (steps_in t.callers) → (s : Step Machine) → Fine t.callers s → (stays go t s).callers ≡ t.callers
stays_same go t h steps (Quiet next) e = h next (subst (λ callers. All IsStep (steps_in callers)) (sym e) steps) ∙ e
stays_same go t h steps (Makes event after turned) e = refl
stays_same go t h steps (Ends finish) e = refl

parked_same : (c : Program) → IsCode c → (n : ℕ) (t : Machine) → All IsStep (steps_in t.callers) → (park c n t).callers ≡ t.callers
parked_same c lawful zero t steps = refl
parked_same c lawful (suc n) t steps = stays_same (park c n) t (λ next steps. parked_same c lawful n next steps) steps (move c t) (fine_moves c lawful t steps t.mode)

answered_steps : (t : Machine) (s : Step Machine) (answer : ℕ) → Fine t.callers s → steps_in (answered s t answer).callers ≡ framed (asked s) (steps_in t.callers)
answered_steps t (Quiet next) answer h = ap steps_in h
answered_steps t (Makes event after turned) answer h = h.1 answer
answered_steps t (Ends finish) answer h = refl

asked_low : (callers : List Caller) (s : Step Machine) → Fine callers s → IsLow callers (asked s)
asked_low callers (Quiet next) h = tt
asked_low callers (Makes event after turned) h = h.0
asked_low callers (Ends finish) h = tt

-- what its next event names
pub next_low : (c : Program) → IsCode c → (t : Machine) → All IsStep (steps_in t.callers) → IsLow t.callers (machine_next c t)
next_low c lawful t steps = asked_low t.callers (move c t) (fine_moves c lawful t steps t.mode)

framed_steps : (callers : List Caller) (event : Ask) → IsLow callers event → (steps : List StackStep) → All IsStep steps → All IsStep (framed event steps)
framed_steps callers (Enter function site) low steps h =
    All-cons IsStep (record { target = function; site = site }) steps (record { function = omega (arith, low.0); call = low.1 }) h
framed_steps callers Leave low [] h = h
framed_steps callers Leave low (step ∷ steps) h = All-tail IsStep step steps h
framed_steps callers (Load at) low steps h = h
framed_steps callers (Store at stored) low steps h = h
framed_steps callers (Exchange at old new) low steps h = h
framed_steps callers (FetchAdd at n) low steps h = h
framed_steps callers (FetchSub at n) low steps h = h
framed_steps callers (Reach target site) low steps h = h
framed_steps callers (Create function argument) low steps h = h
framed_steps callers (Out byte) low steps h = h
framed_steps callers (Trap kind) low steps h = h
framed_steps callers (Over finish) low steps h = h

pub steps_next : (c : Program) → IsCode c → (t : Machine) (steps : List StackStep) → steps ≡ steps_in t.callers → All IsStep steps → All IsStep (framed (machine_next c t) steps)
steps_next c lawful t steps e h =
    framed_steps t.callers (machine_next c t) (next_low c lawful t (subst (All IsStep) e h)) steps h

-- the functions that it is in after an event
pub after_steps : (c : Program) → IsCode c → (t : Machine) (answer : ℕ) → All IsStep (steps_in t.callers) → steps_in (machine_after c t answer).callers ≡ framed (machine_next c t) (steps_in t.callers)
after_steps c lawful t answer steps =
    let fine = fine_moves c lawful t steps t.mode in
    let here : steps_in (answered (move c t) t answer).callers ≡ framed (machine_next c t) (steps_in t.callers) = answered_steps t (move c t) answer fine in
    let low : All IsStep (steps_in (answered (move c t) t answer).callers) = subst (All IsStep) (sym here) (framed_steps t.callers (machine_next c t) (next_low c lawful t steps) (steps_in t.callers) steps) in
    ap steps_in (parked_same c lawful (length c.instructions + 2) (answered (move c t) t answer) low) ∙ here

-- A thread that awaits something is parked there, and its next event is no Create.
park_stays : (c : Program) (n : ℕ) (t : Machine) (m : Mode) → t.mode ≡ m → awaits m ≡ true → park c n t ≡ t
park_stays c zero t m e h = refl
park_stays c (suc n) t (Calling (AwaitJoin child to)) e h = ap (λ x. stays (park c n) t (moves c t x)) e
park_stays c (suc n) t (Calling (AwaitLock at)) e h = ap (λ x. stays (park c n) t (moves c t x)) e
park_stays c (suc n) t _ e h = cc

awaiting_next : (c : Program) (t : Machine) (m : Mode) → t.mode ≡ m → awaits m ≡ true → is_creation (machine_next c t) ≡ false
awaiting_next c t (Calling (AwaitJoin child to)) e h = ap (λ x. is_creation (asked (moves c t x))) e
awaiting_next c t (Calling (AwaitLock at)) e h = ap (λ x. is_creation (asked (moves c t x))) e
awaiting_next c t _ e h = cc

parked_awaiting : (c : Program) (n : ℕ) (t : Machine) (m : Mode) → t.mode ≡ m → awaits m ≡ true → is_creation (machine_next c (park c n t)) ≡ false
parked_awaiting c n t m e h = ap (λ x. is_creation (machine_next c x)) (park_stays c n t m e h) ∙ awaiting_next c t m e h

tried_step : (s : Step Machine) (t : Machine) (answer : ℕ) → Fine t.callers s → turned_by s answer ≡ FailedTry → awaits (answered s t answer).mode ≡ true
tried_step (Quiet next) t answer h e = cc
tried_step (Makes event after turned) t answer h e = h.2 answer e
tried_step (Ends finish) t answer h e = cc

-- after a failed try no thread is started next
pub tried_next : (c : Program) → IsCode c → (t : Machine) (answer : ℕ) → All IsStep (steps_in t.callers) → machine_turned c t answer ≡ FailedTry → is_creation (machine_next c (machine_after c t answer)) ≡ false
tried_next c lawful t answer steps e =
    parked_awaiting c (length c.instructions + 2) (answered (move c t) t answer) (answered (move c t) t answer).mode refl
    (tried_step (move c t) t answer (fine_moves c lawful t steps t.mode) e)
