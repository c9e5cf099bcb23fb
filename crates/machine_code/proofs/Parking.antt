-- Quiet steps end: each lowers a rank, which is at most the number of instructions and two more. No step of an instruction is a try that can fail.
use Rattle.std.proofs.Common.{◌≡◌, refl, sym, ap, ◌∙◌, ℕ, zero, suc, ◌+◌, ◌-◌, ◌<◌, ◌≤◌, Bool, true, false, ◌||◌, ◌∷◌, length, drop, Option, Some, None, Result, Ok, Err, nat_lt, if◌then◌else◌, slice_get, slice_index, subst, arith}
use Rattle.std.proofs.lemmas.Bool.Decides.{nat_tests}
use Rattle.std.proofs.lemmas.Option.{slice_get_within}
use Rattle.std.specs.Option.{option_map_or}
use Rattle.std.specs.Prelude.{IfSome, is_some}
use Rattle.arithmetic.specs.Operators.{truth}
use Rattle.arithmetic.specs.Values.{applied, applied_to, member_of, is_true, number}
use Rattle.arithmetic.specs.declared.traps.TrapKind.{TrapKind}
use Rattle.arithmetic.specs.declared.traps.TrapKind.TheVariants.{NullCall, StackOverflow, NoValue, NoreturnReturned}
use Rattle.core_unit.specs.Words.{packed}
use Rattle.core_unit.specs.declared.words.Word.{Word}
use Rattle.core_unit.specs.declared.words.Word.TheVariants.{Zero, Undefined, Number, DataPointer, FunctionPointer, Mutex, Live, Freed}
use Rattle.mcode.specs.Machine.{Program, Machine, entry_of, finds, finds_of_held, accesses_at, has_room, serve, written_at, value_of_step, local_address, puts, filling, fills, spelling, spells, enters, enters_through, act, acts, moves, move, stays, park, machine_next, fails, entry_on_top, more_on_top}
use Rattle.mcode.specs.Memory.{held_limit, region_of}
use Rattle.mcode.specs.Stages.{held_at}
use Rattle.mcode.specs.Steps.{Step, Quiet, Makes, Ends, is_quiet, answered, turned_by}
use Rattle.mcode.specs.Words.{accessed, unpacked}
use Rattle.mcode.specs.declared.code.Entry.{Entry}
use Rattle.mcode.specs.declared.code.Instruction.{Instruction}
use Rattle.mcode.specs.declared.code.Instruction.TheVariants as i
use Rattle.mcode.specs.declared.events.Ask.{Ask}
use Rattle.mcode.specs.declared.events.Ask.TheVariants.{Load, Store}
use Rattle.mcode.specs.declared.events.Turned.TheVariants.{Went}
use Rattle.mcode.specs.declared.stages.Stage.{Stage}
use Rattle.mcode.specs.declared.thread.Mode.{Mode}
use Rattle.mcode.specs.declared.thread.Mode.TheVariants.{Starting, Entering, Running, Filling, Spelling, Calling, Failing, Delivering, Telling, Stopping, Done}
use Rattle.machine_code.specs.Bounds.{CanAnswer}
use Rattle.machine_code.specs.Codes.{IsCode, GoesOn, is_check, lands}
use Rattle.machine_code.specs.Taken.{taken}

-- how many quiet steps can come at most: none at a load of the halt word, else as many as instructions are left
abbrev pub rank_at : Program → ℕ → ℕ
rank_at c place = if is_check (slice_get c.instructions place) then 0 else suc (length c.instructions - place)

abbrev pub ranks : Program → Machine → Mode → ℕ
ranks c t (Entering function) = 1
ranks c t Running = rank_at c t.pc
ranks c t (Filling offset word count) = suc (suc (length c.instructions - t.pc))
ranks c t (Spelling offset at count) = suc (suc (length c.instructions - t.pc))
ranks c t _ = 0

abbrev pub rank : Program → Machine → ℕ
rank c t = ranks c t t.mode

rank_if : (b : Bool) (n : ℕ) → (if b then 0 else n) ≤ n
rank_if true n = omega arith
rank_if false n = omega arith

rank_at_low : (c : Program) (place : ℕ) → rank_at c place ≤ suc (length c.instructions - place)
rank_at_low c place = rank_if (is_check (slice_get c.instructions place)) (suc (length c.instructions - place))

pub rank_low : (c : Program) (t : Machine) (m : Mode) → ranks c t m ≤ length c.instructions + 2
rank_low c t (Starting function) = omega arith
rank_low c t (Entering function) = omega arith
rank_low c t Running = omega (arith, rank_at_low c t.pc)
rank_low c t (Filling offset word count) = omega arith
rank_low c t (Spelling offset at count) = omega arith
rank_low c t (Calling stage) = omega arith
rank_low c t (Failing kind) = omega arith
rank_low c t (Delivering function) = omega arith
rank_low c t Telling = omega arith
rank_low c t (Stopping finish) = omega arith
rank_low c t (Done finish) = omega arith

-- A quiet step lowers the rank below this, and an event is no try.
abbrev Falls : Program → ℕ → Step Machine → Type 0
Falls c n (Quiet s) = rank c s < n
Falls c n (Makes event after turned) = (word : ℕ) → turned word ≡ Went
Falls c n (Ends finish) = Unit {0}

falls_if : (c : Program) (n : ℕ) (b : Bool) (x y : Step Machine) → Falls c n x → Falls c n y → Falls c n (if b then x else y)
falls_if c n true x y p q = p
falls_if c n false x y p q = q

fails_falls : (c : Program) (n : ℕ) (t : Machine) (kind : TrapKind) → Falls c (suc n) (fails t kind)
fails_falls c n t kind = omega arith

-- on with the next instruction, whatever else changes
on_falls : (c : Program) (n : ℕ) (t : Machine) (place : ℕ) → t.mode ≡ Running → t.pc ≡ place → rank_at c place < n → rank c t < n
on_falls c n t place m e low = omega (arith, low, ap (ranks c t) m, ap (rank_at c) e)

finds_falls : (c : Program) (n : ℕ) (t : Machine) (found : Result Word TrapKind) → t.mode ≡ Running → rank_at c (suc t.pc) < suc n → Falls c (suc n) (finds t found)
finds_falls c n t (Ok value) m low = on_falls c (suc n) (record t { pc = suc t.pc; value = value }) (suc t.pc) m refl low
finds_falls c n t (Err kind) m low = omega arith

finds_of_held_falls : (c : Program) (n : ℕ) (t : Machine) (found : Result Word TrapKind) → t.mode ≡ Running → rank_at c (suc t.pc) < suc n →
    Falls c (suc n) (finds_of_held t found)
finds_of_held_falls c n t (Ok value) m low =
    on_falls c (suc n) (record t { pc = suc t.pc; value = value; held = drop 1 t.held }) (suc t.pc) m refl low
finds_of_held_falls c n t (Err kind) m low = omega arith

-- an access that is an event
accesses_at_falls : (c : Program) (n : ℕ) (t : Machine) (found : Result ℕ TrapKind) (event : ℕ → Ask) (after : ℕ → ℕ → Machine) →
    Falls c (suc n) (accesses_at t found (λ at. Makes (event at) (after at) (λ _. Went)))
accesses_at_falls c n t (Ok at) event after = λ word. refl
accesses_at_falls c n t (Err kind) event after = omega arith

puts_falls : (c : Program) (n : ℕ) (t : Machine) (offset word : ℕ) (on : Machine) → Falls c (suc n) (puts c t offset word on)
puts_falls c n t offset word on = accesses_at_falls c n t (accessed (DataPointer (local_address c t offset))) (λ at. Store at word) (λ at _. on)

fills_falls : (c : Program) (n : ℕ) (t : Machine) (offset word count : ℕ) → rank_at c t.pc < suc n → Falls c (suc n) (fills c t offset word count)
fills_falls c n t offset word zero low = low
fills_falls c n t offset word (suc left) low = puts_falls c n t offset word (record t { mode = filling (suc offset) word left })

spells_falls : (c : Program) (n : ℕ) (t : Machine) (offset at count : ℕ) → rank_at c t.pc < suc n → Falls c (suc n) (spells c t offset at count)
spells_falls c n t offset at zero low = low
spells_falls c n t offset at (suc left) low =
    puts_falls c n t offset (packed (number (slice_index c.texts at))) (record t { mode = spelling (suc offset) (suc at) left })

enters_falls : (c : Program) (n : ℕ) (t : Machine) (function site back more : ℕ) (found : Option Entry) → Falls c (suc n) (enters t function site back more found)
enters_falls c n t function site back more None = omega arith
enters_falls c n t function site back more (Some entry) =
    falls_if c (suc n) (has_room t entry) _ (fails t StackOverflow) (λ word. refl) (fails_falls c n t StackOverflow)

through_falls : (c : Program) (n : ℕ) (t : Machine) (callee : Word) (site : ℕ) → Falls c (suc n) (enters_through c t callee site)
through_falls c n t (FunctionPointer function level) site = enters_falls c n t function site (suc t.pc) 1 (entry_of c function)
through_falls c n t Zero site = omega arith
through_falls c n t Undefined site = omega arith
through_falls c n t (Number bits) site = omega arith
through_falls c n t (DataPointer at) site = omega arith
through_falls c n t (Mutex thread) site = omega arith
through_falls c n t (Live words) site = omega arith
through_falls c n t (Freed words) site = omega arith

-- a jump lands where the rank is lower
rank_of_check : (found : Bool) (n : ℕ) → found ≡ true → (if found then 0 else n) ≡ 0
rank_of_check true n e = refl
rank_of_check false n e = let clash : ⊥ = cc in absurd clash

lands_by : (c : Program) (place to : ℕ) (b : Bool) → place < length c.instructions → nat_lt place to ≡ b → b || is_check (slice_get c.instructions to) ≡ true →
    rank_at c to < suc (length c.instructions - place)
lands_by c place to true within e h = let later : place < to = grind (arith, nat_tests) in omega (arith, rank_at_low c to)
lands_by c place to false within e h =
    omega (arith, rank_of_check (is_check (slice_get c.instructions to)) (suc (length c.instructions - to)) h)

lands_falls : (c : Program) (place to : ℕ) → place < length c.instructions → lands c.instructions place to ≡ true → rank_at c to < suc (length c.instructions - place)
lands_falls c place to within h = lands_by c place to (nat_lt place to) within refl h

next_falls : (c : Program) (place : ℕ) → place < length c.instructions → rank_at c (suc place) < suc (length c.instructions - place)
next_falls c place within = omega (arith, rank_at_low c (suc place))

rank_either : (c : Program) (b : Bool) (x y n : ℕ) → rank_at c x < n → rank_at c y < n → rank_at c (if b then x else y) < n
rank_either c true x y n p q = p
rank_either c false x y n p q = q

-- a jump, whatever else changes
goes_falls : (c : Program) (n : ℕ) (t : Machine) (place : ℕ) → t.mode ≡ Running → rank_at c place < n → rank c (record t { pc = place }) < n
goes_falls c n t place m low = on_falls c n (record t { pc = place }) place m refl low

act_falls : (c : Program) (t : Machine) (instruction : Instruction) → t.mode ≡ Running → t.pc < length c.instructions → GoesOn c.instructions t.pc instruction →
    Falls c (suc (length c.instructions - t.pc)) (act c t instruction)
act_falls c t (i.SetValue word) m within jump = on_falls c _ (record t { pc = suc t.pc; value = word }) (suc t.pc) m refl (next_falls c t.pc within)
act_falls c t (i.SetLocal offset) m within jump =
    on_falls c _ (record t { pc = suc t.pc; value = DataPointer (local_address c t offset) }) (suc t.pc) m refl (next_falls c t.pc within)
act_falls c t (i.SetThreadLocal offset) m within jump =
    on_falls c _ (record t { pc = suc t.pc; value = DataPointer (region_of c.static_words t.number + offset) }) (suc t.pc) m refl (next_falls c t.pc within)
act_falls c t i.HoldValue m within jump =
    falls_if c _ (nat_lt (length t.held) held_limit) (Quiet (record t { pc = suc t.pc; held = t.value ∷ t.held })) (fails t StackOverflow)
    (on_falls c _ (record t { pc = suc t.pc; held = t.value ∷ t.held }) (suc t.pc) m refl (next_falls c t.pc within)) (fails_falls c _ t StackOverflow)
act_falls c t (i.LoadAs kind) m within jump =
    accesses_at_falls c _ t (accessed t.value) (λ at. Load at) (λ at word. serve c t kind (unpacked word))
act_falls c t (i.StoreAs level) m within jump =
    accesses_at_falls c _ t (accessed (held_at t.held 0)) (λ at. Store at (packed (written_at level t.value))) (λ at _. record t { pc = suc t.pc; held = drop 1 t.held })
act_falls c t (i.Change operator) m within jump = finds_falls c _ t (applied_to operator t.value) m (next_falls c t.pc within)
act_falls c t (i.Apply operation) m within jump = finds_of_held_falls c _ t (applied operation (held_at t.held 0) t.value) m (next_falls c t.pc within)
act_falls c t (i.Advance operation) m within jump = finds_falls c _ t (applied operation (held_at t.held 0) (Number 1)) m (next_falls c t.pc within)
act_falls c t (i.StoreStep level which) m within jump =
    accesses_at_falls c _ t (accessed (held_at t.held 1)) (λ at. Store at (packed (written_at level t.value)))
    (λ at _. record t { pc = suc t.pc; value = value_of_step which t.value (held_at t.held 0); held = drop 2 t.held })
act_falls c t (i.Shift offset) m within jump = finds_falls c _ t (member_of offset t.value) m (next_falls c t.pc within)
act_falls c t i.Truth m within jump =
    on_falls c _ (record t { pc = suc t.pc; value = number (truth (is_true t.value)) }) (suc t.pc) m refl (next_falls c t.pc within)
act_falls c t (i.GoTo place) m within jump = goes_falls c _ t place m (lands_falls c t.pc place within jump)
act_falls c t (i.GoIfZero place) m within jump =
    goes_falls c _ t (if is_true t.value then suc t.pc else place) m (rank_either c (is_true t.value) (suc t.pc) place _ (next_falls c t.pc within) (lands_falls c t.pc place within jump))
act_falls c t (i.GoIfNotZero place) m within jump =
    goes_falls c _ t (if is_true t.value then place else suc t.pc) m (rank_either c (is_true t.value) place (suc t.pc) _ (lands_falls c t.pc place within jump) (next_falls c t.pc within))
act_falls c t (i.Fill offset word count) m within jump =
    fills_falls c (length c.instructions - t.pc) (record t { pc = suc t.pc }) offset word count (next_falls c t.pc within)
act_falls c t (i.FillText offset at count) m within jump =
    spells_falls c (length c.instructions - t.pc) (record t { pc = suc t.pc }) offset at count (next_falls c t.pc within)
act_falls c t (i.Put offset level) m within jump = puts_falls c _ t offset (packed (written_at level t.value)) (record t { pc = suc t.pc })
act_falls c t (i.Guard count) m within jump =
    falls_if c _ (is_true (held_at t.held count)) (Quiet (record t { pc = suc t.pc })) (fails t NullCall)
    (goes_falls c _ t (suc t.pc) m (next_falls c t.pc within)) (fails_falls c _ t NullCall)
act_falls c t i.CheckHalt m within jump = λ word. refl
act_falls c t (i.EnterFunction function site) m within jump = enters_falls c _ t function site (suc t.pc) 0 (entry_of c function)
act_falls c t (i.EnterThrough count site) m within jump = through_falls c _ t (held_at t.held count) site
act_falls c t (i.ReachFunction function) m within jump = λ word. refl
act_falls c t (i.Bind offset back level) m within jump = puts_falls c _ t offset (packed (written_at level (held_at t.held back))) (record t { pc = suc t.pc })
act_falls c t (i.Forget count) m within jump =
    on_falls c _ (record t { pc = suc t.pc; held = drop (count + more_on_top t.callers) t.held }) (suc t.pc) m refl (next_falls c t.pc within)
act_falls c t (i.CallRow row site count) m within jump = λ word. refl
act_falls c t i.FallOff m within jump =
    falls_if c _ (option_map_or (λ entry. entry.falls) (entry_on_top c t.callers) false) (Quiet (record t { pc = suc t.pc; value = Zero })) (fails t NoValue)
    (on_falls c _ (record t { pc = suc t.pc; value = Zero }) (suc t.pc) m refl (next_falls c t.pc within)) (fails_falls c _ t NoValue)
act_falls c t i.LeaveFunction m within jump =
    falls_if c _ (option_map_or (λ entry. entry.noreturn) (entry_on_top c t.callers) false) (fails t NoreturnReturned) _ (fails_falls c _ t NoreturnReturned) (λ word. refl)
act_falls c t (i.FailWith kind) m within jump = fails_falls c _ t kind

-- At a load of the halt word no step is quiet.
at_check : (c : Program) (t : Machine) (instruction : Instruction) (b : Bool) → is_check (Some instruction) ≡ b →
    Falls c (suc (length c.instructions - t.pc)) (act c t instruction) → Falls c (if b then 0 else suc (length c.instructions - t.pc)) (act c t instruction)
at_check c t instruction false e h = h
at_check c t i.CheckHalt true e h = h
at_check c t (i.SetValue word) true e h = let clash : ⊥ = cc in absurd clash
at_check c t (i.SetLocal offset) true e h = let clash : ⊥ = cc in absurd clash
at_check c t (i.SetThreadLocal offset) true e h = let clash : ⊥ = cc in absurd clash
at_check c t i.HoldValue true e h = let clash : ⊥ = cc in absurd clash
at_check c t (i.LoadAs kind) true e h = let clash : ⊥ = cc in absurd clash
at_check c t (i.StoreAs level) true e h = let clash : ⊥ = cc in absurd clash
at_check c t (i.Change operator) true e h = let clash : ⊥ = cc in absurd clash
at_check c t (i.Apply operation) true e h = let clash : ⊥ = cc in absurd clash
at_check c t (i.Advance operation) true e h = let clash : ⊥ = cc in absurd clash
at_check c t (i.StoreStep level which) true e h = let clash : ⊥ = cc in absurd clash
at_check c t (i.Shift offset) true e h = let clash : ⊥ = cc in absurd clash
at_check c t i.Truth true e h = let clash : ⊥ = cc in absurd clash
at_check c t (i.GoTo place) true e h = let clash : ⊥ = cc in absurd clash
at_check c t (i.GoIfZero place) true e h = let clash : ⊥ = cc in absurd clash
at_check c t (i.GoIfNotZero place) true e h = let clash : ⊥ = cc in absurd clash
at_check c t (i.Fill offset word count) true e h = let clash : ⊥ = cc in absurd clash
at_check c t (i.FillText offset at count) true e h = let clash : ⊥ = cc in absurd clash
at_check c t (i.Put offset level) true e h = let clash : ⊥ = cc in absurd clash
at_check c t (i.Guard count) true e h = let clash : ⊥ = cc in absurd clash
at_check c t (i.EnterFunction function site) true e h = let clash : ⊥ = cc in absurd clash
at_check c t (i.EnterThrough count site) true e h = let clash : ⊥ = cc in absurd clash
at_check c t (i.ReachFunction function) true e h = let clash : ⊥ = cc in absurd clash
at_check c t (i.Bind offset back level) true e h = let clash : ⊥ = cc in absurd clash
at_check c t (i.Forget count) true e h = let clash : ⊥ = cc in absurd clash
at_check c t (i.CallRow row site count) true e h = let clash : ⊥ = cc in absurd clash
at_check c t i.FallOff true e h = let clash : ⊥ = cc in absurd clash
at_check c t i.LeaveFunction true e h = let clash : ⊥ = cc in absurd clash
at_check c t (i.FailWith kind) true e h = let clash : ⊥ = cc in absurd clash

acts_falls : (c : Program) (t : Machine) (found : Option Instruction) → IsCode c → t.mode ≡ Running → slice_get c.instructions t.pc ≡ found →
    Falls c (if is_check found then 0 else suc (length c.instructions - t.pc)) (acts c t found)
acts_falls c t None code m e = omega arith
acts_falls c t (Some instruction) code m e =
    at_check c t instruction (is_check (Some instruction)) refl
    (act_falls c t instruction m (slice_get_within c.instructions t.pc instruction e) (code.jumps t.pc instruction e))

-- in each mode but those of library calls
abbrev is_calling : Mode → Bool
is_calling (Calling stage) = true
is_calling _ = false

moves_falls : (c : Program) (t : Machine) (m : Mode) → IsCode c → t.mode ≡ m → is_calling m ≡ false → Falls c (ranks c t m) (moves c t m)
moves_falls c t (Starting function) code e n = λ word. refl
moves_falls c t (Entering function) code e n = enters_falls c 0 t function 0 0 0 (entry_of c function)
moves_falls c t Running code e n = acts_falls c t (slice_get c.instructions t.pc) code e refl
moves_falls c t (Filling offset word count) code e n =
    fills_falls c (suc (length c.instructions - t.pc)) t offset word count (omega (arith, rank_at_low c t.pc))
moves_falls c t (Spelling offset at count) code e n =
    spells_falls c (suc (length c.instructions - t.pc)) t offset at count (omega (arith, rank_at_low c t.pc))
moves_falls c t (Calling stage) code e n = let clash : ⊥ = cc in absurd clash
moves_falls c t (Failing kind) code e n = λ word. refl
moves_falls c t (Delivering function) code e n = λ word. refl
moves_falls c t Telling code e n = λ word. refl
moves_falls c t (Stopping finish) code e n = λ word. refl
moves_falls c t (Done finish) code e n = tt

went_by : (c : Program) (n : ℕ) (step : Step Machine) (word : ℕ) → Falls c n step → turned_by step word ≡ Went
went_by c n (Quiet s) word h = refl
went_by c n (Makes event after turned) word h = h word
went_by c n (Ends finish) word h = refl

went_in : (c : Program) (t : Machine) (m : Mode) (word : ℕ) → IsCode c → t.mode ≡ m → is_calling m ≡ false → Went ≡ turned_by (moves c t m) word
went_in c t m word code e n = sym (went_by c (ranks c t m) (moves c t m) word (moves_falls c t m code e n))

calls_none : (m : Mode) → ((stage : Stage) → m ≡ Calling stage → ⊥) → is_calling m ≡ false
calls_none (Calling stage) n = absurd (n stage refl)
calls_none (Starting function) n = refl
calls_none (Entering function) n = refl
calls_none Running n = refl
calls_none (Filling offset word count) n = refl
calls_none (Spelling offset at count) n = refl
calls_none (Failing kind) n = refl
calls_none (Delivering function) n = refl
calls_none Telling n = refl
calls_none (Stopping finish) n = refl
calls_none (Done finish) n = refl

-- Outside library calls no answer tells of a try that failed.
pub went : (c : Program) (t : Machine) (word : ℕ) → IsCode c → ((stage : Stage) → t.mode ≡ Calling stage → ⊥) → Went ≡ turned_by (move c t) word
went c t word code n = went_in c t t.mode word code refl (calls_none t.mode n)

quiet_rank : (c : Program) (t : Machine) (n : ℕ) (step : Step Machine) → Falls c n step → is_quiet step ≡ true → rank c (taken t None step) < n
quiet_rank c t n (Quiet s) h q = h
quiet_rank c t n (Makes event after turned) h q = let clash : ⊥ = cc in absurd clash
quiet_rank c t n (Ends finish) h q = let clash : ⊥ = cc in absurd clash

-- a stage of a library call is an event
calling_loud : (c : Program) (t : Machine) (m : Mode) → is_calling m ≡ true → is_quiet (moves c t m) ≡ true → ⊥
calling_loud c t (Calling stage) e q = cc
calling_loud c t (Starting function) e q = cc
calling_loud c t (Entering function) e q = cc
calling_loud c t Running e q = cc
calling_loud c t (Filling offset word count) e q = cc
calling_loud c t (Spelling offset at count) e q = cc
calling_loud c t (Failing kind) e q = cc
calling_loud c t (Delivering function) e q = cc
calling_loud c t Telling e q = cc
calling_loud c t (Stopping finish) e q = cc
calling_loud c t (Done finish) e q = cc

falls_in : (c : Program) (t : Machine) → IsCode c → is_quiet (move c t) ≡ true → (b : Bool) → is_calling t.mode ≡ b → rank c (taken t None (move c t)) < rank c t
falls_in c t code q false n = quiet_rank c t (rank c t) (move c t) (moves_falls c t t.mode code refl n) q
falls_in c t code q true n = absurd (calling_loud c t t.mode n q)

-- Each quiet step lowers the rank.
pub quiet_falls : (c : Program) (t : Machine) → IsCode c → is_quiet (move c t) ≡ true → rank c (taken t None (move c t)) < rank c t
quiet_falls c t code q = falls_in c t code q (is_calling t.mode) refl

stays_quiet : (go : Machine → Machine) (t : Machine) (step : Step Machine) → is_quiet step ≡ true → stays go t step ≡ go (taken t None step)
stays_quiet go t (Quiet s) q = refl
stays_quiet go t (Makes event after turned) q = let clash : ⊥ = cc in absurd clash
stays_quiet go t (Ends finish) q = let clash : ⊥ = cc in absurd clash

stays_loud : (go : Machine → Machine) (t : Machine) (step : Step Machine) → is_quiet step ≡ false → stays go t step ≡ t
stays_loud go t (Quiet s) q = let clash : ⊥ = cc in absurd clash
stays_loud go t (Makes event after turned) q = refl
stays_loud go t (Ends finish) q = refl

taken_loud : (t : Machine) (step : Step Machine) → is_quiet step ≡ false → taken t None step ≡ t
taken_loud t (Quiet s) q = let clash : ⊥ = cc in absurd clash
taken_loud t (Makes event after turned) q = refl
taken_loud t (Ends finish) q = refl

taken_answered : (t : Machine) (word : ℕ) (step : Step Machine) → taken t (Some word) step ≡ answered step t word
taken_answered t word (Quiet s) = refl
taken_answered t word (Makes event after turned) = refl
taken_answered t word (Ends finish) = refl

-- a quiet step is the first of those that are run
pub park_quiet : (c : Program) (n : ℕ) (t : Machine) → is_quiet (move c t) ≡ true → park c (suc n) t ≡ park c n (taken t None (move c t))
park_quiet c n t q = stays_quiet (park c n) t (move c t) q

-- a thread that isn't quiet is parked
pub park_loud : (c : Program) (n : ℕ) (t : Machine) → is_quiet (move c t) ≡ false → park c n t ≡ t
park_loud c zero t q = refl
park_loud c (suc n) t q = stays_loud (park c n) t (move c t) q

-- what the loop that runs quiet instructions keeps: so many steps are enough, and lead to the target
pub record Parking (c : Program) (t target : Machine) : Type 0 where
  pub fuel : ℕ
  pub enough : rank c t ≤ fuel
  pub leads : park c fuel t ≡ target

parking_starts : (c : Program) (t : Machine) → Parking c t (park c (length c.instructions + 2) t)
parking_starts c t = record { fuel = length c.instructions + 2; enough = rank_low c t t.mode; leads = refl }

-- after an event that was answered
pub parking_begins : (c : Program) (t next : Machine) (word : ℕ) → next ≡ taken t (Some word) (move c t) →
    Parking c next (park c (length c.instructions + 2) (answered (move c t) t word))
parking_begins c t next word e =
    let same : next ≡ answered (move c t) t word = e ∙ taken_answered t word (move c t) in
    subst (λ s. Parking c next (park c (length c.instructions + 2) s)) same (parking_starts c next)

goes_on : (c : Program) (t target : Machine) (n : ℕ) → IsCode c → is_quiet (move c t) ≡ true → rank c t ≤ n → park c n t ≡ target →
    Parking c (taken t None (move c t)) target
goes_on c t target zero code q low leads = absurd (omega (arith, quiet_falls c t code q))
goes_on c t target (suc n) code q low leads =
    record { fuel = n; enough = omega (arith, quiet_falls c t code q); leads = sym (park_quiet c n t q) ∙ leads }

-- what the loop of an answer keeps: first the event is to be answered, and then quiet instructions are run
abbrev pub Leads : Program → Machine → Option ℕ → Machine → Type 0
Leads c t (Some word) target = CanAnswer (machine_next c t) word × (park c (length c.instructions + 2) (answered (move c t) t word) ≡ target)
Leads c t None target = Parking c t target

-- how many steps the loop can make at most
abbrev pub left : Program → Machine → Option ℕ → ℕ
left c t (Some word) = length c.instructions + 3
left c t None = rank c t

pub leads_may : (c : Program) (t target : Machine) (answer : Option ℕ) → Leads c t answer target → IfSome answer (CanAnswer (machine_next c t))
leads_may c t target (Some word) h = h.0
leads_may c t target None h = tt

pub leads_on : (c : Program) (t next target : Machine) (answer : Option ℕ) → IsCode c → next ≡ taken t answer (move c t) →
    (answer ≡ None → is_quiet (move c t) ≡ true) → Leads c t answer target → Parking c next target
leads_on c t next target (Some word) code e q h = subst (λ s. Parking c next s) h.1 (parking_begins c t next word e)
leads_on c t next target None code e q h = subst (λ s. Parking c s target) (sym e) (goes_on c t target h.fuel code (q refl) h.enough h.leads)

pub left_falls : (c : Program) (t next : Machine) (answer : Option ℕ) → IsCode c → next ≡ taken t answer (move c t) →
    (answer ≡ None → is_quiet (move c t) ≡ true) → rank c next < left c t answer
left_falls c t next (Some word) code e q = omega (arith, rank_low c next next.mode)
left_falls c t next None code e q = subst (λ s. rank c s < rank c t) (sym e) (quiet_falls c t code (q refl))

pub leads_end : (c : Program) (t next target : Machine) (answer : Option ℕ) → answer ≡ None → next ≡ taken t answer (move c t) → is_quiet (move c t) ≡ false →
    Leads c t answer target → next ≡ target
leads_end c t next target (Some word) none e q h = let clash : ⊥ = cc in absurd clash
leads_end c t next target None none e q h = e ∙ taken_loud t (move c t) q ∙ sym (park_loud c h.fuel t q) ∙ h.leads

pub none_is : (answer : Option ℕ) → is_some answer ≡ false → answer ≡ None
none_is None h = refl
none_is (Some word) h = let clash : ⊥ = cc in absurd clash

pub some_is : (answer : Option ℕ) → is_some answer ≡ true → answer ≡ None → ⊥
some_is None h e = cc
some_is (Some word) h e = cc

-- enough steps lead to a thread that isn't quiet
pub park_parks : (c : Program) (n : ℕ) (t : Machine) → IsCode c → rank c t ≤ n → is_quiet (move c (park c n t)) ≡ false
park_parks c zero t code low = none_left c t code low (is_quiet (move c t)) refl
  where
    none_left : (c : Program) (t : Machine) → IsCode c → rank c t ≤ 0 → (b : Bool) → is_quiet (move c t) ≡ b → is_quiet (move c t) ≡ false
    none_left c t code low true q = absurd (omega (arith, quiet_falls c t code q))
    none_left c t code low false q = q
park_parks c (suc n) t code low = parks_on c n t code (park_parks c n) (is_quiet (move c t)) refl low
  where
    parks_on : (c : Program) (n : ℕ) (t : Machine) → IsCode c → ((s : Machine) → IsCode c → rank c s ≤ n → is_quiet (move c (park c n s)) ≡ false) → (b : Bool) → is_quiet (move c t) ≡ b → rank c t ≤ suc n → is_quiet (move c (park c (suc n) t)) ≡ false
    parks_on c n t code on true q low =
        subst (λ s. is_quiet (move c s) ≡ false) (sym (park_quiet c n t q)) (on (taken t None (move c t)) code (omega (arith, quiet_falls c t code q)))
    parks_on c n t code on false q low = subst (λ s. is_quiet (move c s) ≡ false) (sym (park_loud c (suc n) t q)) q
