-- Quiet steps of code whose jumps go on, or back to loads of the halt word, come to an end: each lowers a rank.
use Rattle.std.proofs.Common.{◌≡◌, refl, ap, ℕ, zero, suc, ◌-◌, ◌<◌, ◌≤◌, ◌⊎◌, inl, inr, Bool, true, false, ◌||◌, ◌∷◌, length, Option, Some, None, Result, Ok, Err, subst, arith, nat_lt, if◌then◌else◌, slice_get}
use Rattle.std.proofs.lemmas.Option.{slice_get_within}
use Rattle.arithmetic.specs.Values.{applied, applied_to, member_of, is_true}
use Rattle.arithmetic.specs.declared.traps.TrapKind.{TrapKind}
use Rattle.core_unit.specs.declared.words.Word.{Word}
use Rattle.core_unit.specs.declared.words.Word.TheVariants as word
use Rattle.mcode.specs.Machine.{Program, Machine, entry_of, move, moves, act, acts, finds, finds_of_held, accesses_at, puts, fills, spells, filling, spelling, has_room, enters, enters_through, entry_on_top, local_address, gives, goes, fails, leaves}
use Rattle.std.specs.Option.{option_map_or}
use Rattle.arithmetic.specs.declared.traps.TrapKind.TheVariants.{NoValue, NoreturnReturned, StackOverflow, NullCall}
use Rattle.mcode.specs.declared.events.Ask.TheVariants.{Leave}
use Rattle.mcode.specs.Steps.{does}
use Rattle.mcode.specs.Memory.{held_limit}
use Rattle.mcode.specs.Stages.{held_at}
use Rattle.mcode.specs.Steps.{Step, Quiet, Makes, Ends}
use Rattle.mcode.specs.Words.{accessed}
use Rattle.mcode.specs.declared.code.Entry.{Entry}
use Rattle.mcode.specs.declared.code.Instruction.{Instruction}
use Rattle.mcode.specs.declared.code.Instruction.TheVariants as i
use Rattle.mcode.specs.declared.thread.Mode.{Mode}
use Rattle.mcode.specs.declared.thread.Mode.TheVariants.{Starting, Entering, Running, Filling, Spelling, Calling, Failing, Delivering, Telling, Stopping, Done}
use Rattle.std.proofs.lemmas.Bool.Decides.{nat_tests}
use Rattle.machine_code.specs.Codes.{GoesOn, is_check}
use Rattle.c_codegen.specs.Lies.{Is}

-- a jump goes on, or back to a load of the halt word
abbrev pub Lands : Program → (at place : ℕ) → Type 0
Lands c at place = (at < place) ⊎ Is c place i.CheckHalt

abbrev pub JumpLands : Program → (at : ℕ) → Instruction → Type 0
JumpLands c at (i.GoTo place) = Lands c at place
JumpLands c at (i.GoIfZero place) = Lands c at place
JumpLands c at (i.GoIfNotZero place) = Lands c at place
JumpLands c at _ = Unit {0}

check_is : (x : Option Instruction) → is_check x ≡ true → x ≡ Some i.CheckHalt
check_is (Some i.CheckHalt) h = refl
check_is x h = let clash : ⊥ = cc in absurd clash

lands_so : (c : Program) (at place : ℕ) (b : Bool) → nat_lt at place ≡ b → (b || is_check (slice_get c.instructions place)) ≡ true → Lands c at place
lands_so c at place true e h = inl (grind (arith, nat_tests))
lands_so c at place false e h = inr (check_is (slice_get c.instructions place) h)

pub jump_lands : (c : Program) (at : ℕ) (x : Instruction) → GoesOn c.instructions at x → JumpLands c at x
jump_lands c at (i.GoTo place) h = lands_so c at place (nat_lt at place) refl h
jump_lands c at (i.GoIfZero place) h = lands_so c at place (nat_lt at place) refl h
jump_lands c at (i.GoIfNotZero place) h = lands_so c at place (nat_lt at place) refl h
jump_lands c at x h = tt

-- how many quiet steps can come at most, from a place: none at a load of the halt word
abbrev pub rank_by : Option Instruction → (left : ℕ) → ℕ
rank_by (Some i.CheckHalt) left = 0
rank_by _ left = suc left

abbrev pub rank_at : Program → ℕ → ℕ
rank_at c pc = rank_by (slice_get c.instructions pc) (length c.instructions - pc)

abbrev pub ranks : Program → (pc : ℕ) → Mode → ℕ
ranks c pc (Entering function) = 1
ranks c pc Running = rank_at c pc
ranks c pc (Filling offset raw zero) = suc (rank_at c pc)
ranks c pc (Filling offset raw (suc left)) = 1
ranks c pc (Spelling offset at zero) = suc (rank_at c pc)
ranks c pc (Spelling offset at (suc left)) = 1
ranks c pc _ = 0

abbrev pub rank : Program → Machine → ℕ
rank c t = ranks c t.pc t.mode

rank_by_low : (i : Option Instruction) (left : ℕ) → rank_by i left ≤ suc left
rank_by_low None left = omega arith
rank_by_low (Some i.CheckHalt) left = omega arith
rank_by_low (Some (i.SetValue value)) left = omega arith
rank_by_low (Some (i.SetLocal offset)) left = omega arith
rank_by_low (Some (i.SetThreadLocal offset)) left = omega arith
rank_by_low (Some i.HoldValue) left = omega arith
rank_by_low (Some (i.LoadAs kind)) left = omega arith
rank_by_low (Some (i.StoreAs level)) left = omega arith
rank_by_low (Some (i.Change operator)) left = omega arith
rank_by_low (Some (i.Apply operation)) left = omega arith
rank_by_low (Some (i.Advance operation)) left = omega arith
rank_by_low (Some (i.StoreStep level which)) left = omega arith
rank_by_low (Some (i.Shift offset)) left = omega arith
rank_by_low (Some i.Truth) left = omega arith
rank_by_low (Some (i.GoTo place)) left = omega arith
rank_by_low (Some (i.GoIfZero place)) left = omega arith
rank_by_low (Some (i.GoIfNotZero place)) left = omega arith
rank_by_low (Some (i.Fill offset raw count)) left = omega arith
rank_by_low (Some (i.FillText offset at count)) left = omega arith
rank_by_low (Some (i.Put offset level)) left = omega arith
rank_by_low (Some (i.Guard count)) left = omega arith
rank_by_low (Some (i.EnterFunction function site)) left = omega arith
rank_by_low (Some (i.EnterThrough count site)) left = omega arith
rank_by_low (Some (i.ReachFunction function)) left = omega arith
rank_by_low (Some (i.Bind offset back level)) left = omega arith
rank_by_low (Some (i.Forget count)) left = omega arith
rank_by_low (Some (i.CallRow row site count)) left = omega arith
rank_by_low (Some i.FallOff) left = omega arith
rank_by_low (Some i.LeaveFunction) left = omega arith
rank_by_low (Some (i.FailWith kind)) left = omega arith

-- a rank below that of a thread at which no event may come
pub rank_low : (c : Program) (pc : ℕ) → rank_at c pc ≤ suc (length c.instructions)
rank_low c pc = let low = rank_by_low (slice_get c.instructions pc) (length c.instructions - pc) in omega (arith, low)

-- a quiet step comes to a rank below this
abbrev Lowers : Program → ℕ → Step Machine → Type 0
Lowers c n (Quiet t) = rank c t < n
Lowers c n (Makes event after turned) = Unit {0}
Lowers c n (Ends finish) = Unit {0}

module _ (c : Program) where
  finds_lower : (n : ℕ) (t : Machine) (found : Result Word TrapKind) → ranks c (suc t.pc) t.mode < n → Lowers c n (finds t found)
  finds_lower n t (Ok value) low = low
  finds_lower n t (Err kind) low = omega (arith, low)

  held_lower : (n : ℕ) (t : Machine) (found : Result Word TrapKind) → ranks c (suc t.pc) t.mode < n → Lowers c n (finds_of_held t found)
  held_lower n t (Ok value) low = low
  held_lower n t (Err kind) low = omega (arith, low)

  access_lowers : (n : ℕ) (t : Machine) (found : Result ℕ TrapKind) (go : ℕ → Step Machine) → 0 < n → ((at : ℕ) → Lowers c n (go at)) → Lowers c n (accesses_at t found go)
  access_lowers n t (Ok at) go some on = on at
  access_lowers n t (Err kind) go some on = some

  puts_lower : (n : ℕ) (t : Machine) (offset raw : ℕ) (on : Machine) → 0 < n → Lowers c n (puts c t offset raw on)
  puts_lower n t offset raw on some =
      access_lowers n t (accessed (word.DataPointer (local_address c t offset))) _ some (λ at. tt)

  fills_lower : (n : ℕ) (t : Machine) (offset raw count : ℕ) → 0 < n → rank_at c t.pc < n → Lowers c n (fills c t offset raw count)
  fills_lower n t offset raw zero some low = low
  fills_lower n t offset raw (suc left) some low = puts_lower n t offset raw (record t { mode = filling (suc offset) raw left }) some

  spells_lower : (n : ℕ) (t : Machine) (offset at count : ℕ) → 0 < n → rank_at c t.pc < n → Lowers c n (spells c t offset at count)
  spells_lower n t offset at zero some low = low
  spells_lower n t offset at (suc left) some low = puts_lower n t offset _ (record t { mode = spelling (suc offset) (suc at) left }) some

  chosen : (b : Bool) (n : ℕ) (x y : Step Machine) → Lowers c n x → Lowers c n y → Lowers c n (if b then x else y)
  chosen true n x y p q = p
  chosen false n x y p q = q

  enters_lower : (n : ℕ) (t : Machine) (function site back more : ℕ) (entry : Option Entry) → 0 < n → Lowers c n (enters t function site back more entry)
  enters_lower n t function site back more None some = some
  enters_lower n t function site back more (Some entry) some = chosen (has_room t entry) n _ _ tt some

  through_lower : (n : ℕ) (t : Machine) (called : Word) (site : ℕ) → 0 < n → Lowers c n (enters_through c t called site)
  through_lower n t (word.FunctionPointer function level) site some = enters_lower n t function site (suc t.pc) 1 (entry_of c function) some
  through_lower n t word.Zero site some = some
  through_lower n t word.Undefined site some = some
  through_lower n t (word.Number bits) site some = some
  through_lower n t (word.DataPointer at) site some = some
  through_lower n t (word.Mutex thread) site some = some
  through_lower n t (word.Live count) site some = some
  through_lower n t (word.Freed count) site some = some

  -- the next place, and where a jump lands
  next_low : (pc : ℕ) (i : Instruction) → Is c pc i → rank_at c (suc pc) < suc (length c.instructions - pc)
  next_low pc i is =
      let within = slice_get_within c.instructions pc i is in
      let low = rank_by_low (slice_get c.instructions (suc pc)) (length c.instructions - suc pc) in
      omega (arith, within, low)

  jump_low : (pc place : ℕ) (i : Instruction) → Is c pc i → Lands c pc place → rank_at c place < suc (length c.instructions - pc)
  jump_low pc place i is (inl on) =
      let within = slice_get_within c.instructions pc i is in
      let low = rank_by_low (slice_get c.instructions place) (length c.instructions - place) in
      omega (arith, within, low, on)
  jump_low pc place i is (inr halt) =
      let none : rank_at c place ≡ 0 = ap (λ i. rank_by i (length c.instructions - place)) halt in omega (arith, none)

  branch_low : (b : Bool) (n x y : ℕ) → rank_at c x < n → rank_at c y < n → rank_at c (if b then x else y) < n
  branch_low true n x y p q = p
  branch_low false n x y p q = q

  abbrev running : Machine → Machine
  running t = record t { mode = Running }

  act_lowers : (t : Machine) (i : Instruction) → Is c t.pc i → JumpLands c t.pc i → Lowers c (rank_by (Some i) (length c.instructions - t.pc)) (act c (running t) i)
  act_lowers t (i.SetValue value) is lands = next_low t.pc _ is
  act_lowers t (i.SetLocal offset) is lands = next_low t.pc _ is
  act_lowers t (i.SetThreadLocal offset) is lands = next_low t.pc _ is
  act_lowers t i.HoldValue is lands = chosen (nat_lt (length t.held) held_limit) (suc (length c.instructions - t.pc)) (Quiet (record (running t) { pc = suc t.pc; held = t.value ∷ t.held })) (fails (running t) StackOverflow) (next_low t.pc _ is) (omega arith)
  act_lowers t (i.LoadAs kind) is lands = access_lowers _ (running t) (accessed t.value) _ (omega arith) (λ at. tt)
  act_lowers t (i.StoreAs level) is lands = access_lowers _ (running t) (accessed (held_at t.held 0)) _ (omega arith) (λ at. tt)
  act_lowers t (i.Change operator) is lands = finds_lower _ (running t) (applied_to operator t.value) (next_low t.pc _ is)
  act_lowers t (i.Apply operation) is lands = held_lower _ (running t) (applied operation (held_at t.held 0) t.value) (next_low t.pc _ is)
  act_lowers t (i.Advance operation) is lands = finds_lower _ (running t) (applied operation (held_at t.held 0) (word.Number 1)) (next_low t.pc _ is)
  act_lowers t (i.StoreStep level which) is lands = access_lowers _ (running t) (accessed (held_at t.held 1)) _ (omega arith) (λ at. tt)
  act_lowers t (i.Shift offset) is lands = finds_lower _ (running t) (member_of offset t.value) (next_low t.pc _ is)
  act_lowers t i.Truth is lands = next_low t.pc _ is
  act_lowers t (i.GoTo place) is lands = jump_low t.pc place _ is lands
  act_lowers t (i.GoIfZero place) is lands = branch_low (is_true t.value) _ (suc t.pc) place (next_low t.pc _ is) (jump_low t.pc place _ is lands)
  act_lowers t (i.GoIfNotZero place) is lands = branch_low (is_true t.value) _ place (suc t.pc) (jump_low t.pc place _ is lands) (next_low t.pc _ is)
  act_lowers t (i.Fill offset raw count) is lands = fills_lower _ (record (running t) { pc = suc t.pc }) offset raw count (omega arith) (next_low t.pc _ is)
  act_lowers t (i.FillText offset at count) is lands = spells_lower _ (record (running t) { pc = suc t.pc }) offset at count (omega arith) (next_low t.pc _ is)
  act_lowers t (i.Put offset level) is lands = puts_lower _ (running t) offset _ (record (running t) { pc = suc t.pc }) (omega arith)
  act_lowers t (i.Guard count) is lands = chosen (is_true (held_at t.held count)) (suc (length c.instructions - t.pc)) (goes (running t) (suc t.pc)) (fails (running t) NullCall) (next_low t.pc _ is) (omega arith)
  act_lowers t i.CheckHalt is lands = tt
  act_lowers t (i.EnterFunction function site) is lands = enters_lower _ (running t) function site (suc t.pc) 0 (entry_of c function) (omega arith)
  act_lowers t (i.EnterThrough count site) is lands = through_lower _ (running t) (held_at t.held count) site (omega arith)
  act_lowers t (i.ReachFunction function) is lands = tt
  act_lowers t (i.Bind offset back level) is lands = puts_lower _ (running t) offset _ (record (running t) { pc = suc t.pc }) (omega arith)
  act_lowers t (i.Forget count) is lands = next_low t.pc _ is
  act_lowers t (i.CallRow row site count) is lands = tt
  act_lowers t i.FallOff is lands =
      chosen (option_map_or (λ entry. entry.falls) (entry_on_top c t.callers) false) (suc (length c.instructions - t.pc)) (gives (running t) word.Zero) (fails (running t) NoValue)
      (next_low t.pc _ is) (omega arith)
  act_lowers t i.LeaveFunction is lands =
      chosen (option_map_or (λ entry. entry.noreturn) (entry_on_top c t.callers) false) (suc (length c.instructions - t.pc)) (fails (running t) NoreturnReturned)
      (does Leave (leaves c (running t) t.callers)) (omega arith) tt
  act_lowers t (i.FailWith kind) is lands = omega arith

  module _ (jumps : (at : ℕ) (i : Instruction) → Is c at i → JumpLands c at i) where
    acts_lower : (t : Machine) (i : Option Instruction) → slice_get c.instructions t.pc ≡ i → Lowers c (rank_by i (length c.instructions - t.pc)) (acts c (running t) i)
    acts_lower t (Some i) is = act_lowers t i is (jumps t.pc i is)
    acts_lower t None is = omega arith

    moves_lower : (t : Machine) (m : Mode) → Lowers c (ranks c t.pc m) (moves c (record t { mode = m }) m)
    moves_lower t (Starting function) = tt
    moves_lower t (Entering function) = enters_lower 1 (record t { mode = Entering function }) function 0 0 0 (entry_of c function) (omega arith)
    moves_lower t Running = acts_lower t (slice_get c.instructions t.pc) refl
    moves_lower t (Filling offset raw zero) = omega arith
    moves_lower t (Filling offset raw (suc left)) =
        puts_lower 1 (record t { mode = Filling offset raw (suc left) }) offset raw (record t { mode = filling (suc offset) raw left }) (omega arith)
    moves_lower t (Spelling offset at zero) = omega arith
    moves_lower t (Spelling offset at (suc left)) =
        puts_lower 1 (record t { mode = Spelling offset at (suc left) }) offset _ (record t { mode = spelling (suc offset) (suc at) left }) (omega arith)
    moves_lower t (Calling stage) = tt
    moves_lower t (Failing kind) = tt
    moves_lower t (Delivering function) = tt
    moves_lower t Telling = tt
    moves_lower t (Stopping finish) = tt
    moves_lower t (Done finish) = tt

    -- each quiet step lowers the rank
    pub quiet_lowers : (t v : Machine) → move c t ≡ Quiet v → rank c v < rank c t
    quiet_lowers t v e = subst (Lowers c (rank c t)) e (moves_lower t t.mode)
