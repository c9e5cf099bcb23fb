-- Quiet steps end: each lowers a rank, which is at most the number of instructions and one more.
use Rattle.std.proofs.Common.{◌≡◌, ℕ, zero, suc, ◌+◌, ◌-◌, ◌<◌, ◌≤◌, Bool, true, false, length, Option, Some, None, Result, Ok, Err, refl, sym, subst, ◌∙◌, arith}
use Rattle.std.specs.Prelude.{slice_get}
use Rattle.std.proofs.lemmas.Option.{slice_get_within}
use Rattle.built_code.specs.declared.code.Instruction.{Instruction}
use Rattle.built_code.specs.declared.code.Instruction.TheVariants.{CheckHalt, EnterFunction, ReachFunction, SetValue, LeaveFunction, FailWith}
use Rattle.built_code.specs.declared.events.TrapKind.{TrapKind}
use Rattle.built_code.specs.declared.thread.Mode.{Mode}
use Rattle.built_code.specs.declared.thread.Mode.TheVariants.{Starting, Entering, Running, Failing, Giving, Telling, Stopping, Done}
use Rattle.built_code.specs.Steps.{Step, Quiet, Makes, Ends, is_quiet, answered}
use Rattle.built_code.specs.Machine.{Program, Machine, move, moves, does, enters, way_in, park, stays}

-- how many quiet steps can come at most
abbrev pub ranks : Program → Machine → Mode → ℕ
ranks c t (Starting function) = 0
ranks c t (Entering function) = 1
ranks c t Running = length c.instructions - t.pc + 1
ranks c t (Failing kind) = 0
ranks c t Giving = 0
ranks c t Telling = 0
ranks c t (Stopping finish) = 0
ranks c t (Done finish) = 0

abbrev pub rank : Program → Machine → ℕ
rank c t = ranks c t t.mode

pub rank_low : (c : Program) (t : Machine) (m : Mode) → ranks c t m ≤ length c.instructions + 1
rank_low c t (Starting function) = omega arith
rank_low c t (Entering function) = omega arith
rank_low c t Running = omega arith
rank_low c t (Failing kind) = omega arith
rank_low c t Giving = omega arith
rank_low c t Telling = omega arith
rank_low c t (Stopping finish) = omega arith
rank_low c t (Done finish) = omega arith

-- a quiet step lowers the rank below this
abbrev Falls : Program → Machine → ℕ → Step Machine → ℕ → Type 0
Falls c t word step n = is_quiet step ≡ true → rank c (answered step t word) < n

enters_falls : (c : Program) (t : Machine) (function site back word n : ℕ) (way : Result ℕ TrapKind) → Falls c t word (enters t function site back way) (suc n)
enters_falls c t function site back word n (Ok pc) q = cc
enters_falls c t function site back word n (Err kind) q = omega arith

does_falls : (c : Program) (t : Machine) (word : ℕ) (i : Option Instruction) → slice_get c.instructions t.pc ≡ i → t.mode ≡ Running → Falls c t word (does c t i) (suc (length c.instructions - t.pc))
does_falls c t word (Some CheckHalt) e m q = cc
does_falls c t word (Some (EnterFunction function site)) e m q =
    enters_falls c t function site (t.pc + 1) word (length c.instructions - t.pc) (way_in c t function) q
does_falls c t word (Some (ReachFunction function)) e m q = cc
does_falls c t word (Some (SetValue number)) e m q =
    let within = slice_get_within c.instructions t.pc (SetValue number) e in
    let less : length c.instructions - (t.pc + 1) + 1 < suc (length c.instructions - t.pc) = omega arith in
    subst (λ mode. ranks c (record t { pc = t.pc + 1; value = number }) mode < suc (length c.instructions - t.pc)) (sym m) less
does_falls c t word (Some LeaveFunction) e m q = cc
does_falls c t word (Some (FailWith kind)) e m q = omega arith
does_falls c t word None e m q = omega arith

falls : (c : Program) (t : Machine) (word : ℕ) (m : Mode) → t.mode ≡ m → Falls c t word (moves c t m) (ranks c t m)
falls c t word (Starting function) e q = cc
falls c t word (Entering function) e q = enters_falls c t function 0 0 word 0 (way_in c t function) q
falls c t word Running e q =
    let h = does_falls c t word (slice_get c.instructions t.pc) refl e q in omega (arith, h)
falls c t word (Failing kind) e q = cc
falls c t word Giving e q = cc
falls c t word Telling e q = cc
falls c t word (Stopping finish) e q = cc
falls c t word (Done finish) e q = cc

-- each quiet step lowers the rank
pub quiet_falls : (c : Program) (t : Machine) (word : ℕ) → is_quiet (move c t) ≡ true → rank c (answered (move c t) t word) < rank c t
quiet_falls c t word q = falls c t word t.mode refl q

stays_quiet : (go : Machine → Machine) (t : Machine) (word : ℕ) (step : Step Machine) → is_quiet step ≡ true → stays go t step ≡ go (answered step t word)
stays_quiet go t word (Quiet s) q = refl
stays_quiet go t word (Makes event after) q = cc
stays_quiet go t word (Ends finish) q = cc

stays_loud : (go : Machine → Machine) (t : Machine) (step : Step Machine) → is_quiet step ≡ false → stays go t step ≡ t
stays_loud go t (Quiet s) q = cc
stays_loud go t (Makes event after) q = refl
stays_loud go t (Ends finish) q = refl

-- a quiet step is the first of those that are run
pub park_quiet : (c : Program) (n : ℕ) (t : Machine) (word : ℕ) → is_quiet (move c t) ≡ true → park c (suc n) t ≡ park c n (answered (move c t) t word)
park_quiet c n t word q = stays_quiet (park c n) t word (move c t) q

-- a thread that isn't quiet is parked
pub park_loud : (c : Program) (n : ℕ) (t : Machine) → is_quiet (move c t) ≡ false → park c n t ≡ t
park_loud c zero t q = refl
park_loud c (suc n) t q = stays_loud (park c n) t (move c t) q

-- what the loop that runs quiet instructions keeps: so many steps are enough, and lead to the target
pub record Parking (c : Program) (t target : Machine) : Type 0 where
  pub fuel : ℕ
  pub enough : rank c t ≤ fuel
  pub leads : park c fuel t ≡ target

pub parking_starts : (c : Program) (t : Machine) → Parking c t (park c (length c.instructions + 2) t)
parking_starts c t = record { fuel = length c.instructions + 2; enough = omega (arith, rank_low c t t.mode); leads = refl }

goes_on : (c : Program) (t target : Machine) (word n : ℕ) → is_quiet (move c t) ≡ true → rank c t ≤ n → park c n t ≡ target → Parking c (answered (move c t) t word) target
goes_on c t target word zero q low leads = absurd (omega (arith, quiet_falls c t word q))
goes_on c t target word (suc n) q low leads =
    record { fuel = n; enough = omega (arith, quiet_falls c t word q); leads = sym (park_quiet c n t word q) ∙ leads }

pub parking_goes_on : (c : Program) (t target : Machine) (word : ℕ) → is_quiet (move c t) ≡ true → Parking c t target → Parking c (answered (move c t) t word) target
parking_goes_on c t target word q p = goes_on c t target word p.fuel q p.enough p.leads

pub parking_ends : (c : Program) (t target : Machine) → is_quiet (move c t) ≡ false → Parking c t target → t ≡ target
parking_ends c t target q p = sym (park_loud c p.fuel t q) ∙ p.leads

-- enough steps lead to a thread that isn't quiet
pub park_parks : (c : Program) (n : ℕ) (t : Machine) → rank c t < n → is_quiet (move c (park c n t)) ≡ false
park_parks c zero t low = absurd (omega arith)
park_parks c (suc n) t low = parks_on c n t (park_parks c n) (is_quiet (move c t)) refl low
  where
    parks_on : (c : Program) (n : ℕ) (t : Machine) → ((s : Machine) → rank c s < n → is_quiet (move c (park c n s)) ≡ false) → (b : Bool) → is_quiet (move c t) ≡ b → rank c t < suc n → is_quiet (move c (park c (suc n) t)) ≡ false
    parks_on c n t on true q low =
        subst (λ s. is_quiet (move c s) ≡ false) (sym (park_quiet c n t 0 q)) (on (answered (move c t) t 0) (omega (arith, quiet_falls c t 0 q)))
    parks_on c n t on false q low = subst (λ s. is_quiet (move c s) ≡ false) (sym (park_loud c (suc n) t q)) q
