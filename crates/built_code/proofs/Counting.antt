-- How many frames stand after an event: one more where a function was entered, one less where one was left.
use Rattle.std.proofs.Common.{◌≡◌, ℕ, zero, suc, ◌+◌, ◌-◌, ◌==◌, Bool, true, false, List, [], ◌∷◌, Option, Some, None, Result, Ok, Err, refl, ap, ◌∙◌, arith, length, if◌then◌else◌}
use Rattle.std.specs.Prelude.{slice_get}
use Rattle.built_code.specs.declared.code.Instruction.{Instruction}
use Rattle.built_code.specs.declared.code.Instruction.TheVariants.{CheckHalt, EnterFunction, ReachFunction, SetValue, LeaveFunction, FailWith}
use Rattle.built_code.specs.declared.events.TrapKind.{TrapKind}
use Rattle.built_code.specs.declared.events.Finish.TheVariants.{Halted}
use Rattle.built_code.specs.declared.frames.Frame.{Frame}
use Rattle.built_code.specs.declared.thread.Mode.{Mode}
use Rattle.built_code.specs.declared.thread.Mode.TheVariants.{Starting, Entering, Running, Failing, Giving, Telling, Stopping, Done}
use Rattle.built_code.specs.Steps.{Step, Quiet, Makes, Ends, asked, answered}
use Rattle.built_code.specs.Machine.{Program, Machine, move, moves, does, enters, way_in, leaves, unless_halted, park, stays, machine_next, machine_after}
use Rattle.built_code.specs.Bounds.{frame_count}

abbrev depth : Machine → ℕ
depth t = length t.frames

-- a step counts the frames right
abbrev Counts : Machine → Step Machine → Type 0
Counts t (Quiet s) = depth s ≡ depth t
Counts t (Makes event after) = (word : ℕ) → depth (after word) ≡ frame_count event (depth t)
Counts t (Ends finish) = Unit {0}

unless_counts : (t on : Machine) (word : ℕ) → depth on ≡ depth t → depth (unless_halted t word on) ≡ depth t
unless_counts t on word e = chosen (word == 0) e
  where
    chosen : (b : Bool) → depth on ≡ depth t → depth (if b then on else record t { mode = Done Halted }) ≡ depth t
    chosen true e = e
    chosen false e = refl

enters_counts : (t : Machine) (function site back : ℕ) (way : Result ℕ TrapKind) → Counts t (enters t function site back way)
enters_counts t function site back (Ok pc) = λ _. omega arith
enters_counts t function site back (Err kind) = refl

leaves_counts : (t : Machine) (frames : List Frame) → t.frames ≡ frames → depth (leaves t frames) ≡ length frames - 1
leaves_counts t [] e = omega (arith, ap length e)
leaves_counts t (frame ∷ []) e = omega arith
leaves_counts t (frame ∷ below ∷ frames) e = omega arith

does_counts : (c : Program) (t : Machine) (i : Option Instruction) → Counts t (does c t i)
does_counts c t (Some CheckHalt) = λ word. unless_counts t (record t { pc = t.pc + 1 }) word refl
does_counts c t (Some (EnterFunction function site)) =
    enters_counts t function site (t.pc + 1) (way_in c t function)
does_counts c t (Some (ReachFunction function)) = λ _. refl
does_counts c t (Some (SetValue number)) = refl
does_counts c t (Some LeaveFunction) = λ _. leaves_counts t t.frames refl
does_counts c t (Some (FailWith kind)) = refl
does_counts c t None = refl

moves_counts : (c : Program) (t : Machine) (m : Mode) → Counts t (moves c t m)
moves_counts c t (Starting function) = λ word. unless_counts t (record t { mode = Entering function }) word refl
moves_counts c t (Entering function) = enters_counts t function 0 0 (way_in c t function)
moves_counts c t Running = does_counts c t (slice_get c.instructions t.pc)
moves_counts c t (Failing kind) = λ _. refl
moves_counts c t Giving = λ _. refl
moves_counts c t Telling = λ _. refl
moves_counts c t (Stopping finish) = λ _. refl
moves_counts c t (Done finish) = tt

answered_counts : (t : Machine) (word : ℕ) (step : Step Machine) → Counts t step → depth (answered step t word) ≡ frame_count (asked step) (depth t)
answered_counts t word (Quiet s) h = h
answered_counts t word (Makes event after) h = h word
answered_counts t word (Ends finish) h = refl

-- quiet instructions keep the frames
park_counts : (c : Program) (n : ℕ) (t : Machine) → depth (park c n t) ≡ depth t
park_counts c zero t = refl
park_counts c (suc n) t = stays_counts (park c n) (park_counts c n) t (move c t) (moves_counts c t t.mode)
  where
    stays_counts : (go : Machine → Machine) → ((s : Machine) → depth (go s) ≡ depth s) → (t : Machine) (step : Step Machine) → Counts t step → depth (stays go t step) ≡ depth t
    stays_counts go on t (Quiet s) h = on s ∙ h
    stays_counts go on t (Makes event after) h = refl
    stays_counts go on t (Ends finish) h = refl

pub frames_counted : (c : Program) (t : Machine) (word : ℕ) → length (machine_after c t word).frames ≡ frame_count (machine_next c t) (length t.frames)
frames_counted c t word =
    park_counts c (length c.instructions + 2) (answered (move c t) t word) ∙ answered_counts t word (move c t) (moves_counts c t t.mode)
