-- When code is compiled from a unit: event by event it does what the source thread does.
use Rattle.std.specs.Prelude.{◌≡◌, ℕ, List}
use Rattle.built_unit.specs.Units.{UnitParts}
use Rattle.built_code.specs.Steps.{reached}
use Rattle.built_code.specs.Machine.{Program, Machine, machine_next, machine_after, started, cut_short}
use Rattle.built_model.specs.Source.{State, next, after, start, cut}

-- the machine after these answers, from a start
abbrev pub machine_at : Program → (number function : ℕ) → List ℕ → Machine
machine_at c number function answers = reached (machine_after c) (started number function) answers

-- the source thread after these answers, from a start
abbrev pub source_at : UnitParts → (number function : ℕ) → List ℕ → State
source_at u number function answers = reached (after u) (start number function) answers

-- for each number, function and list of answers, the code has the event or the finish that the source has, also where
-- the thread is cut short and goes on by more answers
pub record Behaves (u : UnitParts) (c : Program) : Type 0 where
  pub follows : (number function : ℕ) (answers : List ℕ) → machine_next c (machine_at c number function answers) ≡ next u (source_at u number function answers)
  pub follows_cut : (number function : ℕ) (answers more : List ℕ) → machine_next c (reached (machine_after c) (cut_short (machine_at c number function answers)) more) ≡ next u (reached (after u) (cut (source_at u number function answers)) more)
