-- A law of the plain machine.
use Rattle.std.specs.Prelude.{◌≡◌, ℕ, false}
use Rattle.mcode.specs.Machine.{Program, Machine, machine_next, machine_after, machine_turned}
use Rattle.mcode.specs.Steps.{is_answered}

-- The word beside an event that nothing answers is ignored: it changes neither what follows the event nor whether that was a failed try.
pub record IgnoresUnanswered (c : Program) : Type 0 where
  pub states : (t : Machine) (word other : ℕ) → is_answered (machine_next c t) ≡ false → machine_after c t word ≡ machine_after c t other
  pub tries : (t : Machine) (word other : ℕ) → is_answered (machine_next c t) ≡ false → machine_turned c t word ≡ machine_turned c t other
