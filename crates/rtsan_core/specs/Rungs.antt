-- How rungs make a ladder.
use Rattle.std.specs.Prelude.{◌≡◌}
use Rattle.rtsan_core.specs.Causes.{Cause}

-- what a rung comes to: it stops with a cause, or goes on with a value
pub data Rung (V : Type 0) : Type 0 where
  Stops : Cause → Rung V
  GoesOn : V → Rung V

-- one rung, and where it goes on, the rung that stands on its value
pub data Then {U V : Type 0} (first : Rung U → Type 0) (next : U → Rung V → Type 0) (end : Rung V) : Type 0 where
  Stopped : (cause : Cause) → first (Stops cause) → end ≡ Stops cause → Then first next end
  WentOn : (value : U) → first (GoesOn value) → next value end → Then first next end
