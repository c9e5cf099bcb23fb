-- At its start a thread has no ending.
use Rattle.std.proofs.Common.{◌≡◌, refl, arith, ℕ, ◌<◌, true, false, nat_lt, nat_le, ◌||◌, if◌then◌else◌, Some, None}
use Rattle.std.proofs.lemmas.Bool.Decides.{nat_tests}
use Rattle.src_model.specs.declared.runs.End.TheVariants.{Stopped, Waiting}

pub open_end : (limit events : ℕ) → 0 < limit → 0 < events → None ≡ (if nat_le limit 0 then Some Waiting else if false || nat_lt 0 events then None else Some Stopped)
open_end limit events some more =
    let waits : nat_le limit 0 ≡ false = grind (arith, nat_tests) in
    let stops : nat_lt 0 events ≡ true = grind (arith, nat_tests) in
    rw (waits, stops) refl
