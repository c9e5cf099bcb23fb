-- What the count of `nonblocking` functions tells.
use Rattle.std.proofs.Common.{◌≡◌, ◌+◌, ◌≤◌, Bool, true, false, ◌||◌, List, [], ◌∷◌, refl, arith, length, nat_lt, if◌then◌else◌}
use Rattle.std.proofs.lemmas.Bool.Decides.{nat_tests}
use Rattle.built_unit.specs.Units.{UnitParts}
use Rattle.ctx_set.specs.declared.steps.StackStep.{StackStep}
use Rattle.built_model.specs.Context.{is_nonblocking, is_real_time}
use Rattle.built_run.specs.Functions.{nonblocking_among}

-- there are no more of them than functions
pub nonblocking_few : (u : UnitParts) (frames : List StackStep) → nonblocking_among u frames ≤ length frames
nonblocking_few u [] = omega arith
nonblocking_few u (step ∷ frames) = chosen (is_nonblocking u step.target) (nonblocking_few u frames)
  where
    chosen : (b : Bool) → nonblocking_among u frames ≤ length frames → (if b then nonblocking_among u frames + 1 else nonblocking_among u frames) ≤ length (step ∷ frames)
    chosen true h = omega arith
    chosen false h = omega arith

-- a thread is real-time where there is one
pub real_time_counted : (u : UnitParts) (frames : List StackStep) → is_real_time u frames ≡ nat_lt 0 (nonblocking_among u frames)
real_time_counted u [] = refl
real_time_counted u (step ∷ frames) = chosen (is_nonblocking u step.target) (real_time_counted u frames)
  where
    chosen : (b : Bool) → is_real_time u frames ≡ nat_lt 0 (nonblocking_among u frames) → (b || is_real_time u frames) ≡ nat_lt 0 (if b then nonblocking_among u frames + 1 else nonblocking_among u frames)
    chosen true h = grind (arith, nat_tests)
    chosen false h = h
