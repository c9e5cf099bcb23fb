-- The functions that a thread is in, and how many of them are `nonblocking`.
use Rattle.std.specs.Prelude.{◌≡◌, ℕ, ◌+◌, List, [], ◌∷◌, if◌then◌else◌}
use Rattle.built_unit.specs.Units.{UnitParts}
use Rattle.ctx_set.specs.declared.steps.StackStep.{StackStep}
use Rattle.built_model.specs.Context.{is_nonblocking}

-- what contracts see of a context: the functions that were entered and not yet left, the latest first, and a count
pub record Functions : Type 0 where
  pub frames : List StackStep
  pub nonblocking : ℕ

-- how many of the functions are `nonblocking`
abbrev pub nonblocking_among : UnitParts → List StackStep → ℕ
nonblocking_among u [] = 0
nonblocking_among u (step ∷ frames) =
    if is_nonblocking u step.target then nonblocking_among u frames + 1 else nonblocking_among u frames

-- the count is that of the unit's `nonblocking` functions
abbrev pub IsCounted : UnitParts → Functions → Type 0
IsCounted u functions = functions.nonblocking ≡ nonblocking_among u functions.frames
