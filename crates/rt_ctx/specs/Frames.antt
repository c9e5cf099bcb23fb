-- The frames and the disabled depth of a thread, from all that it did, and the context that they come to (Clang's manual, 'RealtimeSanitizer').
use Rattle.std.specs.Prelude.{ℕ, ◌+◌, ◌-◌, Bool, false, not, List, [], ◌∷◌, drop, count_by, slice_get}
use Rattle.std.specs.Option.{option_map_or}
use Rattle.eff_types.specs.declared.levels.Level.{Level}
use Rattle.eff_types.specs.declared.levels.Level.TheVariants.{NonBlocking}
use Rattle.eff_types.specs.Effects.{is_below}
use Rattle.core_unit.specs.declared.tables.UnitParts.{UnitParts}
use Rattle.ctx_set.specs.declared.steps.StackStep.{StackStep}
use Rattle.rt_ctx.specs.declared.context.Context.{Context}

-- what a thread does that its context sees; a list of them has the latest first
pub data Act : Type 0 where
  Enters : StackStep → Act
  Leaves : Act
  Disables : Act
  Enables : Act

-- the frames that were entered and not left, the innermost first: each its function, and the call that it was entered from
abbrev pub frames : List Act → List StackStep
frames [] = []
frames (Enters step ∷ before) = step ∷ frames before
frames (Leaves ∷ before) = drop 1 (frames before)
frames (Disables ∷ before) = frames before
frames (Enables ∷ before) = frames before

-- how often the detector was disabled and not enabled again; enabling it where it isn't disabled changes nothing
abbrev pub disabled : List Act → ℕ
disabled [] = 0
disabled (Disables ∷ before) = disabled before + 1
disabled (Enables ∷ before) = disabled before - 1
disabled (Enters step ∷ before) = disabled before
disabled (Leaves ∷ before) = disabled before

-- whether the function of the unit has this level at least
abbrev pub has_level : UnitParts → Level → ℕ → Bool
has_level u level function = option_map_or (λ f. not (is_below f.kind.effects.level level)) (slice_get u.functions function) false

-- whether a frame of the function makes the thread real-time
abbrev pub is_nonblocking : UnitParts → ℕ → Bool
is_nonblocking u function = has_level u NonBlocking function

-- the number of frames whose functions have that level, and the disabled depth
abbrev pub context_of : UnitParts → List Act → Context
context_of u acts = record { depth = count_by (λ step. is_nonblocking u step.target) (frames acts); disabled = disabled acts }
