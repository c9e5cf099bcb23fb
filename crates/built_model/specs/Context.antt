-- What a trace says of its thread: the functions that it is in, whether it is real-time, and its reports (Clang's manual
-- 'RealtimeSanitizer'). Traces and frames stand with the latest first.
use Rattle.std.specs.Prelude.{ℕ, Bool, true, false, ◌&&◌, List, [], ◌∷◌, drop, reverse, Option, Some, None, slice_get, if◌then◌else◌}
use Rattle.std.specs.List.{list_any}
use Rattle.eff_types.specs.declared.levels.Level.{Level}
use Rattle.eff_types.specs.declared.levels.Level.TheVariants.{Plain, NonAllocating, NonBlocking}
use Rattle.built_unit.specs.declared.units.FunctionInfo.{FunctionInfo}
use Rattle.built_unit.specs.Units.{UnitParts}
use Rattle.built_code.specs.declared.events.Ask.{Ask}
use Rattle.built_code.specs.declared.events.Ask.TheVariants.{Enter, Leave, Reach}
use Rattle.ctx_set.specs.declared.steps.StackStep.{StackStep}
use Rattle.built_model.specs.declared.runs.Made.{Made}

-- the functions that were entered and not yet left, after an event
abbrev pub framed : Ask → List StackStep → List StackStep
framed (Enter function site) frames = record { target = function; site = site } ∷ frames
framed Leave frames = drop 1 frames
framed ask frames = frames

-- the functions that a thread is in after a trace
abbrev pub frames_after : List Made → List StackStep
frames_after [] = []
frames_after (made ∷ before) = framed made.ask (frames_after before)

abbrev pub is_nonblocking_level : Level → Bool
is_nonblocking_level Plain = false
is_nonblocking_level NonAllocating = false
is_nonblocking_level NonBlocking = true

abbrev pub is_nonblocking_in : Option FunctionInfo → Bool
is_nonblocking_in None = false
is_nonblocking_in (Some info) = is_nonblocking_level info.effects.level

-- the function has the level `nonblocking`
abbrev pub is_nonblocking : UnitParts → ℕ → Bool
is_nonblocking u function = is_nonblocking_in (slice_get u.functions function)

abbrev pub is_blocking_in : Option FunctionInfo → Bool
is_blocking_in None = false
is_blocking_in (Some info) = info.effects.no_block_inference

-- the function is marked `blocking`
abbrev pub is_blocking : UnitParts → ℕ → Bool
is_blocking u function = is_blocking_in (slice_get u.functions function)

-- a thread is real-time while a function that it is in is `nonblocking`
abbrev pub is_real_time : UnitParts → List StackStep → Bool
is_real_time u frames = list_any (λ step. is_nonblocking u step.target) frames

-- a report place: a real-time thread reaches a blocking function (in a unit of calls nothing disables or suppresses it)
abbrev pub is_report : UnitParts → List StackStep → Ask → Bool
is_report u frames (Reach target site) = is_blocking u target && is_real_time u frames
is_report u frames ask = false

-- the stacks of the report places of a trace, each from the first function on, which ends with the blocking one
abbrev pub report_stacks : UnitParts → List Made → List (List StackStep)
report_stacks u [] = []
report_stacks u (made ∷ before) =
    if is_report u (frames_after before) made.ask then reverse (frames_after before) ∷ report_stacks u before
    else report_stacks u before
