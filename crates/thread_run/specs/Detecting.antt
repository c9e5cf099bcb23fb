-- What a thread keeps against its trace for the detector: the functions that it is in, the latest first, and its real-time context (Clang's manual,
-- 'RealtimeSanitizer').
use Rattle.std.specs.Prelude.{◌≡◌, ℕ, ◌+◌, ◌-◌, ◌<◌, ◌^◌, Bool, true, false, nat_eq, if◌then◌else◌, List, [], ◌∷◌, drop, count_by, length}
use Rattle.core_unit.specs.Units.{row_target}
use Rattle.core_unit.specs.declared.tables.UnitParts.{UnitParts}
use Rattle.ctx_set.specs.declared.steps.StackStep.{StackStep}
use Rattle.mcode.specs.declared.events.Ask.{Ask}
use Rattle.mcode.specs.declared.events.Ask.TheVariants.{Enter, Leave, Reach}
use Rattle.rt_ctx.specs.Frames.{is_nonblocking}
use Rattle.rt_ctx.specs.Places.{stack_at}
use Rattle.rt_ctx.specs.Suppressing.{is_report_place, is_suppressed_place}
use Rattle.rt_ctx.specs.declared.context.Context.{Context}
use Rattle.src_model.specs.Traces.{disable_row, enable_row}
use Rattle.suppress.specs.declared.suppressions.Suppression.{Suppression}
use Rattle.thread_run.specs.declared.judged.Judged.{Judged}
use Rattle.thread_run.specs.declared.judged.Judged.TheVariants.{Passed, Suppressed, Reported, Refused}

pub record Seen : Type 0 where
  pub frames : List StackStep
  pub context : Context

abbrev pub framed : Ask → List StackStep → List StackStep
framed (Enter function site) frames = record { target = function; site = site } ∷ frames
framed Leave frames = drop 1 frames
framed _ frames = frames

-- how often the detector is disabled, where a target is reached, and after an event
abbrev pub disabled_at : (target : ℕ) → ℕ → ℕ
disabled_at target disabled =
    if nat_eq target (row_target disable_row) then disabled + 1 else if nat_eq target (row_target enable_row) then disabled - 1 else disabled

abbrev pub disabled_by : Ask → ℕ → ℕ
disabled_by (Reach target site) disabled = disabled_at target disabled
disabled_by _ disabled = disabled

abbrev pub depth_of : UnitParts → List StackStep → ℕ
depth_of u frames = count_by (λ step. is_nonblocking u step.target) frames

-- after an event
abbrev pub followed : UnitParts → Ask → Seen → Seen
followed u ask seen = record {
  frames = framed ask seen.frames;
  context = record { depth = depth_of u (framed ask seen.frames); disabled = disabled_by ask seen.context.disabled };
}

-- the depth is that of the frames
abbrev pub IsCounted : UnitParts → Seen → Type 0
IsCounted u seen = seen.context.depth ≡ depth_of u seen.frames

-- an event finds room: a function is entered from fewer than 256, and the detector can be disabled once more
abbrev pub HasRoom : Ask → Seen → Type 0
HasRoom (Enter function site) seen = length seen.frames < 256
HasRoom (Reach target site) seen = seen.context.disabled < 2 ^ 32 - 1
HasRoom _ seen = Unit {0}

-- whether an event is a suppressed place, or a report place
abbrev pub is_suppressed_at : UnitParts → List Suppression → Seen → Ask → Bool
is_suppressed_at u entries seen (Reach target site) = is_suppressed_place u entries seen.context (stack_at seen.frames target site) target
is_suppressed_at u entries seen _ = false

abbrev pub is_report_at : UnitParts → List Suppression → Seen → Ask → Bool
is_report_at u entries seen (Reach target site) = is_report_place u entries seen.context (stack_at seen.frames target site) target
is_report_at u entries seen _ = false

abbrev pub stack_for : Seen → Ask → List StackStep
stack_for seen (Reach target site) = stack_at seen.frames target site
stack_for seen _ = []

abbrev pub is_report : Judged → Bool
is_report Passed = false
is_report Suppressed = false
is_report Reported = true
is_report Refused = true

abbrev pub is_suppressed : Judged → Bool
is_suppressed Suppressed = true
is_suppressed _ = false

abbrev pub is_refused : Judged → Bool
is_refused Refused = true
is_refused _ = false
