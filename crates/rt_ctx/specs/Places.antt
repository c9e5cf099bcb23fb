-- Where the detector reports, and where a report is suppressed (Clang's manual, 'RealtimeSanitizer').
use Rattle.std.specs.Prelude.{◌≡◌, ℕ, ◌-◌, ◌==◌, ◌&&◌, ◌⊎◌, Bool, false, not, nat_lt, if◌then◌else◌, List, [], ◌∷◌, ◌++◌, reverse, slice_get, unwrap_or, Any}
use Rattle.std.specs.Option.{option_map_or}
use Rattle.core_unit.specs.Library.{rows}
use Rattle.core_unit.specs.Units.{target_name}
use Rattle.core_unit.specs.declared.tables.UnitParts.{UnitParts}
use Rattle.ctx_set.specs.declared.steps.StackStep.{StackStep}
use Rattle.suppress.specs.Pattern.{Matches}
use Rattle.suppress.specs.Suppressions.{SuppressesFunction}
use Rattle.suppress.specs.declared.suppressions.Suppression.{Suppression}
use Rattle.suppress.specs.declared.suppressions.SuppressionKind.TheVariants.{CallStackContains}
use Rattle.rt_ctx.specs.declared.context.Context.{Context}
use Rattle.rt_ctx.specs.declared.answers.Kind.{Kind}
use Rattle.rt_ctx.specs.declared.answers.Kind.TheVariants.{UnsafeLibraryCall, BlockingCall}

-- a row of the library, and no function of the unit
abbrev pub is_row : ℕ → Bool
is_row target = not (nat_lt target 4096)

-- a library row that is intercepted, or a function of the unit that is declared `blocking`
abbrev pub is_blocking : UnitParts → ℕ → Bool
is_blocking u target =
    if nat_lt target 4096 then option_map_or (λ f. f.kind.effects.no_block_inference) (slice_get u.functions target) false
    else option_map_or (λ r. r.intercepted) (slice_get rows (target - 4096)) false

-- some frame's function has the level NonBlocking
abbrev pub is_real_time : Context → Bool
is_real_time c = nat_lt 0 c.depth

-- a reach of this target is a blocking reach
abbrev pub is_blocking_reach : UnitParts → Context → ℕ → Bool
is_blocking_reach u c target = is_blocking u target && is_real_time c

-- and it is detected, since nothing disables the detector
abbrev pub is_detected : UnitParts → Context → ℕ → Bool
is_detected u c target = is_blocking_reach u c target && c.disabled == 0

-- the stack of a reach, from the first function of the thread on, where the innermost frame stands first in the frames: a library row has no
-- frame, so it adds a step; a function has been entered
abbrev pub stack_at : List StackStep → (target site : ℕ) → List StackStep
stack_at frames target site =
    if is_row target then reverse frames ++ record { target = target; site = site } ∷ [] else reverse frames

-- the name of a function of the unit or of a library row; empty where there is none
abbrev pub name_of : UnitParts → ℕ → List ℕ
name_of u target = unwrap_or (target_name u target) []

-- The entry suppresses each stack with a function of this name.
abbrev pub SuppressesName : Suppression → List ℕ → Type 0
SuppressesName entry name = (entry.kind ≡ CallStackContains) × Matches entry.pattern name

-- Some entry suppresses each stack with a function of this name.
unfoldable pub AnySuppresses : List Suppression → List ℕ → Type 0
AnySuppresses entries name = Any (λ entry. SuppressesName entry name) entries

-- A pattern on functions matches the name of the reached one, or a pattern on stacks the name of any step of the stack.
abbrev pub IsSuppressed : UnitParts → List Suppression → List StackStep → ℕ → Type 0
IsSuppressed u entries stack target =
    Any (λ entry. SuppressesFunction entry (name_of u target)) entries
    ⊎ Any (λ step. AnySuppresses entries (name_of u step.target)) stack

abbrev pub kind_of : ℕ → Kind
kind_of target = if is_row target then UnsafeLibraryCall else BlockingCall
