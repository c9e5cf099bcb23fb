-- What a unit without warnings may still do in a function that has an effect: everything that stands inside a call of a function that never returns
-- (Clang's manual 'Function Effect Analysis'; that such calls are exempt is this project's own rule).
use Rattle.std.specs.Prelude.{◌≡◌, ℕ, ◌-◌, Bool, true, false, not, ◌&&◌, ◌||◌, nat_lt, if◌then◌else◌, List, [], ◌∷◌, slice_get}
use Rattle.std.specs.List.{list_any}
use Rattle.std.specs.Option.{option_map_or}
use Rattle.core_unit.specs.Library.{rows}
use Rattle.core_unit.specs.declared.tables.UnitParts.{UnitParts}
use Rattle.ctx_set.specs.declared.steps.StackStep.{StackStep}
use Rattle.eff_types.specs.declared.levels.Level.{Level}
use Rattle.eff_types.specs.declared.levels.Level.TheVariants.{NonAllocating, NonBlocking}
use Rattle.mcode.specs.declared.events.Ask.{Ask}
use Rattle.mcode.specs.declared.events.Ask.TheVariants.{Enter, Reach}
use Rattle.rt_ctx.specs.Frames.{has_level}
use Rattle.src_model.specs.Traces.{frames_after, is_blocking_event}
use Rattle.src_model.specs.declared.runs.Made.{Made}

abbrev pub is_noreturn : UnitParts → ℕ → Bool
is_noreturn u function = option_map_or (λ f. f.noreturn) (slice_get u.functions function) false

-- some frame's function has this level or one above
abbrev pub is_at_level : UnitParts → Level → List StackStep → Bool
is_at_level u level frames = list_any (λ step. has_level u level step.target) frames

-- A frame of a function that never returns stands above the lowest frame whose function has this level or one above. The innermost stands first.
abbrev pub is_excused : UnitParts → Level → List StackStep → Bool
is_excused u level [] = false
is_excused u level (step ∷ below) = (is_noreturn u step.target && is_at_level u level below) || is_excused u level below

-- a library function that may allocate, and returns; a function of the unit that is declared `allocating`
abbrev pub row_allocates : ℕ → Bool
row_allocates row = option_map_or (λ r. not r.nonallocating_safe && not r.noreturn) (slice_get rows row) false

abbrev pub is_allocating : UnitParts → ℕ → Bool
is_allocating u function = option_map_or (λ f. f.kind.effects.no_alloc_inference) (slice_get u.functions function) false

-- An event that leads to these frames is an allocation reach.
abbrev pub is_allocation : UnitParts → List StackStep → Ask → Bool
is_allocation u frames (Reach target site) =
    if nat_lt target 4096 then false else row_allocates (target - 4096) && is_at_level u NonAllocating frames
is_allocation u frames (Enter function site) = is_allocating u function && is_at_level u NonAllocating frames
is_allocation u frames _ = false

-- Each blocking reach of a trace is excused, whatever the disabled depth and the suppressions.
abbrev pub BlockingIsExcused : UnitParts → List Made → Type 0
BlockingIsExcused u [] = Unit {0}
BlockingIsExcused u (made ∷ before) =
    (is_blocking_event u before made.ask ≡ true → is_excused u NonBlocking (frames_after (made ∷ before)) ≡ true) × BlockingIsExcused u before

-- and each allocation reach
abbrev pub AllocationIsExcused : UnitParts → List Made → Type 0
AllocationIsExcused u [] = Unit {0}
AllocationIsExcused u (made ∷ before) =
    (is_allocation u (frames_after (made ∷ before)) made.ask ≡ true → is_excused u NonAllocating (frames_after (made ∷ before)) ≡ true)
    × AllocationIsExcused u before
