-- How each place of a body stands to a level that is asked of the body: it keeps the level, it is a direct violation, or the body of the
-- function that is called there decides (Clang's manual 'Function Effect Analysis'). That a function which never returns may be called
-- wherever is this project's own rule.
use Rattle.std.specs.Prelude.{ℕ, Bool, true, not, ◌&&◌, ◌||◌, if◌then◌else◌, List, [], map, Option, Some, None, slice_get}
use Rattle.std.specs.Option.{is_some}
use Rattle.chains.specs.Look.{look}
use Rattle.chains.specs.declared.marks.Mark.{Mark}
use Rattle.chains.specs.declared.marks.Mark.TheVariants.{Passes, Violates, StepsTo}
use Rattle.core_unit.specs.Library.{rows, Row}
use Rattle.core_unit.specs.declared.tables.FunctionInfo.{FunctionInfo}
use Rattle.eff_types.specs.Effects.{is_below, forbids}
use Rattle.eff_types.specs.declared.levels.Level.{Level}
use Rattle.eff_types.specs.declared.levels.Level.TheVariants.{Plain, NonAllocating, NonBlocking}
use Rattle.unit_spots.specs.Spots.{spots_of}
use Rattle.unit_spots.specs.declared.spots.Action.{Action}
use Rattle.unit_spots.specs.declared.spots.Action.TheVariants.{Calls, CallsLibrary, CallsThrough, UsesThreadLocal, DeclaresStatic}
use Rattle.unit_spots.specs.declared.spots.Spot.{Spot}

-- those of a function's body; none where it is only declared, or not known
abbrev pub spots_in : Option FunctionInfo → List Spot
spots_in (Some f) = spots_of f.body
spots_in None = []

-- A direct call. A function keeps its own level, and one that never returns is no call to come back from. Of one whose level is below, the body
-- decides, unless it has none or its flags forbid to infer the level from it: then the call is a violation.
abbrev pub function_mark : Level → ℕ → Option FunctionInfo → Mark
function_mark level g None = Passes
function_mark level g (Some f) =
    if f.noreturn || not (is_below f.kind.effects.level level) then Passes
    else if is_some f.body && not (forbids f.kind.effects level) then StepsTo g
    else Violates

-- what the library table says of a level
abbrev pub is_safe : Level → Row → Bool
is_safe Plain row = true
is_safe NonAllocating row = row.nonallocating_safe
is_safe NonBlocking row = row.nonblocking_safe

abbrev pub row_mark : Level → Option Row → Mark
row_mark level None = Passes
row_mark level (Some row) = if row.noreturn || is_safe level row then Passes else Violates

-- of a level that is promised, to a level that is asked
abbrev pub promise_mark : Level → Level → Mark
promise_mark level promised = if is_below promised level then Violates else Passes

-- A static variable may have to be guarded when it is initialized, which blocks and doesn't allocate.
abbrev pub static_mark : Level → Mark
static_mark Plain = Passes
static_mark NonAllocating = Passes
static_mark NonBlocking = Violates

-- A thread-local variable may be allocated where it is used first.
abbrev pub mark : List FunctionInfo → Level → Action → Mark
mark functions level (Calls g) = function_mark level g (slice_get functions g)
mark functions level (CallsLibrary row) = row_mark level (slice_get rows row)
mark functions level (CallsThrough promised) = promise_mark level promised
mark functions level UsesThreadLocal = Violates
mark functions level DeclaresStatic = static_mark level

abbrev pub marks : List FunctionInfo → Level → List Spot → List Mark
marks functions level spots = map (λ s. mark functions level s.action) spots

-- of all functions, each with a mark for each place of its body
unfoldable pub mark_rows : List FunctionInfo → Level → List (List Mark)
mark_rows functions level = map (λ f. marks functions level (spots_of f.body)) functions

-- how the place of an index in a function's body stands to a level
abbrev pub look_for : List FunctionInfo → Level → ℕ → ℕ → Mark
look_for functions level = look (mark_rows functions level)
