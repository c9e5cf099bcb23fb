-- The printed warnings. The messages are those that Clang prints under -Wfunction-effects (Clang's manual, 'Function Effect
-- Analysis'); one line for each warning, in the form FILE:LINE:COLUMN: warning: MESSAGE [-Wfunction-effects].
use Rattle.std.specs.Prelude.{ℕ, ◌<◌, ◌≤◌, List, [], ◌∷◌, length, map, All, codes, decimal, slice_get}
use Rattle.std.specs.List.{concat, flat_map}
use Rattle.std.specs.List.Sorted.{IsStrictlyIncreasing}
use Rattle.std.specs.Option.{option_map_or}
use Rattle.eff_types.specs.declared.levels.Level.{Level}
use Rattle.eff_types.specs.declared.levels.Level.TheVariants.{Plain, NonAllocating, NonBlocking}
use Rattle.built_unit.specs.Units.{UnitParts}
use Rattle.c_text.specs.Place.{LineColumn, line_column}
use Rattle.eff_check.specs.declared.ViolationKind.{ViolationKind}
use Rattle.eff_check.specs.declared.ViolationKind.TheVariants.{Calls}
use Rattle.eff_check.specs.declared.Warning.{Warning}
use Rattle.c_text.specs.declared.limits.TheConstants.{SOURCE_LIMIT}

-- the attribute that marks a function with the level; no attribute does so for Plain, and no warning has that level
abbrev pub effect_name : Level → List ℕ
effect_name Plain = []
effect_name NonAllocating = codes "nonallocating"
effect_name NonBlocking = codes "nonblocking"

-- the name of the function of this number
abbrev pub function_name : UnitParts → ℕ → List ℕ
function_name unit function = option_map_or (λ info. info.name) (slice_get unit.functions function) []

-- the line of a warning of a call: its texts one after the other
unfoldable pub call_line : List ℕ → List ℕ → List ℕ → List ℕ → List ℕ → List ℕ
call_line file line column effect callee =
    concat
    (file ∷ codes ":" ∷ line ∷ codes ":" ∷ column ∷ codes ": warning: "
    ∷ codes "function with '" ∷ effect ∷ codes "' attribute must not call non-'" ∷ effect ∷ codes "' function '" ∷ callee ∷ codes "'"
    ∷ codes " [-Wfunction-effects]\n" ∷ [])

-- the line of a warning whose place is in this line and column
abbrev pub line_at : List ℕ → LineColumn → UnitParts → Level → ViolationKind → List ℕ
line_at file at unit level (Calls callee) =
    call_line file (decimal at.line) (decimal at.column) (effect_name level) (function_name unit callee)

-- the line of a warning of a source
unfoldable pub warning_line : List ℕ → List ℕ → UnitParts → Warning → List ℕ
warning_line file source unit warning = line_at file (line_column source warning.place) unit warning.level warning.kind

-- the lines of all warnings
abbrev pub warnings_text : List ℕ → List ℕ → UnitParts → List Warning → List ℕ
warnings_text file source unit warnings = flat_map (warning_line file source unit) warnings

-- what the warning names is there: the called function is one of the unit
abbrev pub IsNamed : UnitParts → ViolationKind → Type 0
IsNamed unit (Calls callee) = callee < length unit.functions

-- The warnings can be printed over the source: it has at most 1,048,576 bytes, the places of the warnings stand in it, in
-- order, and what the warnings name is there.
pub record ArePrintable (source : List ℕ) (unit : UnitParts) (warnings : List Warning) : Type 0 where
  pub short : length source ≤ SOURCE_LIMIT
  pub within : All (λ warning. warning.place ≤ length source) warnings
  pub ordered : IsStrictlyIncreasing (map (λ warning. warning.place) warnings)
  pub named : All (λ warning. IsNamed unit warning.kind) warnings
