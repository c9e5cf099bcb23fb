-- The printed warnings: texts of this project's own, after those that Clang prints under -Wfunction-effects (Clang's manual, 'Function Effect
-- Analysis'). One line for each: FILE:LINE:COLUMN: warning: MESSAGE [-Wfunction-effects], and FILE:LINE:COLUMN: note: MESSAGE.
use Rattle.std.specs.Prelude.{ℕ, nat_lt, Bool, List, [], ◌∷◌, ◌++◌, drop, codes, decimal, unwrap_or, take}
use Rattle.std.specs.List.{concat, flat_map, prefix_len}
use Rattle.c_text.specs.Place.{LineColumn, line_column}
use Rattle.core_unit.specs.Units.{target_name}
use Rattle.core_unit.specs.declared.tables.UnitParts.{UnitParts}
use Rattle.eff_types.specs.declared.levels.Level.{Level}
use Rattle.eff_types.specs.declared.levels.Level.TheVariants.{Plain, NonAllocating, NonBlocking}
use Rattle.type_rules.specs.declared.notes.TypeWarning.{TypeWarning}
use Rattle.type_rules.specs.declared.notes.TypeWarning.TheVariants.{Conversion, Redeclaration}
use Rattle.unit_check.specs.Verdicts.{Report}
use Rattle.unit_check.specs.declared.verdicts.ChainStep.{ChainStep}
use Rattle.unit_check.specs.declared.verdicts.ViolationKind.{ViolationKind}
use Rattle.unit_check.specs.declared.verdicts.ViolationKind.TheVariants.{Calls, CallsThrough, ThreadLocal, StaticLocal}
use Rattle.unit_check.specs.declared.verdicts.Warning.{Warning}

-- a source by the name under which it is printed
pub record NamedSource : Type 0 where
  pub file : List ℕ
  pub bytes : List ℕ

-- the attribute that marks a function with the level; no attribute does so for Plain, and nothing is warned of for that level
abbrev pub effect_name : Level → List ℕ
effect_name Plain = []
effect_name NonAllocating = codes "nonallocating"
effect_name NonBlocking = codes "nonblocking"

-- the name of a function of the unit or of a library function; empty where there is none of this number
abbrev pub name_of : UnitParts → ℕ → List ℕ
name_of u target = unwrap_or (target_name u target) []

-- where a line stands, and what it is
unfoldable pub head_of : (file line column sort : List ℕ) → List ℕ
head_of file line column sort = concat (file ∷ codes ":" ∷ line ∷ codes ":" ∷ column ∷ sort ∷ [])

-- A line: where it stands, what it is, the message, and what ends it.
abbrev pub line_at : List ℕ → LineColumn → List ℕ → List ℕ → List ℕ → List ℕ
line_at file at sort message end = head_of file (decimal at.line) (decimal at.column) sort ++ message ++ end

abbrev pub warning_line : NamedSource → ℕ → List ℕ → List ℕ
warning_line source place message = line_at source.file (line_column source.bytes place) (codes ": warning: ") message (codes " [-Wfunction-effects]\n")

abbrev pub note_line : NamedSource → ℕ → List ℕ → List ℕ
note_line source place message = line_at source.file (line_column source.bytes place) (codes ": note: ") message (codes "\n")

-- What a function of a level must not do.
unfoldable pub call_message : (effect name : List ℕ) → List ℕ
call_message effect name =
    concat (codes "function with '" ∷ effect ∷ codes "' attribute must not call non-'" ∷ effect ∷ codes "' function '" ∷ name ∷ codes "'" ∷ [])

unfoldable pub expression_message : (effect : List ℕ) → List ℕ
expression_message effect = concat (codes "function with '" ∷ effect ∷ codes "' attribute must not call non-'" ∷ effect ∷ codes "' expression" ∷ [])

unfoldable pub thread_local_message : (effect : List ℕ) → List ℕ
thread_local_message effect = concat (codes "function with '" ∷ effect ∷ codes "' attribute must not use thread-local variables" ∷ [])

unfoldable pub static_local_message : (effect : List ℕ) → List ℕ
static_local_message effect = concat (codes "function with '" ∷ effect ∷ codes "' attribute must not have static local variables" ∷ [])

-- Why a level is not inferred for a function without it.
unfoldable pub call_reason : (function effect name : List ℕ) → List ℕ
call_reason function effect name =
    concat
    (codes "function '" ∷ function ∷ codes "' cannot be inferred '" ∷ effect ∷ codes "' because it calls non-'" ∷ effect ∷ codes "' function '" ∷ name ∷ codes "'" ∷ [])

unfoldable pub expression_reason : (function effect : List ℕ) → List ℕ
expression_reason function effect =
    concat (codes "function '" ∷ function ∷ codes "' cannot be inferred '" ∷ effect ∷ codes "' because it calls non-'" ∷ effect ∷ codes "' expression" ∷ [])

unfoldable pub thread_local_reason : (function effect : List ℕ) → List ℕ
thread_local_reason function effect =
    concat (codes "function '" ∷ function ∷ codes "' cannot be inferred '" ∷ effect ∷ codes "' because it uses a thread-local variable" ∷ [])

unfoldable pub static_local_reason : (function effect : List ℕ) → List ℕ
static_local_reason function effect =
    concat (codes "function '" ∷ function ∷ codes "' cannot be inferred '" ∷ effect ∷ codes "' because it has a static local variable" ∷ [])

-- What the typing warns of.
unfoldable pub conversion_message : (effect : List ℕ) → List ℕ
conversion_message effect = concat (codes "attribute '" ∷ effect ∷ codes "' should not be added via type conversion" ∷ [])

unfoldable pub redeclaration_message : (effect : List ℕ) → List ℕ
redeclaration_message effect = concat (codes "attribute '" ∷ effect ∷ codes "' on function does not match previous declaration" ∷ [])

abbrev pub message_of : UnitParts → Level → ViolationKind → List ℕ
message_of u level (Calls target) = call_message (effect_name level) (name_of u target)
message_of u level CallsThrough = expression_message (effect_name level)
message_of u level ThreadLocal = thread_local_message (effect_name level)
message_of u level StaticLocal = static_local_message (effect_name level)

abbrev pub reason_of : UnitParts → Level → ℕ → ViolationKind → List ℕ
reason_of u level function (Calls target) = call_reason (name_of u function) (effect_name level) (name_of u target)
reason_of u level function CallsThrough = expression_reason (name_of u function) (effect_name level)
reason_of u level function ThreadLocal = thread_local_reason (name_of u function) (effect_name level)
reason_of u level function StaticLocal = static_local_reason (name_of u function) (effect_name level)

abbrev pub violation_line : NamedSource → UnitParts → Warning → List ℕ
violation_line source u w = warning_line source w.place (message_of u w.level w.kind)

-- the note of a place of a chain, which says why the function in whose body it stands doesn't keep the level
abbrev pub chain_note : NamedSource → UnitParts → Level → ChainStep → List ℕ
chain_note source u level step = note_line source step.place (reason_of u level step.function step.kind)

-- the line of a warning, and the notes of its chain
abbrev pub violation_text : NamedSource → UnitParts → Warning → List ChainStep → List ℕ
violation_text source u w chain = violation_line source u w ++ flat_map (chain_note source u w.level) chain

abbrev pub place_of : TypeWarning → ℕ
place_of (Conversion place level) = place
place_of (Redeclaration place level) = place

abbrev pub typed_line : NamedSource → TypeWarning → List ℕ
typed_line source (Conversion place level) = warning_line source place (conversion_message (effect_name level))
typed_line source (Redeclaration place level) = warning_line source place (redeclaration_message (effect_name level))

abbrev pub typed_text : NamedSource → List TypeWarning → List ℕ
typed_text source typed = flat_map (typed_line source) typed

abbrev pub stands_before : ℕ → TypeWarning → Bool
stands_before place w = nat_lt (place_of w) place

-- how many of these, from the first on, stand before the place
abbrev pub count_before : ℕ → List TypeWarning → ℕ
count_before place typed = prefix_len (stands_before place) typed

-- Both kinds of warnings in order of place, where each kind stands in this order. At one place a violation stands before a conversion: the
-- expression that is converted holds all others that begin there.
abbrev pub merged_text : NamedSource → UnitParts → List TypeWarning → List Warning → List (List ChainStep) → List ℕ
merged_text source u typed (w ∷ ws) (chain ∷ chains) =
    typed_text source (take (count_before w.place typed) typed) ++ violation_text source u w chain
    ++ merged_text source u (drop (count_before w.place typed) typed) ws chains
merged_text source u typed _ _ = typed_text source typed

-- the text of all warnings of a unit: those of its typing, and those that its verdicts have
abbrev pub warnings_text : NamedSource → UnitParts → List TypeWarning → Report → List ℕ
warnings_text source u typed report = merged_text source u typed report.warnings report.chains
