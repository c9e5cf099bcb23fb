-- Whether a reach is suppressed, as tests that compute. They decide the relation on patterns that the crate `suppress` states (proofs/Suppressing):
-- a text matches a pattern where it is the pieces in order, with any runs before, between and behind them (this project's own rule).
use Rattle.std.specs.Prelude.{ℕ, Bool, true, false, not, ◌&&◌, ◌||◌, nat_eq, List, [], ◌∷◌, drop, length}
use Rattle.std.specs.List.{list_any, starts_with}
use Rattle.core_unit.specs.declared.tables.UnitParts.{UnitParts}
use Rattle.ctx_set.specs.declared.steps.StackStep.{StackStep}
use Rattle.suppress.specs.declared.pattern.Pattern.{Pattern}
use Rattle.suppress.specs.declared.suppressions.Suppression.{Suppression}
use Rattle.suppress.specs.declared.suppressions.SuppressionKind.{SuppressionKind}
use Rattle.suppress.specs.declared.suppressions.SuppressionKind.TheVariants.{FunctionNameMatches, CallStackContains}
use Rattle.rt_ctx.specs.Places.{is_detected, name_of}
use Rattle.rt_ctx.specs.declared.context.Context.{Context}

abbrev pub is_empty : List ℕ → Bool
is_empty [] = true
is_empty (byte ∷ bytes) = false

-- the text begins with the piece, and what stands behind it passes the test
abbrev pub begins_with : (piece : List ℕ) → (List ℕ → Bool) → (text : List ℕ) → Bool
begins_with piece behind text = starts_with nat_eq text piece && behind (drop (length piece) text)

-- the piece stands somewhere in the text, and what stands behind it there passes the test
abbrev pub has_piece : (piece : List ℕ) → (List ℕ → Bool) → (text : List ℕ) → Bool
has_piece piece behind [] = begins_with piece behind []
has_piece piece behind (byte ∷ bytes) = begins_with piece behind (byte ∷ bytes) || has_piece piece behind bytes

-- the pieces follow in the text, each behind some run, and behind the last one is a run too, which is empty where the end is anchored
abbrev pub has_pieces : (anchored_end : Bool) → List (List ℕ) → (text : List ℕ) → Bool
has_pieces anchored_end [] text = not anchored_end || is_empty text
has_pieces anchored_end (piece ∷ pieces) text = has_piece piece (has_pieces anchored_end pieces) text

-- the same, where the first run is empty if the start is anchored
abbrev pub is_laid_out : (anchored_start anchored_end : Bool) → List (List ℕ) → (text : List ℕ) → Bool
is_laid_out false anchored_end pieces text = has_pieces anchored_end pieces text
is_laid_out true anchored_end [] text = is_empty text
is_laid_out true anchored_end (piece ∷ pieces) text = begins_with piece (has_pieces anchored_end pieces) text

abbrev pub matches : Pattern → (text : List ℕ) → Bool
matches pattern text = is_laid_out pattern.anchored_start pattern.anchored_end pattern.pieces text

abbrev pub is_on_functions : SuppressionKind → Bool
is_on_functions FunctionNameMatches = true
is_on_functions CallStackContains = false

abbrev pub is_on_stacks : SuppressionKind → Bool
is_on_stacks FunctionNameMatches = false
is_on_stacks CallStackContains = true

-- a suppression is one of reached functions with this name
abbrev pub suppresses_function : Suppression → (name : List ℕ) → Bool
suppresses_function entry name = is_on_functions entry.kind && matches entry.pattern name

-- or of stacks with a function of this name
abbrev pub suppresses_name : Suppression → (name : List ℕ) → Bool
suppresses_name entry name = is_on_stacks entry.kind && matches entry.pattern name

abbrev pub any_suppresses_function : List Suppression → (name : List ℕ) → Bool
any_suppresses_function entries name = list_any (λ entry. suppresses_function entry name) entries

abbrev pub any_suppresses_name : List Suppression → (name : List ℕ) → Bool
any_suppresses_name entries name = list_any (λ entry. suppresses_name entry name) entries

-- A pattern on functions matches the name of the reached one, or a pattern on stacks the name of any step of the stack.
abbrev pub is_suppressed : UnitParts → List Suppression → List StackStep → (target : ℕ) → Bool
is_suppressed u entries stack target =
    any_suppresses_function entries (name_of u target) || list_any (λ step. any_suppresses_name entries (name_of u step.target)) stack

-- A detected reach is a suppressed place where a suppression matches, and else a report place.
abbrev pub is_suppressed_place : UnitParts → List Suppression → Context → List StackStep → (target : ℕ) → Bool
is_suppressed_place u entries c stack target = is_detected u c target && is_suppressed u entries stack target

abbrev pub is_report_place : UnitParts → List Suppression → Context → List StackStep → (target : ℕ) → Bool
is_report_place u entries c stack target = is_detected u c target && not (is_suppressed u entries stack target)
