-- The tests of suppressions decide the relation on patterns that the crate `suppress` states.
use Rattle.std.proofs.Common.{◌≡◌, ℕ, Bool, true, false, not, ◌&&◌, ◌||◌, nat_eq, List, [], ◌∷◌, ◌++◌, length, drop, refl, sym, ap, ◌∙◌, ◌⊎◌, inl, inr, subst}
use Rattle.std.specs.Bool.{Decides}
use Rattle.std.specs.List.{list_any, starts_with, Any}
use Rattle.std.proofs.lemmas.Bool.Decides.{Decides-eqb, Decides-like, Decides-and, Decides-or, Decides-not}
use Rattle.std.proofs.lemmas.List.{append_cancel_left}
use Rattle.std.proofs.lemmas.List.Folds.{Any-from_list_any, list_any-from_Any}
use Rattle.std.proofs.lemmas.Slice.Eq.{starts_is}
use Rattle.core_unit.specs.declared.tables.UnitParts.{UnitParts}
use Rattle.ctx_set.specs.declared.steps.StackStep.{StackStep}
use Rattle.suppress.proofs.LayoutLemmas.{Follows, Follows-IsLaidOut, IsLaidOut-Follows, prefix_of_IsLaidOut, IsLaidOut_after_prefix, empty_from_IsLaidOut, IsLaidOut_empty}
use Rattle.suppress.specs.Layout.{IsLaidOut}
use Rattle.suppress.specs.Pattern.{Matches}
use Rattle.suppress.specs.Suppressions.{SuppressesFunction}
use Rattle.suppress.specs.declared.pattern.Pattern.{Pattern}
use Rattle.suppress.specs.declared.suppressions.Suppression.{Suppression}
use Rattle.suppress.specs.declared.suppressions.SuppressionKind.{SuppressionKind}
use Rattle.suppress.specs.declared.suppressions.SuppressionKind.TheVariants.{FunctionNameMatches, CallStackContains}
use Rattle.rt_ctx.specs.Places.{is_detected, name_of, kind_of, SuppressesName, AnySuppresses, IsSuppressed}
use Rattle.rt_ctx.specs.Suppressing.{is_empty, begins_with, has_piece, has_pieces, is_laid_out, matches, is_on_functions, is_on_stacks, suppresses_function, suppresses_name, any_suppresses_function, any_suppresses_name, is_suppressed, is_suppressed_place, is_report_place}
use Rattle.rt_ctx.specs.Verdicts.{IsSuppressedPlace, IsReportPlace, IsVerdict}
use Rattle.rt_ctx.specs.declared.answers.Verdict.{Verdict}
use Rattle.rt_ctx.specs.declared.answers.Verdict.TheVariants.{Pass, Report, Suppressed}
use Rattle.rt_ctx.specs.declared.context.Context.{Context}

both : (a b : Bool) → (a && b) ≡ true → (a ≡ true) × (b ≡ true)
both true b h = (refl, h)
both false b h = let clash : ⊥ = cc in absurd clash

each : (a b : Bool) → a ≡ true → b ≡ true → (a && b) ≡ true
each a b p q = rw (p, q) refl

-- what stands behind a piece that the text begins with
abbrev Begins : (List ℕ → Type 0) → (piece text : List ℕ) → Type 0
Begins P piece text = (rest : List ℕ) × (text ≡ piece ++ rest) × P rest

begins_decides : (P : List ℕ → Type 0) (behind : List ℕ → Bool) → ((rest : List ℕ) → Decides (behind rest) (P rest)) → (piece text : List ℕ) → Decides (begins_with piece behind text) (Begins P piece text)
begins_decides P behind decides piece text =
    let starts = starts_is Decides-eqb text piece (starts_with nat_eq text piece) refl in (
      λ h. let parts = both (starts_with nat_eq text piece) (behind (drop (length piece) text)) h in
          (drop (length piece) text, starts.0 parts.0, (decides (drop (length piece) text)).0 parts.1),
      λ b.
          let first = starts.1 b.0 b.1 in
          let same : b.0 ≡ drop (length piece) text = append_cancel_left piece b.0 (drop (length piece) text) (sym b.1 ∙ starts.0 first) in
          each (starts_with nat_eq text piece) (behind (drop (length piece) text)) first ((decides (drop (length piece) text)).1 (subst P same b.2)),
    )

-- the piece after some run, and what stands behind it
abbrev Has : (List ℕ → Type 0) → (piece text : List ℕ) → Type 0
Has P piece text = (run : List ℕ) × (rest : List ℕ) × (text ≡ run ++ (piece ++ rest)) × P rest

only_begins : (P : List ℕ → Type 0) (piece run rest : List ℕ) → [] ≡ run ++ (piece ++ rest) → P rest → Begins P piece []
only_begins P piece [] rest is p = (rest, is, p)
only_begins P piece (byte ∷ run) rest is p = let clash : ⊥ = cc in absurd clash

begins_or_has : (P : List ℕ → Type 0) (piece : List ℕ) (byte : ℕ) (bytes run rest : List ℕ) → byte ∷ bytes ≡ run ++ (piece ++ rest) → P rest → Begins P piece (byte ∷ bytes) ⊎ Has P piece bytes
begins_or_has P piece byte bytes [] rest is p = inl (rest, is, p)
begins_or_has P piece byte bytes (other ∷ run) rest is p = let same : bytes ≡ run ++ (piece ++ rest) = cc in inr (run, rest, same, p)

has_from : (P : List ℕ → Type 0) (piece : List ℕ) (byte : ℕ) (bytes : List ℕ) → Begins P piece (byte ∷ bytes) ⊎ Has P piece bytes → Has P piece (byte ∷ bytes)
has_from P piece byte bytes (inl b) = ([], b.0, b.1, b.2)
has_from P piece byte bytes (inr h) = (byte ∷ h.0, h.1, ap (λ (t : List ℕ). byte ∷ t) h.2, h.3)

has_decides : (P : List ℕ → Type 0) (behind : List ℕ → Bool) → ((rest : List ℕ) → Decides (behind rest) (P rest)) → (piece text : List ℕ) → Decides (has_piece piece behind text) (Has P piece text)
has_decides P behind decides piece [] =
    Decides-like (begins_with piece behind []) (λ b. ([], b.0, b.1, b.2)) (λ h. only_begins P piece h.0 h.1 h.2 h.3)
    (begins_decides P behind decides piece [])
has_decides P behind decides piece (byte ∷ bytes) =
    Decides-like (begins_with piece behind (byte ∷ bytes) || has_piece piece behind bytes)
    (has_from P piece byte bytes) (λ h. begins_or_has P piece byte bytes h.0 h.1 h.2 h.3)
    (Decides-or (begins_with piece behind (byte ∷ bytes)) (has_piece piece behind bytes)
    (begins_decides P behind decides piece (byte ∷ bytes)) (has_decides P behind decides piece bytes))

empty_decides : (text : List ℕ) → Decides (is_empty text) (text ≡ [])
empty_decides [] = (λ h. refl, λ h. refl)
empty_decides (byte ∷ bytes) = (λ h. let clash : ⊥ = cc in absurd clash, λ h. let clash : ⊥ = cc in absurd clash)

follows_decides : (e : Bool) (pieces : List (List ℕ)) (text : List ℕ) → Decides (has_pieces e pieces text) (Follows e pieces text)
follows_decides true [] text = Decides-like (is_empty text) (λ is _. is) (λ h. h refl) (empty_decides text)
follows_decides false [] text = (λ h t. let clash : ⊥ = cc in absurd clash, λ h. refl)
follows_decides e (piece ∷ pieces) text = has_decides (Follows e pieces) (has_pieces e pieces) (follows_decides e pieces) piece text

laid_decides : (e : Bool) (pieces : List (List ℕ)) (text : List ℕ) → Decides (has_pieces e pieces text) (IsLaidOut false e pieces text)
laid_decides e pieces text =
    Decides-like (has_pieces e pieces text) (IsLaidOut-Follows e pieces text) (Follows-IsLaidOut e pieces text) (follows_decides e pieces text)

layout_decides : (start e : Bool) (pieces : List (List ℕ)) (text : List ℕ) → Decides (is_laid_out start e pieces text) (IsLaidOut start e pieces text)
layout_decides false e pieces text = laid_decides e pieces text
layout_decides true e [] text = Decides-like (is_empty text) (IsLaidOut_empty e text) (empty_from_IsLaidOut e text) (empty_decides text)
layout_decides true e (piece ∷ pieces) text =
    Decides-like (begins_with piece (has_pieces e pieces) text)
    (λ b. IsLaidOut_after_prefix e piece pieces text b.0 b.1 b.2) (λ h. prefix_of_IsLaidOut e piece pieces text h)
    (begins_decides (IsLaidOut false e pieces) (has_pieces e pieces) (laid_decides e pieces) piece text)

-- A pattern matches exactly where its test says so.
pub matches_decides : (pattern : Pattern) (text : List ℕ) → Decides (matches pattern text) (Matches pattern text)
matches_decides pattern text = layout_decides pattern.anchored_start pattern.anchored_end pattern.pieces text

on_functions : (kind : SuppressionKind) → Decides (is_on_functions kind) (kind ≡ FunctionNameMatches)
on_functions FunctionNameMatches = (λ h. refl, λ h. refl)
on_functions CallStackContains = (λ h. let clash : ⊥ = cc in absurd clash, λ h. let clash : ⊥ = cc in absurd clash)

on_stacks : (kind : SuppressionKind) → Decides (is_on_stacks kind) (kind ≡ CallStackContains)
on_stacks FunctionNameMatches = (λ h. let clash : ⊥ = cc in absurd clash, λ h. let clash : ⊥ = cc in absurd clash)
on_stacks CallStackContains = (λ h. refl, λ h. refl)

function_decides : (entry : Suppression) (name : List ℕ) → Decides (suppresses_function entry name) (SuppressesFunction entry name)
function_decides entry name =
    Decides-and (is_on_functions entry.kind) (matches entry.pattern name) (on_functions entry.kind) (matches_decides entry.pattern name)

name_decides : (entry : Suppression) (name : List ℕ) → Decides (suppresses_name entry name) (SuppressesName entry name)
name_decides entry name =
    Decides-and (is_on_stacks entry.kind) (matches entry.pattern name) (on_stacks entry.kind) (matches_decides entry.pattern name)

any_decides : {X : Type 0} (p : X → Bool) (P : X → Type 0) → ((x : X) → Decides (p x) (P x)) → (xs : List X) → Decides (list_any p xs) (Any P xs)
any_decides p P decides xs = (
  λ h. let a = Any-from_list_any p xs h in (a.0, a.1, a.2, a.3, (decides a.1).0 a.4),
  λ a. list_any-from_Any p xs (a.0, a.1, a.2, a.3, (decides a.1).1 a.4),
)

stack_name_decides : (entries : List Suppression) (name : List ℕ) → Decides (any_suppresses_name entries name) (AnySuppresses entries name)
unfolding AnySuppresses
stack_name_decides entries name = any_decides (λ entry. suppresses_name entry name) (λ entry. SuppressesName entry name) (λ entry. name_decides entry name) entries

-- A reach is suppressed exactly where the test says so.
pub suppressed_decides : (u : UnitParts) (entries : List Suppression) (stack : List StackStep) (target : ℕ) → Decides (is_suppressed u entries stack target) (IsSuppressed u entries stack target)
suppressed_decides u entries stack target =
    Decides-or (any_suppresses_function entries (name_of u target)) (list_any (λ step. any_suppresses_name entries (name_of u step.target)) stack)
    (any_decides (λ entry. suppresses_function entry (name_of u target)) (λ entry. SuppressesFunction entry (name_of u target)) (λ entry. function_decides entry (name_of u target)) entries)
    (any_decides (λ step. any_suppresses_name entries (name_of u step.target)) (λ step. AnySuppresses entries (name_of u step.target)) (λ step. stack_name_decides entries (name_of u step.target)) stack)

-- So a place is suppressed, or one of a report, exactly where its test says so.
detected_decides : (b : Bool) → Decides b (b ≡ true)
detected_decides b = (λ h. h, λ h. h)

pub suppressed_place_decides : (u : UnitParts) (entries : List Suppression) (c : Context) (stack : List StackStep) (target : ℕ) → Decides (is_suppressed_place u entries c stack target) (IsSuppressedPlace u entries c stack target)
suppressed_place_decides u entries c stack target =
    Decides-and (is_detected u c target) (is_suppressed u entries stack target) (detected_decides (is_detected u c target)) (suppressed_decides u entries stack target)

pub report_place_decides : (u : UnitParts) (entries : List Suppression) (c : Context) (stack : List StackStep) (target : ℕ) → Decides (is_report_place u entries c stack target) (IsReportPlace u entries c stack target)
report_place_decides u entries c stack target =
    Decides-and (is_detected u c target) (not (is_suppressed u entries stack target)) (detected_decides (is_detected u c target))
    (Decides-not (is_suppressed u entries stack target) (suppressed_decides u entries stack target))

-- What a verdict tells of the two tests.
abbrev pub Tells : UnitParts → List Suppression → Context → List StackStep → (target : ℕ) → Verdict → Type 0
Tells u entries c stack target Pass = (is_report_place u entries c stack target ≡ false) × (is_suppressed_place u entries c stack target ≡ false)
Tells u entries c stack target Suppressed = (is_report_place u entries c stack target ≡ false) × (is_suppressed_place u entries c stack target ≡ true)
Tells u entries c stack target (Report kind) =
    (is_report_place u entries c stack target ≡ true) × (is_suppressed_place u entries c stack target ≡ false) × (kind ≡ kind_of target)

undetected : (a b : Bool) → a ≡ false → (a && b) ≡ false
undetected a b p = rw p refl

unmatched : (a b : Bool) → b ≡ false → (a && b) ≡ false
unmatched true b p = p
unmatched false b p = refl

not_true : (b : Bool) → b ≡ true → not b ≡ false
not_true b p = rw p refl

false_where_not : {P : Type 0} (b : Bool) → Decides b P → (P → ⊥) → b ≡ false
false_where_not true decides none = absurd (none (decides.0 refl))
false_where_not false decides none = refl

pub verdict_tells : (u : UnitParts) (entries : List Suppression) (c : Context) (stack : List StackStep) (target : ℕ) (verdict : Verdict) → IsVerdict u entries c stack target verdict → Tells u entries c stack target verdict
verdict_tells u entries c stack target Pass h = (
  undetected (is_detected u c target) (not (is_suppressed u entries stack target)) h,
  undetected (is_detected u c target) (is_suppressed u entries stack target) h,
)
verdict_tells u entries c stack target Suppressed h = (
  unmatched (is_detected u c target) (not (is_suppressed u entries stack target))
      (not_true (is_suppressed u entries stack target) ((suppressed_decides u entries stack target).1 h.1)),
  (suppressed_place_decides u entries c stack target).1 h,
)
verdict_tells u entries c stack target (Report kind) h = (
  (report_place_decides u entries c stack target).1 h.0,
  unmatched (is_detected u c target) (is_suppressed u entries stack target)
      (false_where_not (is_suppressed u entries stack target) (suppressed_decides u entries stack target) h.0.1),
  h.1,
)
