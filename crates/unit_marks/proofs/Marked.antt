-- What the marks need: the rows of the library, and that a step goes to a function of the unit.
use Rattle.std.proofs.Common.{◌≡◌, ◌∙◌, refl, sym, ap, subst, ℕ, zero, suc, ◌<◌, Bool, true, false, not, ◌&&◌, ◌||◌, cond, List, [], ◌∷◌, map, length, Option, Some, None, slice_get, arith}
use Rattle.std.specs.Option.{option_map, is_some}
use Rattle.std.specs.Prelude.{All, slice_index_or}
use Rattle.std.proofs.lemmas.List.{length-map}
use Rattle.std.proofs.lemmas.List.Elements.{All-map}
use Rattle.std.proofs.lemmas.Option.{slice_get_within}
use Rattle.std.proofs.lemmas.Simd.{map-map}
use Rattle.chains.specs.Look.{IsCallBelow, CallsBelow}
use Rattle.chains.specs.declared.marks.Mark.{Mark}
use Rattle.chains.specs.declared.marks.Mark.TheVariants.{Passes, Violates, StepsTo}
use Rattle.core_unit.specs.Library.{rows, seen, Row}
use Rattle.core_unit.specs.declared.rows.LibRow.{LibRow}
use Rattle.core_unit.specs.declared.tables.FunctionInfo.{FunctionInfo}
use Rattle.eff_types.specs.Effects.{is_below, forbids}
use Rattle.eff_types.specs.declared.levels.Level.{Level}
use Rattle.eff_types.specs.declared.levels.Level.TheVariants.{Plain, NonAllocating, NonBlocking}
use Rattle.unit_marks.specs.Marks.{mark, marks, mark_rows, function_mark, row_mark, promise_mark, static_mark, is_safe}
use Rattle.unit_spots.specs.Spots.{spots_of}
use Rattle.unit_spots.specs.declared.spots.Action.{Action}
use Rattle.unit_spots.specs.declared.spots.Action.TheVariants.{Calls, CallsLibrary, CallsThrough, UsesThreadLocal, DeclaresStatic}
use Rattle.unit_spots.specs.declared.spots.Spot.{Spot}

seen_at : (xs : List LibRow) (i : ℕ) → slice_get (map seen xs) i ≡ option_map seen (slice_get xs i)
seen_at [] i = refl
seen_at (x ∷ xs) zero = refl
seen_at (x ∷ xs) (suc i) = seen_at xs i

-- a row of the code is that of the table
pub row_at : (xs : List LibRow) (i : ℕ) (got : Option LibRow) → map seen xs ≡ rows → got ≡ slice_get xs i → slice_get rows i ≡ option_map seen got
row_at xs i got e g = ap (λ ys. slice_get ys i) (sym e) ∙ (seen_at xs i ∙ ap (option_map seen) (sym g))

one_test : (n : ℕ) (a : Bool) (m : Mark) → IsCallBelow n m → IsCallBelow n (cond a Passes m)
one_test n true m h = tt
one_test n false m h = h

step_below : (n g : ℕ) (b : Bool) → g < n → IsCallBelow n (cond b (StepsTo g) Violates)
step_below n g true h = h
step_below n g false h = tt

function_below : (functions : List FunctionInfo) (level : Level) (g : ℕ) (o : Option FunctionInfo) → slice_get functions g ≡ o →
    IsCallBelow (length functions) (function_mark level g o)
function_below functions level g None e = tt
function_below functions level g (Some f) e =
    one_test (length functions) (f.noreturn || not (is_below f.kind.effects.level level)) _
    (step_below (length functions) g (is_some f.body && not (forbids f.kind.effects level)) (slice_get_within functions g f e))

row_below : (n : ℕ) (level : Level) (o : Option Row) → IsCallBelow n (row_mark level o)
row_below n level None = tt
row_below n level (Some row) = one_test n (row.noreturn || is_safe level row) Violates tt

promise_below : (n : ℕ) (b : Bool) → IsCallBelow n (cond b Violates Passes)
promise_below n true = tt
promise_below n false = tt

static_below : (n : ℕ) (level : Level) → IsCallBelow n (static_mark level)
static_below n Plain = tt
static_below n NonAllocating = tt
static_below n NonBlocking = tt

pub mark_below : (functions : List FunctionInfo) (level : Level) (action : Action) → IsCallBelow (length functions) (mark functions level action)
mark_below functions level (Calls g) = function_below functions level g (slice_get functions g) refl
mark_below functions level (CallsLibrary row) = row_below (length functions) level (slice_get rows row)
mark_below functions level (CallsThrough promised) = promise_below (length functions) (is_below promised level)
mark_below functions level UsesThreadLocal = tt
mark_below functions level DeclaresStatic = static_below (length functions) level

below_all : (functions : List FunctionInfo) (level : Level) → CallsBelow (length functions) (mark_rows functions level)
unfolding mark_rows
below_all functions level =
    All-map (All (IsCallBelow (length functions))) (λ (f : FunctionInfo). marks functions level (spots_of f.body)) functions
    (λ k d l. All-map (IsCallBelow (length functions)) (λ (s : Spot). mark functions level s.action) (spots_of (slice_index_or functions k d).body)
    (λ j e m. mark_below functions level (slice_index_or (spots_of (slice_index_or functions k d).body) j e).action))

-- the rows that are made of the places of all bodies
pub rows_are : (functions : List FunctionInfo) (level : Level) (all : List (List Spot)) (made : List (List Mark)) →
    all ≡ map (λ f. spots_of f.body) functions → made ≡ map (marks functions level) all → made ≡ mark_rows functions level
unfolding mark_rows
rows_are functions level all made e g =
    g ∙ (ap (map (marks functions level)) e ∙ map-map (marks functions level) (λ (f : FunctionInfo). spots_of f.body) functions)

pub rows_length : (functions : List FunctionInfo) (level : Level) → length (mark_rows functions level) ≡ length functions
unfolding mark_rows
rows_length functions level = length-map functions (λ (f : FunctionInfo). marks functions level (spots_of f.body))

pub rows_long : (functions : List FunctionInfo) (level : Level) (all : List (List Spot)) (made : List (List Mark)) →
    all ≡ map (λ f. spots_of f.body) functions → made ≡ map (marks functions level) all → length made ≡ length functions
rows_long functions level all made e g = ap length (rows_are functions level all made e g) ∙ rows_length functions level

pub calls_below : (functions : List FunctionInfo) (level : Level) (all : List (List Spot)) (made : List (List Mark)) →
    all ≡ map (λ f. spots_of f.body) functions → made ≡ map (marks functions level) all → CallsBelow (length made) made
calls_below functions level all made e g =
    let is : made ≡ mark_rows functions level = rows_are functions level all made e g in
    let long : length made ≡ length functions = rows_long functions level all made e g in
    let made_below : CallsBelow (length functions) made = subst (λ (rows : List (List Mark)). CallsBelow (length functions) rows) (sym is) (below_all functions level) in
    subst (λ (n : ℕ). CallsBelow n made) (sym long) made_below
