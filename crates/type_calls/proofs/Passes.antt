-- Arguments that are passed one by one, and the functions that calls name.
use Rattle.std.proofs.Common.{◌≡◌, ◌∙◌, refl, sym, ap, ℕ, zero, suc, ◌+◌, ◌<◌, ◌≤◌, arith, List, [], ◌∷◌, ◌++◌, append_assoc, length, drop, reverse, get_or, slice_get, Some, None, Err}
use Rattle.std.proofs.Math.ListN.{drop_of_length-le}
use Rattle.std.proofs.lemmas.List.{append-nil, drop_more, reverse-append, reverse-reverse}
use Rattle.eff_types.specs.declared.types.CType.{CType}
use Rattle.eff_types.specs.declared.types.FnType.{FnType}
use Rattle.core_unit.specs.Library.{row_type, row_types}
use Rattle.core_unit.specs.Shapes.{callee_of}
use Rattle.core_unit.specs.Typing.{called_as}
use Rattle.core_unit.specs.declared.expressions.Expr.{Expr}
use Rattle.core_unit.specs.declared.expressions.Expr.TheVariants as expr
use Rattle.type_calls.specs.Passing.{passed_behind}
use Rattle.type_calls.specs.Rows.{row_named}
use Rattle.type_rules.specs.Calls.{passed}
use Rattle.type_rules.specs.Conversions.{converted}
use Rattle.type_rules.specs.Reading.{Read, Good, Bad, and_then}
use Rattle.type_rules.specs.Seen.{Seen}
use Rattle.type_rules.specs.declared.found.Operand.{Operand}
use Rattle.typing_state.specs.Answers.{Gives}
use Rattle.typing_state.specs.declared.stop.Stop.{Stop}
use Rattle.typing_state.specs.declared.stop.Stop.TheVariants as stop

-- Where these arguments were passed, the rest follows behind them.
unfoldable pub rest_passed : List Expr → List CType → List Operand → Seen → Read (List Expr)
rest_passed done ts os s = and_then (passed ts os s) (λ vs t. Good (done ++ vs) t)

whole_passed : (read : Read (List Expr)) → read ≡ and_then read (λ vs t. Good ([] ++ vs) t)
unfolding and_then
whole_passed (Good vs t) = refl
whole_passed (Bad number place) = refl

none_passed : (ts : List CType) (os : List Operand) (s : Seen) → passed ts os s ≡ rest_passed [] ts os s
unfolding rest_passed
none_passed ts os s = whole_passed (passed ts os s)

regrouped : (done : List Expr) (x : Expr) (read : Read (List Expr)) →
    and_then (and_then read (λ vs t. Good (x ∷ vs) t)) (λ vs t. Good (done ++ vs) t) ≡ and_then read (λ vs t. Good ((done ++ x ∷ []) ++ vs) t)
unfolding and_then
regrouped done x (Good vs t) = ap (λ l. Good l t) (sym (append_assoc done (x ∷ []) vs))
regrouped done x (Bad number place) = refl

next_passed : (done more : List Expr) (ts : List CType) (os : List Operand) (next : Seen) (read : Read Operand) →
    and_then read (λ v t. Good (done ++ v.node ∷ []) t) ≡ Good more next →
    and_then (and_then read (λ v t. and_then (passed ts os t) (λ vs u. Good (v.node ∷ vs) u))) (λ vs t. Good (done ++ vs) t) ≡ rest_passed more ts os next
unfolding and_then rest_passed
next_passed done more ts os next (Good v t) h =
    let e : done ++ v.node ∷ [] ≡ more = cc in
    let f : t ≡ next = cc in
    rw (← e, ← f) (regrouped done v.node (passed ts os t))
next_passed done more ts os next (Bad number place) h = absurd (cc)

next_refused : (done : List Expr) (ts : List CType) (os : List Operand) (n p : ℕ) (read : Read Operand) →
    and_then read (λ v t. Good (done ++ v.node ∷ []) t) ≡ Bad n p →
    and_then (and_then read (λ v t. and_then (passed ts os t) (λ vs u. Good (v.node ∷ vs) u))) (λ vs t. Good (done ++ vs) t) ≡ Bad n p
unfolding and_then
next_refused done ts os n p (Good v t) h = absurd (cc)
next_refused done ts os n p (Bad number place) h = h

first_passed : (done more : List Expr) (t : CType) (ts : List CType) (o : Operand) (os : List Operand) (s next : Seen) →
    passed_behind done t o s ≡ Good more next → rest_passed done (t ∷ ts) (o ∷ os) s ≡ rest_passed more ts os next
unfolding passed rest_passed
first_passed done more t ts o os s next h = next_passed done more ts os next (converted t o s) h

first_refused : (done : List Expr) (t : CType) (ts : List CType) (o : Operand) (os : List Operand) (s : Seen) (n p : ℕ) →
    passed_behind done t o s ≡ Bad n p → rest_passed done (t ∷ ts) (o ∷ os) s ≡ Bad n p
unfolding passed rest_passed
first_refused done t ts o os s n p h = next_refused done ts os n p (converted t o s) h

no_parameters : (done : List Expr) (os : List Operand) (s : Seen) → rest_passed done [] os s ≡ Good done s
unfolding passed rest_passed and_then
no_parameters done os s = ap (λ l. Good l s) (append-nil done)

no_arguments : (done : List Expr) (ts : List CType) (s : Seen) → rest_passed done ts [] s ≡ Good done s
unfolding passed rest_passed and_then
no_arguments done [] s = ap (λ l. Good l s) (append-nil done)
no_arguments done (t ∷ ts) s = ap (λ l. Good l s) (append-nil done)

-- the next parameter and the next argument, where the arguments stand the last first
split : (whole : Read (List Expr)) (params : List CType) (i : ℕ) (t : CType) (given rest : List Operand) (o : Operand) (done : List Expr) (s : Seen) →
    i < length params → t ≡ get_or params i t → given ≡ rest ++ o ∷ [] → whole ≡ rest_passed done (drop i params) (reverse given) s →
    whole ≡ rest_passed done (t ∷ drop (i + 1) params) (o ∷ reverse rest) s
split whole params i t given rest o done s below is popped h =
    let front : drop i params ≡ t ∷ drop (i + 1) params = drop_more params i t below ∙ ap (λ u. u ∷ drop (i + 1) params) (sym is) in
    let last : reverse given ≡ o ∷ reverse rest = ap reverse popped ∙ reverse-append rest (o ∷ []) in
    h ∙ ap (λ ts. rest_passed done ts (reverse given) s) front ∙ ap (λ os. rest_passed done (t ∷ drop (i + 1) params) os s) last

pub one_passed : (whole : Read (List Expr)) (params : List CType) (i : ℕ) (t : CType) (given rest : List Operand) (o : Operand) (done more : List Expr) (s next : Seen) →
    i < length params → t ≡ get_or params i t → given ≡ rest ++ o ∷ [] → whole ≡ rest_passed done (drop i params) (reverse given) s →
    passed_behind done t o s ≡ Good more next → whole ≡ rest_passed more (drop (i + 1) params) (reverse rest) next
one_passed whole params i t given rest o done more s next below is popped h step =
    split whole params i t given rest o done s below is popped h ∙ first_passed done more t (drop (i + 1) params) o (reverse rest) s next step

one_refused : (whole : Read (List Expr)) (params : List CType) (i : ℕ) (t : CType) (given rest : List Operand) (o : Operand) (done : List Expr) (s : Seen) (n p : ℕ) →
    i < length params → t ≡ get_or params i t → given ≡ rest ++ o ∷ [] → whole ≡ rest_passed done (drop i params) (reverse given) s →
    passed_behind done t o s ≡ Bad n p → whole ≡ Bad n p
one_refused whole params i t given rest o done s n p below is popped h step =
    split whole params i t given rest o done s below is popped h ∙ first_refused done t (drop (i + 1) params) o (reverse rest) s n p step

pub all_given : (whole : Read (List Expr)) (ts : List CType) (given : List Operand) (done : List Expr) (s : Seen) →
    given ≡ [] → whole ≡ rest_passed done ts (reverse given) s → whole ≡ Good done s
all_given whole ts given done s none h = h ∙ ap (λ os. rest_passed done ts (reverse os) s) none ∙ no_arguments done ts s

pub all_passed : (whole : Read (List Expr)) (params : List CType) (i : ℕ) (given : List Operand) (done : List Expr) (s : Seen) →
    length params ≤ i → whole ≡ rest_passed done (drop i params) (reverse given) s → whole ≡ Good done s
all_passed whole params i given done s end h =
    h ∙ ap (λ ts. rest_passed done ts (reverse given) s) (drop_of_length-le params end) ∙ no_parameters done (reverse given) s

pub at_first : (ts : List CType) (given turned : List Operand) (none : List Expr) (s : Seen) → turned ≡ reverse given → none ≡ [] →
    passed ts given s ≡ rest_passed none ts (reverse turned) s
at_first ts given turned none s turning empty =
    none_passed ts given s ∙ ap (λ os. rest_passed [] ts os s) (sym (ap reverse turning ∙ reverse-reverse given))
    ∙ ap (λ vs. rest_passed vs ts (reverse turned) s) (sym empty)

pub one_stopped : (whole : Read (List Expr)) (params : List CType) (i : ℕ) (t : CType) (given rest : List Operand) (o : Operand) (done : List Expr) (s next : Seen) (error : Stop) →
    i < length params → t ≡ get_or params i t → given ≡ rest ++ o ∷ [] → whole ≡ rest_passed done (drop i params) (reverse given) s →
    Gives (passed_behind done t o s) (Err error) next → Gives whole (Err error) next
one_stopped whole params i t given rest o done s next (stop.Fault n p) below is popped h step =
    one_refused whole params i t given rest o done s n p below is popped h step
one_stopped whole params i t given rest o done s next stop.NoMemory below is popped h step = tt

pub empty : (xs : List Operand) → length xs ≡ 0 → xs ≡ []
empty [] h = refl
empty (x ∷ xs) h = let clash : ⊥ = omega arith in absurd clash

-- Library functions by their rows.
pub row_named-other : (e : Expr) → ((row : ℕ) → e ≡ expr.LibraryFunction row → ⊥) → row_named e ≡ None
row_named-other (expr.LibraryFunction row) other = absurd (other row refl)
row_named-other e other = refl

pub named_row : (e : Expr) (t : CType) (row : ℕ) → row_named e ≡ Some row → called_as e t ≡ row_type row
named_row (expr.LibraryFunction k) t row h = let e : k ≡ row = cc in ap row_type e
named_row e t row h = absurd (cc)

pub no_named_row : (e : Expr) (t : CType) → row_named e ≡ None → called_as e t ≡ callee_of t
no_named_row (expr.LibraryFunction k) t h = absurd (cc)
no_named_row e t h = refl

none_behind : (xs : List FnType) (i : ℕ) → length xs ≤ i → slice_get xs i ≡ None
none_behind [] i h = refl
none_behind (x ∷ xs) zero h = let clash : ⊥ = omega arith in absurd clash
none_behind (x ∷ xs) (suc i) h = none_behind xs i (omega arith)

pub no_row : (row : ℕ) → 15 ≤ row → row_type row ≡ None
unfolding row_type
no_row row h = none_behind row_types row h

pub ruleset named_rows = (named_row, no_named_row)
