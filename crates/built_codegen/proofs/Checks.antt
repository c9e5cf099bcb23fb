-- What the compiler asks of a unit, one function or call further.
use Rattle.std.proofs.Common.{◌≡◌, ℕ, zero, suc, ◌+◌, ◌*◌, ◌<◌, ◌≤◌, ◌⊎◌, inl, inr, List, [], ◌∷◌, Option, Some, None, sym, ap, ◌∙◌, subst, arith, length, min, Bool, true, false, length-append, get_or}
use Rattle.std.specs.Prelude.{slice_get}
use Rattle.std.proofs.lemmas.Bool.{cases_lt}
use Rattle.std.proofs.lemmas.Option.{slice_get-get_or}
use Rattle.built_unit.specs.declared.units.Body.{Body}
use Rattle.built_unit.specs.declared.units.FunctionInfo.{FunctionInfo}
use Rattle.built_unit.specs.declared.units.SiteInfo.{SiteInfo}
use Rattle.built_unit.specs.Units.{UnitParts}
use Rattle.built_model.specs.Source.{Task, callee_at, named, calls, return_of, meets, body_tasks, info_tasks}
use Rattle.built_codegen.specs.Instructions.{task_code, tasks_code, maybe_code, function_code, unit_code}
use Rattle.built_codegen.specs.Unit.{missing_callee, missing_in, missing_at, MissesBelow, IsFirstBelow, IsFirstMissing, lesser, return_nodes, body_nodes, nodes_in, nodes_below}

misses_more : (u : UnitParts) (n function : ℕ) → MissesBelow u n function → MissesBelow u (n + 1) function
misses_more u n function m = (m.0, omega (arith, m.1), m.2)

misses_split : (u : UnitParts) (n function : ℕ) → MissesBelow u (n + 1) function → MissesBelow u n function ⊎ (missing_at u n ≡ Some function)
misses_split u n function m =
    elim (cases_lt m.0 n) [
      | inl below ↦ inl (m.0, below, m.2)
      | inr above ↦ let e : m.0 ≡ n = omega (arith, m.1) in inr (subst (λ i. missing_at u i ≡ Some function) e m.2)
    ]

first_step : (u : UnitParts) (n : ℕ) (first last : Option ℕ) → missing_at u n ≡ last → IsFirstBelow u n first → IsFirstBelow u (n + 1) (lesser first last)
first_step u n None None e a = λ function m. none (misses_split u n function m) (a function) e
  where
    none : {function : ℕ} {last : Option ℕ} {A : Type 0} → A ⊎ (last ≡ Some function) → (A → ⊥) → last ≡ None → ⊥
    none (inl x) a e = a x
    none (inr q) a e = cc
first_step u n None (Some y) e a =
    ((n, omega arith, e), λ function m. only (misses_split u n function m) (a function) e)
  where
    only : {function y : ℕ} {last : Option ℕ} {A : Type 0} → A ⊎ (last ≡ Some function) → (A → ⊥) → last ≡ Some y → y ≤ function
    only (inl x) a e = absurd (a x)
    only {function} {y} (inr q) a e = let same : y ≡ function = cc in omega arith
first_step u n (Some x) None e a =
    (misses_more u n x a.0, λ function m. kept (misses_split u n function m) (a.1 function) e)
  where
    kept : {function x : ℕ} {last : Option ℕ} {A : Type 0} → A ⊎ (last ≡ Some function) → (A → x ≤ function) → last ≡ None → x ≤ function
    kept (inl m) a e = a m
    kept (inr q) a e = cc
first_step u n (Some x) (Some y) e a =
    (least (cases_lt x y), λ function m. below (misses_split u n function m) (a.1 function) e)
  where
    below : {function x y : ℕ} {last : Option ℕ} {A : Type 0} → A ⊎ (last ≡ Some function) → (A → x ≤ function) → last ≡ Some y → min x y ≤ function
    below (inl m) a e = omega (arith, a m)
    below {function} {x} {y} (inr q) a e = let same : y ≡ function = cc in omega arith

    least : (x < y) ⊎ (y ≤ x) → MissesBelow u (n + 1) (min x y)
    least (inl low) = let same : x ≡ min x y = omega arith in subst (MissesBelow u (n + 1)) same (misses_more u n x a.0)
    least (inr low) =
        let same : y ≡ min x y = omega arith in
        let here : MissesBelow u (n + 1) y = (n, omega arith, e) in
        subst (MissesBelow u (n + 1)) same here

-- the loop over the calls
pub first_goes_on : (u : UnitParts) (items : List SiteInfo) (n : ℕ) (first found last : Option ℕ) (d : SiteInfo) → items ≡ u.sites → n < length items → found ≡ missing_callee u (get_or items n d).direct → last ≡ lesser first found → IsFirstBelow u n first → IsFirstBelow u (n + 1) last
first_goes_on u items n first found last d same within named l a =
    let here : missing_at u n ≡ found = ap (missing_in u) (ap (λ s. slice_get s n) (sym same) ∙ slice_get-get_or items n d within) ∙ sym named in
    subst (IsFirstBelow u (n + 1)) (sym l) (first_step u n first found here a)

pub first_all : (u : UnitParts) (items : List SiteInfo) (n : ℕ) (first : Option ℕ) → items ≡ u.sites → length items ≤ n → n ≤ length items → IsFirstBelow u n first → IsFirstMissing u first
first_all u items n first same low high a =
    let e : n ≡ length u.sites = omega (arith, ap length same) in subst (λ m. IsFirstBelow u m first) e a

pub nodes_grow : (u : UnitParts) (n m : ℕ) → n ≤ m → nodes_below u n ≤ nodes_below u m
nodes_grow u n zero le = let e : n ≡ 0 = omega arith in omega (arith, ap (nodes_below u) e)
nodes_grow u n (suc m) le =
    elim (cases_lt n (suc m)) [
      | inl low ↦ omega (arith, nodes_grow u n m (omega arith))
      | inr high ↦ let e : n ≡ suc m = omega arith in omega (arith, ap (nodes_below u) e)
    ]

named_short : (callee : Option ℕ) (site : ℕ) → length (task_code (named callee site)) ≤ 2
named_short None site = omega arith
named_short (Some function) site = omega arith

calls_short : (u : UnitParts) (sites : List ℕ) (k : List Task) → length (tasks_code (calls u sites k)) ≤ 2 * length sites + length (tasks_code k)
calls_short u [] k = omega arith
calls_short u (site ∷ sites) k =
    let code = task_code (named (callee_at u site) site) in
    let rest = tasks_code (calls u sites k) in
    omega (arith, length-append code rest, named_short (callee_at u site) site, calls_short u sites k)

return_short : (returns : Option ℕ) → length (tasks_code (return_of returns)) ≤ 1 + return_nodes returns
return_short None = omega arith
return_short (Some number) = omega arith

meets_short : (blocking : Bool) (function : ℕ) (k : List Task) → length (tasks_code (meets blocking function k)) ≤ 1 + length (tasks_code k)
meets_short false function k = omega arith
meets_short true function k = omega arith

body_short : (u : UnitParts) (function : ℕ) (info : FunctionInfo) (body : Option Body) → length (maybe_code (body_tasks u function info body)) ≤ body_nodes body
body_short u function info None = omega arith
body_short u function info (Some body) =
    omega (arith, meets_short info.effects.no_block_inference function (calls u body.calls (return_of body.returns)), calls_short u body.calls (return_of body.returns), return_short body.returns)

info_short : (u : UnitParts) (function : ℕ) (info : Option FunctionInfo) → length (maybe_code (info_tasks u function info)) ≤ nodes_in info
info_short u function None = omega arith
info_short u function (Some info) = body_short u function info info.body

-- there are no more instructions than nodes
pub code_short : (u : UnitParts) (n : ℕ) → length (unit_code u n) ≤ nodes_below u n
code_short u zero = omega arith
code_short u (suc n) =
    omega (arith, length-append (unit_code u n) (function_code u n), code_short u n, info_short u n (slice_get u.functions n))
