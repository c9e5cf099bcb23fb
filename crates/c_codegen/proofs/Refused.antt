-- What is found of a unit before it is compiled; and that the refusals exclude each other.
use Rattle.std.proofs.Common.{◌≡◌, refl, sym, ap, ◌∙◌, subst, ℕ, zero, suc, ◌+◌, ◌-◌, ◌^◌, ◌<◌, ◌≤◌, ◌⊎◌, inl, inr, min, List, [], ◌∷◌, length, drop, Option, Some, None, Bool, true, false, ◌&&◌, if◌then◌else◌, Result, Ok, Err, arith, slice_get, get_or}
use Rattle.std.specs.List.{Contains}
use Rattle.std.specs.Prelude.{IfOk, IfErr, bytes_eq}
use Rattle.std.proofs.lemmas.Bool.{cases_lt}
use Rattle.std.proofs.lemmas.List.{drop_all}
use Rattle.std.proofs.lemmas.Option.{slice_get_past}
use Rattle.core_unit.specs.Layout.{told}
use Rattle.core_unit.specs.Nodes.{function_nodes}
use Rattle.core_unit.specs.Nodes as count
use Rattle.core_unit.specs.Units.{body_in}
use Rattle.core_unit.specs.declared.body.Body.{Body}
use Rattle.core_unit.specs.declared.tables.FunctionInfo.{FunctionInfo}
use Rattle.core_unit.specs.declared.tables.UnitParts.{UnitParts}
use Rattle.core_unit.proofs.Sums.{IsSumOf}
use Rattle.mcode.specs.Machine.{Program}
use Rattle.mcode.specs.Words.{is_defined}
use Rattle.src_model.specs.Follows.{Behaves, IsCompiled}
use Rattle.src_model.specs.Runs.{function_from}
use Rattle.c_codegen.specs.Names.{used_functions}
use Rattle.c_codegen.specs.Refusals.{HasNoEntry, IsMissingIn, IsFirstIn, IsFirstMissing, lesser, unless_defined, missing, first_missing}
use Rattle.c_codegen.specs.declared.compiling.CompileRefusal.{CompileRefusal}
use Rattle.c_codegen.specs.declared.compiling.CompileRefusal.TheVariants.{NoEntry, Undefined, Long, NoMemory}

-- The first missing function is the least.

contains_first : (x : ℕ) (xs : List ℕ) → Contains (x ∷ xs) x
contains_first x xs = (0, omega arith, refl)

contains_later : (x n : ℕ) (xs : List ℕ) → Contains xs n → Contains (x ∷ xs) n
contains_later x n xs c = (suc c.0, omega (arith, c.1), c.2)

contains_split : (x n : ℕ) (xs : List ℕ) → Contains (x ∷ xs) n → (x ≡ n) ⊎ Contains xs n
contains_split x n xs c = by c.0 c.1 c.2
  where
    by : (k : ℕ) → k < length (x ∷ xs) → get_or (x ∷ xs) k n ≡ n → (x ≡ n) ⊎ Contains xs n
    by zero low is = inl is
    by (suc k) low is = inr (k, omega (arith, low), is)

module _ (u : UnitParts) where
  missing_later : (f n : ℕ) (fs : List ℕ) → IsMissingIn u fs n → IsMissingIn u (f ∷ fs) n
  missing_later f n fs m = (contains_later f n fs m.0, m.1)

  -- one that is missing is the first of the list, or one of the others
  missing_split : (f n : ℕ) (fs : List ℕ) → IsMissingIn u (f ∷ fs) n → (f ≡ n) ⊎ IsMissingIn u fs n
  missing_split f n fs m = by (contains_split f n fs m.0)
    where
      by : (f ≡ n) ⊎ Contains fs n → (f ≡ n) ⊎ IsMissingIn u fs n
      by (inl same) = inl same
      by (inr later) = inr (later, m.1)

  defined_next : (f : ℕ) (body : Body) (fs : List ℕ) (rest : Option ℕ) → body_in u.functions f ≡ Some body → IsFirstIn u fs rest → IsFirstIn u (f ∷ fs) rest
  defined_next f body fs rest is h = by rest h
    where
      others : (n : ℕ) → IsMissingIn u (f ∷ fs) n → IsMissingIn u fs n
      others n m = which (missing_split f n fs m)
        where
          which : (f ≡ n) ⊎ IsMissingIn u fs n → IsMissingIn u fs n
          which (inl same) = let no : Some body ≡ None = sym is ∙ ap (body_in u.functions) same ∙ m.1 in let clash : ⊥ = cc in absurd clash
          which (inr later) = later

      by : (rest : Option ℕ) → IsFirstIn u fs rest → IsFirstIn u (f ∷ fs) rest
      by None h = λ n m. h n (others n m)
      by (Some first) h = (missing_later f first fs h.0, λ n m. h.1 n (others n m))

  missing_next : (f : ℕ) (fs : List ℕ) (rest : Option ℕ) → body_in u.functions f ≡ None → IsFirstIn u fs rest → IsFirstIn u (f ∷ fs) (lesser (Some f) rest)
  unfolding lesser
  missing_next f fs None is h = ((contains_first f fs, is), λ n m. least n (missing_split f n fs m))
    where
      least : (n : ℕ) → (f ≡ n) ⊎ IsMissingIn u fs n → f ≤ n
      least n (inl same) = omega (arith, same)
      least n (inr later) = absurd (h n later)
  missing_next f fs (Some x) is h = (by (cases_lt f x), λ n m. least n (missing_split f n fs m))
    where
      least : (n : ℕ) → (f ≡ n) ⊎ IsMissingIn u fs n → min f x ≤ n
      least n (inl same) = omega (arith, same)
      least n (inr later) = let low = h.1 n later in omega (arith, low)

      by : (f < x) ⊎ (x ≤ f) → IsMissingIn u (f ∷ fs) (min f x)
      by (inl low) = let same : f ≡ min f x = omega (arith, low) in subst (IsMissingIn u (f ∷ fs)) same (contains_first f fs, is)
      by (inr high) = let same : x ≡ min f x = omega (arith, high) in subst (IsMissingIn u (f ∷ fs)) same (missing_later f x fs h.0)

  pub first_is : (functions : List ℕ) → IsFirstIn u functions (first_missing u functions)
  unfolding first_missing missing lesser
  first_is [] = λ n m. absurd (omega (arith, m.0.1))
  first_is (f ∷ fs) = by (body_in u.functions f) refl (first_is fs)
    where
      by : (body : Option Body) → body_in u.functions f ≡ body → IsFirstIn u fs (first_missing u fs) → IsFirstIn u (f ∷ fs) (lesser (unless_defined f body) (first_missing u fs))
      by None is later = missing_next f fs (first_missing u fs) is later
      by (Some body) is later = defined_next f body fs (first_missing u fs) is later

  pub first_found : (found : Option ℕ) → found ≡ first_missing u (used_functions u) → IsFirstMissing u found
  first_found found e = subst (IsFirstMissing u) (sym e) (first_is (used_functions u))

-- a function by the table
pub missing_none : (u : UnitParts) (function : ℕ) (f : FunctionInfo) (body : Body) → slice_get u.functions function ≡ Some f → f.body ≡ Some body → None ≡ missing u function
unfolding missing
missing_none u function f body known is = rw known (rw is refl)

pub missing_some : (u : UnitParts) (function : ℕ) (f : FunctionInfo) → slice_get u.functions function ≡ Some f → f.body ≡ None → Some function ≡ missing u function
unfolding missing
missing_some u function f known is = rw known (rw is refl)

pub missing_past : (u : UnitParts) (function : ℕ) → length u.functions ≤ function → Some function ≡ missing u function
unfolding missing
missing_past u function past = let none : slice_get u.functions function ≡ None = slice_get_past u.functions function past in rw none refl

-- The entry is the first function that is defined and has the name.

dropped : (fs : List FunctionInfo) (n : ℕ) (f : FunctionInfo) → slice_get fs n ≡ Some f → drop n fs ≡ f ∷ drop (n + 1) fs
dropped [] n f known = let clash : ⊥ = cc in absurd clash
dropped (x ∷ fs) zero f known = let same : x ≡ f = cc in ap (λ (y : FunctionInfo). y ∷ fs) same
dropped (x ∷ fs) (suc n) f known = let next : suc n + 1 ≡ suc (n + 1) = omega arith in dropped fs n f known ∙ ap (λ k. f ∷ drop k (x ∷ fs)) (sym next)

-- it is found among the functions from this one on
unfoldable pub IsFrom : UnitParts → List ℕ → ℕ → Type 0
IsFrom u name n = function_from 0 u.functions name ≡ function_from n (drop n u.functions) name

pub from_first : (u : UnitParts) (name : List ℕ) → IsFrom u name 0
unfolding IsFrom
from_first u name = refl

from_here : (u : UnitParts) (name : List ℕ) (n : ℕ) (f : FunctionInfo) (test : Bool) → slice_get u.functions n ≡ Some f → (is_defined f.body && bytes_eq f.name name) ≡ test →
    function_from n (drop n u.functions) name ≡ (if test then Some n else function_from (suc n) (drop (n + 1) u.functions) name)
from_here u name n f test known is =
    ap (λ fs. function_from n fs name) (dropped u.functions n f known) ∙ ap (λ b. if b then Some n else function_from (suc n) (drop (n + 1) u.functions) name) is

pub from_next : (u : UnitParts) (name : List ℕ) (n : ℕ) (f : FunctionInfo) → slice_get u.functions n ≡ Some f → (is_defined f.body && bytes_eq f.name name) ≡ false → IsFrom u name n → IsFrom u name (n + 1)
unfolding IsFrom
from_next u name n f known is h =
    let next : suc n ≡ n + 1 = omega arith in h ∙ from_here u name n f false known is ∙ ap (λ k. function_from k (drop (n + 1) u.functions) name) next

pub from_found : (u : UnitParts) (name : List ℕ) (n : ℕ) (f : FunctionInfo) → slice_get u.functions n ≡ Some f → (is_defined f.body && bytes_eq f.name name) ≡ true → IsFrom u name n →
    Some n ≡ function_from 0 u.functions name
unfolding IsFrom
from_found u name n f known is h = sym (h ∙ from_here u name n f true known is)

pub from_none : (u : UnitParts) (name : List ℕ) (n : ℕ) → length u.functions ≤ n → IsFrom u name n → None ≡ function_from 0 u.functions name
unfolding IsFrom
from_none u name n past h = sym (h ∙ ap (λ fs. function_from n fs name) (drop_all n u.functions past))

pub ruleset entry_rules = (from_first, from_next, from_found, from_none)

-- the nodes of functions, one by one
pub nodes_sum : IsSumOf function_nodes count.unit_nodes
nodes_sum = record { none = refl; more = λ f fs. refl }

pub told_over : (n m limit : ℕ) → m ≡ told n → limit < 2 ^ 32 - 1 → limit < m → limit < n
told_over n m limit e low h = omega (arith, e, low, h)

pub told_under : (n m limit : ℕ) → m ≡ told n → limit < 2 ^ 32 - 1 → m ≤ limit → n ≤ limit
told_under n m limit e low h = omega (arith, e, low, h)

-- The refusals exclude each other.

pub first_unique : (u : UnitParts) (a b : ℕ) → IsFirstMissing u (Some a) → IsFirstMissing u (Some b) → a ≡ b
first_unique u a b x y = omega (arith, x.1 b y.0, y.1 a x.0)

pub none_or_first : (u : UnitParts) (a : ℕ) → IsFirstMissing u (Some a) → IsFirstMissing u None → ⊥
none_or_first u a x none = none a x.0

pub undefined_same : (u : UnitParts) (a n : ℕ) → IsFirstMissing u (Some a) → Undefined a ≡ Undefined n → IsFirstMissing u (Some n)
undefined_same u a n x e = let same : a ≡ n = cc in subst (λ k. IsFirstMissing u (Some k)) same x

pub has_entry : (u : UnitParts) (name : List ℕ) (n : ℕ) → Some n ≡ function_from 0 u.functions name → HasNoEntry u name → ⊥
has_entry u name n e none = let clash : Some n ≡ None = e ∙ none in cc

-- only Long and NoMemory are answered where the entry and all used functions are there
other_refusal : (r : Result Program CompileRefusal) (refusal : CompileRefusal) → IfErr r (λ e. (e ≡ Long) ⊎ (e ≡ NoMemory)) → r ≡ Err refusal → (refusal ≡ Long) ⊎ (refusal ≡ NoMemory)
other_refusal r refusal h e = subst (λ x. IfErr x (λ e. (e ≡ Long) ⊎ (e ≡ NoMemory))) e h

pub no_entry_other : (r : Result Program CompileRefusal) → IfErr r (λ e. (e ≡ Long) ⊎ (e ≡ NoMemory)) → r ≡ Err NoEntry → ⊥
no_entry_other r h e = elim (other_refusal r NoEntry h e) [ inl x ↦ cc | inr x ↦ cc ]

pub undefined_other : (r : Result Program CompileRefusal) (n : ℕ) → IfErr r (λ e. (e ≡ Long) ⊎ (e ≡ NoMemory)) → r ≡ Err (Undefined n) → ⊥
undefined_other r n h e = elim (other_refusal r (Undefined n) h e) [ inl x ↦ cc | inr x ↦ cc ]

-- what is known of the code of a unit, once its entry is known
pub compiled_kept : (u : UnitParts) (name : List ℕ) (n : ℕ) (r : Result Program CompileRefusal) → Some n ≡ function_from 0 u.functions name → IfOk r (λ code. Behaves u code) →
    IfOk r (λ code. code.entry ≡ n) → IfOk r (λ code. IsCompiled u name code)
compiled_kept u name n (Ok code) e behaves entry = record { behaves = behaves; entry = sym e ∙ ap Some (sym entry) }
compiled_kept u name n (Err refusal) e behaves entry = tt
