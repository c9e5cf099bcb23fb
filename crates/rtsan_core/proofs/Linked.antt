-- A unit has one entry or none, and one first function without a definition or none.
use Rattle.std.proofs.Common.{◌≡◌, ℕ, zero, suc, ◌<◌, ◌≤◌, ◌⊎◌, inl, inr, List, [], ◌∷◌, length, Option, Some, None, IsSomeAnd, IfSome, slice_get, refl, subst, arith}
use Rattle.std.proofs.lemmas.Bool.{cases_order}
use Rattle.std.proofs.lemmas.Option.{slice_get_within}
use Rattle.built_unit.specs.declared.units.Body.{Body}
use Rattle.built_unit.specs.declared.units.SiteInfo.{SiteInfo}
use Rattle.built_unit.specs.declared.units.FunctionInfo.{FunctionInfo}
use Rattle.built_unit.specs.Units.{UnitParts}
use Rattle.built_codegen.specs.Unit.{IsDefinedAs, HasNoEntry, IsEntry, IsFirstMissing, unless_body, unless_defined, missing_callee, missing_in}

-- a function isn't both defined with a name and not
clash : (name : List ℕ) (info : Option FunctionInfo) → IsSomeAnd info (IsDefinedAs name) → IfSome info (λ f. IsDefinedAs name f → ⊥) → ⊥
clash name None d n = d
clash name (Some info) d n = n d

there : (name : List ℕ) (functions : List FunctionInfo) (n : ℕ) → IsSomeAnd (slice_get functions n) (IsDefinedAs name) → n < length functions
there name [] n d = absurd d
there name (f ∷ fs) zero d = omega arith
there name (f ∷ fs) (suc n) d = let h = there name fs n d in omega (arith, h)

pub no_entry : (u : UnitParts) (name : List ℕ) (n : ℕ) → HasNoEntry u name → IsEntry u name n → ⊥
no_entry u name n none e =
    clash name (slice_get u.functions n) e.defined (none n (there name u.functions n e.defined))

pub one_entry : (u : UnitParts) (name : List ℕ) (m n : ℕ) → IsEntry u name m → IsEntry u name n → m ≡ n
one_entry u name m n a b = go (cases_order m n)
  where
    go : (m ≡ n) ⊎ ((m < n) ⊎ (n < m)) → m ≡ n
    go (inl e) = e
    go (inr (inl h)) = absurd (clash name (slice_get u.functions m) a.defined (b.least m h))
    go (inr (inr h)) = absurd (clash name (slice_get u.functions n) b.defined (a.least n h))

pub some_or_none_missing : (u : UnitParts) (n : ℕ) → IsFirstMissing u (Some n) → IsFirstMissing u None → ⊥
some_or_none_missing u n some none = none n some.0

pub one_missing : (u : UnitParts) (m n : ℕ) → IsFirstMissing u (Some m) → IsFirstMissing u (Some n) → m ≡ n
one_missing u m n a b =
    let x : m ≤ n = a.1 n b.0 in
    let y : n ≤ m = b.1 m a.0 in
    omega (arith, x, y)

known_body : (functions : List FunctionInfo) (function n : ℕ) (info : Option FunctionInfo) → slice_get functions function ≡ info → unless_defined function info ≡ Some n → n < length functions
known_body functions function n None e m = cc
known_body functions function n (Some info) e m = body info.body m
  where
    body : (b : Option Body) → unless_body function b ≡ Some n → n < length functions
    body None m =
        let same : function ≡ n = cc in
        let within : function < length functions = slice_get_within functions function info e in
        subst (λ k. k < length functions) same within
    body (Some b) m = cc

-- a function that is missed is one of the unit
known : (u : UnitParts) (n : ℕ) (site : Option SiteInfo) → missing_in u site ≡ Some n → n < length u.functions
known u n None m = cc
known u n (Some site) m = callee site.direct m
  where
    callee : (direct : Option ℕ) → missing_callee u direct ≡ Some n → n < length u.functions
    callee None m = cc
    callee (Some function) m = known_body u.functions function n (slice_get u.functions function) refl m

pub missing_is_known : (u : UnitParts) (n : ℕ) → IsFirstMissing u (Some n) → n < length u.functions
missing_is_known u n first = known u n (slice_get u.sites first.0.0) first.0.2
