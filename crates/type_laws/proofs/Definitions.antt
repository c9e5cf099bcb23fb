-- The functions that were defined: each of them has a body, and each body is one of them.
use Rattle.std.proofs.Common.{◌≡◌, ℕ, Bool, true, false, refl, sym, ◌∙◌, ap, subst, List, [], ◌∷◌, ◌++◌, length, slice_get, Some, None, eqb-true, eq-eqb, ne_eqb, inl, inr}
use Rattle.std.proofs.lemmas.Bool.{eqb-false}
use Rattle.std.specs.List.{list_any}
use Rattle.std.specs.Prelude.{◌||◌, ◌⊎◌, nat_eq, slice_set}
use Rattle.core_unit.specs.Units.{IsApart}
use Rattle.core_unit.specs.declared.body.Body.{Body}
use Rattle.core_unit.specs.declared.tables.FunctionInfo.{FunctionInfo}
use Rattle.type_laws.proofs.Each.{Each, each_as, each_more}
use Rattle.type_laws.proofs.Lists.{get_before, get_inside, get_more, get_set, get_other, get_after_set}
use Rattle.type_laws.proofs.Objects.{apart_more}

pub record IsDefined (functions : List FunctionInfo) (number : ℕ) : Type 0 where
  pub info : FunctionInfo
  pub body : Body
  pub known : slice_get functions number ≡ Some info
  pub is : info.body ≡ Some body

pub record AreDefined (functions : List FunctionInfo) (definitions : List ℕ) : Type 0 where
  pub apart : IsApart definitions
  pub bodies : Each (IsDefined functions) definitions
  pub all : (number : ℕ) (f : FunctionInfo) (body : Body) → slice_get functions number ≡ Some f → f.body ≡ Some body → list_any (nat_eq number) definitions ≡ true

-- a function more, without a body
pub defined_more : (functions : List FunctionInfo) (definitions : List ℕ) (new : FunctionInfo) → new.body ≡ None → AreDefined functions definitions
    → AreDefined (functions ++ new ∷ []) definitions
defined_more functions definitions new empty h = record {
  apart = h.apart;
  bodies = each_as (IsDefined functions) (IsDefined (functions ++ new ∷ [])) definitions
      (λ n d. record { info = d.info; body = d.body; known = get_before functions new n d.info d.known; is = d.is }) h.bodies;
  all = λ number f body there is. of number f body is (get_more functions new number f there);
}
  where
    of : (number : ℕ) (f : FunctionInfo) (body : Body) → f.body ≡ Some body → (slice_get functions number ≡ Some f) ⊎ ((number ≡ length functions) × (new ≡ f))
        → list_any (nat_eq number) definitions ≡ true
    of number f body is (inl e) = h.all number f body e is
    of number f body is (inr e) = let clash : None ≡ Some body = sym empty ∙ ap (λ (x : FunctionInfo). x.body) e.1 ∙ is in absurd (cc)

any_before : (x n : ℕ) (ns : List ℕ) → list_any (nat_eq x) ns ≡ true → list_any (nat_eq x) (ns ++ n ∷ []) ≡ true
any_before x n [] e = absurd (cc)
any_before x n (m ∷ ms) e = of (nat_eq x m) (list_any (nat_eq x) ms) (list_any (nat_eq x) (ms ++ n ∷ [])) e (λ rest. any_before x n ms rest)
  where
    of : (test before after : Bool) → test || before ≡ true → (before ≡ true → after ≡ true) → test || after ≡ true
    of true before after e next = refl
    of false before after e next = next e

any_last : (x : ℕ) (ns : List ℕ) → list_any (nat_eq x) (ns ++ x ∷ []) ≡ true
any_last x [] = ap (λ b. b || false) (eq-eqb x x refl)
any_last x (m ∷ ms) = of (nat_eq x m) (list_any (nat_eq x) (ms ++ x ∷ [])) (any_last x ms)
  where
    of : (test after : Bool) → after ≡ true → test || after ≡ true
    of true after e = refl
    of false after e = e

module _ (functions : List FunctionInfo) (definitions : List ℕ) (number : ℕ) (f new : FunctionInfo) (known : slice_get functions number ≡ Some f) where
  moved : (body : Body) → new.body ≡ Some body → (n : ℕ) → IsDefined functions n → IsDefined (slice_set functions number new) n
  moved body is n d = of (nat_eq n number) refl
    where
      of : (test : Bool) → nat_eq n number ≡ test → IsDefined (slice_set functions number new) n
      of true e = record {
        info = new;
        body = body;
        known = ap (slice_get (slice_set functions number new)) (eqb-true n number e) ∙ get_set functions number new (get_inside functions number f known);
        is = is;
      }
      of false e = record { info = d.info; body = d.body; known = get_other functions number new n (eqb-false n number e) ∙ d.known; is = d.is }

  -- its body stays
  pub defined_again : new.body ≡ f.body → AreDefined functions definitions → AreDefined (slice_set functions number new) definitions
  defined_again same h = record {
    apart = h.apart;
    bodies = each_as (IsDefined functions) (IsDefined (slice_set functions number new)) definitions (λ n d. still n d) h.bodies;
    all = λ n g body there is. of n g body is (get_after_set functions number new n g (get_inside functions number f known) there);
  }
    where
      still : (n : ℕ) → IsDefined functions n → IsDefined (slice_set functions number new) n
      still n d = by (nat_eq n number) refl
        where
          by : (test : Bool) → nat_eq n number ≡ test → IsDefined (slice_set functions number new) n
          by true e =
              let at : n ≡ number = eqb-true n number e in
              let one : Some d.info ≡ Some f = sym d.known ∙ ap (slice_get functions) at ∙ known in
              let info_is : d.info ≡ f = cc in
              moved d.body (same ∙ ap (λ (x : FunctionInfo). x.body) (sym info_is) ∙ d.is) n d
          by false e = record { info = d.info; body = d.body; known = get_other functions number new n (eqb-false n number e) ∙ d.known; is = d.is }

      of : (n : ℕ) (g : FunctionInfo) (body : Body) → g.body ≡ Some body → ((n ≡ number) × (new ≡ g)) ⊎ ((n ≡ number → ⊥) × (slice_get functions n ≡ Some g))
          → list_any (nat_eq n) definitions ≡ true
      of n g body is (inl e) = h.all n f body (ap (slice_get functions) e.0 ∙ known) (sym same ∙ ap (λ (x : FunctionInfo). x.body) e.1 ∙ is)
      of n g body is (inr e) = h.all n g body e.1 is

  -- it takes a body
  pub defined_now : (body : Body) → f.body ≡ None → new.body ≡ Some body → AreDefined functions definitions
      → AreDefined (slice_set functions number new) (definitions ++ number ∷ [])
  defined_now body none is h = record {
    apart = apart_more number definitions h.apart (each_as (IsDefined functions) (λ n. nat_eq n number ≡ false) definitions (λ n d. other n d) h.bodies);
    bodies = each_more (IsDefined (slice_set functions number new)) definitions number
        (each_as (IsDefined functions) (IsDefined (slice_set functions number new)) definitions (λ n d. moved body is n d) h.bodies)
        (record { info = new; body = body; known = get_set functions number new (get_inside functions number f known); is = is });
    all = λ n g b there g_is. of n g b g_is (get_after_set functions number new n g (get_inside functions number f known) there);
  }
    where
      other : (n : ℕ) → IsDefined functions n → nat_eq n number ≡ false
      other n d = ne_eqb n number (λ at.
          let one : Some d.info ≡ Some f = sym d.known ∙ ap (slice_get functions) at ∙ known in
          let info_is : d.info ≡ f = cc in
          let clash : None ≡ Some d.body = sym none ∙ ap (λ (x : FunctionInfo). x.body) (sym info_is) ∙ d.is in cc)

      of : (n : ℕ) (g : FunctionInfo) (b : Body) → g.body ≡ Some b → ((n ≡ number) × (new ≡ g)) ⊎ ((n ≡ number → ⊥) × (slice_get functions n ≡ Some g))
          → list_any (nat_eq n) (definitions ++ number ∷ []) ≡ true
      of n g b g_is (inl e) = subst (λ (m : ℕ). list_any (nat_eq m) (definitions ++ number ∷ []) ≡ true) (sym e.0) (any_last number definitions)
      of n g b g_is (inr e) = any_before n number definitions (h.all n g b e.1 g_is)
