-- A declaration says what its name means, and changes no other meaning.
use Rattle.std.proofs.Common.{◌≡◌, ℕ, Bool, true, false, cond, refl, sym, ◌∙◌, ap, List, [], ◌∷◌, Option, Some, eqb-true, eq-eqb, inl, inr}
use Rattle.std.proofs.lemmas.Bool.{eqb-false}
use Rattle.std.specs.Map.{lookup}
use Rattle.std.specs.Prelude.{nat_eq, if◌then◌else◌, ◌⊎◌}
use Rattle.scopes.specs.Scope.{Scope, found, found_here, unless_found, declare}
use Rattle.type_laws.proofs.Each.{Each}

module _ {V : Type 0} where
  -- the innermost scope
  abbrev pub innermost : List (Scope V) → Scope V
  innermost [] = []
  innermost (scope ∷ outer) = scope

  overwritten : (a b : Bool) (x y z : Option V) → a ≡ b → cond a x z ≡ cond b x (cond a y z)
  overwritten true true x y z e = refl
  overwritten true false x y z e = absurd (cc)
  overwritten false true x y z e = absurd (cc)
  overwritten false false x y z e = refl

  swapped : (a b : Bool) (x y z : Option V) → (a ≡ true → b ≡ true → ⊥) → cond a y (cond b x z) ≡ cond b x (cond a y z)
  swapped true true x y z apart = absurd (apart refl refl)
  swapped true false x y z apart = refl
  swapped false true x y z apart = refl
  swapped false false x y z apart = refl

  inserted : (scope : Scope V) (n : ℕ) (v : V) (m : ℕ)
      → lookup (nat_eq m) (innermost (declare (scope ∷ []) n v)) ≡ cond (nat_eq m n) (Some v) (lookup (nat_eq m) scope)
  inserted [] n v m = refl
  inserted (e ∷ es) n v m = of (nat_eq n e.0) refl (inserted es n v m)
    where
      of : (test : Bool) → nat_eq n e.0 ≡ test → lookup (nat_eq m) (innermost (declare (es ∷ []) n v)) ≡ cond (nat_eq m n) (Some v) (lookup (nat_eq m) es)
          → lookup (nat_eq m) (if test then (e.0, v) ∷ es else e ∷ innermost (declare (es ∷ []) n v))
          ≡ cond (nat_eq m n) (Some v) (cond (nat_eq m e.0) (Some e.1) (lookup (nat_eq m) es))
      of true t rest =
          overwritten (nat_eq m e.0) (nat_eq m n) (Some v) (Some e.1) (lookup (nat_eq m) es) (ap (nat_eq m) (sym (eqb-true n e.0 t)))
      of false t rest =
          ap (λ o. cond (nat_eq m e.0) (Some e.1) o) rest
          ∙ swapped (nat_eq m e.0) (nat_eq m n) (Some v) (Some e.1) (lookup (nat_eq m) es) (λ p q. eqb-false n e.0 t (sym (eqb-true m n q) ∙ eqb-true m e.0 p))

  sooner : (test : Bool) (v : V) (here outer : Option V) → unless_found (cond test (Some v) here) outer ≡ cond test (Some v) (unless_found here outer)
  sooner true v here outer = refl
  sooner false v here outer = refl

  pub found_after : (scope : Scope V) (outer : List (Scope V)) (n : ℕ) (v : V) (m : ℕ)
      → found (declare (scope ∷ outer) n v) m ≡ cond (nat_eq m n) (Some v) (found (scope ∷ outer) m)
  found_after scope outer n v m =
      ap (λ o. unless_found o (found outer m)) (inserted scope n v m) ∙ sooner (nat_eq m n) v (lookup (nat_eq m) scope) (found outer m)

  -- What is found afterwards is what was declared, or was found before.
  pub found_before : (scopes : List (Scope V)) (n : ℕ) (v : V) (m : ℕ) (x : V) → found (declare scopes n v) m ≡ Some x
      → ((m ≡ n) × (v ≡ x)) ⊎ ((nat_eq m n ≡ false) × (found scopes m ≡ Some x))
  found_before [] n v m x e = absurd (cc)
  found_before (scope ∷ outer) n v m x e = of (nat_eq m n) refl (sym (found_after scope outer n v m) ∙ e)
    where
      of : (test : Bool) → nat_eq m n ≡ test → cond test (Some v) (found (scope ∷ outer) m) ≡ Some x
          → ((m ≡ n) × (v ≡ x)) ⊎ ((nat_eq m n ≡ false) × (found (scope ∷ outer) m ≡ Some x))
      of true t is = let same : v ≡ x = cc in inl (eqb-true m n t, same)
      of false t is = inr (t, is)

  -- what is true of each meaning in scope
  each_inserted : (P : V → Type 0) (scope : Scope V) (n : ℕ) (v : V) → Each (λ entry. P entry.1) scope → P v
      → Each (λ entry. P entry.1) (innermost (declare (scope ∷ []) n v))
  each_inserted P [] n v each p = (p, tt)
  each_inserted P (e ∷ es) n v each p = of (nat_eq n e.0) (each_inserted P es n v each.1 p)
    where
      of : (test : Bool) → Each (λ entry. P entry.1) (innermost (declare (es ∷ []) n v))
          → Each (λ entry. P entry.1) (if test then (e.0, v) ∷ es else e ∷ innermost (declare (es ∷ []) n v))
      of true rest = (p, each.1)
      of false rest = (each.0, rest)

  pub each_declared : (P : V → Type 0) (scopes : List (Scope V)) (n : ℕ) (v : V) → Each (Each (λ entry. P entry.1)) scopes → P v
      → Each (Each (λ entry. P entry.1)) (declare scopes n v)
  each_declared P [] n v each p = tt
  each_declared P (scope ∷ outer) n v each p = (each_inserted P scope n v each.0 p, each.1)

  pub here_other : (scopes : List (Scope V)) (n : ℕ) (v : V) (m : ℕ) → nat_eq m n ≡ false → found_here (declare scopes n v) m ≡ found_here scopes m
  here_other [] n v m e = refl
  here_other (scope ∷ outer) n v m e = inserted scope n v m ∙ ap (λ b. cond b (Some v) (lookup (nat_eq m) scope)) e

  pub here_same : (scope : Scope V) (outer : List (Scope V)) (n : ℕ) (v : V) → found_here (declare (scope ∷ outer) n v) n ≡ Some v
  here_same scope outer n v = inserted scope n v n ∙ ap (λ b. cond b (Some v) (lookup (nat_eq n) scope)) (eq-eqb n n refl)

  pub here_before : (scopes : List (Scope V)) (n : ℕ) (v : V) (m : ℕ) (x : V) → found_here (declare scopes n v) m ≡ Some x
      → ((m ≡ n) × (v ≡ x)) ⊎ ((nat_eq m n ≡ false) × (found_here scopes m ≡ Some x))
  here_before [] n v m x e = absurd (cc)
  here_before (scope ∷ outer) n v m x e = of (nat_eq m n) refl (sym (inserted scope n v m) ∙ e)
    where
      of : (test : Bool) → nat_eq m n ≡ test → cond test (Some v) (lookup (nat_eq m) scope) ≡ Some x
          → ((m ≡ n) × (v ≡ x)) ⊎ ((nat_eq m n ≡ false) × (lookup (nat_eq m) scope ≡ Some x))
      of true t is = let same : v ≡ x = cc in inl (eqb-true m n t, same)
      of false t is = inr (t, is)
