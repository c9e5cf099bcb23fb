-- The test of two stacks is equality.
use Rattle.std.proofs.Common.{◌≡◌, ℕ, Bool, true, false, List, [], ◌∷◌, ◌++◌, refl, sym, ap, ◌∙◌, arith, eqb}
use Rattle.std.specs.Prelude.{◌==◌, ◌&&◌, ◌||◌}
use Rattle.std.specs.Cmp.Lexicographic.{pointwise}
use Rattle.ctx_set.specs.declared.steps.StackStep.{StackStep}
use Rattle.reports.specs.Stacks.{is_same, is_same_step}

pub step_is : (a b : StackStep) → is_same_step a b ≡ true → a ≡ b
step_is a b e = grind arith

pub step_itself : (a : StackStep) → is_same_step a a ≡ true
step_itself a = grind arith

pub both : (a b : Bool) → (a && b) ≡ true → (a ≡ true) × (b ≡ true)
both true b e = (refl, e)
both false b e = (e, absurd (let clash : ⊥ = cc in clash))

pub same_is : (a b : List StackStep) → is_same a b ≡ true → a ≡ b
same_is [] [] e = refl
same_is [] (y ∷ ys) e = absurd (let clash : ⊥ = cc in clash)
same_is (x ∷ xs) [] e = absurd (let clash : ⊥ = cc in clash)
same_is (x ∷ xs) (y ∷ ys) e =
    let parts = both (is_same_step x y) (is_same xs ys) e in
    let head = step_is x y parts.0 in
    let tail = same_is xs ys parts.1 in
    cc

pub same_itself : (a : List StackStep) → is_same a a ≡ true
same_itself [] = refl
same_itself (x ∷ xs) = rw (step_itself x) (same_itself xs)

-- the test is symmetric
same_back : (a b : List StackStep) (r s : Bool) → is_same a b ≡ r → is_same b a ≡ s → r ≡ s
same_back a b true true e f = refl
same_back a b false false e f = refl
same_back a b true false e f = sym (same_itself b) ∙ rw (same_is a b e) at f
same_back a b false true e f = sym (sym (same_itself a) ∙ rw (same_is b a f) at e)

pub same_sym : (a b : List StackStep) → is_same a b ≡ is_same b a
same_sym a b = same_back a b (is_same a b) (is_same b a) refl refl
