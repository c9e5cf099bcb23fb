-- The test for paths, and what it says of counts.
use Rattle.std.proofs.Common.{◌≡◌, ◌≢◌, Bool, true, false, [], ◌∷◌, refl, true≢false, sym, eq-eqb, eqb-true}
use Rattle.std.proofs.lemmas.Bool.{and_parts, and_from}
use Rattle.ctx_set.specs.declared.steps.StackStep.{StackStep}
use Rattle.context_set.specs.declared.node.Node.{Node}
use Rattle.context_set.specs.Paths.{Path, same_step, same_path}

pub node_is : (a b : Node) → a.number ≡ b.number → a ≡ b
node_is a b e = λ k. record { number = e k }

pub step_is : (a b : StackStep) → a.target ≡ b.target → a.site ≡ b.site → a ≡ b
step_is a b e f = λ k. record { target = e k; site = f k }

pub same_path-itself : (p : Path) → same_path p p ≡ true
same_path-itself [] = refl
same_path-itself (a ∷ p) =
    and_from (same_step a a) (same_path p p) (and_from _ _ (eq-eqb a.target a.target refl) (eq-eqb a.site a.site refl)) (same_path-itself p)

pub same_path_true : (p q : Path) → same_path p q ≡ true → p ≡ q
same_path_true [] [] e = refl
same_path_true [] (b ∷ q) e = absurd (true≢false (sym e))
same_path_true (a ∷ p) [] e = absurd (true≢false (sym e))
same_path_true (a ∷ p) (b ∷ q) e =
    let both = and_parts (same_step a b) (same_path p q) e in
    let heads = and_parts _ _ both.0 in
    let head : a ≡ b = step_is a b (eqb-true a.target b.target heads.0) (eqb-true a.site b.site heads.1) in
    let tail : p ≡ q = same_path_true p q both.1 in
    λ k. head k ∷ tail k

pub same_path_false : (p q : Path) → p ≢ q → same_path p q ≡ false
same_path_false p q other = by_cases (same_path p q) refl where
  by_cases : (b : Bool) → same_path p q ≡ b → b ≡ false
  by_cases true e = absurd (other (same_path_true p q e))
  by_cases false e = refl
