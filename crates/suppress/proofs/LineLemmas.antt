-- The first line of a text, and a line's meaning by the test that it passes.
use Rattle.std.proofs.Common.{◌≡◌, ℕ, ◌<◌, Bool, true, false, cond, eqb, List, [], ◌∷◌, length, map, Option, None, Some, refl, ap, ◌∙◌, arith, Bor, MatchOption, unwrap_or}
use Rattle.std.specs.List.{slice_split}
use Rattle.std.proofs.lemmas.List.Splits.{length-slice_split}
use Rattle.suppress.specs.Lines.{lines_of, without_empty_last, without_return}

-- the first test that passes chooses
pub cond_second : {X : Type 0} (a b : Bool) (x y z : X) → a ≡ false → b ≡ true → cond a x (cond b y z) ≡ y
cond_second a b x y z first second = rw (first, second) refl

pub cond_third : {X : Type 0} (a b c : Bool) (x y z w : X) → a ≡ false → b ≡ false → c ≡ true → cond a x (cond b y (cond c z w)) ≡ z
cond_third a b c x y z w first second third = rw (first, second, third) refl

-- a part with others after it is not the last
without_empty_last-cons : (part : List ℕ) (parts : List (List ℕ)) → 0 < length parts → without_empty_last (part ∷ parts) ≡ part ∷ without_empty_last parts
without_empty_last-cons part [] some = absurd (omega arith)
without_empty_last-cons part (next ∷ parts) some = refl

-- a last part that is not empty is kept
without_empty_last-one : (part : List ℕ) → eqb (length part) 0 ≡ false → without_empty_last (part ∷ []) ≡ part ∷ []
without_empty_last-one part some = rw some refl

-- the first line of a text that is not empty, by its first part and what follows that
pub lines_of-parts : (text first : List ℕ) (more : Option (Bor (List ℕ))) (nothing : Bor (List ℕ)) → eqb (length text) 0 ≡ false → nothing.now ≡ [] → MatchOption more (slice_split (λ byte. eqb byte 10) text ≡ first ∷ []) (λ rest. slice_split (λ byte. eqb byte 10) text ≡ first ∷ slice_split (λ byte. eqb byte 10) rest.now) → MatchOption more (first ≡ text) (λ rest. length rest.now < length text) → lines_of text ≡ without_return first ∷ lines_of (unwrap_or more nothing).now
lines_of-parts text first None nothing some empty parts whole =
    let kept = without_empty_last-one first (rw whole some) in
    ap (λ (ps : List (List ℕ)). map without_return (without_empty_last ps)) parts ∙ ap (map without_return) kept ∙ rw empty refl
lines_of-parts text first (Some rest) nothing some empty parts shorter =
    let others : 0 < length (slice_split (λ byte. eqb byte 10) rest.now) = omega (arith, length-slice_split (λ byte. eqb byte 10) rest.now) in
    ap (λ (ps : List (List ℕ)). map without_return (without_empty_last ps)) parts ∙ ap (map without_return) (without_empty_last-cons first (slice_split (λ byte. eqb byte 10) rest.now) others)
