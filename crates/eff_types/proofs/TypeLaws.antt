-- Laws of equality up to outer effects, and of conversions.
use Rattle.std.proofs.Common.{◌≡◌, ◌≤◌, Bool, true, false, ◌&&◌, Option, Some, None, Result, Ok, refl, sym, ◌∙◌, ap, subst, arith, true≢false}
use Rattle.std.proofs.lemmas.Bool.{and_parts}
use Rattle.eff_types.specs.declared.levels.Level.{Level}
use Rattle.eff_types.specs.declared.levels.Level.TheVariants.{Plain}
use Rattle.eff_types.specs.declared.types.CType.{CType, Char, Int, Unsigned, Pointer', Function', end_of-CType, more_of-CType}
use Rattle.eff_types.specs.declared.conversions.Conversion.{Conversion}
use Rattle.eff_types.specs.declared.conversions.Conversion.TheVariants as as_a
use Rattle.eff_types.specs.declared.conversions.Mismatch.{Mismatch}
use Rattle.eff_types.specs.Effects.{rank, added}
use Rattle.eff_types.specs.Types.{same, same_outside, without_outer_effects, target_effects, is_number, is_data_pointer, points_to}
use Rattle.eff_types.specs.Conversion.{conversion}
use Rattle.eff_types.specs.Laws.{IsAtMost, Keeps, AddsNothing}
use Rattle.eff_types.proofs.Sameness.{same-refl, same-eq}
use Rattle.eff_types.proofs.EffectLaws.{added-none}
use Rattle.eff_types.proofs.ConversionLines.{lines, conversion-lines}

pub same_outside-refl : (t : CType) → same_outside t t ≡ true
same_outside-refl t = same-refl (without_outer_effects t)

pub same_outside-sym : (t u : CType) → same_outside t u ≡ true → same_outside u t ≡ true
same_outside-sym t u h = ap (same (without_outer_effects u)) (same-eq _ _ h) ∙ same-refl (without_outer_effects u)

pub same_outside-trans : (t u v : CType) → same_outside t u ≡ true → same_outside u v ≡ true → same_outside t v ≡ true
same_outside-trans t u v p q =
    ap (λ x. same x (without_outer_effects v)) (same-eq _ _ p) ∙ q

-- a line that was taken, and what it tested
data Taken (how effects : Conversion) (equal numbers objects : Bool) : Type 0 where
  By_same : how ≡ as_a.Same → equal ≡ true → Taken how effects equal numbers objects
  By_number : numbers ≡ true → Taken how effects equal numbers objects
  By_null : how ≡ as_a.Null → Taken how effects equal numbers objects
  By_effects : how ≡ effects → Taken how effects equal numbers objects
  By_object : objects ≡ true → Taken how effects equal numbers objects

Ok-eq : (a b : Conversion) → ◌≡◌ {A = Result Conversion Mismatch} (Ok a) (Ok b) → b ≡ a
Ok-eq a b h = cc

taken : (equal numbers null functions alike any_function mixed objects alike_objects void explicit : Bool) (effects how : Conversion) →
    lines equal numbers null functions alike any_function mixed objects alike_objects void explicit effects ≡ Ok how →
    Taken how effects equal numbers objects
unfolding lines
taken true numbers null functions alike any mixed objects like void is_cast effects how h = By_same (Ok-eq _ _ h) refl
taken false true null functions alike any mixed objects like void is_cast effects how h = By_number refl
taken false false true functions alike any mixed objects like void is_cast effects how h = By_null (Ok-eq _ _ h)
taken false false false true true any mixed objects like void is_cast effects how h = By_effects (Ok-eq _ _ h)
taken false false false functions alike any mixed true like void is_cast effects how h = By_object refl
taken false false false true false true mixed false like void is_cast effects how h = absurd (let z : ⊥ = cc in z)
taken false false false true false false true false like void is_cast effects how h = absurd (let z : ⊥ = cc in z)
taken false false false true false false false false like void is_cast effects how h = absurd (let z : ⊥ = cc in z)
taken false false false false alike true mixed false like void is_cast effects how h = absurd (let z : ⊥ = cc in z)
taken false false false false alike false true false like void is_cast effects how h = absurd (let z : ⊥ = cc in z)
taken false false false false alike false false false like void is_cast effects how h = absurd (let z : ⊥ = cc in z)

number-plain : (t : CType) → is_number t ≡ true → (target_effects t).level ≡ Plain
unfolding target_effects
number-plain Char h = refl
number-plain Int h = refl
number-plain Unsigned h = refl
number-plain _ h = absurd (true≢false (sym h))

data_pointer-plain : (t : CType) → is_data_pointer t ≡ true → (target_effects t).level ≡ Plain
unfolding target_effects points_to
data_pointer-plain (Pointer' _ (more_of-CType (Function' _ _ _ _ _) end_of-CType)) h = absurd (true≢false (sym h))
data_pointer-plain (Pointer' _ (more_of-CType _ end_of-CType)) h = refl
data_pointer-plain _ h = absurd (true≢false (sym h))

nothing-added : (o : Option Level) → AddsNothing (as_a.Effects o) → o ≡ None
nothing-added None h = refl
nothing-added (Some l) h = absurd h

Plain-keeps : (l : Level) (t : CType) → (target_effects t).level ≡ Plain → Keeps l t
Plain-keeps l t is = subst (λ m. IsAtMost m l) (sym is) (omega arith)

-- A conversion that adds no level keeps 'the value's level is at least the type's'.
pub conversion-keeps : (from to : CType) (null explicit : Bool) (how : Conversion) (l : Level) →
    conversion from to null explicit ≡ Ok how → AddsNothing how → Keeps l from → Keeps l to
conversion-keeps from to null explicit how l converts adds_nothing keeps =
    by (taken _ _ _ _ _ _ _ _ _ _ _ _ how (sym (conversion-lines from to null explicit) ∙ converts))
  where
    by : Taken how (as_a.Effects (added (target_effects from) (target_effects to))) (same from to) (is_number from && is_number to)
        (is_data_pointer from && is_data_pointer to) → Keeps l to
    by (By_same is equal) = subst (Keeps l) (same-eq from to equal) keeps
    by (By_number numbers) = Plain-keeps l to (number-plain to (and_parts _ _ numbers).1)
    by (By_null is) = absurd (subst AddsNothing is adds_nothing)
    by (By_effects is) =
        let none : added (target_effects from) (target_effects to) ≡ None = nothing-added _ (subst AddsNothing is adds_nothing) in
        let lower : rank (target_effects to).level ≤ rank (target_effects from).level = (added-none _ _).0 none in
        omega arith
    by (By_object objects) = Plain-keeps l to (data_pointer-plain to (and_parts _ _ objects).1)
