-- Outer effects play no part in whether a conversion is refused, nor in why.
use Rattle.std.proofs.Common.{◌≡◌, Bool, true, false, not, ◌&&◌, refl, sym, ◌∙◌, ap, true≢false}
use Rattle.eff_types.specs.declared.types.CType.{CType, Pointer', Function', end_of-CType, more_of-CType}
use Rattle.eff_types.specs.declared.conversions.Conversion.{Conversion}
use Rattle.eff_types.specs.Types.{same, same_outside, without_effects, without_outer_effects, without_own_effects, is_number, is_function, is_void, is_pointer, is_function_pointer, points_to}
use Rattle.eff_types.specs.Conversion.{conversion}
use Rattle.eff_types.specs.Laws.{refusal}
use Rattle.eff_types.proofs.Sameness.{same-refl, same-eq}
use Rattle.eff_types.proofs.ConversionLines.{lines, conversion-lines}

outside-number : (t : CType) → is_number (without_outer_effects t) ≡ is_number t
unfolding without_outer_effects
outside-number (Pointer' _ _) = refl
outside-number (Function' _ _ _ _ _) = refl
outside-number _ = refl

outside-pointer : (t : CType) → is_pointer (without_outer_effects t) ≡ is_pointer t
unfolding without_outer_effects
outside-pointer (Pointer' _ _) = refl
outside-pointer (Function' _ _ _ _ _) = refl
outside-pointer _ = refl

own-function : (t : CType) → is_function (without_own_effects t) ≡ is_function t
own-function (Function' _ _ _ _ _) = refl
own-function _ = refl

own-void : (t : CType) → is_void (without_own_effects t) ≡ is_void t
own-void (Function' _ _ _ _ _) = refl
own-void _ = refl

outside-points : (test : CType → Bool) → ((t : CType) → test (without_own_effects t) ≡ test t) → (t : CType) →
    points_to test (without_outer_effects t) ≡ points_to test t
unfolding without_outer_effects points_to
outside-points test each (Pointer' _ (more_of-CType t end_of-CType)) = each t
outside-points test each (Function' _ _ _ _ _) = refl
outside-points test each _ = refl

own-own : (t : CType) → without_own_effects (without_own_effects t) ≡ without_own_effects t
own-own (Function' _ _ _ _ _) = refl
own-own _ = refl

outside-outside : (t : CType) → without_outer_effects (without_outer_effects t) ≡ without_outer_effects t
unfolding without_outer_effects
outside-outside (Pointer' s (more_of-CType t end_of-CType)) = ap (λ u. Pointer' s (more_of-CType u end_of-CType)) (own-own t)
outside-outside (Function' _ _ _ _ _) = refl
outside-outside _ = refl

without-own : (t : CType) → without_effects (without_own_effects t) ≡ without_effects t
unfolding without_effects
without-own (Function' _ _ _ _ _) = refl
without-own _ = refl

without-outside : (t : CType) → without_effects (without_outer_effects t) ≡ without_effects t
unfolding without_effects without_outer_effects
without-outside (Pointer' s (more_of-CType t end_of-CType)) = ap (λ u. Pointer' s (more_of-CType u end_of-CType)) (without-own t)
without-outside (Function' _ _ _ _ _) = refl
without-outside _ = refl

same-outside : (t u : CType) → same t u ≡ true → same_outside t u ≡ true
same-outside t u h = ap (λ x. same (without_outer_effects x) (without_outer_effects u)) (same-eq t u h) ∙ same-refl (without_outer_effects u)

-- Only function pointers can be equal up to outer effects and yet not equal, function types aside.
only_functions : (t u : CType) → is_function t ≡ false → is_function u ≡ false → same_outside t u ≡ true → same t u ≡ false →
    (is_function_pointer t && is_function_pointer u) ≡ true
unfolding same without_outer_effects points_to
only_functions (Function' _ _ _ _ _) u p q alike apart = absurd (true≢false p)
only_functions t (Function' _ _ _ _ _) p q alike apart = absurd (true≢false q)
only_functions (Pointer' _ (more_of-CType (Function' _ _ _ _ _) end_of-CType)) (Pointer' _ (more_of-CType (Function' _ _ _ _ _) end_of-CType)) p q alike apart = refl
only_functions (Pointer' _ (more_of-CType (Function' _ _ _ _ _) end_of-CType)) (Pointer' _ (more_of-CType _ end_of-CType)) p q alike apart = absurd (true≢false (sym alike ∙ apart))
only_functions (Pointer' _ (more_of-CType _ end_of-CType)) (Pointer' _ (more_of-CType (Function' _ _ _ _ _) end_of-CType)) p q alike apart = absurd (true≢false (sym alike ∙ apart))
only_functions (Pointer' _ (more_of-CType _ end_of-CType)) (Pointer' _ (more_of-CType _ end_of-CType)) p q alike apart = absurd (true≢false (sym alike ∙ apart))
only_functions (Pointer' _ _) _ p q alike apart = absurd (true≢false (sym alike ∙ apart))
only_functions _ (Pointer' _ _) p q alike apart = absurd (true≢false (sym alike ∙ apart))
only_functions _ _ p q alike apart = absurd (true≢false (sym alike ∙ apart))

refusal-lines : (equal numbers null functions alike any_function mixed objects alike_objects void explicit : Bool) (e f : Conversion) →
    (equal ≡ true → alike ≡ true) → (alike ≡ true → equal ≡ false → functions ≡ true) →
    refusal (lines alike numbers null functions alike any_function mixed objects alike_objects void explicit e)
    ≡ refusal (lines equal numbers null functions alike any_function mixed objects alike_objects void explicit f)
unfolding lines
refusal-lines true n nu fn true any m o ao v x e f up only = refl
refusal-lines true n nu fn false any m o ao v x e f up only = absurd (true≢false (sym (up refl)))
refusal-lines false true nu fn true any m o ao v x e f up only = refl
refusal-lines false false true fn true any m o ao v x e f up only = refl
refusal-lines false false false true true any m o ao v x e f up only = refl
refusal-lines false false false false true any m o ao v x e f up only = absurd (true≢false (sym (only refl refl)))
refusal-lines false true nu fn false any m o ao v x e f up only = refl
refusal-lines false false true fn false any m o ao v x e f up only = refl
refusal-lines false false false true false any m o ao v x e f up only = refl
refusal-lines false false false false false any m o ao v x e f up only = refl

-- Whether and why a conversion between values is refused is the same without the outer effects of both types.
pub refusal-outside : (from to : CType) (null explicit : Bool) → is_function from ≡ false → is_function to ≡ false →
    refusal (conversion (without_outer_effects from) (without_outer_effects to) null explicit) ≡ refusal (conversion from to null explicit)
refusal-outside from to null explicit p q =
    ap refusal (conversion-lines (without_outer_effects from) (without_outer_effects to) null explicit)
    ∙ rw (
      outside-number from,
      outside-number to,
      outside-pointer from,
      outside-pointer to,
      outside-points is_function own-function from,
      outside-points is_function own-function to,
      outside-points (λ t. not (is_function t)) (λ t. ap not (own-function t)) from,
      outside-points (λ t. not (is_function t)) (λ t. ap not (own-function t)) to,
      outside-points is_void own-void from,
      outside-points is_void own-void to,
      outside-outside from,
      outside-outside to,
      without-outside from,
      without-outside to,
    )
    (refusal-lines (same from to) _ (null && is_pointer to) _ (same_outside from to) _ _ _ _ _ explicit _ _ (same-outside from to) (only_functions from to p q))
    ∙ ap refusal (sym (conversion-lines from to null explicit))
