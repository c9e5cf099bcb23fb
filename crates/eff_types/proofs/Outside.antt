-- Types up to their outer effects.
use Rattle.std.proofs.Common.{◌≡◌, Bool, true, false, refl, sym, ◌∙◌, ap, IsTrue, ◌↔◌}
use Rattle.std.proofs.Math.Bool.{and-true}
use denote.Hole.Carrier.{hidden}
use Rattle.eff_types.specs.declared.types.FnType.{FnType}
use Rattle.eff_types.specs.declared.types.CType.{CType, Pointer', Function', end_of-CType, more_of-CType}
use Rattle.eff_types.specs.declared.types.CType.TheVariants.{Pointer, Function}
use Rattle.eff_types.specs.declared.types.CType.TheBlock.{hidden-the_row-CType-0, shape-the_row-CType-0}
use Rattle.eff_types.specs.Effects.{plain}
use Rattle.eff_types.specs.Types.{same, same_outside, same_but_for_effects, without_outer_effects, without_own_effects}
use Rattle.eff_types.specs.Comparison.{is_equal, grade, likeness_of, signature_likeness_of}
use Rattle.eff_types.proofs.Shapes.{eta-Pointer, eta-Function, Function-eq}
use Rattle.eff_types.proofs.Sameness.{same-eq, same-refl}
use Rattle.eff_types.proofs.Likenesses.{likeness-Function}

pub is_equal-grade : (a b : Bool) → is_equal (grade a b) ≡ a
is_equal-grade true b = refl
is_equal-grade false true = refl
is_equal-grade false false = refl

pub is_equal-likeness : (t u : CType) → is_equal (likeness_of t u) ≡ same t u
unfolding likeness_of
is_equal-likeness t u = is_equal-grade (same t u) (same_but_for_effects t u)

pub same-Pointer : (t u : CType) → same (Pointer t) (Pointer u) ≡ same t u
unfolding same hidden hidden-the_row-CType-0 shape-the_row-CType-0
same-Pointer t u = and-true (same t u)

pub same_outside-Pointer : (t u : CType) → same_outside (Pointer t) (Pointer u) ≡ same (without_own_effects t) (without_own_effects u)
unfolding same without_outer_effects hidden hidden-the_row-CType-0 shape-the_row-CType-0
same_outside-Pointer t u = and-true _

-- two function types, by their signatures
pub is_equal-signature : (f g : FnType) →
    is_equal (signature_likeness_of f g) ≡ same (without_own_effects (Function f)) (without_own_effects (Function g))
unfolding likeness_of signature_likeness_of
is_equal-signature f g =
    ap is_equal (sym (likeness-Function (record f { effects = plain }) (record g { effects = plain })))
    ∙ is_equal-likeness (Function (record f { effects = plain })) (Function (record g { effects = plain }))

pub same_outside-Function : (f g : FnType) →
    same_outside (Function f) (Function g) ≡ same (without_own_effects (Function f)) (without_own_effects (Function g))
unfolding without_outer_effects
same_outside-Function f g = refl

-- Two function types are equal up to outer effects exactly where they are equal with plain effects of their own.
pub same_outside-is : (f g : FnType) →
    IsTrue (same_outside (Function f) (Function g)) ↔ (record f { effects = plain } ≡ record g { effects = plain })
unfolding without_outer_effects
same_outside-is f g = (
  λ h. Function-eq _ _ (same-eq _ _ h),
  λ e. ap (λ x. same (Function x) (Function (record g { effects = plain }))) e ∙ same-refl (Function (record g { effects = plain })),
)

pub same-own_effects : (t u : CType) → ((f g : FnType) → t ≡ Function f → u ≡ Function g → ⊥) →
    same (without_own_effects t) (without_own_effects u) ≡ same t u
unfolding same
same-own_effects (Function' s (more_of-CType r end_of-CType) z ps e) (Function' x (more_of-CType q end_of-CType) y qs f) apart =
    absurd (apart _ _ (eta-Function s r z ps e) (eta-Function x q y qs f))
same-own_effects (Function' _ _ _ _ _) _ apart = refl
same-own_effects _ (Function' _ _ _ _ _) apart = refl
same-own_effects _ _ apart = refl

pub same_outside-other : (t u : CType) → ((x y : CType) → t ≡ Pointer x → u ≡ Pointer y → ⊥) →
    same_outside t u ≡ same (without_own_effects t) (without_own_effects u)
unfolding same without_outer_effects
same_outside-other (Pointer' s (more_of-CType t end_of-CType)) (Pointer' z (more_of-CType u end_of-CType)) apart =
    absurd (apart t u (eta-Pointer s t) (eta-Pointer z u))
same_outside-other (Pointer' _ _) _ apart = refl
same_outside-other _ (Pointer' _ _) apart = refl
same_outside-other _ _ apart = refl
