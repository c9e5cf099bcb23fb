-- What a type is made of, as the program makes it and as a definition reads it.
use Rattle.std.proofs.Common.{◌≡◌, refl, sym, ◌∙◌, ap, ℕ, Bool, false}
use denote.Hole.Carrier.{hidden, shown}
use Rattle.eff_types.specs.Types.{is_function, is_pointer, points_to}
use Rattle.eff_types.specs.declared.levels.Effects.{Effects}
use Rattle.eff_types.specs.declared.types.FnType.{FnType}
use Rattle.eff_types.specs.declared.types.CType.{CType, CType-F, Pointer', Array', Function', end_of-CType, more_of-CType, items-the_row-CType, items_shown-the_row-CType-1, roll-out-CType, roll-CType, out-CType}
use Rattle.eff_types.specs.declared.types.CType.TheVariants.{Pointer, Array, Function, outs-Function', rolls-Function, outs-Function, outs-Pointer}
use Rattle.eff_types.specs.declared.types.CType.TheBlock.{hidden-the_row-CType-0, shown-the_row-CType-0, shown-the_row-CType-1, shape-the_row-CType-0}

pub eta-Pointer : (s : _) (t : CType) → Pointer' s (more_of-CType t end_of-CType) ≡ Pointer t
unfolding hidden hidden-the_row-CType-0 shape-the_row-CType-0
eta-Pointer s t = refl

pub eta-Array : (s : _) (t : CType) (n : ℕ) → Array' s (more_of-CType t end_of-CType) n ≡ Array t n
unfolding hidden hidden-the_row-CType-0 shape-the_row-CType-0
eta-Array s t n = refl

pub eta-Function : (s : _) (r : CType) (z : _) (ps : _) (e : Effects) →
    Function' s (more_of-CType r end_of-CType) z ps e ≡ Function (record { result = r; params = items-the_row-CType _ ps; effects = e })
unfolding hidden shown shown-the_row-CType-0
eta-Function s r z ps e = sym (roll-out-CType _) ∙ ap roll-CType (outs-Function' s (more_of-CType r end_of-CType) z ps e)
    ∙ rolls-Function (record { result = r; params = shown-the_row-CType-1 z ps; effects = e })
    ∙ ap (λ l. Function (record { result = r; params = l; effects = e })) (items_shown-the_row-CType-1 z ps)

pub is_function-other : (t : CType) → ((f : FnType) → t ≡ Function f → ⊥) → is_function t ≡ false
is_function-other (Function' s (more_of-CType r end_of-CType) z ps e) other = absurd (other _ (eta-Function s r z ps e))
is_function-other _ other = refl

pub is_pointer-other : (t : CType) → ((u : CType) → t ≡ Pointer u → ⊥) → is_pointer t ≡ false
is_pointer-other (Pointer' s (more_of-CType u end_of-CType)) other = absurd (other u (eta-Pointer s u))
is_pointer-other _ other = refl

pub points_to-other : (test : CType → Bool) (t : CType) → ((u : CType) → t ≡ Pointer u → ⊥) → points_to test t ≡ false
unfolding points_to
points_to-other test (Pointer' s (more_of-CType u end_of-CType)) other = absurd (other u (eta-Pointer s u))
points_to-other test _ other = refl

pub points_to-Pointer : (test : CType → Bool) (t : CType) → points_to test (Pointer t) ≡ test t
unfolding points_to hidden hidden-the_row-CType-0 shape-the_row-CType-0
points_to-Pointer test t = refl

-- What a type is made of is determined by it.
pub Pointer-eq : (t u : CType) → Pointer t ≡ Pointer u → t ≡ u
Pointer-eq t u h = let e : CType-F.Pointer t ≡ CType-F.Pointer u = sym (outs-Pointer t) ∙ ap out-CType h ∙ outs-Pointer u in cc

pub Function-eq : (f g : FnType) → Function f ≡ Function g → f ≡ g
Function-eq f g h = let e : CType-F.Function f ≡ CType-F.Function g = sym (outs-Function f) ∙ ap out-CType h ∙ outs-Function g in cc
