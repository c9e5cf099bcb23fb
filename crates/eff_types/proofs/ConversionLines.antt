-- The conversion of two pointers from what they point to, and of two types that aren't both pointers.
use Rattle.std.proofs.Common.{◌≡◌, Bool, true, false, not, ◌&&◌, ◌||◌, if◌then◌else◌, Result, Ok, Err, refl, sym, ◌∙◌, ap, true≢false}
use Rattle.std.proofs.Math.Bool.{and-true, and-false}
use denote.Hole.Carrier.{hidden}
use Rattle.eff_types.specs.declared.types.FnType.{FnType}
use Rattle.eff_types.specs.declared.types.CType.{CType, Pointer', end_of-CType, more_of-CType}
use Rattle.eff_types.specs.declared.types.CType.TheVariants.{Pointer, Function}
use Rattle.eff_types.specs.declared.types.CType.TheBlock.{hidden-the_row-CType-0, shape-the_row-CType-0}
use Rattle.eff_types.specs.declared.comparison.Likeness.{Likeness}
use Rattle.eff_types.specs.declared.comparison.Likeness.TheVariants.{Different, EffectsDiffer, Equal}
use Rattle.eff_types.specs.declared.conversions.Conversion.{Conversion}
use Rattle.eff_types.specs.declared.conversions.Conversion.TheVariants as as_a
use Rattle.eff_types.specs.declared.conversions.Mismatch.{Mismatch}
use Rattle.eff_types.specs.declared.conversions.Mismatch.TheVariants as refused
use Rattle.eff_types.specs.Effects.{added}
use Rattle.eff_types.specs.Types.{same, same_effects, same_but_for_effects, without_effects, without_own_effects, own_effects, target_effects, is_number, is_void, is_function, is_pointer, points_to, is_function_pointer, is_data_pointer, is_void_pointer, same_outside}
use Rattle.eff_types.specs.Comparison.{grade, is_equal, differs_in_effects, likeness_of, less_alike, signature_likeness_of}
use Rattle.eff_types.specs.Conversion.{conversion}
use Rattle.eff_types.proofs.Likenesses.{likeness-Function}
use Rattle.eff_types.proofs.Outside.{same-Pointer, same_outside-Pointer, is_equal-likeness, is_equal-signature, same_outside-Function}

abbrev pub Answer : Type 0
Answer = Result Conversion Mismatch

target_effects-Pointer : (t : CType) → target_effects (Pointer t) ≡ own_effects t
unfolding target_effects hidden hidden-the_row-CType-0 shape-the_row-CType-0
target_effects-Pointer t = refl

same_but_for_effects-Pointer : (t u : CType) → same_but_for_effects (Pointer t) (Pointer u) ≡ same_but_for_effects t u
unfolding same without_effects hidden hidden-the_row-CType-0 shape-the_row-CType-0
same_but_for_effects-Pointer t u = and-true _

not_both-points : (p q : CType → Bool) (from to : CType) → (is_pointer from && is_pointer to) ≡ false →
    (points_to p from && points_to q to) ≡ false
unfolding points_to
not_both-points p q (Pointer' _ _) (Pointer' _ _) apart = absurd (true≢false apart)
not_both-points p q (Pointer' _ (more_of-CType t end_of-CType)) _ apart = and-false (p t)
not_both-points p q _ _ apart = refl

-- the lines, over their tests
unfoldable pub lines : (equal numbers null functions alike any_function mixed objects alike_objects void explicit : Bool) → Conversion → Answer
lines equal numbers null functions alike any_function mixed objects alike_objects void explicit effects =
    if equal then Ok as_a.Same
    else if numbers then Ok as_a.Number
    else if null then Ok as_a.Null
    else if functions && alike then Ok effects
    else if any_function then Err refused.LeftOut
    else if mixed then Err refused.LeftOut
    else if objects && alike_objects then Err refused.LeftOut
    else if objects && void then Ok as_a.Pointer
    else if objects && explicit then Ok as_a.Pointer
    else Err refused.Mismatch

pub conversion-lines : (from to : CType) (null explicit : Bool) → conversion from to null explicit ≡
    lines (same from to) (is_number from && is_number to) (null && is_pointer to) (is_function_pointer from && is_function_pointer to)
    (same_outside from to) (is_function_pointer from || is_function_pointer to)
    ((is_pointer from && is_number to) || (is_number from && is_pointer to)) (is_data_pointer from && is_data_pointer to)
    (same_but_for_effects from to) (is_void_pointer from || is_void_pointer to) explicit
    (as_a.Effects (added (target_effects from) (target_effects to)))
unfolding conversion lines
conversion-lines from to null explicit = refl

pub pointer_lines : CType → CType → Bool → Bool → Answer
pointer_lines t u null explicit =
    lines (same t u) false null (is_function t && is_function u) (same (without_own_effects t) (without_own_effects u))
    (is_function t || is_function u) false (not (is_function t) && not (is_function u)) (same_but_for_effects t u) (is_void t || is_void u)
    explicit (as_a.Effects (added (own_effects t) (own_effects u)))

pub conversion-Pointer : (t u : CType) (null explicit : Bool) → conversion (Pointer t) (Pointer u) null explicit ≡ pointer_lines t u null explicit
unfolding pointer_lines points_to target_effects hidden hidden-the_row-CType-0 shape-the_row-CType-0
conversion-Pointer t u null explicit =
    conversion-lines (Pointer t) (Pointer u) null explicit
    ∙ rw (same-Pointer t u, same_outside-Pointer t u, same_but_for_effects-Pointer t u, and-true null) refl

pub conversion-other : (from to : CType) (null explicit : Bool) → (is_pointer from && is_pointer to) ≡ false →
    conversion from to null explicit ≡
    (if same from to then Ok as_a.Same
    else if is_number from && is_number to then Ok as_a.Number
    else if null && is_pointer to then Ok as_a.Null
    else if is_function_pointer from || is_function_pointer to then Err refused.LeftOut
    else if (is_pointer from && is_number to) || (is_number from && is_pointer to) then Err refused.LeftOut
    else Err refused.Mismatch)
unfolding lines
conversion-other from to null explicit apart =
    conversion-lines from to null explicit
    ∙ rw (not_both-points is_function is_function from to apart, not_both-points (λ t. not (is_function t)) (λ t. not (is_function t)) from to apart) refl

is_equal-less : (effects : Bool) (l : Likeness) → is_equal (less_alike (grade effects true) l) ≡ (effects && is_equal l)
is_equal-less true l = refl
is_equal-less false Different = refl
is_equal-less false EffectsDiffer = refl
is_equal-less false Equal = refl

same-Function : (f g : FnType) →
    same (Function f) (Function g) ≡ (same_effects f.effects g.effects && is_equal (signature_likeness_of f g))
same-Function f g = sym (is_equal-likeness (Function f) (Function g)) ∙ ap is_equal (likeness-Function f g) ∙ is_equal-less _ _

function_answer : (alike effects null : Bool) → Conversion → Answer
function_answer alike effects null added_level =
    if alike && effects then Ok as_a.Same
    else if null then Ok as_a.Null
    else if alike then Ok added_level
    else Err refused.LeftOut

function_lines : (alike effects null x y explicit : Bool) (added_level : Conversion) →
    lines (effects && alike) false null true alike true false false x y explicit added_level ≡ function_answer alike effects null added_level
unfolding lines function_answer
function_lines true true null x y explicit l = refl
function_lines true false true x y explicit l = refl
function_lines true false false x y explicit l = refl
function_lines false true true x y explicit l = refl
function_lines false true false x y explicit l = refl
function_lines false false true x y explicit l = refl
function_lines false false false x y explicit l = refl

functions-by_signature : (f g : FnType) (null explicit : Bool) → conversion (Pointer (Function f)) (Pointer (Function g)) null explicit
    ≡ function_answer (is_equal (signature_likeness_of f g)) (same_effects f.effects g.effects) null (as_a.Effects (added f.effects g.effects))
unfolding pointer_lines
functions-by_signature f g null explicit =
    conversion-Pointer (Function f) (Function g) null explicit
    ∙ rw (same-Function f g, ← is_equal-signature f g)
    (function_lines (is_equal (signature_likeness_of f g)) (same_effects f.effects g.effects) null _ _ explicit _)

pub conversion-functions : (f g : FnType) (null explicit : Bool) → conversion (Pointer (Function f)) (Pointer (Function g)) null explicit ≡
    (if same_outside (Function f) (Function g) && same_effects f.effects g.effects then Ok as_a.Same
    else if null then Ok as_a.Null
    else if same_outside (Function f) (Function g) then Ok (as_a.Effects (added f.effects g.effects))
    else Err refused.LeftOut)
unfolding function_answer
conversion-functions f g null explicit =
    functions-by_signature f g null explicit
    ∙ ap (λ alike. function_answer alike (same_effects f.effects g.effects) null (as_a.Effects (added f.effects g.effects)))
    (is_equal-signature f g ∙ sym (same_outside-Function f g))

object_lines : (equal null f g x alike void is_cast : Bool) (l : Conversion) → (f && g) ≡ false →
    lines equal false null (f && g) x (f || g) false (not f && not g) alike void is_cast l ≡
    (if is_equal (grade equal alike) then Ok as_a.Same
    else if null then Ok as_a.Null
    else if (f || g) || differs_in_effects (grade equal alike) then Err refused.LeftOut
    else if void || is_cast then Ok as_a.Pointer
    else Err refused.Mismatch)
unfolding lines
object_lines equal null true true x alike void is_cast l apart = absurd (true≢false apart)
object_lines true null true false x alike void is_cast l apart = refl
object_lines true null false true x alike void is_cast l apart = refl
object_lines true null false false x alike void is_cast l apart = refl
object_lines false true true false x true void is_cast l apart = refl
object_lines false true true false x false void is_cast l apart = refl
object_lines false true false true x true void is_cast l apart = refl
object_lines false true false true x false void is_cast l apart = refl
object_lines false true false false x true void is_cast l apart = refl
object_lines false true false false x false void is_cast l apart = refl
object_lines false false true false x true void is_cast l apart = refl
object_lines false false true false x false void is_cast l apart = refl
object_lines false false false true x true void is_cast l apart = refl
object_lines false false false true x false void is_cast l apart = refl
object_lines false false false false x true void is_cast l apart = refl
object_lines false false false false x false true is_cast l apart = refl
object_lines false false false false x false false true l apart = refl
object_lines false false false false x false false false l apart = refl

-- not both point to functions
pub conversion-objects : (t u : CType) (null explicit : Bool) → (is_function t && is_function u) ≡ false →
    conversion (Pointer t) (Pointer u) null explicit ≡
    (if is_equal (likeness_of t u) then Ok as_a.Same
    else if null then Ok as_a.Null
    else if (is_function t || is_function u) || differs_in_effects (likeness_of t u) then Err refused.LeftOut
    else if (is_void t || is_void u) || explicit then Ok as_a.Pointer
    else Err refused.Mismatch)
unfolding pointer_lines likeness_of
conversion-objects t u null explicit apart =
    conversion-Pointer t u null explicit
    ∙ object_lines (same t u) null (is_function t) (is_function u) _ (same_but_for_effects t u) (is_void t || is_void u) explicit _ apart

-- the conversions of each kind, for the functions that make them
pub ruleset conversion_steps = (conversion-other, conversion-functions, conversion-objects)
