-- How alike two types are, from how alike their parts are.
use Rattle.std.proofs.Common.{◌≡◌, ◌==◌, ℕ, Bool, true, false, ◌&&◌, refl, sym, ◌∙◌, ap, List, [], ◌∷◌, true≢false, length, suc, ◌+◌, ◌<◌, ◌≤◌, get_or, drop}
use Rattle.std.proofs.Math.Bool.{and-true}
use Rattle.std.proofs.Math.ListN.{drop_of_length-le}
use Rattle.std.proofs.lemmas.List.{drop_more}
use denote.Hole.Carrier.{hidden}
use Rattle.eff_types.specs.declared.types.FnType.{FnType}
use Rattle.eff_types.specs.declared.types.CType.{CType, Pointer', Array', Function', Row_of-CType, end_of-CType, more_of-CType}
use Rattle.eff_types.specs.declared.types.CType.TheVariants.{Pointer, Array, Function}
use Rattle.eff_types.specs.declared.types.CType.TheBlock.{hidden-the_row-CType-0, shape-the_row-CType-0, hidden-the_row-CType-1, shape-the_row-CType-1}
use Rattle.eff_types.specs.declared.comparison.Likeness.{Likeness}
use Rattle.eff_types.specs.declared.comparison.Likeness.TheVariants.{Different, EffectsDiffer, Equal}
use Rattle.eff_types.specs.Types.{same, same_row, same_effects, same_but_for_effects, without_effects, row_without_effects}
use Rattle.eff_types.specs.Comparison.{grade, likeness_of, less_alike, each_likeness, signature_likeness_of}
use Rattle.eff_types.proofs.Shapes.{eta-Pointer, eta-Array, eta-Function}
use Rattle.eff_types.proofs.Sameness.{same-without_effects, same_row-without_effects}

pub grade-and : (a b c d : Bool) → (a ≡ true → c ≡ true) → (b ≡ true → d ≡ true) →
    grade (a && b) (c && d) ≡ less_alike (grade a c) (grade b d)
grade-and true b true d f g = refl
grade-and true b false d f g = absurd (true≢false (sym (f refl)))
grade-and false b false d f g = refl
grade-and false true true true f g = refl
grade-and false true true false f g = absurd (true≢false (sym (g refl)))
grade-and false false true true f g = refl
grade-and false false true false f g = refl

row_likeness : {n m : _} → Row_of-CType n → Row_of-CType m → Likeness
row_likeness ts us = grade (same_row ts us) (same_row (row_without_effects ts) (row_without_effects us))

row_likeness-list : (ts us : List CType) → row_likeness (hidden-the_row-CType-1 ts) (hidden-the_row-CType-1 us) ≡ each_likeness ts us
unfolding row_likeness same without_effects likeness_of each_likeness hidden hidden-the_row-CType-1 shape-the_row-CType-1
row_likeness-list [] [] = refl
row_likeness-list [] (u ∷ us) = refl
row_likeness-list (t ∷ ts) [] = refl
row_likeness-list (t ∷ ts) (u ∷ us) =
    grade-and (same t u) _ (same_but_for_effects t u) _ (same-without_effects t u) (same_row-without_effects (hidden-the_row-CType-1 ts) (hidden-the_row-CType-1 us))
    ∙ ap (less_alike (likeness_of t u)) (row_likeness-list ts us)

pub likeness-Pointer : (t u : CType) → likeness_of (Pointer t) (Pointer u) ≡ likeness_of t u
unfolding same without_effects likeness_of hidden hidden-the_row-CType-0 shape-the_row-CType-0
likeness-Pointer t u = ap (λ b. grade b (same_but_for_effects t u && true)) (and-true (same t u)) ∙ ap (grade (same t u)) (and-true _)

pub likeness-Array : (t u : CType) (n m : ℕ) → likeness_of (Array t n) (Array u m) ≡ less_alike (grade (n == m) (n == m)) (likeness_of t u)
unfolding same without_effects likeness_of hidden hidden-the_row-CType-0 shape-the_row-CType-0
likeness-Array t u n m =
    ap (λ b. grade ((n == m) && b) ((n == m) && (same_but_for_effects t u && true))) (and-true (same t u))
    ∙ ap (λ b. grade ((n == m) && same t u) ((n == m) && b)) (and-true _)
    ∙ grade-and (n == m) _ (n == m) _ (λ e. e) (same-without_effects t u)

less_alike-assoc : (x y z : Likeness) → less_alike (less_alike x y) z ≡ less_alike x (less_alike y z)
less_alike-assoc Different y z = refl
less_alike-assoc EffectsDiffer Different z = refl
less_alike-assoc EffectsDiffer EffectsDiffer Different = refl
less_alike-assoc EffectsDiffer EffectsDiffer EffectsDiffer = refl
less_alike-assoc EffectsDiffer EffectsDiffer Equal = refl
less_alike-assoc EffectsDiffer Equal z = refl
less_alike-assoc Equal y z = refl

and_implies : (e r s : Bool) → (r ≡ true → s ≡ true) → (e && r) ≡ true → s ≡ true
and_implies true r s f h = f h
and_implies false r s f h = absurd (true≢false (sym h))

grade-three : (e r s p q : Bool) → (r ≡ true → s ≡ true) → (p ≡ true → q ≡ true) →
    grade ((e && (r && true)) && p) ((s && true) && q) ≡ less_alike (grade e true) (less_alike (grade r s) (grade p q))
grade-three e r s p q f g =
    ap (λ b. grade ((e && b) && p) ((s && true) && q)) (and-true r) ∙ ap (λ b. grade ((e && r) && p) (b && q)) (and-true s)
    ∙ grade-and (e && r) p s q (and_implies e r s f) g
    ∙ ap (λ x. less_alike x (grade p q)) (grade-and e r true s (λ _. refl) f)
    ∙ less_alike-assoc (grade e true) (grade r s) (grade p q)

pub likeness-Function : (f g : FnType) →
    likeness_of (Function f) (Function g) ≡ less_alike (grade (same_effects f.effects g.effects) true) (signature_likeness_of f g)
unfolding same without_effects likeness_of signature_likeness_of row_likeness hidden hidden-the_row-CType-0 shape-the_row-CType-0 shape-the_row-CType-1
likeness-Function f g =
    grade-three (same_effects f.effects g.effects) (same f.result g.result) (same_but_for_effects f.result g.result)
    (same_row (hidden-the_row-CType-1 f.params) (hidden-the_row-CType-1 g.params))
    (same_row (row_without_effects (hidden-the_row-CType-1 f.params)) (row_without_effects (hidden-the_row-CType-1 g.params)))
    (same-without_effects f.result g.result)
    (same_row-without_effects (hidden-the_row-CType-1 f.params) (hidden-the_row-CType-1 g.params))
    ∙ ap (λ x. less_alike (grade (same_effects f.effects g.effects) true) (less_alike (likeness_of f.result g.result) x)) (row_likeness-list f.params g.params)

less_alike-Different : (x : Likeness) → less_alike x Different ≡ Different
less_alike-Different Different = refl
less_alike-Different EffectsDiffer = refl
less_alike-Different Equal = refl

pub less_alike-Equal : (x : Likeness) → less_alike x Equal ≡ x
less_alike-Equal Different = refl
less_alike-Equal EffectsDiffer = refl
less_alike-Equal Equal = refl

pub each_likeness-lengths : (ts us : List CType) → (length ts ≡ length us → ⊥) → each_likeness ts us ≡ Different
unfolding each_likeness
each_likeness-lengths [] [] apart = absurd (apart refl)
each_likeness-lengths [] (u ∷ us) apart = refl
each_likeness-lengths (t ∷ ts) [] apart = refl
each_likeness-lengths (t ∷ ts) (u ∷ us) apart =
    ap (less_alike (likeness_of t u)) (each_likeness-lengths ts us (λ e. apart (ap suc e))) ∙ less_alike-Different (likeness_of t u)

-- One pair more was compared: `least` is of those before, and the rest is still to be compared.
pub each_likeness-step : (ts us : List CType) (i : ℕ) (t u : CType) (least : Likeness) →
    i < length ts → i < length us → t ≡ get_or ts i t → u ≡ get_or us i u →
    less_alike least (each_likeness (drop i ts) (drop i us))
    ≡ less_alike (less_alike least (likeness_of t u)) (each_likeness (drop (i + 1) ts) (drop (i + 1) us))
unfolding each_likeness
each_likeness-step ts us i t u least below_ts below_us is_t is_u =
    let left : drop i ts ≡ t ∷ drop (i + 1) ts = drop_more ts i t below_ts ∙ ap (λ x. x ∷ drop (i + 1) ts) (sym is_t) in
    let right : drop i us ≡ u ∷ drop (i + 1) us = drop_more us i u below_us ∙ ap (λ x. x ∷ drop (i + 1) us) (sym is_u) in
    ap (λ xs. less_alike least (each_likeness xs (drop i us))) left
    ∙ ap (λ xs. less_alike least (each_likeness (t ∷ drop (i + 1) ts) xs)) right
    ∙ sym (less_alike-assoc least (likeness_of t u) _)

pub each_likeness-end : (ts us : List CType) (i : ℕ) → length ts ≤ i → length us ≤ i → each_likeness (drop i ts) (drop i us) ≡ Equal
unfolding each_likeness
each_likeness-end ts us i p q =
    ap (λ xs. each_likeness xs (drop i us)) (drop_of_length-le ts p) ∙ ap (each_likeness []) (drop_of_length-le us q)

pub likeness-not_Pointer : (t u : CType) → ((x : CType) → u ≡ Pointer x → ⊥) → likeness_of (Pointer t) u ≡ Different
unfolding same without_effects likeness_of
likeness-not_Pointer t (Pointer' s (more_of-CType u end_of-CType)) other = absurd (other u (eta-Pointer s u))
likeness-not_Pointer t _ other = refl

pub likeness-not_Array : (t : CType) (n : ℕ) (u : CType) → ((x : CType) (m : ℕ) → u ≡ Array x m → ⊥) → likeness_of (Array t n) u ≡ Different
unfolding same without_effects likeness_of
likeness-not_Array t n (Array' s (more_of-CType u end_of-CType) m) other = absurd (other u m (eta-Array s u m))
likeness-not_Array t n _ other = refl

pub likeness-not_Function : (f : FnType) (u : CType) → ((g : FnType) → u ≡ Function g → ⊥) → likeness_of (Function f) u ≡ Different
unfolding same without_effects likeness_of
likeness-not_Function f (Function' s (more_of-CType r end_of-CType) z ps e) other = absurd (other _ (eta-Function s r z ps e))
likeness-not_Function f _ other = refl
