-- How alike two types are.
use Rattle.std.specs.Prelude.{Bool, true, false, List, [], ◌∷◌}
use Rattle.eff_types.specs.Types.{same, same_but_for_effects}
use Rattle.eff_types.specs.declared.types.FnType.{FnType}
use Rattle.eff_types.specs.declared.types.CType.{CType}
use Rattle.eff_types.specs.declared.comparison.Likeness.{Likeness}
use Rattle.eff_types.specs.declared.comparison.Likeness.TheVariants.{Different, EffectsDiffer, Equal}

-- from whether they are the same, and whether they are the same but for effects
abbrev pub grade : Bool → Bool → Likeness
grade true _ = Equal
grade false true = EffectsDiffer
grade false false = Different

abbrev pub is_equal : Likeness → Bool
is_equal Equal = true
is_equal _ = false

abbrev pub differs_in_effects : Likeness → Bool
differs_in_effects EffectsDiffer = true
differs_in_effects _ = false

unfoldable pub likeness_of : CType → CType → Likeness
likeness_of a b = grade (same a b) (same_but_for_effects a b)

abbrev pub less_alike : Likeness → Likeness → Likeness
less_alike Different _ = Different
less_alike EffectsDiffer Different = Different
less_alike EffectsDiffer _ = EffectsDiffer
less_alike Equal l = l

-- lists of types, by the pair that is least alike; lists of two lengths are different
unfoldable pub each_likeness : List CType → List CType → Likeness
each_likeness [] [] = Equal
each_likeness (t ∷ ts) (u ∷ us) = less_alike (likeness_of t u) (each_likeness ts us)
each_likeness _ _ = Different

-- function types, their outer effects aside
unfoldable pub signature_likeness_of : FnType → FnType → Likeness
signature_likeness_of f g = less_alike (likeness_of f.result g.result) (each_likeness f.params g.params)
