-- The first part of a declarator.
use Rattle.std.proofs.Common.{◌≡◌, ℕ, List, [], ◌∷◌, length, Some, None, ap, refl, arith}
use Rattle.std.specs.Prelude.{slice_get}
use Rattle.type_rules.specs.declared.declarators.Part.{Part}
use Rattle.type_rules.specs.Declarators.{part_parameters, own_parameters}

pub first_parameters : (ps : List Part) (p : Part) → slice_get ps 0 ≡ Some p → part_parameters p ≡ own_parameters ps
first_parameters [] p e = absurd (cc)
first_parameters (q ∷ qs) p e = let same : p ≡ q = cc in ap part_parameters same

pub no_parameters : (ps : List Part) → length ps ≡ 0 → None ≡ own_parameters ps
no_parameters [] e = refl
no_parameters (p ∷ ps) e = let clash : ⊥ = omega arith in absurd clash

pub ruleset parameters_by_part = (first_parameters, no_parameters)
