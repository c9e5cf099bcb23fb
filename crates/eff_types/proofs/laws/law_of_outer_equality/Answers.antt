use Rattle.eff_types.proofs.TypeLaws.{same_outside-refl, same_outside-sym, same_outside-trans}
use Rattle.eff_types.proofs.laws.law_of_outer_equality.Goals as goal

pub returns : goal.returns
returns c = record { reflexive = same_outside-refl; symmetric = same_outside-sym; transitive = same_outside-trans }
