use Rattle.eff_types.proofs.EffectLaws.{added-none, added-trans}
use Rattle.eff_types.proofs.laws.law_of_added_levels.Goals as goal

pub returns : goal.returns
returns c = record { nothing = added-none; transitive = added-trans }
