use Rattle.eff_types.proofs.EffectLaws.{conflict-union, effects_of-more}
use Rattle.eff_types.proofs.laws.law_of_conflicts.Goals as goal

pub returns : goal.returns
returns c = record { forbids_own = conflict-union; one_by_one = effects_of-more }
