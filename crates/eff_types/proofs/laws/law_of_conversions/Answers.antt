use Rattle.eff_types.proofs.TypeLaws.{conversion-keeps}
use Rattle.eff_types.proofs.laws.law_of_conversions.Goals as goal

pub returns : goal.returns
returns c = conversion-keeps
