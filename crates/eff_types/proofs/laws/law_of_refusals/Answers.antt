use Rattle.eff_types.proofs.RefusalLaw.{refusal-outside}
use Rattle.eff_types.proofs.laws.law_of_refusals.Goals as goal

pub returns : goal.returns
returns c = refusal-outside
