use Rattle.src_model.proofs.Stacks.{tells_totals}
use Rattle.src_model.proofs.laws.law_totals.Goals as goal

pub returns : goal.returns
returns c = tells_totals
