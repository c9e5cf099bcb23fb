use Rattle.mcode.proofs.Unanswered.{ignores_unanswered}
use Rattle.mcode.proofs.laws.law_unanswered.Goals as goal

pub returns : goal.returns
returns c = ignores_unanswered
