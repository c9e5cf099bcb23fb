use Rattle.src_model.proofs.Determined.{is_deterministic}
use Rattle.src_model.proofs.laws.law_one_event.Goals as goal

pub returns : goal.returns
returns c = is_deterministic c.args.unit.now
