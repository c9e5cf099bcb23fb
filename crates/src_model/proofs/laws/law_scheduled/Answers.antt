use Rattle.src_model.proofs.Merged.{is_scheduled}
use Rattle.src_model.proofs.laws.law_scheduled.Goals as goal

pub returns : goal.returns
returns c = is_scheduled c.args.unit.now c.parts-parts.ensures.lawful
