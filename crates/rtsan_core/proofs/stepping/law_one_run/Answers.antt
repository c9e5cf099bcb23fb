use Rattle.rtsan_core.proofs.Jobs.{one_run}
use Rattle.rtsan_core.proofs.stepping.law_one_run.Goals as goal

pub returns : goal.returns
returns c = one_run c.args.unit.now
