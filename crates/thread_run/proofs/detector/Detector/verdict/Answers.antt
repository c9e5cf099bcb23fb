use Rattle.thread_run.proofs.Telling.{verdict_here}
use Rattle.thread_run.proofs.detector.Detector.verdict.Goals as goal

pub returns : goal.returns
returns c =
    verdict_here c.args.world.now _ c.args.self.now c.self.inside.stack c.as_slice.result.now c.self.inside.context c.args.target c.verdict.result
    c.world.view_is c.self.view_is c.as_slice.ensures c.verdict.ensures
