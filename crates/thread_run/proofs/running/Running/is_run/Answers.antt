use Rattle.std.proofs.Common.{subst}
use Rattle.thread_run.specs.Threads.{IsRunSoFar}
use Rattle.thread_run.proofs.running.Running.is_run.Goals as goal

pub returns : goal.returns
returns c =
    let h = c.self.invariant in
    subst IsRunSoFar c.self.view_is (record { number = h.number; source = h.source; going_on = h.going_on; refused = h.refused })
