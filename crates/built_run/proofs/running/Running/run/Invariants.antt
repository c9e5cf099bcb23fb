use Rattle.built_run.specs.UnderWay.{IsUnderWay, events_left}
use Rattle.built_run.proofs.running.Running.run.Given as goal

abbrev pub invariant-events : goal.invariant-events
invariant-events l = IsUnderWay l.unit l.code l.self

abbrev pub decreases-events : goal.decreases-events
decreases-events l = events_left l.self.thread.mode l.self.events
