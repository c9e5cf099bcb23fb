use Rattle.std.proofs.Common.{sym, ap, ◌∙◌}
use Rattle.thread_run.specs.Threads.{next_event}
use Rattle.thread_run.proofs.slices.step.Goals as goal

pub make-requires-clause-next : goal.make-requires-clause-next
make-requires-clause-next g c = c.requires.next ∙ sym (ap next_event c.judge-judged.ensures.same)
