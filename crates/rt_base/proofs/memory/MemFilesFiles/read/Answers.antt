use Rattle.std.proofs.Common.{ap, ◌∙◌}
use Rattle.rt_base.specs.InMemory.{after_fault}
use Rattle.rt_base.proofs.Faults.{after_fault-rose, after_fault-later, after_fault-same}
use Rattle.rt_base.proofs.memory.MemFilesFiles.read.Goals as goal

pub returns-in_default-clause-failed : goal.returns-in_default-clause-failed
returns-in_default-clause-failed c =
    let left = c.count_fault.ensures ∙ ap (λ m. after_fault m c.args.name.now) c.count_call-fails.ensures.counted in
    rw left (after_fault-rose c.args.self.now c.args.name.now)

pub returns-in_default-clause-kept : goal.returns-in_default-clause-kept
returns-in_default-clause-kept c =
    let left = c.count_fault.ensures ∙ ap (λ m. after_fault m c.args.name.now) c.count_call-fails.ensures.counted in
    record {
      same = λ q. rw left (after_fault-same c.args.self.now c.args.name.now q);
      later = λ q. rw left (after_fault-later c.args.self.now c.args.name.now q);
    }
