use Rattle.std.proofs.Common.{ap}
use Rattle.chains.proofs.Callers.{AddsCalls-other, AddsCalls-step}
use Rattle.chains.proofs.search.add_calls.Goals as goal
use Rattle.chains.proofs.search.add_calls.Goals.{in-StepsTo+in_ok-push, in_default}

pub marks-preserved : goal.marks-preserved
marks-preserved c =
    elim c.match-mark.branch [
      | in-StepsTo+in_ok-push w ↦ AddsCalls-step _ _ _ _ _ _ _ _ _ _ c.marks.invariant c.requires c.marks-test.true w.in-StepsTo.is w.index_mut.ensures.value w.in_ok-push.ensures (ap (λ v. v.items) w.callers-is)
      | in_default w ↦ rw w.callers-is (AddsCalls-other _ _ _ _ _ _ c.marks.invariant c.marks-test.true w.in_default.not-StepsTo)
    ]
