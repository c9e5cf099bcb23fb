-- no name so far is matched
use Rattle.suppress.proofs.AnyLemmas.{NoneBelow}
use Rattle.rt_ctx.specs.Places.{AnySuppresses, name_of}
use Rattle.rt_ctx.proofs.detector.stack_matches.Given as goal

abbrev pub invariant-each : goal.invariant-each
invariant-each l = NoneBelow (λ step. AnySuppresses l.suppressions (name_of l.unit step.target)) l.stack l.step-index
