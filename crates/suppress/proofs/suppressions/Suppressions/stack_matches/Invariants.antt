use Rattle.suppress.proofs.AnyLemmas.{NoneBelow}
use Rattle.suppress.specs.Suppressions.{SuppressesStack}
use Rattle.suppress.proofs.suppressions.Suppressions.stack_matches.Given as goal

abbrev pub invariant-loop-entry : goal.invariant-loop-entry
invariant-loop-entry l = NoneBelow (λ entry. SuppressesStack entry l.names) l.self l.entry-index
