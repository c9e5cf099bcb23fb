use Rattle.suppress.proofs.AnyLemmas.{NoneBelow}
use Rattle.suppress.specs.Suppressions.{SuppressesFunction}
use Rattle.suppress.proofs.suppressions.Suppressions.function_matches.Given as goal

abbrev pub invariant-loop-entry : goal.invariant-loop-entry
invariant-loop-entry l = NoneBelow (λ entry. SuppressesFunction entry l.name) l.self l.entry-index
