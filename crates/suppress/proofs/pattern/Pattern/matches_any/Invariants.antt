use Rattle.suppress.proofs.AnyLemmas.{NoneBelow}
use Rattle.suppress.specs.Pattern.{Matches}
use Rattle.suppress.proofs.pattern.Pattern.matches_any.Given as goal

abbrev pub invariant-loop-name : goal.invariant-loop-name
invariant-loop-name l = NoneBelow (λ name. Matches l.self name.now) l.names l.name-index
