use Rattle.eff_types.proofs.EffectLaws.{union-append, joined-comm, joined-assoc, joined-idem}
use Rattle.eff_types.proofs.laws.law_of_unions.Goals as goal

pub returns : goal.returns
returns c = record { grouping = union-append; commutative = joined-comm; associative = joined-assoc; idempotent = joined-idem }
