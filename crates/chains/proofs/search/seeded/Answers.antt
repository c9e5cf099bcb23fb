use Rattle.std.proofs.Common.{refl}
use Rattle.chains.proofs.Turns.{IsSeeding-other, IsSeeding-more, place_of_violation, no_violation}
use Rattle.chains.proofs.search.seeded.Goals as goal
use Rattle.chains.proofs.search.seeded.Goals.{then-has_violation+in_ok-reach, else-has_violation}

pub rows-preserved : goal.rows-preserved
rows-preserved c =
    elim c.if-has_violation.branch [
      | then-has_violation+in_ok-reach w ↦
          (let place = place_of_violation _ _ _ c.rows-test.true c.index-rows-function.is (w.if-has_violation.ensures.0 refl) in
          rw w.search-is (IsSeeding-more _ _ _ _ _ _ _ c.rows.invariant place.1 w.in_ok-reach.ensures.distances w.in_ok-reach.ensures.queue))
      | else-has_violation w ↦
          rw w.search-is (IsSeeding-other _ _ _ _ c.rows.invariant (no_violation _ _ _ c.rows-test.true c.index-rows-function.is (λ there. (let yes = w.if-has_violation.ensures.1 there in cc))))
    ]
