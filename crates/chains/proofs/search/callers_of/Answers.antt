use Rattle.chains.proofs.Callers.{Reverses-none, Reverses-more}
use Rattle.chains.proofs.search.callers_of.Goals as goal

pub rows-init : goal.rows-init
rows-init c = Reverses-none _ _ c.in_ok-callers.ensures

pub rows-preserved : goal.rows-preserved
rows-preserved c =
    Reverses-more _ _ _ _ _ c.rows.invariant c.rows-test.true c.index-rows-function.is (rw c.as_slice.ensures at c.in_ok-add_calls.ensures)
