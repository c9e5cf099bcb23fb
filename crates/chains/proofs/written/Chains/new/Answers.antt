use Rattle.std.proofs.Common.{◌≡◌, length, replicate, None, rules}
use Rattle.chains.proofs.Spans.{IsWritten-none}
use Rattle.chains.proofs.written.Chains.new.Goals as goal

pub invariant_of-result : goal.invariant_of-result
invariant_of-result c =
    let spans : c.in_ok-spans.spans.items ≡ replicate (length c.args.rows.items) None = search rules in
    IsWritten-none _ _ _ _ _ c.requires.calls (rw c.as_slice.ensures.value at c.in_ok-distances.ensures.exact) (rw c.as_slice.ensures.value at c.in_ok-distances.ensures.sized) (rw c.as_slice-2.ensures.value at c.in_ok-next.ensures.sized) (rw (c.as_slice-2.ensures.value, c.as_slice-3.ensures.value) at c.in_ok-next.ensures.first) spans
