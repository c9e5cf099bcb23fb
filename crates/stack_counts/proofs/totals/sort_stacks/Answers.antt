use Rattle.stack_counts.proofs.Ordered.{sorted_totals}
use Rattle.stack_counts.proofs.totals.sort_stacks.Goals as goal

pub returns : goal.returns
returns c = λ reports are. sorted_totals reports c.args.stacks.now _ c.sort.ensures.same c.sort.ensures.sorted are
