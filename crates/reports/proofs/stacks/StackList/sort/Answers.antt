-- The order that the sort asks is that of the stacks.
use Rattle.std.proofs.Common.{rules}
use Rattle.std.specs.Ordering.{is_lt}
use Rattle.std.proofs.lemmas.Fn.{always_returns_same}
use Rattle.std.proofs.lemmas.List.Sorted.{ranks_by}
use Rattle.reports.specs.Stacks.{stack_cmp}
use Rattle.reports.specs.declared.stacks.StackCount.{StackCount}
use Rattle.reports.proofs.Orders.{stack_order}
use Rattle.reports.proofs.stacks.StackList.sort.Goals as goal

pub returns-clause-sorted : goal.returns-clause-sorted
returns-clause-sorted c =
    c.sort_unstable_by.ensures.sorted (λ (a b : StackCount). is_lt (stack_cmp a.stack b.stack))
    (ranks_by stack_order (λ (entry : StackCount). entry.stack))
    (always_returns_same _ _ _ (λ a r f k. search rules))
