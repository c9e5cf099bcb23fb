-- The order of stacks is total, and only a stack itself stands neither before a stack nor behind it.
use Rattle.std.proofs.Common.{◌≡◌, Bool, List}
use Rattle.std.specs.Cmp.{IsTotalOrder, both_tied, unsigned_ties, nat_cmp_total, on_total, then_total}
use Rattle.std.specs.Cmp.Lexicographic.{lists_total, lists_ties}
use Rattle.std.specs.Ordering.{eq_by_cmp, nat_cmp}
use Rattle.ctx_set.specs.declared.steps.StackStep.{StackStep}
use Rattle.reports.specs.Stacks.{is_same_step, is_same, step_cmp, stack_cmp}

step_order : IsTotalOrder step_cmp
step_order = then_total (on_total (λ (s : StackStep). s.target) nat_cmp_total) (on_total (λ (s : StackStep). s.site) nat_cmp_total)

pub stack_order : IsTotalOrder stack_cmp
stack_order = lists_total step_order

same_step_by_cmp : (a b : StackStep) → is_same_step a b ≡ eq_by_cmp step_cmp a b
same_step_by_cmp a b = both_tied _ _ (nat_cmp a.target b.target) (nat_cmp a.site b.site) (unsigned_ties a.target b.target) (unsigned_ties a.site b.site)

pub same_by_cmp : (a b : List StackStep) → is_same a b ≡ eq_by_cmp stack_cmp a b
same_by_cmp a b = lists_ties step_cmp same_step_by_cmp a b
