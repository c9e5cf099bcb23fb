-- The sum of totals is the number of reports that were counted.
use Rattle.std.proofs.Common.{ap, ◌∙◌}
use Rattle.std.proofs.lemmas.List.{take_all}
use Rattle.stack_counts.specs.Totals.{sum_of}
use Rattle.stack_counts.proofs.Sums.{counted_in_all}
use Rattle.stack_counts.proofs.totals.total_count.Goals as goal

pub returns-clause-sum : goal.returns-clause-sum
returns-clause-sum c = c.each.invariant ∙ ap sum_of (take_all _ _ c.each-test.false ∙ c.as_slice-entry-items.ensures)

pub returns-clause-counted : goal.returns-clause-counted
returns-clause-counted c = λ reports totals. returns-clause-sum c ∙ counted_in_all reports c.args.stacks.now totals
