-- Stacks with their counts, beside the reports that they count. This project's own rule.
use Rattle.std.specs.Prelude.{◌≡◌, ◌<◌, ◌≤◌, ℕ, List, length, count_by, sum_by, All}
use Rattle.std.specs.List.{AllAdjacentBelow}
use Rattle.std.specs.declared.cmp.Ordering.TheVariants.{Less}
use Rattle.ctx_set.specs.declared.steps.StackStep.{StackStep}
use Rattle.reports.specs.declared.stacks.StackCount.{StackCount}
use Rattle.reports.specs.Stacks.{is_same, stack_cmp}
use Rattle.reports.specs.Passes.{Report}
use Rattle.reports.specs.Counts.{is_counted, counted}

abbrev pub entry_of : List StackStep → ℕ → StackCount
entry_of stack count = record { stack = stack; count = count }

-- how often the stack stands in the list
abbrev pub times : List StackStep → List StackCount → ℕ
times stack list = count_by (λ (entry : StackCount). is_same entry.stack stack) list

-- the count is that of the reports which were counted with this stack, and there is one
abbrev pub IsCount : List Report → StackCount → Type 0
IsCount reports entry = (entry.count ≡ counted entry.stack reports) × (0 < entry.count)

-- Each stack that some report was counted with stands in the list, and no stack stands twice; each has its count.
pub record AreCounts (reports : List Report) (list : List StackCount) : Type 0 where
  pub once : (stack : List StackStep) → times stack list ≤ 1
  pub counts : All (IsCount reports) list
  pub all : (stack : List StackStep) → 0 < counted stack reports → 0 < times stack list

-- The same in order.
pub record AreTotals (reports : List Report) (list : List StackCount) : Type 0 where
  pub are : AreCounts reports list
  pub sorted : AllAdjacentBelow (λ (a b : StackCount). stack_cmp a.stack b.stack ≡ Less) list (length list)

-- the sum of the counts, and how many of the reports were counted
abbrev pub sum_of : List StackCount → ℕ
sum_of list = sum_by (λ (entry : StackCount). entry.count) list

abbrev pub all_counted : List Report → ℕ
all_counted reports = count_by (λ (report : Report). is_counted report.answer) reports
