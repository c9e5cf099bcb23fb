-- The stacks that are gathered of the first prefixes.
use Rattle.std.specs.Prelude.{◌≡◌, ℕ, ◌<◌, ◌≤◌, List, [], take, slice_index, slice_index_or, count_by, All}
use Rattle.ctx_set.specs.declared.steps.StackStep.{StackStep}
use Rattle.reports.specs.declared.stacks.StackCount.{StackCount}
use Rattle.reports.specs.Stacks.{is_same}
use Rattle.stack_counts.specs.Totals.{times}

-- how often the stack stands among the prefixes
abbrev pub among : List StackStep → List (List StackStep) → ℕ
among stack held = count_by (λ (prefix : List StackStep). is_same prefix stack) held

-- one of the first n prefixes with its count, which is above 0
pub record IsPrefix (held : List (List StackStep)) (counts : List ℕ) (n : ℕ) (entry : StackCount) : Type 0 where
  pub number : ℕ
  pub within : number < n
  pub stack : slice_index_or held number [] ≡ entry.stack
  pub count : slice_index counts number ≡ entry.count
  pub some : 0 < entry.count

-- of the first n prefixes all that were counted
pub record IsGathered (held : List (List StackStep)) (counts : List ℕ) (n : ℕ) (list : List StackCount) : Type 0 where
  pub once : (stack : List StackStep) → times stack list ≤ among stack (take n held)
  pub each : All (IsPrefix held counts n) list
  pub all : (i : ℕ) → i < n → 0 < slice_index counts i → 0 < times (slice_index_or held i []) list
