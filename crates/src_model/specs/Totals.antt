-- The totals of a run.
use Rattle.std.specs.Prelude.{◌≡◌, ℕ, ◌+◌, ◌<◌, ◌≤◌, true, List, [], ◌∷◌, length, map, sum, sum_by, count_by, if◌then◌else◌, All}
use Rattle.std.specs.Cmp.Lexicographic.{slice_cmp}
use Rattle.std.specs.List.{AllAdjacentBelow}
use Rattle.std.specs.Ordering.{nat_cmp, ordering_then}
use Rattle.std.specs.declared.cmp.Ordering.{Ordering}
use Rattle.std.specs.declared.cmp.Ordering.TheVariants.{Less}
use Rattle.ctx_set.specs.Prefixes.{is_same, distinct, has}
use Rattle.ctx_set.specs.declared.steps.StackStep.{StackStep}
use Rattle.src_model.specs.Runs.{Setting, Thread, is_suppressed_place, counted_stacks, all_counted_stacks, count_of_stack}
use Rattle.src_model.specs.declared.runs.Made.{Made}

-- the number of counted report places
abbrev pub total : Setting → List Thread → ℕ
total w threads = length (all_counted_stacks w threads)

-- those of one thread
abbrev pub reports_of : Setting → Thread → ℕ
reports_of w t = length (counted_stacks w t)

-- the number of distinct stacks among theirs
abbrev pub unique : Setting → List Thread → ℕ
unique w threads = length (distinct (all_counted_stacks w threads))

-- the number of suppressed places of a trace, and of all
abbrev pub suppressed_in : Setting → List Made → ℕ
suppressed_in w [] = 0
suppressed_in w (made ∷ before) = if is_suppressed_place w before made.ask then 1 + suppressed_in w before else suppressed_in w before

abbrev pub suppressed : Setting → List Thread → ℕ
suppressed w threads = sum (map (λ t. suppressed_in w t.trace) threads)

-- stacks in order of their first steps that differ, by function and then by call; a prefix stands before a longer stack
abbrev pub step_order : StackStep → StackStep → Ordering
step_order a b = ordering_then (nat_cmp a.target b.target) (nat_cmp a.site b.site)

abbrev pub stack_order : List StackStep → List StackStep → Ordering
stack_order a b = slice_cmp step_order a b

-- a stack, and how many counted report places have it
pub record Counted : Type 0 where
  pub stack : List StackStep
  pub count : ℕ

abbrev pub stacks_in : List Counted → List (List StackStep)
stacks_in list = map (λ (c : Counted). c.stack) list

abbrev pub HasItsCount : Setting → List Thread → Counted → Type 0
HasItsCount w threads c = (c.count ≡ count_of_stack w threads c.stack) × (0 < c.count)

-- The stacks of a run: each that is counted, once, in order, with its count.
pub record AreStacks (w : Setting) (threads : List Thread) (stacks : List Counted) : Type 0 where
  pub counts : All (HasItsCount w threads) stacks
  pub all : (stack : List StackStep) → 0 < count_of_stack w threads stack → has (stacks_in stacks) stack ≡ true
  pub once : (stack : List StackStep) → count_by (is_same stack) (stacks_in stacks) ≤ 1
  pub sorted : AllAdjacentBelow (λ (a b : Counted). stack_order a.stack b.stack ≡ Less) stacks (length stacks)

-- Such a list tells the totals.
pub record TellsTotals (w : Setting) (threads : List Thread) (stacks : List Counted) : Type 0 where
  pub total : sum_by (λ (c : Counted). c.count) stacks ≡ total w threads
  pub unique : length stacks ≡ unique w threads
