-- The totals of a run: how many reports there were with each stack, in the order of stacks.
use Rattle.std.specs.Prelude.{◌+◌, ◌==◌, Bool, true, false, ◌&&◌, ◌||◌, List, [], ◌∷◌, nat_lt, if◌then◌else◌}
use Rattle.ctx_set.specs.declared.steps.StackStep.{StackStep}
use Rattle.built_reports.specs.declared.stacks.StackCount.{StackCount}

-- steps in order of their functions, and then of their call sites
abbrev pub is_step_before : StackStep → StackStep → Bool
is_step_before a b = nat_lt a.target b.target || (a.target == b.target && nat_lt a.site b.site)

abbrev pub is_same_step : StackStep → StackStep → Bool
is_same_step a b = a.target == b.target && a.site == b.site

-- stacks in order of their first steps that differ; a prefix stands before a longer stack
abbrev pub is_before : List StackStep → List StackStep → Bool
is_before [] [] = false
is_before [] (step ∷ steps) = true
is_before (step ∷ steps) [] = false
is_before (step ∷ steps) (other ∷ others) =
    is_step_before step other || (is_same_step step other && is_before steps others)

-- one report more with this stack
abbrev pub one_more : List StackStep → List StackCount → List StackCount
one_more stack [] = record { stack = stack; count = 1 } ∷ []
one_more stack (c ∷ cs) =
    if is_before stack c.stack then record { stack = stack; count = 1 } ∷ c ∷ cs
    else (if is_before c.stack stack then c ∷ one_more stack cs
    else record { stack = c.stack; count = c.count + 1 } ∷ cs)

-- the stacks of these reports, each once, sorted, with the number of reports that have it
abbrev pub counted : List (List StackStep) → List StackCount
counted [] = []
counted (stack ∷ stacks) = one_more stack (counted stacks)
