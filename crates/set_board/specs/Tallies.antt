-- The stacks of the paths that a set gives at its end.
use Rattle.std.specs.Prelude.{◌≤◌, ◌==◌, if◌then◌else◌, List, [], ◌∷◌, length}
use Rattle.context_set.specs.declared.count.PathCount.{PathCount}
use Rattle.reports.specs.declared.stacks.StackCount.{StackCount}
use Rattle.stack_counts.specs.Totals.{entry_of}

abbrev pub IsShort : PathCount → Type 0
IsShort entry = length entry.path ≤ 257

-- the stack with its count, where it was counted
abbrev pub stacks_of : PathCount → List StackCount
stacks_of entry = if entry.count == 0 then [] else entry_of entry.path entry.count ∷ []
