-- The prefixes of the stacks that a board was asked to count, and which stacks it has room for (this project's own rule).
use Rattle.std.specs.Prelude.{Bool, List, flat_map}
use Rattle.ctx_set.specs.Prefixes.{has_room_behind}
pub use Rattle.ctx_set.specs.Prefixes.{prefixes, distinct, has, room}
use Rattle.ctx_set.specs.declared.steps.StackStep.{StackStep}
use Rattle.reports.specs.Passes.{Report}

-- the prefixes of the stacks that were asked, in order of asking
abbrev pub asked : List Report → List (List StackStep)
asked reports = flat_map (λ report. prefixes report.stack) reports

-- A board has room for a stack behind those that were asked before.
abbrev pub has_room : List Report → List StackStep → Bool
has_room before stack = has_room_behind (asked before) stack
