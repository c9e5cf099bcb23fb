-- Stacks of calls: which there are, and their order. Each is this project's own rule.
use Rattle.std.specs.Prelude.{◌<◌, ◌≤◌, ◌^◌, List, length, All}
use Rattle.std.specs.Ordering.{nat_cmp, ordering_then}
use Rattle.std.specs.Cmp.Lexicographic.{slice_cmp}
use Rattle.std.specs.declared.cmp.Ordering.{Ordering}
pub use Rattle.ctx_set.specs.Prefixes.{is_same_step, is_same}
use Rattle.ctx_set.specs.declared.steps.StackStep.{StackStep}

-- a function of the unit or of the library, and the call that led to it
pub record IsStep (step : StackStep) : Type 0 where
  pub function : step.target < 8192
  pub call : step.site < 2 ^ 20

-- what can be reported: a function at least, and no more than 256 functions of the unit and one of the library
pub record IsStack (stack : List StackStep) : Type 0 where
  pub some : 0 < length stack
  pub few : length stack ≤ 257
  pub steps : All IsStep stack

-- steps in order of their functions, and then of their calls
abbrev pub step_cmp : StackStep → StackStep → Ordering
step_cmp a b = ordering_then (nat_cmp a.target b.target) (nat_cmp a.site b.site)

-- stacks in order of their first steps that differ; a prefix stands before a longer stack
abbrev pub stack_cmp : List StackStep → List StackStep → Ordering
stack_cmp a b = slice_cmp step_cmp a b
