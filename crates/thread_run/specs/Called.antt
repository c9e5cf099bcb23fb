-- The functions that a machine is in, as steps of a stack.
use Rattle.std.specs.Prelude.{List, map}
use Rattle.ctx_set.specs.declared.steps.StackStep.{StackStep}
use Rattle.mcode.specs.declared.thread.Caller.{Caller}

abbrev pub step_of : Caller → StackStep
step_of caller = record { target = caller.function; site = caller.site }

-- the latest first
abbrev pub steps_in : List Caller → List StackStep
steps_in callers = map step_of callers
