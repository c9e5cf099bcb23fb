-- Stacks from their last step on.
use Rattle.std.proofs.Common.{◌≡◌, ℕ, ◌+◌, List, [], ◌∷◌, ◌++◌, reverse, decimal, ap, ◌∙◌}
use Rattle.std.proofs.lemmas.List.{reverse-append}
use Rattle.c_text.specs.Place.{line_column}
use Rattle.built_unit.specs.Units.{UnitParts}
use Rattle.ctx_set.specs.declared.steps.StackStep.{StackStep}
use Rattle.eff_text.specs.WarningText.{function_name}
use Rattle.built_reports.specs.RunText.{callers_text, caller_at, report_text, stack_text, head_lines, place_of}
use Rattle.built_reports.specs.declared.stacks.StackCount.{StackCount}

-- the last step stands first in reverse
last_first : (steps below : List StackStep) (step : StackStep) → steps ≡ below ++ step ∷ [] → reverse steps ≡ step ∷ reverse below
last_first steps below step e = ap reverse e ∙ reverse-append below (step ∷ [])

-- the line of the last caller, and then those of the callers below it
pub callers_of_last : (source : List ℕ) (unit : UnitParts) (index site : ℕ) (steps below : List StackStep) (step : StackStep) → steps ≡ below ++ step ∷ [] → callers_text source unit index site (reverse steps) ≡ caller_at index (function_name unit step.target) (line_column source (place_of unit site)) ++ callers_text source unit (index + 1) step.site (reverse below)
callers_of_last source unit index site steps below step e =
    ap (callers_text source unit index site) (last_first steps below step e)

-- the head of the report with the last step, and then the lines of the callers
pub report_of_last : (source : List ℕ) (unit : UnitParts) (counted : StackCount) (below : List StackStep) (step : StackStep) (name digits : List ℕ) → counted.stack ≡ below ++ step ∷ [] → name ≡ function_name unit step.target → digits ≡ decimal counted.count → report_text source unit counted ≡ head_lines name digits ++ callers_text source unit 1 step.site (reverse below)
report_of_last source unit counted below step name digits e named counts =
    rw (named, counts) (ap (stack_text source unit counted.count) (last_first counted.stack below step e))
