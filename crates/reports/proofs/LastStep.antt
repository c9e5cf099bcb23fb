-- Stacks from their last step on.
use Rattle.std.proofs.Common.{◌≡◌, ℕ, ◌+◌, List, [], ◌∷◌, ◌++◌, reverse, decimal, ap, ◌∙◌}
use Rattle.std.proofs.lemmas.List.{reverse-append}
use Rattle.c_text.specs.Place.{line_column}
use Rattle.core_unit.specs.declared.tables.UnitParts.{UnitParts}
use Rattle.ctx_set.specs.declared.steps.StackStep.{StackStep}
use Rattle.rt_ctx.specs.Places.{name_of, kind_of}
use Rattle.reports.specs.ReportText.{callers_text, caller_at, report_text, stack_text, head_lines, place_of, kind_name}
use Rattle.reports.specs.declared.stacks.StackCount.{StackCount}

-- the last step stands first in reverse
last_first : (steps below : List StackStep) (step : StackStep) → steps ≡ below ++ step ∷ [] → reverse steps ≡ step ∷ reverse below
last_first steps below step e = ap reverse e ∙ reverse-append below (step ∷ [])

-- the line of the last caller, and then those of the callers below it
pub callers_of_last : (source : List ℕ) (unit : UnitParts) (index site : ℕ) (steps below : List StackStep) (step : StackStep) → steps ≡ below ++ step ∷ [] → callers_text source unit index site (reverse steps) ≡ caller_at index (name_of unit step.target) (line_column source (place_of unit site)) ++ callers_text source unit (index + 1) step.site (reverse below)
callers_of_last source unit index site steps below step e =
    ap (callers_text source unit index site) (last_first steps below step e)

-- the head of the report with the last step, and then the lines of the callers
pub report_of_last : (source : List ℕ) (unit : UnitParts) (counted : StackCount) (below : List StackStep) (step : StackStep) (kind name digits : List ℕ) → counted.stack ≡ below ++ step ∷ [] → kind ≡ kind_name (kind_of step.target) → name ≡ name_of unit step.target → digits ≡ decimal counted.count → report_text source unit counted ≡ head_lines kind name digits ++ callers_text source unit 1 step.site (reverse below)
report_of_last source unit counted below step kind name digits e kinds named counts =
    rw (kinds, named, counts) (ap (stack_text source unit counted.count) (last_first counted.stack below step e))
