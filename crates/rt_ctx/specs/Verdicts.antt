-- What a verdict says. A reach is passed over, suppressed or reported, one of the three.
use Rattle.std.specs.Prelude.{◌≡◌, ℕ, true, false, List}
use Rattle.core_unit.specs.declared.tables.UnitParts.{UnitParts}
use Rattle.ctx_set.specs.declared.steps.StackStep.{StackStep}
use Rattle.suppress.specs.declared.suppressions.Suppression.{Suppression}
use Rattle.rt_ctx.specs.declared.context.Context.{Context}
use Rattle.rt_ctx.specs.declared.answers.Verdict.{Verdict}
use Rattle.rt_ctx.specs.declared.answers.Verdict.TheVariants.{Pass, Report, Suppressed}
use Rattle.rt_ctx.specs.Places.{is_detected, IsSuppressed, kind_of}

abbrev pub IsSuppressedPlace : UnitParts → List Suppression → Context → List StackStep → ℕ → Type 0
IsSuppressedPlace u entries c stack target = (is_detected u c target ≡ true) × IsSuppressed u entries stack target

abbrev pub IsReportPlace : UnitParts → List Suppression → Context → List StackStep → ℕ → Type 0
IsReportPlace u entries c stack target = (is_detected u c target ≡ true) × (IsSuppressed u entries stack target → ⊥)

abbrev pub IsVerdict : UnitParts → List Suppression → Context → List StackStep → ℕ → Verdict → Type 0
IsVerdict u entries c stack target Pass = is_detected u c target ≡ false
IsVerdict u entries c stack target Suppressed = IsSuppressedPlace u entries c stack target
IsVerdict u entries c stack target (Report kind) = IsReportPlace u entries c stack target × (kind ≡ kind_of target)
