-- What a board holds once an event was judged.
use Rattle.std.specs.Prelude.{◌≡◌, ℕ, Bool, true, false, not, List}
use Rattle.ctx_set.specs.declared.steps.StackStep.{StackStep}
use Rattle.reports.specs.Counts.{is_counted}
use Rattle.reports.specs.Passes.{Held, IsAlone, reported}
use Rattle.reports.specs.Prefixes.{has_room}
use Rattle.reports.specs.declared.board.Noted.{Noted}
use Rattle.rt_ctx.specs.Suppressing.{is_report_place, is_suppressed_place}
use Rattle.rt_ctx.specs.declared.answers.Verdict.{Verdict}
use Rattle.rt_ctx.specs.declared.answers.Verdict.TheVariants as verdict
use Rattle.rt_ctx.specs.declared.answers.Verdict.TheVariants.{Pass, Report}
use Rattle.rt_ctx.specs.declared.context.Context.{Context}
use Rattle.suppress.specs.declared.suppressions.Suppression.{Suppression}
use Rattle.core_unit.specs.declared.tables.UnitParts.{UnitParts}
use Rattle.thread_run.specs.declared.judged.Judged.{Judged}
use Rattle.thread_run.specs.declared.judged.Judged.TheVariants.{Passed, Suppressed, Reported, Refused}

-- The board was asked to count the stack, and its answer tells what became of it. Where the board is exact and its pass alone, that is by the room.
pub record IsNoted (exact : Bool) (stack : List StackStep) (refused : Bool) (old new : Held) : Type 0 where
  pub noted : Noted
  pub held : new ≡ reported old stack noted
  pub counts : is_counted noted ≡ not refused
  pub room : exact ≡ true → IsAlone old → is_counted noted ≡ has_room old.own stack

-- A report is noted, and nothing else is.
abbrev pub Notes : (exact : Bool) → List StackStep → Judged → (old new : Held) → Type 0
Notes exact stack Passed old new = new ≡ old
Notes exact stack Suppressed old new = new ≡ old
Notes exact stack Reported old new = IsNoted exact stack false old new
Notes exact stack Refused old new = IsNoted exact stack true old new

-- what a verdict tells of a reach
abbrev pub Tells : UnitParts → List Suppression → Context → List StackStep → (target : ℕ) → Verdict → Type 0
Tells u entries c stack target Pass = (is_report_place u entries c stack target ≡ false) × (is_suppressed_place u entries c stack target ≡ false)
Tells u entries c stack target verdict.Suppressed =
    (is_report_place u entries c stack target ≡ false) × (is_suppressed_place u entries c stack target ≡ true)
Tells u entries c stack target (Report kind) =
    (is_report_place u entries c stack target ≡ true) × (is_suppressed_place u entries c stack target ≡ false)
