-- What a verdict tells of a reach, and what a board holds once it was told.
use Rattle.std.proofs.Common.{◌≡◌, refl, sym, ap, ◌∙◌, subst, ℕ, Bool, true, false, not, List, reverse}
use Rattle.std.proofs.lemmas.List.{reverse-reverse}
use Rattle.reports.specs.Counts.{is_counted}
use Rattle.reports.specs.Passes.{Held, IsAlone, reported}
use Rattle.reports.specs.Prefixes.{has_room}
use Rattle.reports.specs.declared.board.Noted.{Noted}
use Rattle.thread_run.specs.Detecting.{Seen, is_report, is_refused}
use Rattle.thread_run.specs.declared.judged.Judged.{Judged}
use Rattle.thread_run.specs.declared.judged.Judged.TheVariants as judged
use Rattle.core_unit.specs.declared.tables.UnitParts.{UnitParts}
use Rattle.ctx_set.specs.declared.steps.StackStep.{StackStep}
use Rattle.rt_ctx.proofs.Suppressing.{verdict_tells}
use Rattle.rt_ctx.specs.Verdicts.{IsVerdict}
use Rattle.rt_ctx.specs.declared.answers.Verdict.{Verdict}
use Rattle.rt_ctx.specs.declared.answers.Verdict.TheVariants.{Pass, Report, Suppressed}
use Rattle.rt_ctx.specs.declared.context.Context.{Context}
use Rattle.suppress.specs.declared.suppressions.Suppression.{Suppression}
use Rattle.thread_run.specs.Judging.{Tells, Notes}
use Rattle.thread_run.specs.Worlds.{WorldParts}

pub verdict_told : (u : UnitParts) (entries : List Suppression) (c : Context) (stack : List StackStep) (target : ℕ) (verdict : Verdict) → IsVerdict u entries c stack target verdict → Tells u entries c stack target verdict
verdict_told u entries c stack target Pass h = verdict_tells u entries c stack target Pass h
verdict_told u entries c stack target Suppressed h = verdict_tells u entries c stack target Suppressed h
verdict_told u entries c stack target (Report kind) h = let told = verdict_tells u entries c stack target (Report kind) h in (told.0, told.1)

-- the same of the world and the context that a detector shows
pub verdict_here : (w v : WorldParts) (seen : Seen) (stack shown : List StackStep) (context : Context) (target : ℕ) (verdict : Verdict) →
    ◌≡◌ {A = WorldParts} v w → ◌≡◌ {A = Seen} (record { frames = reverse stack; context = context }) seen → shown ≡ stack →
    IsVerdict v.unit v.suppressions context shown target verdict → Tells w.unit w.suppressions seen.context (reverse seen.frames) target verdict
verdict_here w v seen stack shown context target verdict here view same h =
    let stands : shown ≡ reverse (reverse stack) = same ∙ sym (reverse-reverse stack) in
    let told : Tells v.unit v.suppressions context (reverse (reverse stack)) target verdict = subst (λ steps. Tells v.unit v.suppressions context steps target verdict) stands (verdict_told v.unit v.suppressions context shown target verdict h) in
    subst (λ (x : WorldParts). Tells x.unit x.suppressions seen.context (reverse seen.frames) target verdict) here
    (subst (λ (s : Seen). Tells v.unit v.suppressions s.context (reverse s.frames) target verdict) view told)

turn_over : (a b : Bool) → a ≡ not b → b ≡ not a
turn_over true false e = refl
turn_over false true e = refl
turn_over true true e = cc
turn_over false false e = cc

noted_told : (exact : Bool) (stack : List StackStep) (judged : Judged) (noted : Noted) (old new : Held) → new ≡ reported old stack noted → is_report judged ≡ true → is_refused judged ≡ not (is_counted noted) → (exact ≡ true → IsAlone old → is_counted noted ≡ has_room old.own stack) → Notes exact stack judged old new
noted_told exact stack judged.Passed noted old new held report refused room = cc
noted_told exact stack judged.Suppressed noted old new held report refused room = cc
noted_told exact stack judged.Reported noted old new held report refused room = record { noted = noted; held = held; counts = turn_over false (is_counted noted) refused; room = room }
noted_told exact stack judged.Refused noted old new held report refused room = record { noted = noted; held = held; counts = turn_over true (is_counted noted) refused; room = room }

-- what a board holds after a report with the stack that a detector shows
pub noted_here : (exact : Bool) (seen : Seen) (stack shown : List StackStep) (context : Context) (judged : Judged) (noted : Noted) (old new : Held) →
    ◌≡◌ {A = Seen} (record { frames = reverse stack; context = context }) seen → shown ≡ stack → new ≡ reported old shown noted → is_report judged ≡ true → is_refused judged ≡ not (is_counted noted) →
    (exact ≡ true → IsAlone old → is_counted noted ≡ has_room old.own shown) → Notes exact (reverse seen.frames) judged old new
noted_here exact seen stack shown context judged noted old new view same held report refused room =
    let stands : shown ≡ reverse seen.frames = same ∙ sym (reverse-reverse stack) ∙ ap (λ (s : Seen). reverse s.frames) view in
    subst (λ steps. Notes exact steps judged old new) stands (noted_told exact shown judged noted old new held report refused room)
