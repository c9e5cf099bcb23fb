use Rattle.std.proofs.Common.{◌≡◌, sym, ap, ◌∙◌, true, None, length}
use Rattle.mcode.specs.Machine.{move}
use Rattle.mcode.specs.Steps.{is_quiet}
use Rattle.machine_code.proofs.Counting.{frames_counted}
use Rattle.machine_code.proofs.Parking.{leads_on, left_falls, leads_end, none_is, some_is}
use Rattle.machine_code.proofs.thread.Thread.answer.Goals.{else-is_none-via-then-is_none+else-not-quiet, else-is_none-via-else-is_none}
use Rattle.machine_code.proofs.thread.Thread.answer.Goals as goal

pub returns-then-not-quiet-clause-moved : goal.returns-then-not-quiet-clause-moved
returns-then-not-quiet-clause-moved c =
    leads_end c.args.code.now c.steps.self c.advance-quiet.new.self _ c.steps.answer (none_is c.steps.answer c.if-is_none.ensures) c.advance-quiet.ensures.moved
    (sym c.if-not-quiet.ensures.quiet) c.steps.invariant

pub returns-then-not-quiet-clause-frames : goal.returns-then-not-quiet-clause-frames
returns-then-not-quiet-clause-frames c =
    ap (λ t. length t.callers) (returns-then-not-quiet-clause-moved c) ∙ frames_counted c.args.code.now c.args.self.now c.args.word

pub steps-smaller : goal.steps-smaller
steps-smaller c =
    let on : c.steps.answer ≡ None → is_quiet (move c.args.code.now c.steps.self) ≡ true =
    elim c.else-is_none.branch [
      | else-is_none-via-then-is_none+else-not-quiet w ↦ λ none. sym w.if-not-quiet.ensures.quiet
      | else-is_none-via-else-is_none w ↦ λ none. absurd (some_is c.steps.answer w.if-is_none.ensures none)
    ] in
    left_falls c.args.code.now c.steps.self c.advance-quiet.new.self c.steps.answer c.is_code.ensures c.advance-quiet.ensures.moved on

pub steps-preserved : goal.steps-preserved
steps-preserved c =
    let on : c.steps.answer ≡ None → is_quiet (move c.args.code.now c.steps.self) ≡ true =
    elim c.else-is_none.branch [
      | else-is_none-via-then-is_none+else-not-quiet w ↦ λ none. sym w.if-not-quiet.ensures.quiet
      | else-is_none-via-else-is_none w ↦ λ none. absurd (some_is c.steps.answer w.if-is_none.ensures none)
    ] in
    leads_on c.args.code.now c.steps.self c.advance-quiet.new.self _ c.steps.answer c.is_code.ensures c.advance-quiet.ensures.moved on c.steps.invariant
