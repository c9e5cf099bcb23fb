use Rattle.std.proofs.Common.{length, refl, sym, ◌∙◌, ap, eq-eqb}
use Rattle.std.proofs.lemmas.List.{nil_from_length}
use Rattle.std.proofs.lemmas.Bool.{eqb-true, both_ways}
use Rattle.suppress.proofs.LayoutLemmas.{IsLaidOut_none, none_of_IsLaidOut, IsLaidOut-Follows, Follows-IsLaidOut, Follows_step, Follows_last}
use Rattle.suppress.proofs.search.follow_in_order.Goals as goal

pub returns-then-not-anchored_end : goal.returns-then-not-anchored_end
returns-then-not-anchored_end c = (
  λ _. IsLaidOut_none c.args.anchored_end c.args.pieces.now c.args.text.now c.in_default.ensures.cases
      (λ end. absurd (both_ways _ c.if-not-anchored_end.true end)),
  λ _. rw c.if-not-anchored_end.true refl,
)

pub returns-else-not-anchored_end : goal.returns-else-not-anchored_end
returns-else-not-anchored_end c = (
  λ empty. IsLaidOut_none c.args.anchored_end c.args.pieces.now c.args.text.now c.in_default.ensures.cases
      (λ _. nil_from_length _ (eqb-true _ _ (sym c.is_empty.ensures ∙ empty))),
  λ laid. c.is_empty.ensures ∙ eq-eqb _ _ (ap length (none_of_IsLaidOut _ _ _ c.in_default.ensures.cases laid c.if-not-anchored_end.false)),
)

pub loop-piece-init : goal.loop-piece-init
loop-piece-init c = rw c.in-Some.ensures.cases.0 (IsLaidOut-Follows _ _ _, Follows-IsLaidOut _ _ _)

pub loop-piece-preserved : goal.loop-piece-preserved
loop-piece-preserved c =
    let step = Follows_step c.args.anchored_end c.in-Some.front.now c.loop-piece.piece-index c.in-Some.last.now c.piece-item.result c.loop-piece.rest.now c.in-Some-after_first_place.after.now c.loop-piece-test.true c.piece-item.is (rw c.as_bytes.ensures at c.in-Some-after_first_place.ensures) in (
      λ h. c.loop-piece.invariant.0 (step.0 h),
      λ h. step.1 (c.loop-piece.invariant.1 h),
    )

pub returns-then-anchored_end : goal.returns-then-anchored_end
returns-then-anchored_end c =
    let step = Follows_last c.args.anchored_end c.in-Some.front.now c.loop-piece.piece-index c.in-Some.last.now c.loop-piece.rest.now c.ends_with.result c.if-anchored_end.true c.loop-piece-test.false (rw c.as_bytes-then-anchored_end.ensures at c.ends_with.ensures.value) in (
      λ h. c.loop-piece.invariant.0 (step.0 h),
      λ h. step.1 (c.loop-piece.invariant.1 h),
    )
