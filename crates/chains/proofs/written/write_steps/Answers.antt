use Rattle.std.proofs.Common.{◌∙◌, slice_index, refl}
use Rattle.std.proofs.lemmas.Result.{err_from_is_err_and}
use Rattle.chains.specs.Look.{look}
use Rattle.chains.proofs.Along.{steps_along-more, grown_more, target_inside}
use Rattle.chains.proofs.written.write_steps.Goals as goal

pub returns-in_err-push-clause-err : goal.returns-in_err-push-clause-err
returns-in_err-push-clause-err c =
    let error = err_from_is_err_and c.from_residual.result c.from_residual.ensures.1 in
    let grown = c.steps.invariant.grown in
    rw error.1 (grown.0, c.in_err-push.ensures.items ∙ grown.1)

pub steps-preserved : goal.steps-preserved
steps-preserved c = record {
  inside = target_inside _ _ _ _ _ c.requires.calls c.steps.invariant.inside c.mark_at.ensures c.callee_of-current.ensures;
  whole = rw c.in_ok-push.ensures.items (steps_along-more (look c.args.rows.now) (λ g. slice_index c.args.next.now g) _ _ _ _ _ _ _ _ c.steps.invariant.whole c.steps-test.true refl c.mark_at.ensures c.callee_of-current.ensures);
  grown = grown_more _ _ _ _ c.steps.invariant.grown c.in_ok-push.ensures.items;
}
