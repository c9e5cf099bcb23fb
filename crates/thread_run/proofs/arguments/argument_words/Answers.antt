use Rattle.std.proofs.Common.{◌∙◌, ◌++◌, ◌+◌, drop, sym, arith, ap}
use Rattle.src_model.specs.Runs.{argument_words}
use Rattle.thread_run.proofs.Calls.{number_more, pointer_more}
use Rattle.thread_run.proofs.arguments.argument_words.Goals.{then-is_number+in_ok-push, else-is_number+in_ok-push-2}
use Rattle.thread_run.proofs.arguments.argument_words.Goals as goal

pub each-preserved : goal.each-preserved
each-preserved c = elim c.if-is_number.branch [
  | then-is_number+in_ok-push w ↦ record {
    used = omega (arith, w.used-is, c.each.invariant.used);
    words =
        ap (λ n. c.if-is_number.words.items ++ argument_words (drop (c.each.kind-index + 1) c.args.params.now) (drop n c.args.arguments.now)) w.used-is
        ∙ number_more c.args.params.now c.args.arguments.now c.each.kind-index c.each.used c.kind-item.result c.each.words.items c.each.invariant.words c.each-test.true c.kind-item.is
        (sym c.is_number.ensures ∙ w.if-is_number.true) w.argument_at.result c.if-is_number.words.items w.argument_at.ensures (ap (λ v. v.items) w.words-is ∙ w.in_ok-push.ensures.items);
  }
  | else-is_number+in_ok-push-2 w ↦ record {
    used = omega (arith, w.used-is, c.each.invariant.used);
    words =
        ap (λ n. c.if-is_number.words.items ++ argument_words (drop (c.each.kind-index + 1) c.args.params.now) (drop n c.args.arguments.now)) w.used-is
        ∙ pointer_more c.args.params.now c.args.arguments.now c.each.kind-index c.each.used c.kind-item.result c.each.words.items c.each.invariant.words c.each-test.true c.kind-item.is
        (sym c.is_number.ensures ∙ w.if-is_number.false) c.if-is_number.words.items (ap (λ v. v.items) w.words-is ∙ w.in_ok-push-2.ensures.items);
  }
]
