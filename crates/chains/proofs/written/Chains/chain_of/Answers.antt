use Rattle.std.proofs.Common.{◌<◌, length, arith}
use Rattle.std.proofs.lemmas.Result.{IfOk-weaker}
use Rattle.chains.proofs.Spans.{chain_known, steps_only, span_read}
use Rattle.chains.proofs.written.Chains.chain_of.Goals as goal

pub returns-in-Some-clause-shown : goal.returns-in-Some-clause-shown
returns-in-Some-clause-shown c =
    let known = chain_known _ _ _ _ _ c.self.invariant _ (rw (← c.self.view_is) at c.requires) in
    let sized = c.self.invariant.spans_sized in
    let inside : c.args.function < length c.self.inside.spans.items = omega arith in
    rw (← c.self.view_is) (c.self.invariant.spanned _ _ (span_read _ _ _ _ inside c.index.ensures c.in-Some.is))

pub returns-in-Some-clause-only : goal.returns-in-Some-clause-only
returns-in-Some-clause-only c =
    let known = chain_known _ _ _ _ _ c.self.invariant _ (rw (← c.self.view_is) at c.requires) in
    let sized = c.self.invariant.spans_sized in
    let inside : c.args.function < length c.self.inside.spans.items = omega arith in
    rw (← c.self.view_is) (steps_only _ _ _ _ (c.self.invariant.spanned _ _ (span_read _ _ _ _ inside c.index.ensures c.in-Some.is)))

pub returns-in-None-clause-only : goal.returns-in-None-clause-only
returns-in-None-clause-only c = IfOk-weaker _ _ _ (λ span held. steps_only _ _ _ span held) c.write.ensures.shown
