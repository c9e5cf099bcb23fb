use Rattle.std.proofs.Common.{◌<◌, length, ◌∙◌, append-nil, arith, [], refl}
use Rattle.chains.proofs.Along.{steps_along-read}
use Rattle.chains.proofs.Spans.{chain_known, steps_cut, HoldsShown-written, IsWritten-more}
use Rattle.chains.proofs.written.Chains.write.Goals as goal

pub returns-in-Err-clause-steps : goal.returns-in-Err-clause-steps
returns-in-Err-clause-steps c =
    ([], rw (← c.self.view_is, append-nil) (c.truncate.ensures.items ∙ steps_cut _ _ _ (omega arith) c.in-Err.ensures.err))

pub invariant_of-self-2 : goal.invariant_of-self-2
invariant_of-self-2 c =
    let chain = rw (← c.self.view_is) at c.requires.chain in
    let known = chain_known _ _ _ _ _ c.self.invariant _ chain in
    let sized = c.self.invariant.distances_sized in
    let inside : c.args.function < length c.self.inside.distances.items = omega arith in
    let steps = steps_along-read _ _ _ _ _ _ _ _ _ c.as_slice.ensures.value c.as_slice-2.ensures.value inside c.index-count.ensures c.in_default.ensures.ok in
    IsWritten-more _ _ _ _ _ c.self.invariant _ chain _ _ _ steps (omega arith) (omega arith) refl

pub returns-clause-shown : goal.returns-clause-shown
returns-clause-shown c =
    let chain = rw (← c.self.view_is) at c.requires.chain in
    let known = chain_known _ _ _ _ _ c.self.invariant _ chain in
    let sized = c.self.invariant.distances_sized in
    let inside : c.args.function < length c.self.inside.distances.items = omega arith in
    let steps = steps_along-read _ _ _ _ _ _ _ _ _ c.as_slice.ensures.value c.as_slice-2.ensures.value inside c.index-count.ensures c.in_default.ensures.ok in
    HoldsShown-written _ _ _ _ _ c.self.invariant _ chain _ c.self.inside.spans.items _ steps (omega arith) (omega arith)

pub returns-clause-steps : goal.returns-clause-steps
returns-clause-steps c = rw (← c.self.view_is) (_, c.in_default.ensures.ok)
