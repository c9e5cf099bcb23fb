use Rattle.std.proofs.Common.{◌≡◌, max, arith}
use Rattle.std.proofs.lemmas.Grind.{common_steps}
use Rattle.c_tree.specs.Depth.{saturated, expr_depth, spec_depth, member_depth, enumerator_depth, declarator_depth, param_depth}
use Rattle.c_tree.proofs.Equations.{deepest-more, deepest-end, saturated-max}
use Rattle.c_tree.proofs.depth.+depth.Goals as goal

pub expressions-loop-e-preserved : goal.expressions-loop-e-preserved
expressions-loop-e-preserved t c =
    let most : c.max-depth.result ≡ max c.loop-e.depth (saturated (expr_depth c.e-item.result)) = grind (arith, common_steps, saturated-max) in
    deepest-more expr_depth c.args.all.now c.loop-e.e-index c.e-item.result _ c.loop-e.depth c.max-depth.result c.loop-e.invariant
    c.loop-e-test.true c.e-item.is most

pub expressions-returns : goal.expressions-returns
expressions-returns t c = deepest-end expr_depth c.args.all.now c.loop-e.e-index _ c.loop-e.depth c.loop-e.invariant c.loop-e-test.false

pub specifiers-loop-spec-preserved : goal.specifiers-loop-spec-preserved
specifiers-loop-spec-preserved t c =
    let most : c.max-depth.result ≡ max c.loop-spec.depth (saturated (spec_depth c.spec-item.result)) = grind (arith, common_steps, saturated-max) in
    deepest-more spec_depth c.args.all.now c.loop-spec.spec-index c.spec-item.result _ c.loop-spec.depth c.max-depth.result c.loop-spec.invariant
    c.loop-spec-test.true c.spec-item.is most

pub specifiers-returns : goal.specifiers-returns
specifiers-returns t c = deepest-end spec_depth c.args.all.now c.loop-spec.spec-index _ c.loop-spec.depth c.loop-spec.invariant c.loop-spec-test.false

pub members-loop-member-preserved : goal.members-loop-member-preserved
members-loop-member-preserved t c =
    let most : c.max-depth.result ≡ max c.loop-member.depth (saturated (member_depth c.member-item.result)) = grind (arith, common_steps, saturated-max) in
    deepest-more member_depth c.args.all.now c.loop-member.member-index c.member-item.result _ c.loop-member.depth c.max-depth.result c.loop-member.invariant
    c.loop-member-test.true c.member-item.is most

pub members-returns : goal.members-returns
members-returns t c = deepest-end member_depth c.args.all.now c.loop-member.member-index _ c.loop-member.depth c.loop-member.invariant c.loop-member-test.false

pub enumerators-loop-enumerator-preserved : goal.enumerators-loop-enumerator-preserved
enumerators-loop-enumerator-preserved t c =
    let most : c.max-depth.result ≡ max c.loop-enumerator.depth (saturated (enumerator_depth c.enumerator-item.result)) = grind (arith, common_steps, saturated-max) in
    deepest-more enumerator_depth c.args.all.now c.loop-enumerator.enumerator-index c.enumerator-item.result _ c.loop-enumerator.depth c.max-depth.result c.loop-enumerator.invariant
    c.loop-enumerator-test.true c.enumerator-item.is most

pub enumerators-returns : goal.enumerators-returns
enumerators-returns t c = deepest-end enumerator_depth c.args.all.now c.loop-enumerator.enumerator-index _ c.loop-enumerator.depth c.loop-enumerator.invariant c.loop-enumerator-test.false

pub declarators-loop-d-preserved : goal.declarators-loop-d-preserved
declarators-loop-d-preserved t c =
    let most : c.max-depth.result ≡ max c.loop-d.depth (saturated (declarator_depth c.d-item.result)) = grind (arith, common_steps, saturated-max) in
    deepest-more declarator_depth c.args.all.now c.loop-d.d-index c.d-item.result _ c.loop-d.depth c.max-depth.result c.loop-d.invariant
    c.loop-d-test.true c.d-item.is most

pub declarators-returns : goal.declarators-returns
declarators-returns t c = deepest-end declarator_depth c.args.all.now c.loop-d.d-index _ c.loop-d.depth c.loop-d.invariant c.loop-d-test.false

pub params-loop-param-preserved : goal.params-loop-param-preserved
params-loop-param-preserved t c =
    let most : c.max-depth.result ≡ max c.loop-param.depth (saturated (param_depth c.param-item.result)) = grind (arith, common_steps, saturated-max) in
    deepest-more param_depth c.args.all.now c.loop-param.param-index c.param-item.result _ c.loop-param.depth c.max-depth.result c.loop-param.invariant
    c.loop-param-test.true c.param-item.is most

pub params-returns : goal.params-returns
params-returns t c = deepest-end param_depth c.args.all.now c.loop-param.param-index _ c.loop-param.depth c.loop-param.invariant c.loop-param-test.false
