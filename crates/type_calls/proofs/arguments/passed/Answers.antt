use Rattle.std.proofs.Common.{arith}
use Rattle.type_rules.specs.Calls.{passed}
use Rattle.type_calls.proofs.Passes.{at_first, empty, one_passed, one_stopped, all_given, all_passed}
use Rattle.type_calls.proofs.arguments.passed.Goals as goal

pub each-init : goal.each-init
each-init c =
    at_first c.args.params.now c.args.given.items c.reverse.new.self.items c.new-arguments.result c.args.typing.now c.reverse.ensures.items c.new-arguments.ensures

pub returns-in_default : goal.returns-in_default
returns-in_default c =
    all_given (passed c.args.params.now c.args.given.items c.args.typing.now) _ c.each.given.items c.each.arguments c.each.typing
    (empty c.each.given.items (omega (arith, c.in_default.ensures.cases))) c.each.invariant

pub returns-in_err-arguments : goal.returns-in_err-arguments
returns-in_err-arguments c =
    let h = one_stopped (passed c.args.params.now c.args.given.items c.args.typing.now) c.args.params.now c.each.kind-index c.kind-item.result
    c.each.given.items c.pop.new.self.items c.in-Some.operand c.each.arguments c.each.typing c.passed_next.new.typing c.in_err-arguments.field-0.0
    c.each-test.true c.kind-item.is c.in-Some.ensures.items c.each.invariant c.in_err-arguments.ensures in
    grind (arith, h)

pub each-preserved : goal.each-preserved
each-preserved c =
    one_passed (passed c.args.params.now c.args.given.items c.args.typing.now) c.args.params.now c.each.kind-index c.kind-item.result
    c.each.given.items c.pop.new.self.items c.in-Some.operand c.each.arguments c.in_ok-arguments.arguments c.each.typing c.passed_next.new.typing
    c.each-test.true c.kind-item.is c.in-Some.ensures.items c.each.invariant c.in_ok-arguments.ensures

pub returns : goal.returns
returns c =
    all_passed (passed c.args.params.now c.args.given.items c.args.typing.now) c.args.params.now c.each.kind-index c.each.given.items c.each.arguments
    c.each.typing c.each-test.false c.each.invariant
