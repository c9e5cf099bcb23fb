use Rattle.std.proofs.Common.{◌∙◌, ap, arith, sym}
use Rattle.type_declarations.proofs.Ordered.{declarators-order}
use Rattle.type_declarations.specs.Declared.{one_declarator}
use Rattle.type_recursion.proofs.Orders.{order-more, order-stop, order-end}
use Rattle.type_recursion.specs.Lists.{in_order}
use Rattle.type_declarations.proofs.declarations.init_declarators.Goals as goal

pub each-init : goal.each-init
each-init c =
    declarators-order c.args.in_block c.args.said.now c.args.declarators.now c.args.typing.now
    ∙ ap (λ before. in_order (one_declarator c.args.in_block c.args.said.now) c.args.declarators.now before c.args.typing.now) (sym c.new-before.ensures)

pub returns-in_err-before : goal.returns-in_err-before
returns-in_err-before c =
    let stopped = order-stop (one_declarator c.args.in_block c.args.said.now) c.args.declarators.now c.each.d-index c.d-item.result c.each.before c.each.typing
    c.one_declarator.new.typing c.one_declarator.new.typing _ c.in_err-before.field-0.0 c.each-test.true c.d-item.is c.each.invariant c.in_err-before.ensures in
    grind (arith, stopped)

pub each-preserved : goal.each-preserved
each-preserved c =
    order-more (one_declarator c.args.in_block c.args.said.now) c.args.declarators.now c.each.d-index c.d-item.result c.each.before c.in_ok-before.before
    c.each.typing c.one_declarator.new.typing _ c.each-test.true c.d-item.is c.each.invariant c.in_ok-before.ensures

pub returns : goal.returns
returns c =
    order-end (one_declarator c.args.in_block c.args.said.now) c.args.declarators.now c.each.d-index c.each.before c.each.typing _ c.each-test.false c.each.invariant
