use Rattle.std.proofs.Common.{arith}
use Rattle.type_recursion.proofs.Orders.{order-more, order-stop, order-end}
use Rattle.type_statements.proofs.Files.{externals-order}
use Rattle.type_statements.specs.Read.{one_external}
use Rattle.type_statements.proofs.sources.externals.Goals as goal

pub each-init : goal.each-init
each-init c = externals-order c.args.all.now c.args.typing.now

pub returns-in_err-external_read : goal.returns-in_err-external_read
unfolding one_external
returns-in_err-external_read c =
    let stopped = order-stop one_external c.args.all.now c.each.e-index c.e-item.result tt c.each.typing
    c.external_read.new.typing c.external_read.new.typing _ c.in_err-external_read.field-0.0 c.each-test.true c.e-item.is c.each.invariant c.in_err-external_read.ensures in
    grind (arith, stopped)

pub each-preserved : goal.each-preserved
unfolding one_external
each-preserved c =
    order-more one_external c.args.all.now c.each.e-index c.e-item.result tt tt c.each.typing c.external_read.new.typing _
    c.each-test.true c.e-item.is c.each.invariant c.in_ok-external_read.ensures

pub returns : goal.returns
returns c = order-end one_external c.args.all.now c.each.e-index tt c.each.typing _ c.each-test.false c.each.invariant
