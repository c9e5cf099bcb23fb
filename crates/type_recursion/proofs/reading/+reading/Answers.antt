use Rattle.std.proofs.lemmas.Result.{err_from_is_err_and}
use Rattle.type_recursion.specs.Lists.{argument, one_member, member_line, one_enumerator, one_parameter}
use Rattle.type_rules.specs.Recursion.{specifier}
use Rattle.type_recursion.proofs.Forms.{fresh-numbered, choice-goes, choice-stops}
use Rattle.type_recursion.proofs.Orders.{order-more, order-stop, order-end, argument-good, argument-bad, into-stop}
use Rattle.type_recursion.proofs.reading.+reading.Goals as goal

pub specifiers-each-preserved : goal.specifiers-each-preserved
specifiers-each-preserved t c =
    order-more specifier c.args.specs.now c.each.spec-index c.spec-item.result c.each.said c.in_ok-said.said c.each.typing c.specifier.new.typing _
    c.each-test.true c.spec-item.is c.each.invariant c.in_ok-said.ensures

pub specifiers-returns-in_err-said : goal.specifiers-returns-in_err-said
specifiers-returns-in_err-said t c =
    let p = err_from_is_err_and c.from_residual.result c.from_residual.ensures.1 in
    rw (p.1, p.2) (
    order-stop specifier c.args.specs.now c.each.spec-index c.spec-item.result c.each.said c.each.typing c.specifier.new.typing c.specifier.new.typing _ c.in_err-said.field-0.0
    c.each-test.true c.spec-item.is c.each.invariant c.in_err-said.ensures
    )

pub specifiers-returns : goal.specifiers-returns
specifiers-returns t c = order-end specifier c.args.specs.now c.each.spec-index c.each.said c.each.typing _ c.each-test.false c.each.invariant

pub member_lines-each-preserved : goal.member_lines-each-preserved
member_lines-each-preserved t c =
    order-more member_line c.args.lines.now c.each.line-index c.line-item.result c.each.members c.in_ok-members.members c.each.typing c.member_line.new.typing _
    c.each-test.true c.line-item.is c.each.invariant c.in_ok-members.ensures

pub member_lines-returns-in_err-members : goal.member_lines-returns-in_err-members
member_lines-returns-in_err-members t c =
    let p = err_from_is_err_and c.from_residual.result c.from_residual.ensures.1 in
    rw (p.1, p.2) (
    order-stop member_line c.args.lines.now c.each.line-index c.line-item.result c.each.members c.each.typing c.member_line.new.typing c.member_line.new.typing _ c.in_err-members.field-0.0
    c.each-test.true c.line-item.is c.each.invariant c.in_err-members.ensures
    )

pub member_lines-returns : goal.member_lines-returns
member_lines-returns t c = order-end member_line c.args.lines.now c.each.line-index c.each.members c.each.typing _ c.each-test.false c.each.invariant

pub declared_members-each-preserved : goal.declared_members-each-preserved
declared_members-each-preserved t c =
    order-more (one_member c.args.said.now) c.args.declarators.now c.each.one-index c.one-item.result c.each.members c.in_ok-members.members c.each.typing c.declared_member.new.typing _
    c.each-test.true c.one-item.is c.each.invariant c.in_ok-members.ensures

pub declared_members-returns-in_err-members : goal.declared_members-returns-in_err-members
declared_members-returns-in_err-members t c =
    let p = err_from_is_err_and c.from_residual.result c.from_residual.ensures.1 in
    rw (p.1, p.2) (
    order-stop (one_member c.args.said.now) c.args.declarators.now c.each.one-index c.one-item.result c.each.members c.each.typing c.declared_member.new.typing c.declared_member.new.typing _ c.in_err-members.field-0.0
    c.each-test.true c.one-item.is c.each.invariant c.in_err-members.ensures
    )

pub declared_members-returns : goal.declared_members-returns
declared_members-returns t c = order-end (one_member c.args.said.now) c.args.declarators.now c.each.one-index c.each.members c.each.typing _ c.each-test.false c.each.invariant

pub enumerators-each-preserved : goal.enumerators-each-preserved
enumerators-each-preserved t c =
    order-more one_enumerator c.args.constants.now c.each.constant-index c.constant-item.result c.each.next c.in_ok-next.next c.each.typing c.enumerator.new.typing _
    c.each-test.true c.constant-item.is c.each.invariant c.in_ok-next.ensures

pub enumerators-returns-in_err-next : goal.enumerators-returns-in_err-next
enumerators-returns-in_err-next t c =
    let p = err_from_is_err_and c.from_residual.result c.from_residual.ensures.1 in
    rw (p.1, p.2) (
    order-stop one_enumerator c.args.constants.now c.each.constant-index c.constant-item.result c.each.next c.each.typing c.enumerator.new.typing c.enumerator.new.typing _ c.in_err-next.field-0.0
    c.each-test.true c.constant-item.is c.each.invariant c.in_err-next.ensures
    )

pub enumerators-returns : goal.enumerators-returns
enumerators-returns t c = order-end one_enumerator c.args.constants.now c.each.constant-index c.each.next c.each.typing _ c.each-test.false c.each.invariant

pub parameter_list-each-preserved : goal.parameter_list-each-preserved
parameter_list-each-preserved t c =
    order-more one_parameter c.args.all.now c.each.one-index c.one-item.result c.each.before c.in_ok-before.before c.each.typing c.declared_parameter.new.typing _
    c.each-test.true c.one-item.is c.each.invariant c.in_ok-before.ensures

pub parameter_list-returns-in_err-before : goal.parameter_list-returns-in_err-before
parameter_list-returns-in_err-before t c =
    let p = err_from_is_err_and c.from_residual.result c.from_residual.ensures.1 in
    rw (p.1, p.2) (
    order-stop one_parameter c.args.all.now c.each.one-index c.one-item.result c.each.before c.each.typing c.declared_parameter.new.typing c.declared_parameter.new.typing _ c.in_err-before.field-0.0
    c.each-test.true c.one-item.is c.each.invariant c.in_err-before.ensures
    )

pub parameter_list-returns : goal.parameter_list-returns
parameter_list-returns t c = order-end one_parameter c.args.all.now c.each.one-index c.each.before c.each.typing _ c.each-test.false c.each.invariant

pub read_arguments-each-preserved : goal.read_arguments-each-preserved
read_arguments-each-preserved t c =
    order-more argument c.args.arguments.now c.each.argument-index c.argument-item.result c.each.given.items c.add_argument.new.given.items c.each.typing c.fresh_operand.new.typing _
    c.each-test.true c.argument-item.is c.each.invariant
    (argument-good c.argument-item.result c.each.given.items c.add_argument.new.given.items c.in_ok-operand.operand c.each.typing c.fresh_operand.new.typing c.in_ok-operand.ensures c.in_ok-add_argument.ensures)

pub read_arguments-returns : goal.read_arguments-returns
read_arguments-returns t c = order-end argument c.args.arguments.now c.each.argument-index c.each.given.items c.each.typing _ c.each-test.false c.each.invariant

pub read_arguments-returns-in_err-operand : goal.read_arguments-returns-in_err-operand
read_arguments-returns-in_err-operand t c =
    let p = err_from_is_err_and c.from_residual.result c.from_residual.ensures.1 in
    rw (p.1, p.2) (
    into-stop (Unit {0}) _ c.in_err-operand.field-0.0 _ c.fresh_operand.new.typing _ (
    order-stop argument c.args.arguments.now c.each.argument-index c.argument-item.result c.each.given.items c.each.typing c.fresh_operand.new.typing c.fresh_operand.new.typing _ c.in_err-operand.field-0.0
    c.each-test.true c.argument-item.is c.each.invariant
    (argument-bad c.argument-item.result c.each.given.items c.each.typing c.fresh_operand.new.typing c.fresh_operand.new.typing c.in_err-operand.field-0.0 c.in_err-operand.ensures)
    )
    )

pub fresh-returns : goal.fresh-returns
fresh-returns t c =
    fresh-numbered c.args.is_called c.args.e.now c.args.typing.now c.number_sites.new.self c.value.new.typing c.in_ok-first.first c.in_ok-calls.calls c.value.result
    c.in_ok-first.ensures.number c.in_ok-calls.ensures c.in_ok-first.ensures.sites c.value.ensures

pub value-returns-in_err-left-in-Conditional : goal.value-returns-in_err-left-in-Conditional
value-returns-in_err-left-in-Conditional t c =
    let p = err_from_is_err_and c.from_residual-in_err-left-in-Conditional.result c.from_residual-in_err-left-in-Conditional.ensures.1 in
    rw (p.1, p.2) (
    choice-stops c.args.is_called c.args.first c.in-Conditional.place c.args.e.now c.in-Conditional.test c.in-Conditional.then c.in-Conditional.other
    c.args.typing.now c.left_operand-in-Conditional.new.typing c.in_ok-test-in-Conditional.test c.in-Conditional.is
    (rw c.get-in-Conditional.ensures at c.in_ok-test-in-Conditional.ensures) c.get-in-Conditional-2.result.now c.in_err-left-in-Conditional.field-0.0
    c.fresh_operand.new.typing c.fresh_operand.new.typing c.get-in-Conditional-2.ensures c.in_err-left-in-Conditional.ensures
    )

pub value-returns-in_ok-left-in-Conditional : goal.value-returns-in_ok-left-in-Conditional
value-returns-in_ok-left-in-Conditional t c =
    choice-goes c.args.is_called c.args.first c.in-Conditional.place c.args.e.now c.in-Conditional.test c.in-Conditional.then c.in-Conditional.other
    c.args.typing.now c.left_operand-in-Conditional.new.typing c.in_ok-test-in-Conditional.test c.in-Conditional.is
    (rw c.get-in-Conditional.ensures at c.in_ok-test-in-Conditional.ensures) c.in_ok-left-in-Conditional.left c.fresh_operand.new.typing c.choice_behind.new.typing
    c.choice_behind.result (rw c.get-in-Conditional-2.ensures at c.in_ok-left-in-Conditional.ensures) (rw c.get-in-Conditional-3.ensures at c.choice_behind.ensures)
