use Rattle.std.proofs.Common.{◌≡◌, ◌∙◌, ap, arith, subst, sym}
use Rattle.std.specs.Prelude.{Err}
use Rattle.type_recursion.proofs.Continued.{after, stops}
use Rattle.type_recursion.proofs.Orders.{order-more, order-stop, order-end}
use Rattle.type_recursion.specs.Lists.{in_order}
use Rattle.type_rules.specs.Reading.{Good}
use Rattle.type_rules.specs.Statements as spec
use Rattle.type_statements.proofs.Forms.{if-chosen}
use Rattle.typing_state.specs.Answers.{Gives}
use Rattle.type_statements.specs.Read.{item_list, one_item}
use Rattle.type_statements.proofs.statements.+stating.Goals as goal

pub block_items-each-init : goal.block_items-each-init
block_items-each-init t c =
    ap (λ before. in_order (one_item c.args.looped) c.args.items.now before c.args.typing.now) (sym c.new-before.ensures)

pub block_items-returns-in_err-before : goal.block_items-returns-in_err-before
unfolding item_list
block_items-returns-in_err-before t c =
    let stopped = order-stop (one_item c.args.looped) c.args.items.now c.each.item-index c.item-item.result c.each.before c.each.typing
    c.one_item.new.typing c.one_item.new.typing _ c.in_err-before.field-0.0 c.each-test.true c.item-item.is c.each.invariant c.in_err-before.ensures in
    grind (arith, stopped)

pub block_items-each-preserved : goal.block_items-each-preserved
block_items-each-preserved t c =
    order-more (one_item c.args.looped) c.args.items.now c.each.item-index c.item-item.result c.each.before c.in_ok-before.before
    c.each.typing c.one_item.new.typing _ c.each-test.true c.item-item.is c.each.invariant c.in_ok-before.ensures

pub block_items-returns : goal.block_items-returns
unfolding item_list
block_items-returns t c =
    order-end (one_item c.args.looped) c.args.items.now c.each.item-index c.each.before c.each.typing _ c.each-test.false c.each.invariant

pub statement-returns-in_err-then-in-If : goal.statement-returns-in_err-then-in-If
statement-returns-in_err-then-in-If t c =
    let chosen = if-chosen c.args.looped c.in-If.field-0 c.in-If.test c.in-If.then c.in-If.other c.in_ok-test-in-If.test c.args.typing.now c.condition.new.typing
    _ (ap (λ s. spec.statement c.args.looped s c.args.typing.now) c.in-If.is) (rw c.get.ensures at c.in_ok-test-in-If.ensures) in
    let bad = subst (λ s. Gives (spec.statement c.args.looped s c.condition.new.typing) (Err c.in_err-then-in-If.field-0.0) c.statement.new.typing)
    c.get-in-If.ensures c.in_err-then-in-If.ensures in
    let stopped = stops _ _ _ c.in_err-then-in-If.field-0.0 c.statement.new.typing c.statement.new.typing chosen bad in
    grind (arith, stopped)

pub statement-returns-in_err-other-in-If : goal.statement-returns-in_err-other-in-If
statement-returns-in_err-other-in-If t c =
    let chosen = if-chosen c.args.looped c.in-If.field-0 c.in-If.test c.in-If.then c.in-If.other c.in_ok-test-in-If.test c.args.typing.now c.condition.new.typing
    _ (ap (λ s. spec.statement c.args.looped s c.args.typing.now) c.in-If.is) (rw c.get.ensures at c.in_ok-test-in-If.ensures) in
    let good : spec.statement c.args.looped c.in-If.then c.condition.new.typing ≡ Good c.in_ok-then-in-If.then c.statement.new.typing =
    ap (λ s. spec.statement c.args.looped s c.condition.new.typing) (sym c.get-in-If.ensures) ∙ c.in_ok-then-in-If.ensures in
    let behind = after _ _ _ c.in_ok-then-in-If.then c.statement.new.typing chosen good in
    let stopped = stops _ _ _ c.in_err-other-in-If.field-0.0 c.otherwise.new.typing c.otherwise.new.typing behind c.in_err-other-in-If.ensures in
    grind (arith, stopped)
