-- All items are made; and each call is one that its function may make, or one is not.
use Rattle.built_form.proofs.Sites.{resolved, all_built, not_built}
use Rattle.built_form.proofs.unit.unit.Goals as goal

pub returns-then-are_calls_built-clause-built : goal.returns-then-are_calls_built-clause-built
returns-then-are_calls_built-clause-built c =
    all_built c.args.source.now c.args.items.now c.new-unit.result c.if-items-gt-MAX_FUNCTIONS.false
    (resolved c.args.source.now c.args.items.now c.items.item-index c.items.builder.scope c.items.builder.functions
    c.items.builder.sites c.new-unit.result c.items-test.false c.items.invariant c.new-unit.ensures.functions c.new-unit.ensures.sites)
    c.if-are_calls_built.ensures

pub returns-clause-none : goal.returns-clause-none
returns-clause-none c =
    λ _. not_built c.args.source.now c.args.items.now c.new-unit.result
    (resolved c.args.source.now c.args.items.now c.items.item-index c.items.builder.scope c.items.builder.functions
    c.items.builder.sites c.new-unit.result c.items-test.false c.items.invariant c.new-unit.ensures.functions c.new-unit.ensures.sites).0
    c.if-are_calls_built.ensures
