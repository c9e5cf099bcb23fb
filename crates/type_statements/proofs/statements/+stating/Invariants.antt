-- The whole is what was read, and then the items that remain.
use Rattle.std.proofs.Common.{◌≡◌, [], drop}
use Rattle.type_recursion.specs.Lists.{in_order}
use Rattle.type_statements.specs.Read.{one_item}
use Rattle.type_statements.proofs.statements.+stating.Given as goal

abbrev pub invariant-block_items-each : goal.invariant-block_items-each
invariant-block_items-each l =
    in_order (one_item l.looped) l.items [] l.initial.typing ≡ in_order (one_item l.looped) (drop l.item-index l.items) l.before l.typing
