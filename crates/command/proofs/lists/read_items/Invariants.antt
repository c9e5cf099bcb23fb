use Rattle.std.proofs.Common.{◌≡◌}
use Rattle.command.specs.Lists.{items_of, each}
use Rattle.command.proofs.Separated.{items_left, work_left, behind}
use Rattle.command.proofs.lists.read_items.Given as goal

abbrev pub invariant-items : goal.invariant-items
invariant-items g l = each g.T.Item.item_of (items_of 44 l.fn.text) ≡ behind l.items.items (each g.T.Item.item_of (items_left 44 l.rest))

abbrev pub decreases-items : goal.decreases-items
decreases-items g l = work_left l.rest
