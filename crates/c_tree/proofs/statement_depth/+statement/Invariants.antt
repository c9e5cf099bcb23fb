-- The deepest so far, and what is still to be looked at, give the depth of all.
use Rattle.std.proofs.Common.{◌≡◌, drop, max, map}
use Rattle.c_tree.specs.Depth.{saturated, deepest, item_depth}
use Rattle.c_tree.proofs.statement_depth.+statement.Given as goal

abbrev pub invariant-items-loop-item : goal.invariant-items-loop-item
invariant-items-loop-item l = saturated (deepest (map item_depth l.all)) ≡ max l.depth (saturated (deepest (map item_depth (drop l.item-index l.all))))
