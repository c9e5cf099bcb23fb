-- The deepest so far, and what is still to be looked at, give the depth of all.
use Rattle.std.proofs.Common.{◌≡◌, drop, max, map}
use Rattle.c_tree.specs.Depth.{saturated, deepest, external_depth}
use Rattle.c_tree.proofs.statements.Tree.depth.Given as goal

abbrev pub invariant-loop-one : goal.invariant-loop-one
invariant-loop-one l = saturated (deepest (map external_depth l.one-items)) ≡ max l.depth (saturated (deepest (map external_depth (drop l.one-index l.one-items))))
