-- The deepest so far, and what is still to be looked at, give the depth of all.
use Rattle.std.proofs.Common.{◌≡◌, drop, max, map}
use Rattle.c_tree.specs.Depth.{saturated, deepest, init_depth}
use Rattle.c_tree.proofs.statement_depth.+initializer.Given as goal

abbrev pub invariant-initializers-loop-init : goal.invariant-initializers-loop-init
invariant-initializers-loop-init l = saturated (deepest (map init_depth l.all)) ≡ max l.depth (saturated (deepest (map init_depth (drop l.init-index l.all))))
