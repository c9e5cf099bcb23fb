-- The deepest so far, and what is still to be looked at, give the depth of all.
use Rattle.std.proofs.Common.{◌≡◌, drop, max, map}
use Rattle.c_tree.specs.Depth.{saturated, deepest, init_declarator_depth}
use Rattle.c_tree.proofs.statement_depth.init_declarators.Given as goal

abbrev pub invariant-loop-one : goal.invariant-loop-one
invariant-loop-one l = saturated (deepest (map init_declarator_depth l.all)) ≡ max l.depth (saturated (deepest (map init_declarator_depth (drop l.one-index l.all))))
