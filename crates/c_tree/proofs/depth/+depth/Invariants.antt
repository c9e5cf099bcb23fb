-- The deepest so far, and what is still to be looked at, give the depth of all.
use Rattle.std.proofs.Common.{◌≡◌, drop, max, map}
use Rattle.c_tree.specs.Depth.{saturated, deepest, expr_depth, spec_depth, member_depth, enumerator_depth, declarator_depth, param_depth}
use Rattle.c_tree.proofs.depth.+depth.Given as goal

abbrev pub invariant-expressions-loop-e : goal.invariant-expressions-loop-e
invariant-expressions-loop-e l = saturated (deepest (map expr_depth l.all)) ≡ max l.depth (saturated (deepest (map expr_depth (drop l.e-index l.all))))

abbrev pub invariant-specifiers-loop-spec : goal.invariant-specifiers-loop-spec
invariant-specifiers-loop-spec l = saturated (deepest (map spec_depth l.all)) ≡ max l.depth (saturated (deepest (map spec_depth (drop l.spec-index l.all))))

abbrev pub invariant-members-loop-member : goal.invariant-members-loop-member
invariant-members-loop-member l = saturated (deepest (map member_depth l.all)) ≡ max l.depth (saturated (deepest (map member_depth (drop l.member-index l.all))))

abbrev pub invariant-enumerators-loop-enumerator : goal.invariant-enumerators-loop-enumerator
invariant-enumerators-loop-enumerator l = saturated (deepest (map enumerator_depth l.all)) ≡ max l.depth (saturated (deepest (map enumerator_depth (drop l.enumerator-index l.all))))

abbrev pub invariant-declarators-loop-d : goal.invariant-declarators-loop-d
invariant-declarators-loop-d l = saturated (deepest (map declarator_depth l.all)) ≡ max l.depth (saturated (deepest (map declarator_depth (drop l.d-index l.all))))

abbrev pub invariant-params-loop-param : goal.invariant-params-loop-param
invariant-params-loop-param l = saturated (deepest (map param_depth l.all)) ≡ max l.depth (saturated (deepest (map param_depth (drop l.param-index l.all))))
