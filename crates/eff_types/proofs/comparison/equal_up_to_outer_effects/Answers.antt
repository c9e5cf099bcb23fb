use Rattle.std.proofs.Common.{sym, ◌∙◌}
use Rattle.eff_types.proofs.Outside.{same_outside-Pointer, same_outside-other}
use Rattle.eff_types.proofs.Sameness.{answer-is}
use Rattle.eff_types.proofs.comparison.equal_up_to_outer_effects.Goals as goal
use Rattle.eff_types.proofs.comparison.equal_up_to_outer_effects.Goals.{in_default-via-in-Pointer+in_default, in_default-via-in_default}

pub returns-in-Pointer-Pointer-clause-test : goal.returns-in-Pointer-Pointer-clause-test
returns-in-Pointer-Pointer-clause-test c =
    let pointers = same_outside-Pointer c.in-Pointer-Pointer.a c.in-Pointer-Pointer.b in cc

pub returns-in-Pointer-Pointer-clause-same : goal.returns-in-Pointer-Pointer-clause-same
returns-in-Pointer-Pointer-clause-same c = answer-is _ _ _ (returns-in-Pointer-Pointer-clause-test c)

pub returns-in_default-clause-test : goal.returns-in_default-clause-test
returns-in_default-clause-test c =
    c.equal_targets-in_default.ensures ∙ sym (same_outside-other c.args.a.now c.args.b.now
    (elim c.in_default.branch [
      | in_default-via-in-Pointer+in_default w ↦ λ x y is_x is_y. w.in_default.not-Pointer-1 y is_y
      | in_default-via-in_default w ↦ λ x y is_x is_y. w.in_default.not-Pointer-0 x is_x
    ]))

pub returns-in_default-clause-same : goal.returns-in_default-clause-same
returns-in_default-clause-same c = answer-is _ _ _ (returns-in_default-clause-test c)
