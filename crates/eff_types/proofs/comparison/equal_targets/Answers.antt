use Rattle.std.proofs.Common.{sym, ◌∙◌}
use Rattle.eff_types.proofs.Outside.{same_outside-Function, same-own_effects}
use Rattle.eff_types.proofs.comparison.equal_targets.Goals as goal
use Rattle.eff_types.proofs.comparison.equal_targets.Goals.{in_default-via-in-Function+in_default, in_default-via-in_default}

pub returns-in-Function-Function : goal.returns-in-Function-Function
returns-in-Function-Function c =
    let own = same_outside-Function c.in-Function-Function.a c.in-Function-Function.b in rw (c.in-Function-Function.is-0, c.in-Function-Function.is-1) (c.equal_signatures.ensures.test ∙ own)

pub returns-in_default : goal.returns-in_default
returns-in_default c =
    c.equal.ensures.test ∙ sym (same-own_effects c.args.a.now c.args.b.now
    (elim c.in_default.branch [
      | in_default-via-in-Function+in_default w ↦ λ f g is_f is_g. w.in_default.not-Function-1 g is_g
      | in_default-via-in_default w ↦ λ f g is_f is_g. w.in_default.not-Function-0 f is_f
    ]))
