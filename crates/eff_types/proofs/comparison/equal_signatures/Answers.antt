use Rattle.std.proofs.Common.{◌≡◌, sym, ◌∙◌, ap}
use Rattle.eff_types.specs.Comparison.{is_equal}
use Rattle.eff_types.proofs.Outside.{is_equal-signature, same_outside-Function, same_outside-is}
use Rattle.eff_types.proofs.comparison.equal_signatures.Goals as goal

pub returns-clause-test : goal.returns-clause-test
returns-clause-test c =
    c.is_equal.ensures ∙ ap is_equal c.signature_likeness.ensures ∙ is_equal-signature c.args.a.now c.args.b.now
    ∙ sym (same_outside-Function c.args.a.now c.args.b.now)

pub returns-clause-same : goal.returns-clause-same
returns-clause-same c = rw (returns-clause-test c) (same_outside-is c.args.a.now c.args.b.now)
