use Rattle.std.proofs.Common.{◌∙◌, ap}
use Rattle.eff_types.specs.Comparison.{is_equal}
use Rattle.eff_types.proofs.Outside.{is_equal-likeness}
use Rattle.eff_types.proofs.Sameness.{answer-is}
use Rattle.eff_types.proofs.comparison.equal.Goals as goal

pub returns-clause-test : goal.returns-clause-test
returns-clause-test c = c.is_equal.ensures ∙ ap is_equal c.compare.ensures ∙ is_equal-likeness c.args.a.now c.args.b.now

pub returns-clause-same : goal.returns-clause-same
returns-clause-same c = answer-is _ _ _ (returns-clause-test c)
