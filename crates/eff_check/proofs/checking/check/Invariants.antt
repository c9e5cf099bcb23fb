-- the warnings so far are those of a unit with the calls so far
use Rattle.std.proofs.Common.{take}
use Rattle.eff_check.specs.Violations.{AreWarnings}
use Rattle.eff_check.proofs.checking.check.Given as goal

abbrev pub invariant-loop-site : goal.invariant-loop-site
invariant-loop-site l = AreWarnings (record { functions = l.unit.functions; sites = take l.site-index l.site-items }) l.warnings.items
