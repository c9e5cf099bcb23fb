use Rattle.built_codegen.proofs.Checks.{first_goes_on, first_all}
use Rattle.built_codegen.proofs.unit.first_missing.Goals as goal

pub loop-site-preserved : goal.loop-site-preserved
loop-site-preserved c =
    first_goes_on c.args.unit.now c.all_sites-site-items.result.now c.loop-site.site-index c.loop-site.first c.missing_callee.result c.lesser-first.result _ c.all_sites-site-items.ensures.sites c.loop-site-test.true c.missing_callee.ensures c.lesser-first.ensures c.loop-site.invariant

pub returns : goal.returns
returns c =
    first_all c.args.unit.now c.all_sites-site-items.result.now c.loop-site.site-index c.loop-site.first c.all_sites-site-items.ensures.sites c.loop-site-test.false c.loop-site.auto.site-index-end c.loop-site.invariant
