-- Each call adds the warning that is due at it, and the calls stand in order of place.
use Rattle.std.proofs.Common.{◌≡◌, List, map, take, ◌∙◌, subst}
use Rattle.std.proofs.lemmas.List.{take_all}
use Rattle.std.specs.List.Sorted.{IsStrictlyIncreasing}
use Rattle.built_unit.specs.declared.units.SiteInfo.{SiteInfo}
use Rattle.eff_check.specs.Violations.{AreWarnings}
use Rattle.eff_check.proofs.WarningLaws.{AreWarnings-warned, AreWarnings-quiet}
use Rattle.eff_check.proofs.checking.check.Goals as goal
use Rattle.eff_check.proofs.checking.check.Goals.{in-Some+in_ok-push, in_default}

pub loop-site-preserved : goal.loop-site-preserved
loop-site-preserved c =
    let rises : IsStrictlyIncreasing (map (λ site. site.place) c.all_sites-site-items.result.now) =
    rw c.all_sites-site-items.ensures.sites c.all_sites-site-items.ensures.lawful.ordered in
    elim c.match-warning_at.branch [
      | in-Some+in_ok-push w ↦
          rw (w.warnings-is, w.in_ok-push.ensures.items)
          (AreWarnings-warned _ _ _ _ _ _ rises c.loop-site-test.true c.loop-site.invariant w.in-Some.ensures.due)
      | in_default w ↦
          rw w.warnings-is (AreWarnings-quiet _ _ _ _ _ rises c.loop-site-test.true c.loop-site.invariant w.in_default.ensures.none)
    ]

pub returns : goal.returns
returns c =
    let all : take c.loop-site.site-index c.all_sites-site-items.result.now ≡ c.args.unit.now.sites =
    take_all _ _ c.loop-site-test.false ∙ c.all_sites-site-items.ensures.sites in
    subst
    (λ (sites : List SiteInfo). AreWarnings (record { functions = c.args.unit.now.functions; sites = sites }) c.loop-site.warnings.items)
    all
    c.loop-site.invariant
