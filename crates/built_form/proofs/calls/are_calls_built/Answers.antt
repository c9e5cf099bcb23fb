-- One call more is allowed, and at the end all are.
use Rattle.std.proofs.Common.{◌≡◌, List, take, refl, subst, ◌∙◌, All}
use Rattle.std.proofs.lemmas.List.{take_all}
use Rattle.std.proofs.lemmas.List.Elements.{All-more}
use Rattle.built_unit.specs.declared.units.SiteInfo.{SiteInfo}
use Rattle.built_form.specs.Built.{IsCallBuilt}
use Rattle.built_form.proofs.calls.are_calls_built.Goals as goal

pub calls-preserved : goal.calls-preserved
calls-preserved c =
    All-more (IsCallBuilt c.args.unit.now.functions) c.all_sites-site-items.result.now c.calls.site-index _ c.calls-test.true
    c.calls.invariant (c.if-not-is_call_built.ensures.0 refl)

pub returns : goal.returns
returns c =
    let all : take c.calls.site-index c.all_sites-site-items.result.now ≡ c.args.unit.now.sites =
    take_all _ _ c.calls-test.false ∙ c.all_sites-site-items.ensures.sites in
    (λ _. subst (λ (sites : List SiteInfo). All (IsCallBuilt c.args.unit.now.functions) sites) all c.calls.invariant, λ _. refl)
