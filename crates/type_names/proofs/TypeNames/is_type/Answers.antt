use Rattle.std.proofs.Common.{◌∙◌, ap, unwrap_or, false}
use Rattle.type_names.proofs.Restoring.{type_from_kind}
use Rattle.type_names.specs.Names.{declarations}
use Rattle.type_names.proofs.TypeNames.is_type.Goals as goal

pub returns : goal.returns
returns c =
    rw (← c.self.view_is)
    (c.unwrap_or.ensures
    ∙ ap (λ kind. unwrap_or kind false) (c.copied.ensures ∙ c.get.ensures.value ∙ c.self.invariant.current c.args.text.now)
    ∙ type_from_kind (declarations c.self.inside.log.items) c.args.text.now)
