use Rattle.std.proofs.Common.{drop}
use Rattle.built_form.proofs.Sites.{Resolving}
use Rattle.built_form.proofs.unit.unit.Given as goal

abbrev pub invariant-items : goal.invariant-items
invariant-items l =
    Resolving l.source l.items l.builder.scope l.builder.functions l.builder.sites (drop l.item-index l.items)
