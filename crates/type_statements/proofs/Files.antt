-- The external declarations of a source, one by one.
use Rattle.std.proofs.Common.{◌≡◌, refl, List, [], ◌∷◌}
use Rattle.c_tree.specs.declared.statements.External.{External}
use Rattle.type_recursion.proofs.Continued.{then_alike}
use Rattle.type_recursion.specs.Lists.{in_order}
use Rattle.type_rules.specs.Seen.{Seen}
use Rattle.type_rules.specs.Units.{external_read, externals}
use Rattle.type_statements.specs.Read.{one_external}

pub externals-order : (es : List External) (s : Seen) → externals es s ≡ in_order one_external es tt s
unfolding in_order one_external
externals-order [] s = refl
externals-order (e ∷ es) s = then_alike (external_read e s) _ _ (λ done t. externals-order es t)

pub ruleset external_rules = (externals-order)
