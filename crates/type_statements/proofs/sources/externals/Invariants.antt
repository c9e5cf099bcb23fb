-- The whole is what was read, and then the external declarations that remain.
use Rattle.std.proofs.Common.{◌≡◌, drop}
use Rattle.type_recursion.specs.Lists.{in_order}
use Rattle.type_rules.specs.Units.{externals}
use Rattle.type_statements.specs.Read.{one_external}
use Rattle.type_statements.proofs.sources.externals.Given as goal

abbrev pub invariant-each : goal.invariant-each
invariant-each l = externals l.all l.initial.typing ≡ in_order one_external (drop l.e-index l.all) tt l.typing
