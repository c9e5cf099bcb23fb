-- The calls of the definitions that are left add to what was added.
use Rattle.std.proofs.Common.{◌≡◌, ◌++◌, drop}
use Rattle.type_units.specs.Sites.{all_sites}
use Rattle.type_units.proofs.sites.sites_of.Given as goal

abbrev pub invariant-each : goal.invariant-each
invariant-each l = all_sites l.functions l.definitions ≡ l.sites ++ all_sites l.functions (drop l.function-index l.definitions)
