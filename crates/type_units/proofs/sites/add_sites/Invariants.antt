-- The calls that are left add to what was added.
use Rattle.std.proofs.Common.{◌≡◌, ◌++◌, drop, flat_map}
use Rattle.type_units.specs.Sites.{site_at}
use Rattle.type_units.proofs.sites.add_sites.Given as goal

abbrev pub invariant-each : goal.invariant-each
invariant-each l = l.initial.sites ++ flat_map (site_at l.function) l.spots ≡ l.sites ++ flat_map (site_at l.function) (drop l.spot-index l.spots)
