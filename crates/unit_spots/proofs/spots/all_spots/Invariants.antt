-- The functions so far.
use Rattle.std.proofs.Common.{◌≡◌, map, take}
use Rattle.unit_spots.specs.Spots.{spots_of}
use Rattle.unit_spots.proofs.spots.all_spots.Given as goal

abbrev pub invariant-each : goal.invariant-each
invariant-each l = l.all.items ≡ map (λ f. spots_of f.body) (take l.function-index l.functions)
