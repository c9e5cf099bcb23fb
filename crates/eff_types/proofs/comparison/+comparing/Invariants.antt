-- The least likeness so far, and what is still to be compared, give the likeness of the lists.
use Rattle.std.proofs.Common.{◌≡◌, length, drop}
use Rattle.eff_types.specs.Comparison.{less_alike, each_likeness}
use Rattle.eff_types.proofs.comparison.+comparing.Given as goal

abbrev pub invariant-list_likeness-loop-i : goal.invariant-list_likeness-loop-i
invariant-list_likeness-loop-i l =
    (length l.a ≡ length l.b) × (each_likeness l.a l.b ≡ less_alike l.least (each_likeness (drop l.i l.a) (drop l.i l.b)))
