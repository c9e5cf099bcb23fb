use Rattle.std.proofs.Common.{◌≡◌, pos, ◌+ℤ◌, to_z, of_z, arith}
use Rattle.std.proofs.lemmas.Int.{ints}
use Rattle.std.specs.Int.{w128}
use Rattle.arithmetic.proofs.Moved.{moved_is}
use Rattle.arithmetic.proofs.pointers.moved.Goals as goal

pub returns-then-distance-start : goal.returns-then-distance-start
returns-then-distance-start c =
    let there : to_z w128 (of_z w128 (to_z w128 c.args.address +ℤ to_z w128 (of_z w128 c.args.distance))) ≡ pos c.args.address +ℤ c.args.distance =
    omega (arith, ints) in
    moved_is c.args.address c.args.distance _ there (omega (arith, ints)) (omega (arith, ints)) (omega (arith, ints))
