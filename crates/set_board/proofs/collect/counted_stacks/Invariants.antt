use Rattle.std.proofs.Common.{◌≡◌, take}
use Rattle.std.specs.List.{flat_map}
use Rattle.set_board.specs.Tallies.{stacks_of}
use Rattle.set_board.proofs.collect.counted_stacks.Given as goal

abbrev pub invariant-each : goal.invariant-each
invariant-each l = l.stacks ≡ flat_map stacks_of (take l.entry-index l.paths)
