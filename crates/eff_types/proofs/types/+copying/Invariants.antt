-- What was copied so far is what was passed.
use Rattle.std.proofs.Common.{◌≡◌, take}
use Rattle.eff_types.proofs.types.+copying.Given as goal

abbrev pub invariant-copy_list-loop-original : goal.invariant-copy_list-loop-original
invariant-copy_list-loop-original l = l.copies ≡ take l.original-index l.originals
