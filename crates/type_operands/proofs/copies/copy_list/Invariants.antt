-- What was copied so far is what was passed.
use Rattle.std.proofs.Common.{◌≡◌, take}
use Rattle.type_operands.proofs.copies.copy_list.Given as goal

abbrev pub invariant-each : goal.invariant-each
invariant-each l = l.copies ≡ take l.kind-index l.kinds
