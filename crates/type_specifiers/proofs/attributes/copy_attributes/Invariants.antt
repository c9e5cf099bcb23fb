-- The attributes so far.
use Rattle.std.proofs.Common.{◌≡◌, take}
use Rattle.type_specifiers.proofs.attributes.copy_attributes.Given as goal

abbrev pub invariant-each : goal.invariant-each
invariant-each l = l.copies ≡ take l.attribute-index l.attributes
