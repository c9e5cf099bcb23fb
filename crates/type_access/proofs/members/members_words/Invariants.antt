-- The words of the members so far.
use Rattle.std.proofs.Common.{◌≡◌, take}
use Rattle.core_unit.specs.Layout.{members_words}
use Rattle.type_access.proofs.members.members_words.Given as goal

abbrev pub invariant-each : goal.invariant-each
invariant-each l = l.total ≡ members_words l.structures (take l.member-index l.members)
