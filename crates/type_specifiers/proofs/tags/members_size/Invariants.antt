-- The size of the members so far.
use Rattle.std.proofs.Common.{◌≡◌, ◌%◌, ◌^◌, take, map, sum}
use Rattle.type_rules.specs.Sizes.{size_of}
use Rattle.type_specifiers.proofs.tags.members_size.Given as goal

abbrev pub invariant-each : goal.invariant-each
invariant-each l = l.size ≡ sum (map (λ m. size_of l.sizes m.kind) (take l.member-index l.members)) % 2 ^ 32
