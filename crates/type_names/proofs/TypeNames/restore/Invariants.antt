use Rattle.std.proofs.Common.{◌≡◌, ◌-◌, length, drop}
use Rattle.type_names.proofs.TypeNames.restore.Given as goal

abbrev pub invariant-each : goal.invariant-each
invariant-each l = drop (length l.self - l.count) l.self ≡ drop (length l.fn.self - l.count) l.fn.self

abbrev pub decreases-each : goal.decreases-each
decreases-each l = length l.self
