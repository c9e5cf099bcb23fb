-- What may still be opened. Expressions and declarators go before what holds them at the same place.
use Rattle.std.proofs.Common.{◌+◌, ◌*◌}
use Rattle.parse_recursion.proofs.+nested.Given as goal

abbrev pub decreases-expression : goal.decreases-expression
decreases-expression l = 2 * (l.limits.opens + l.limits.room)

abbrev pub decreases-declarator : goal.decreases-declarator
decreases-declarator l = 2 * (l.limits.opens + l.limits.room)

abbrev pub decreases-conditional : goal.decreases-conditional
decreases-conditional l = 2 * (l.limits.opens + l.limits.room) + 1

abbrev pub decreases-type_name : goal.decreases-type_name
decreases-type_name l = 2 * (l.limits.opens + l.limits.room) + 1

abbrev pub decreases-members : goal.decreases-members
decreases-members l = 2 * (l.limits.opens + l.limits.room) + 1
