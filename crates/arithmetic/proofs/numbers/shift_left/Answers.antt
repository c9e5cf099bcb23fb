use Rattle.std.proofs.Common.{arith}
use Rattle.core_unit.specs.declared.operators.Sign.TheVariants.{Signed}
use Rattle.arithmetic.specs.Numbers.{value_of}
use Rattle.arithmetic.proofs.Shifts.{shifts, overflows, too_far}
use Rattle.arithmetic.proofs.numbers.shift_left.Goals as goal
use Rattle.arithmetic.proofs.numbers.shift_left.Goals.{else-count-lt32-via-then-count-lt32+else-left-count-eq0, else-count-lt32-via-else-count-lt32}

pub returns-then-left-count-eq0 : goal.returns-then-left-count-eq0
returns-then-left-count-eq0 c = shifts c.args.left c.args.count (omega arith) (omega arith)

pub returns-else-count-lt32 : goal.returns-else-count-lt32
returns-else-count-lt32 c =
    elim c.else-count-lt32.branch [
      | else-count-lt32-via-then-count-lt32+else-left-count-eq0 w ↦ overflows c.args.left c.args.count (omega arith) (omega arith) (omega arith)
      | else-count-lt32-via-else-count-lt32 w ↦ too_far (value_of Signed c.args.left) c.args.count (omega arith)
    ]
