use Rattle.std.proofs.Common.{arith}
use Rattle.command.proofs.Decimals.{power_at_most}
use Rattle.command.proofs.forms.value_of.Goals as goal

pub overflow_mul-value : goal.overflow_mul-value
overflow_mul-value c = let bound = power_at_most c.loop-digit.digit-index (omega arith) in omega (arith, bound)
