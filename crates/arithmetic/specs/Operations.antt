-- The operation of an operator or of an assignment, from the signs of its operands (C17 6.5.6 and 6.5.16.2). An operand that is no number has no
-- sign, and none is asked of it.
use Rattle.core_unit.specs.Typing.{on_side}
use Rattle.core_unit.specs.declared.operators.BinaryOperator.{BinaryOperator}
use Rattle.core_unit.specs.declared.operators.BinaryOperator.TheVariants as binary
use Rattle.core_unit.specs.declared.operators.PointerSide.TheVariants.{Left}
use Rattle.core_unit.specs.declared.operators.Sign.{Sign}
use Rattle.core_unit.specs.declared.operators.Update.{Update}
use Rattle.core_unit.specs.declared.operators.Update.TheVariants as update
use Rattle.arithmetic.specs.declared.operations.Direction.TheVariants.{Forward, Backward}
use Rattle.arithmetic.specs.declared.operations.Operation.{Operation}
use Rattle.arithmetic.specs.declared.operations.Operation.TheVariants.{Arithmetic, Compare, Move, Difference}

abbrev pub operation_of : BinaryOperator → Sign → Sign → Operation
operation_of (binary.Arithmetic operator sign) left right = Arithmetic operator sign
operation_of (binary.PointerPlus side words) left right = Move Forward side (on_side side right left) words
operation_of (binary.PointerMinus words) left right = Move Backward Left right words
operation_of (binary.Difference words) left right = Difference words
operation_of (binary.Compare operator comparands) left right = Compare operator comparands

-- on the old value of a place and an operand of this sign
abbrev pub operation_of_update : Update → Sign → Operation
operation_of_update (update.Arithmetic operator sign) operand = Arithmetic operator sign
operation_of_update (update.Forward words) operand = Move Forward Left operand words
operation_of_update (update.Backward words) operand = Move Backward Left operand words
