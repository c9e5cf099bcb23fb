-- What operators make of constant operands (C17 6.6), both of which are evaluated.
use Rattle.arithmetic.specs.Values.{applied, applied_to}
use Rattle.arithmetic.specs.declared.operations.Operation.{Operation}
use Rattle.core_unit.specs.declared.operators.UnaryOperator.{UnaryOperator}
use Rattle.type_rules.specs.Constants.{outcome, of_one, of_both}
use Rattle.type_rules.specs.declared.found.Worth.{Worth}

unfoldable pub of_unary : UnaryOperator → Worth → Worth
of_unary operator operand = of_one (λ a. outcome (applied_to operator a)) operand

unfoldable pub of_binary : Operation → Worth → Worth → Worth
of_binary operation left right = of_both (λ a b. outcome (applied operation a b)) left right
