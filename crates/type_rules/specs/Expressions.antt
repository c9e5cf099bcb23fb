-- What follows once the parts of an expression are known: the rule of each form (C17 6.5), over the rules of its parts.
use Rattle.std.specs.Prelude.{ℕ, List, [], ◌∷◌, ◌++◌}
use Rattle.c_tree.specs.declared.expressions.StepOperator.{StepOperator}
use Rattle.c_tree.specs.declared.expressions.StepOperator.TheVariants as written_step
use Rattle.c_tree.specs.declared.expressions.UnaryOperator.{UnaryOperator}
use Rattle.c_tree.specs.declared.expressions.UnaryOperator.TheVariants as written
use Rattle.core_unit.specs.declared.operators.ArithmeticOperator.TheVariants as arithmetic
use Rattle.core_unit.specs.declared.operators.StepValue.TheVariants.{Prefix, Postfix}
use Rattle.core_unit.specs.declared.operators.UnaryOperator.TheVariants as unary_operator
use Rattle.type_rules.specs.Access.{address, indirection, size_of_expression}
use Rattle.type_rules.specs.Assignments.{step}
use Rattle.type_rules.specs.declared.found.Found.{Found}
use Rattle.type_rules.specs.declared.found.Operand.{Operand}
use Rattle.type_rules.specs.Operands.{operand}
use Rattle.type_rules.specs.Operators.{sign_operation, negation}
use Rattle.type_rules.specs.Reading.{Rule, ◌>>=◌}

-- an operator before its operand
abbrev pub unary : ℕ → UnaryOperator → Rule Found → Rule Found
unary place written.Increment expression = step place arithmetic.Add Prefix expression
unary place written.Decrement expression = step place arithmetic.Subtract Prefix expression
unary place written.Address expression = address place expression
unary place written.Indirection expression = indirection place expression
unary place written.Plus expression = sign_operation place unary_operator.Plus expression
unary place written.Minus expression = sign_operation place unary_operator.Minus expression
unary place written.Complement expression = sign_operation place unary_operator.Complement expression
unary place written.Not expression = negation place expression
unary place written.Sizeof expression = size_of_expression place expression

-- an operator behind its operand
abbrev pub postfix : ℕ → StepOperator → Rule Found → Rule Found
postfix place written_step.Increment expression = step place arithmetic.Add Postfix expression
postfix place written_step.Decrement expression = step place arithmetic.Subtract Postfix expression

-- one more argument, behind those that were read
unfoldable pub with_argument : List Operand → Rule Found → (List Operand → Rule (List Operand)) → Rule (List Operand)
with_argument given expression rest = do
  o ← operand expression
  rest (given ++ o ∷ [])
