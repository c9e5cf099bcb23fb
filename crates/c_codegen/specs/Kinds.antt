-- What kind of code an expression has, by its form.
use Rattle.std.specs.Prelude.{ℕ, List}
use Rattle.arithmetic.specs.Values.{number}
use Rattle.core_unit.specs.Shapes.{level_of}
use Rattle.core_unit.specs.declared.expressions.Expr.{Expr}
use Rattle.core_unit.specs.declared.expressions.Expr.TheVariants as expr
use Rattle.core_unit.specs.declared.expressions.Place.{Place}
use Rattle.core_unit.specs.declared.operators.BinaryOperator.{BinaryOperator}
use Rattle.core_unit.specs.declared.operators.Cause.{Cause}
use Rattle.core_unit.specs.declared.operators.LogicalOperator.{LogicalOperator}
use Rattle.core_unit.specs.declared.operators.Sign.{Sign}
use Rattle.core_unit.specs.declared.operators.StepValue.{StepValue}
use Rattle.core_unit.specs.declared.operators.UnaryOperator.{UnaryOperator}
use Rattle.core_unit.specs.declared.operators.Update.{Update}
use Rattle.core_unit.specs.declared.words.Word.{Word}
use Rattle.core_unit.specs.declared.words.Word.TheVariants as word
use Rattle.eff_types.specs.declared.types.CType.{CType}
use Rattle.c_codegen.specs.declared.kinds.Kind.{Kind}
use Rattle.c_codegen.specs.declared.kinds.Kind.TheVariants.{Constant, Operands, Operation, Assignment, Choice, Call}

-- one instruction, which tells this word
pub data IsConstant : Expr → Word → Type 0 where
  a_number : (sign : Sign) (bits : ℕ) → IsConstant (expr.Number sign bits) (number bits)
  a_null : IsConstant expr.Null word.Zero
  a_size : (words : ℕ) → IsConstant (expr.Sizeof words) (number words)
  a_function : (function : ℕ) (t : CType) → IsConstant (expr.Function function t) (word.FunctionPointer function (level_of t))
  a_library_function : (row : ℕ) → IsConstant (expr.LibraryFunction row) word.Zero

-- the code of operands alone
pub data IsOfOperands : Expr → Type 0 where
  a_target_function : (e : Expr) → IsOfOperands (expr.TargetFunction e)
  a_function_pointer : (e : Expr) → IsOfOperands (expr.FunctionPointer e)
  an_array_pointer : (o : Place) → IsOfOperands (expr.ArrayPointer o)
  an_address : (o : Place) → IsOfOperands (expr.AddressOf o)
  a_comma : (a b : Expr) → IsOfOperands (expr.Comma a b)
  a_conversion : (why : Cause) (t : CType) (e : Expr) → IsOfOperands (expr.Convert why t e)
  a_discard : (e : Expr) → IsOfOperands (expr.Discard e)

-- operands, and what is done with their values
pub data IsOperation : Expr → Type 0 where
  a_load : (o : Place) → IsOperation (expr.Load o)
  a_unary : (operator : UnaryOperator) (e : Expr) → IsOperation (expr.Unary operator e)
  a_binary : (operator : BinaryOperator) (a b : Expr) → IsOperation (expr.Binary operator a b)

-- a place, and what is stored there
pub data IsAssignment : Expr → Type 0 where
  an_assignment : (o : Place) (e : Expr) → IsAssignment (expr.Assign o e)
  a_compound : (o : Place) (how : Update) (e : Expr) → IsAssignment (expr.Compound o how e)
  a_step : (o : Place) (how : Update) (which : StepValue) → IsAssignment (expr.Step o how which)

-- operands, of which the value of the first decides which are evaluated
pub data IsChoice : Expr → Type 0 where
  a_logical : (operator : LogicalOperator) (a b : Expr) → IsChoice (expr.Logical operator a b)
  a_conditional : (t a b : Expr) → IsChoice (expr.Conditional t a b)

pub data IsCall : Expr → Type 0 where
  a_call : (at site : ℕ) (e : Expr) (es : List Expr) → IsCall (expr.Call at site e es)

abbrev pub IsOfKind : Expr → Kind → Type 0
IsOfKind e (Constant w) = IsConstant e w
IsOfKind e Operands = IsOfOperands e
IsOfKind e Operation = IsOperation e
IsOfKind e Assignment = IsAssignment e
IsOfKind e Choice = IsChoice e
IsOfKind e Call = IsCall e
