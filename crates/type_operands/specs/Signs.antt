-- Whether a constant expression (C17 6.6) is a number, and of which sign, read off its form: its type need not be made for that.
use Rattle.std.specs.Prelude.{Option, Some, None, unwrap_or}
use Rattle.eff_types.specs.declared.types.CType.{CType, Char, Int, Unsigned}
use Rattle.core_unit.specs.Typing.{on_side}
use Rattle.core_unit.specs.declared.expressions.Expr as expr
use Rattle.core_unit.specs.declared.expressions.Expr.{Expr, Row_of-Expr, end_of-Expr, more_of-Expr}
use Rattle.core_unit.specs.declared.operators.BinaryOperator.{BinaryOperator}
use Rattle.core_unit.specs.declared.operators.BinaryOperator.TheVariants as binary
use Rattle.core_unit.specs.declared.operators.Sign.{Sign}
use Rattle.core_unit.specs.declared.operators.Sign.TheVariants.{Signed, Unsigned as Without}
use Rattle.core_unit.specs.declared.operators.UnaryOperator.{UnaryOperator}
use Rattle.core_unit.specs.declared.operators.UnaryOperator.TheVariants as unary
use Rattle.type_operands.specs.declared.signs.SignSource.{SignSource}
use Rattle.type_operands.specs.declared.signs.SignSource.TheVariants as source

-- the sign of a type of numbers, once they are promoted (C17 6.3.1.1)
abbrev pub number_sign : CType → Option Sign
number_sign Char = Some Signed
number_sign Int = Some Signed
number_sign Unsigned = Some Without
number_sign _ = None

abbrev pub unary_sign : UnaryOperator → Sign
unary_sign (unary.Plus sign) = sign
unary_sign (unary.Minus sign) = sign
unary_sign (unary.Complement sign) = sign
unary_sign unary.Not = Signed

-- where the result of an operator has its sign from
abbrev pub sign_source : BinaryOperator → SignSource
sign_source (binary.Arithmetic operator sign) = source.Own sign
sign_source (binary.PointerPlus side words) = on_side side source.Left source.Right
sign_source (binary.PointerMinus words) = source.Left
sign_source (binary.Difference words) = source.Own Signed
sign_source (binary.Compare operator comparands) = source.Own Signed

-- from the signs of the operands
abbrev pub sign_from : SignSource → Option Sign → Option Sign → Option Sign
sign_from (source.Own sign) left right = Some sign
sign_from source.Left left right = left
sign_from source.Right left right = right

-- The sign of a constant expression that is a number; none of another one.
unfoldable pub constant_sign : Expr → Option Sign
constant_sign (expr.Number sign bits) = Some sign
constant_sign (expr.Sizeof words) = Some Without
constant_sign (expr.Unary' operator _ e) = Some (unary_sign operator)
constant_sign (expr.Binary' operator _ (more_of-Expr a end_of-Expr) _ (more_of-Expr b end_of-Expr)) =
    sign_from (sign_source operator) (constant_sign a) (constant_sign b)
constant_sign (expr.Logical' operator _ a _ b) = Some Signed
constant_sign (expr.Conditional' _ c _ (more_of-Expr a end_of-Expr) _ b) = constant_sign a
constant_sign (expr.Convert' why to _ e) = number_sign to
constant_sign _ = None

-- what the sign of an operand counts as where the operand is a number
abbrev pub sign_or_signed : Option Sign → Sign
sign_or_signed sign = unwrap_or sign Signed
