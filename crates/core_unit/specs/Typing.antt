-- The type of an expression, told by its form alone (C17 6.5).
use Rattle.std.specs.Prelude.{Option}
use Rattle.eff_types.specs.declared.types.FnType.{FnType}
use Rattle.eff_types.specs.declared.types.CType.{CType, Void, Char, Int, Unsigned, Struct}
use Rattle.core_unit.specs.Library.{row_type}
use Rattle.core_unit.specs.Shapes.{callee_of, result_of, target_of, element_of, pointer_to, array_of, number_type}
use Rattle.core_unit.specs.declared.expressions.Expr as expr
use Rattle.core_unit.specs.declared.expressions.Expr.{Expr, Row_of-Expr, end_of-Expr, more_of-Expr, Row_of-Place, end_of-Place, more_of-Place}
use Rattle.core_unit.specs.declared.expressions.Place as place
use Rattle.core_unit.specs.declared.expressions.Place.{Place}
use Rattle.core_unit.specs.declared.operators.BinaryOperator.{BinaryOperator}
use Rattle.core_unit.specs.declared.operators.BinaryOperator.TheVariants as binary
use Rattle.core_unit.specs.declared.operators.PointerSide.{PointerSide}
use Rattle.core_unit.specs.declared.operators.PointerSide.TheVariants.{Left, Right}
use Rattle.core_unit.specs.declared.operators.UnaryOperator.{UnaryOperator}
use Rattle.core_unit.specs.declared.operators.UnaryOperator.TheVariants as unary

abbrev pub on_side : {A : Type 0} → PointerSide → A → A → A
on_side Left a b = a
on_side Right a b = b

abbrev pub unary_type : UnaryOperator → CType
unary_type (unary.Plus sign) = number_type sign
unary_type (unary.Minus sign) = number_type sign
unary_type (unary.Complement sign) = number_type sign
unary_type unary.Not = Int

-- of the types of the two operands
abbrev pub binary_type : BinaryOperator → CType → CType → CType
binary_type (binary.Arithmetic operator sign) t u = number_type sign
binary_type (binary.PointerPlus side words) t u = on_side side t u
binary_type (binary.PointerMinus words) t u = t
binary_type (binary.Difference words) t u = Int
binary_type (binary.Compare operator comparands) t u = Int

-- The function type by which an expression is called, from its own type. A library function is known by its row.
abbrev pub called_as : Expr → CType → Option FnType
called_as (expr.LibraryFunction row) t = row_type row
called_as _ t = callee_of t

unfoldable mutual
  pub place_type : Place → CType
  place_type (place.Variable at storage t) = t
  place_type (place.Text at words) = array_of Char words
  place_type (place.Indirection' _ e t) = t
  place_type (place.Arrow' _ e k) = Struct k
  place_type (place.Element' _ a _ b side words t) = t
  place_type (place.Member' _ p offset t) = t

  pub type_of : Expr → CType
  type_of (expr.Number sign bits) = number_type sign
  type_of expr.Null = pointer_to Void
  type_of (expr.Sizeof words) = Unsigned
  type_of (expr.Function f t) = t
  type_of (expr.LibraryFunction row) = Void
  type_of (expr.TargetFunction' _ (more_of-Expr e end_of-Expr)) = target_of (type_of e)
  type_of (expr.FunctionPointer' _ (more_of-Expr e end_of-Expr)) = pointer_to (type_of e)
  type_of (expr.ArrayPointer' _ (more_of-Place p end_of-Place)) = pointer_to (element_of (place_type p))
  type_of (expr.AddressOf' _ (more_of-Place p end_of-Place)) = pointer_to (place_type p)
  type_of (expr.Load' _ (more_of-Place p end_of-Place)) = place_type p
  type_of (expr.Assign' _ (more_of-Place p end_of-Place) _ e) = place_type p
  type_of (expr.Compound' _ (more_of-Place p end_of-Place) update _ e) = place_type p
  type_of (expr.Step' _ (more_of-Place p end_of-Place) update value) = place_type p
  type_of (expr.Unary' operator _ e) = unary_type operator
  type_of (expr.Binary' operator _ (more_of-Expr a end_of-Expr) _ (more_of-Expr b end_of-Expr)) = binary_type operator (type_of a) (type_of b)
  type_of (expr.Logical' operator _ a _ b) = Int
  type_of (expr.Conditional' _ c _ (more_of-Expr a end_of-Expr) _ b) = type_of a
  type_of (expr.Comma' _ a _ (more_of-Expr b end_of-Expr)) = type_of b
  type_of (expr.Call' at site _ (more_of-Expr c end_of-Expr) _ arguments) = result_of (called_as c (type_of c))
  type_of (expr.Convert' cause t _ e) = t
  type_of (expr.Discard' _ e) = Void
