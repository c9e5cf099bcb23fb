-- Assignments, `++` and `--` (C17 6.5.16, 6.5.2.4 and 6.5.3.1). At the left side, of the rules that fail the lowest is answered.
use Rattle.std.specs.Prelude.{ℕ, Bool, true, false, not, ◌&&◌, ◌||◌, if◌then◌else◌, Option, Some, None}
use Rattle.eff_types.specs.Types.{is_number, is_data_pointer, is_void}
use Rattle.eff_types.specs.declared.types.CType.{CType}
use Rattle.c_tree.specs.declared.expressions.AssignmentOperator.{AssignmentOperator}
use Rattle.c_tree.specs.declared.expressions.AssignmentOperator.TheVariants as written
use Rattle.core_unit.specs.Shapes.{target_of, is_scalar, sign_of}
use Rattle.core_unit.specs.Typed.{is_shift}
use Rattle.core_unit.specs.declared.expressions.Expr.TheVariants as expr
use Rattle.core_unit.specs.declared.operators.ArithmeticOperator.{ArithmeticOperator}
use Rattle.core_unit.specs.declared.operators.ArithmeticOperator.TheVariants as arithmetic
use Rattle.core_unit.specs.declared.operators.Sign.{Sign}
use Rattle.core_unit.specs.declared.operators.StepValue.{StepValue}
use Rattle.core_unit.specs.declared.operators.StepValue.TheVariants.{Prefix, Postfix}
use Rattle.core_unit.specs.declared.operators.Update.{Update}
use Rattle.core_unit.specs.declared.operators.Update.TheVariants as update
use Rattle.type_rules.specs.Conversions.{converted}
use Rattle.type_rules.specs.declared.found.Found.{Found}
use Rattle.type_rules.specs.declared.found.Operand.{Operand}
use Rattle.type_rules.specs.declared.found.Pair.{Pair}
use Rattle.type_rules.specs.declared.found.Pair.TheVariants.{PointerFirst, PointerSecond, Pointers}
use Rattle.type_rules.specs.Operands.{operand, found_value, promoted, in_sign, is_whole, lvalue}
use Rattle.core_unit.specs.Typed.{common}
use Rattle.type_rules.specs.Operators.{pair_of, stride}
use Rattle.type_rules.specs.Reading.{Rule, gives, fails, refused, ◌>>=◌, ◌>>◌}

-- `=`: of a scalar that is designated, to which the right side converts.
unfoldable pub plain_assignment : ℕ → Found → Operand → Rule Found
plain_assignment place left o = do
  refused (not (is_scalar left.kind)) 3 left.place
  target ← lvalue left
  v ← converted left.kind o
  gives (found_value place left.kind (expr.Assign target v.node))

abbrev pub is_additive : ArithmeticOperator → Bool
is_additive arithmetic.Add = true
is_additive arithmetic.Subtract = true
is_additive _ = false

-- the pointer of an addition or a subtraction that C has, and whether the result is again such a pointer
abbrev pub moved_pointer : ArithmeticOperator → CType → CType → Pair → Option CType
moved_pointer operator t u PointerFirst = if is_additive operator then Some t else None
moved_pointer arithmetic.Add t u PointerSecond = Some u
moved_pointer arithmetic.Subtract t u Pointers = Some t
moved_pointer operator t u _ = None

abbrev pub is_moved : Option CType → Bool
is_moved (Some pointer) = not (is_void (target_of pointer))
is_moved None = false

abbrev pub is_pointer_first : Pair → Bool
is_pointer_first PointerFirst = true
is_pointer_first _ = false

abbrev pub moved_by : ArithmeticOperator → ℕ → Update
moved_by arithmetic.Subtract words = update.Backward words
moved_by _ words = update.Forward words

abbrev pub stride_of : ℕ → Option CType → Rule ℕ
stride_of place (Some pointer) = stride place pointer
stride_of place None = fails 3 place

-- The old value takes the sign of the operation, which of a shift is its own (C17 6.5.16.2).
abbrev pub update_sign : ArithmeticOperator → CType → CType → Sign
update_sign operator t u = if is_shift operator then sign_of t else common (sign_of t) (sign_of u)

abbrev pub update_operand : ArithmeticOperator → Sign → Operand → Operand
update_operand operator sign o = if is_shift operator then promoted o else in_sign sign o

unfoldable pub number_update : ℕ → ArithmeticOperator → Found → Operand → Rule Found
number_update place operator left o = do
  target ← lvalue left
  gives (found_value place left.kind (expr.Compound target (update.Arithmetic operator (update_sign operator left.kind o.kind))
      (update_operand operator (update_sign operator left.kind o.kind) o).node))

-- A pointer moves. That the sum of a number and a pointer, or the difference of two pointers, isn't converted back is the last fault.
unfoldable pub pointer_update : ℕ → ArithmeticOperator → Found → Operand → Rule Found
pointer_update place operator left o = do
  refused (not (is_moved (moved_pointer operator left.kind o.kind (pair_of left.kind o.kind)))) 3 left.place
  target ← lvalue left
  words ← stride_of left.place (moved_pointer operator left.kind o.kind (pair_of left.kind o.kind))
  refused (not (is_pointer_first (pair_of left.kind o.kind))) 11 left.place
  gives (found_value place left.kind (expr.Compound target (moved_by operator words) (promoted o).node))

-- `op=`: as the operator, and then the result is converted to the type of the left side.
unfoldable pub compound_assignment : ℕ → ArithmeticOperator → Found → Operand → Rule Found
compound_assignment place operator left o =
    if is_number left.kind && is_number o.kind then number_update place operator left o else pointer_update place operator left o

abbrev pub assigned_by : ℕ → AssignmentOperator → Found → Operand → Rule Found
assigned_by place written.Plain left o = plain_assignment place left o
assigned_by place written.Multiply left o = compound_assignment place arithmetic.Multiply left o
assigned_by place written.Divide left o = compound_assignment place arithmetic.Divide left o
assigned_by place written.Remainder left o = compound_assignment place arithmetic.Remainder left o
assigned_by place written.Add left o = compound_assignment place arithmetic.Add left o
assigned_by place written.Subtract left o = compound_assignment place arithmetic.Subtract left o
assigned_by place written.LeftShift left o = compound_assignment place arithmetic.LeftShift left o
assigned_by place written.RightShift left o = compound_assignment place arithmetic.RightShift left o
assigned_by place written.And left o = compound_assignment place arithmetic.And left o
assigned_by place written.ExclusiveOr left o = compound_assignment place arithmetic.ExclusiveOr left o
assigned_by place written.Or left o = compound_assignment place arithmetic.Or left o

-- A structure or a mutex on the left is refused before the right side is read.
abbrev pub left_side : Found → Rule (Unit {0})
left_side left = refused (is_whole left.kind) 3 left.place

unfoldable pub assignment : ℕ → AssignmentOperator → Rule Found → Rule Found → Rule Found
assignment place operator left_read right_read = do
  left ← left_read
  left_side left
  o ← operand right_read
  assigned_by place operator left o

-- `++` and `--`: of a number or a data pointer that is designated.
abbrev pub is_stepped : CType → Bool
is_stepped t = is_number t || (is_data_pointer t && not (is_void (target_of t)))

unfoldable pub step_update : ℕ → ArithmeticOperator → CType → Rule Update
step_update place operator t =
    if is_number t then gives (update.Arithmetic operator (sign_of t))
    else (do
      words ← stride place t
      gives (moved_by operator words))

-- before its operand: what is asked of the whole operation, which begins there, comes first
abbrev pub stepped_as : ℕ → ArithmeticOperator → StepValue → Found → Rule Found
stepped_as place operator Prefix f = do
  how ← step_update place operator f.kind
  target ← lvalue f
  gives (found_value place f.kind (expr.Step target how Prefix))
stepped_as place operator Postfix f = do
  target ← lvalue f
  how ← step_update place operator f.kind
  gives (found_value place f.kind (expr.Step target how Postfix))

abbrev pub stepped : ℕ → ArithmeticOperator → StepValue → Found → Rule Found
stepped place operator value f = do
  refused (is_whole f.kind) 3 f.place
  refused (not (is_stepped f.kind)) 3 place
  stepped_as place operator value f

unfoldable pub step : ℕ → ArithmeticOperator → StepValue → Rule Found → Rule Found
step place operator value expression = do
  f ← expression
  stepped place operator value f
