-- Operators on values (C17 6.5.3.3 and 6.5.5 to 6.5.17). Their operands are read from the left, and then asked; a wrong operand is refused at the
-- first token of the whole operation.
use Rattle.std.specs.Prelude.{ℕ, Bool, not, ◌&&◌, if◌then◌else◌, Option, Some, None}
use Rattle.eff_types.specs.Effects.{shared}
use Rattle.eff_types.specs.Types.{is_number, is_void, is_pointer, is_function_pointer, is_data_pointer, is_void_pointer, same, same_outside, target_effects}
use Rattle.eff_types.specs.declared.types.CType.{CType, Void, Int, Function', Pointer', end_of-CType, more_of-CType}
use Rattle.c_tree.specs.declared.expressions.BinaryOperator.{BinaryOperator}
use Rattle.c_tree.specs.declared.expressions.BinaryOperator.TheVariants as written
use Rattle.core_unit.specs.Layout.{words_of}
use Rattle.core_unit.specs.Shapes.{target_of, pointer_to, is_scalar, number_type, sign_of}
use Rattle.core_unit.specs.declared.expressions.Expr.TheVariants as expr
use Rattle.core_unit.specs.declared.operators.ArithmeticOperator.{ArithmeticOperator}
use Rattle.core_unit.specs.declared.operators.ArithmeticOperator.TheVariants as arithmetic
use Rattle.core_unit.specs.declared.operators.BinaryOperator.TheVariants as binary
use Rattle.core_unit.specs.declared.operators.Cause.TheVariants as cause
use Rattle.core_unit.specs.declared.operators.Comparands.{Comparands}
use Rattle.core_unit.specs.declared.operators.Comparands.TheVariants as comparands
use Rattle.core_unit.specs.declared.operators.ComparisonOperator.{ComparisonOperator}
use Rattle.core_unit.specs.declared.operators.ComparisonOperator.TheVariants as comparison
use Rattle.core_unit.specs.declared.operators.LogicalOperator.{LogicalOperator}
use Rattle.core_unit.specs.declared.operators.LogicalOperator.TheVariants as logical
use Rattle.core_unit.specs.declared.operators.PointerSide.TheVariants.{Left, Right}
use Rattle.core_unit.specs.declared.operators.Sign.{Sign}
use Rattle.core_unit.specs.declared.operators.UnaryOperator.{UnaryOperator}
use Rattle.core_unit.specs.declared.operators.UnaryOperator.TheVariants as unary
use Rattle.type_rules.specs.Constants.{is_null_constant}
use Rattle.type_rules.specs.Conversions.{null_cause}
use Rattle.type_rules.specs.declared.found.Found.{Found}
use Rattle.type_rules.specs.declared.found.Operand.{Operand}
use Rattle.type_rules.specs.declared.found.Pair.{Pair}
use Rattle.type_rules.specs.declared.found.Pair.TheVariants.{Numbers, PointerFirst, PointerSecond, Pointers, Others}
use Rattle.type_rules.specs.Operands.{operand, found_value, turned, promoted, in_sign, common_sign}
use Rattle.type_rules.specs.Reading.{Rule, gives, fails, refused, seen, ◌>>=◌, ◌>>◌}
use Rattle.type_rules.specs.Types.{is_incomplete}

-- what two operands are together, by their types
unfoldable pub pair_of : CType → CType → Pair
pair_of t u =
    if is_number t && is_number u then Numbers
    else if is_data_pointer t && is_number u then PointerFirst
    else if is_number t && is_data_pointer u then PointerSecond
    else if is_data_pointer t && same t u then Pointers
    else Others

-- The words of an object over which a pointer moves: none of `void`, and none of an incomplete structure (C17 6.5.6).
unfoldable pub stride : ℕ → CType → Rule ℕ
stride place pointer = do
  refused (is_void (target_of pointer)) 3 place
  s ← seen
  refused (is_incomplete s.structures (target_of pointer)) 10 place
  gives (words_of s.structures (target_of pointer))

-- Two numbers take the sign that they have in common (C17 6.3.1.8).
abbrev pub calculated : ℕ → ArithmeticOperator → Sign → Operand → Operand → Found
calculated place operator sign a b =
    found_value place (number_type sign) (expr.Binary (binary.Arithmetic operator sign) (in_sign sign a).node (in_sign sign b).node)

-- `*`, `/`, `%`, `&`, `^` and `|` (C17 6.5.5 and 6.5.10 to 6.5.12): of two numbers.
unfoldable pub arithmetic_on : ℕ → ArithmeticOperator → Operand → Operand → Rule Found
arithmetic_on place operator a b = do
  refused (not (is_number a.kind && is_number b.kind)) 3 place
  gives (calculated place operator (common_sign a b) a b)

-- `<<` and `>>` (C17 6.5.7): of two numbers, each promoted by itself; the result has the type of the left one.
unfoldable pub shift_on : ℕ → ArithmeticOperator → Operand → Operand → Rule Found
shift_on place operator a b = do
  refused (not (is_number a.kind && is_number b.kind)) 3 place
  gives (found_value place (number_type (sign_of a.kind))
      (expr.Binary (binary.Arithmetic operator (sign_of a.kind)) (promoted a).node (promoted b).node))

-- `+` (C17 6.5.6): of two numbers, or of a data pointer and a number in either order.
abbrev pub added_as : ℕ → Operand → Operand → Pair → Rule Found
added_as place a b Numbers = gives (calculated place arithmetic.Add (common_sign a b) a b)
added_as place a b PointerFirst = do
  words ← stride place a.kind
  gives (found_value place a.kind (expr.Binary (binary.PointerPlus Left words) a.node (promoted b).node))
added_as place a b PointerSecond = do
  words ← stride place b.kind
  gives (found_value place b.kind (expr.Binary (binary.PointerPlus Right words) (promoted a).node b.node))
added_as place a b _ = fails 3 place

-- `-` (C17 6.5.6): of two numbers, of a number from a data pointer, or of two data pointers of one type, which gives an `int`.
abbrev pub subtracted_as : ℕ → Operand → Operand → Pair → Rule Found
subtracted_as place a b Numbers = gives (calculated place arithmetic.Subtract (common_sign a b) a b)
subtracted_as place a b PointerFirst = do
  words ← stride place a.kind
  gives (found_value place a.kind (expr.Binary (binary.PointerMinus words) a.node (promoted b).node))
subtracted_as place a b Pointers = do
  words ← stride place a.kind
  gives (found_value place Int (expr.Binary (binary.Difference words) a.node b.node))
subtracted_as place a b _ = fails 3 place

-- a comparison, which is an `int`
abbrev pub compared : ℕ → ComparisonOperator → Comparands → Operand → Operand → Found
compared place operator what a b = found_value place Int (expr.Binary (binary.Compare operator what) a.node b.node)

abbrev pub numbers_compared : ℕ → ComparisonOperator → Sign → Operand → Operand → Found
numbers_compared place operator sign a b = compared place operator (comparands.Numbers sign) (in_sign sign a) (in_sign sign b)

-- `<`, `>`, `<=` and `>=` (C17 6.5.8): of two numbers, or of two data pointers of one type.
abbrev pub ordered_as : ℕ → ComparisonOperator → Operand → Operand → Pair → Rule Found
ordered_as place operator a b Numbers = gives (numbers_compared place operator (common_sign a b) a b)
ordered_as place operator a b Pointers = gives (compared place operator comparands.DataPointers a b)
ordered_as place operator a b _ = fails 3 place

abbrev pub pointers_of : CType → Comparands
pointers_of t = if is_function_pointer t then comparands.FunctionPointers else comparands.DataPointers

-- an operand in the type that it has in common with another
abbrev pub brought : CType → Operand → Operand
brought to o = if same o.kind to then o else turned (null_cause cause.Implicit o.kind to) to o

-- two pointers, both in this type
abbrev pub pointers_compared : ℕ → ComparisonOperator → CType → Operand → Operand → Found
pointers_compared place operator t a b = compared place operator (pointers_of t) (brought t a) (brought t b)

-- The type in which two pointers are compared: the one that both have, that of the one beside a null constant, or `void *`.
unfoldable pub pointer_in_common : Operand → Operand → Option CType
pointer_in_common a b =
    if is_pointer a.kind && same a.kind b.kind then Some a.kind
    else if is_pointer a.kind && is_null_constant b then Some a.kind
    else if is_null_constant a && is_pointer b.kind then Some b.kind
    else if is_data_pointer a.kind && is_void_pointer b.kind then Some b.kind
    else if is_void_pointer a.kind && is_data_pointer b.kind then Some a.kind
    else None

abbrev pub alike_outside : CType → CType → Bool
alike_outside t u = is_function_pointer t && is_function_pointer u && same_outside t u

-- `==` and `!=` (C17 6.5.9): of two numbers; of two pointers of one type, a pointer and null, or a data pointer and `void *`; of two pointers to
-- functions that are equal up to outer effects, which are compared as they are.
abbrev pub pointers_equated : ℕ → ComparisonOperator → Operand → Operand → Option CType → Rule Found
pointers_equated place operator a b (Some t) = gives (pointers_compared place operator t a b)
pointers_equated place operator a b None = do
  refused (not (alike_outside a.kind b.kind)) 3 place
  gives (compared place operator comparands.FunctionPointers a b)

unfoldable pub equality_on : ℕ → ComparisonOperator → Operand → Operand → Rule Found
equality_on place operator a b =
    if is_number a.kind && is_number b.kind then gives (numbers_compared place operator (common_sign a b) a b)
    else pointers_equated place operator a b (pointer_in_common a b)

-- `&&` and `||` (C17 6.5.13 and 6.5.14): of numbers and pointers.
unfoldable pub logical_on : ℕ → LogicalOperator → Operand → Operand → Rule Found
logical_on place operator a b = do
  refused (not (is_scalar a.kind && is_scalar b.kind)) 3 place
  gives (found_value place Int (expr.Logical operator (promoted a).node (promoted b).node))

-- `,` (C17 6.5.17)
abbrev pub comma_on : ℕ → Operand → Operand → Found
comma_on place a b = found_value place b.kind (expr.Comma a.node b.node)

abbrev pub operation_on : ℕ → BinaryOperator → Operand → Operand → Rule Found
operation_on place written.Comma a b = gives (comma_on place a b)
operation_on place written.LogicalOr a b = logical_on place logical.Or a b
operation_on place written.LogicalAnd a b = logical_on place logical.And a b
operation_on place written.Or a b = arithmetic_on place arithmetic.Or a b
operation_on place written.ExclusiveOr a b = arithmetic_on place arithmetic.ExclusiveOr a b
operation_on place written.And a b = arithmetic_on place arithmetic.And a b
operation_on place written.Equal a b = equality_on place comparison.Equal a b
operation_on place written.NotEqual a b = equality_on place comparison.NotEqual a b
operation_on place written.Less a b = ordered_as place comparison.Less a b (pair_of a.kind b.kind)
operation_on place written.Greater a b = ordered_as place comparison.Greater a b (pair_of a.kind b.kind)
operation_on place written.LessOrEqual a b = ordered_as place comparison.LessOrEqual a b (pair_of a.kind b.kind)
operation_on place written.GreaterOrEqual a b = ordered_as place comparison.GreaterOrEqual a b (pair_of a.kind b.kind)
operation_on place written.LeftShift a b = shift_on place arithmetic.LeftShift a b
operation_on place written.RightShift a b = shift_on place arithmetic.RightShift a b
operation_on place written.Add a b = added_as place a b (pair_of a.kind b.kind)
operation_on place written.Subtract a b = subtracted_as place a b (pair_of a.kind b.kind)
operation_on place written.Multiply a b = arithmetic_on place arithmetic.Multiply a b
operation_on place written.Divide a b = arithmetic_on place arithmetic.Divide a b
operation_on place written.Remainder a b = arithmetic_on place arithmetic.Remainder a b

unfoldable pub operation : ℕ → BinaryOperator → Rule Found → Rule Found → Rule Found
operation place operator left right = do
  a ← operand left
  b ← operand right
  operation_on place operator a b

-- Unary `+`, `-` and `~`: of a number, promoted. `!`: of a number or a pointer (C17 6.5.3.3).
abbrev pub sign_operation_on : ℕ → (Sign → UnaryOperator) → Operand → Rule Found
sign_operation_on place operator o = do
  refused (not (is_number o.kind)) 3 place
  gives (found_value place (number_type (sign_of o.kind)) (expr.Unary (operator (sign_of o.kind)) (promoted o).node))

unfoldable pub sign_operation : ℕ → (Sign → UnaryOperator) → Rule Found → Rule Found
sign_operation place operator expression = do
  o ← operand expression
  sign_operation_on place operator o

abbrev pub negation_on : ℕ → Operand → Rule Found
negation_on place o = do
  refused (not (is_scalar o.kind)) 3 place
  gives (found_value place Int (expr.Unary unary.Not (promoted o).node))

unfoldable pub negation : ℕ → Rule Found → Rule Found
negation place expression = do
  o ← operand expression
  negation_on place o

-- a pointer to a function by which either of two may be called: the lesser level, and no flags
abbrev pub shared_pointer : CType → CType → CType
shared_pointer (Pointer' _ (more_of-CType (Function' s result z params effects) end_of-CType)) u =
    pointer_to (Function' s result z params (shared effects (target_effects u)))
shared_pointer t u = t

-- The type of `?:` (C17 6.5.15): of two numbers the common one; `void` of two; of two pointers to functions that are equal up to outer effects the
-- one that promises what both do, without flags; of other pointers as for `==`.
unfoldable pub chosen_type : Operand → Operand → Option CType
chosen_type a b =
    if is_void a.kind && is_void b.kind then Some Void
    else if alike_outside a.kind b.kind then Some (shared_pointer a.kind b.kind)
    else pointer_in_common a b

abbrev pub chosen_as : ℕ → Operand → Operand → Operand → Option CType → Rule Found
chosen_as place test a b (Some t) = gives (found_value place t (expr.Conditional test.node (brought t a).node (brought t b).node))
chosen_as place test a b None = fails 3 place

abbrev pub numbers_chosen : ℕ → Operand → Sign → Operand → Operand → Found
numbers_chosen place test sign a b = found_value place (number_type sign) (expr.Conditional test.node (in_sign sign a).node (in_sign sign b).node)

abbrev pub chosen_of : ℕ → Operand → Operand → Operand → Rule Found
chosen_of place test a b =
    if is_number a.kind && is_number b.kind then gives (numbers_chosen place test (common_sign a b) a b)
    else chosen_as place test a b (chosen_type a b)

unfoldable pub chosen : ℕ → Operand → Operand → Operand → Rule Found
chosen place test a b = do
  refused (not (is_scalar test.kind)) 3 place
  chosen_of place test a b

unfoldable pub alternatives : ℕ → Operand → Rule Found → Rule Found → Rule Found
alternatives place test then_read else_read = do
  a ← operand then_read
  b ← operand else_read
  chosen place test a b

unfoldable pub choice : ℕ → Rule Found → Rule Found → Rule Found → Rule Found
choice place condition then_read else_read = do
  test ← operand condition
  alternatives place test then_read else_read
