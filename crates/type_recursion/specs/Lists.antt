-- The rules that read lists along the tree, item by item, and what remains of a rule once its part is read.
use Rattle.std.specs.Prelude.{ℕ, Bool, List, [], ◌∷◌, ◌++◌, Option, Some, None}
use Rattle.c_tree.specs.declared.expressions.AssignmentOperator.{AssignmentOperator}
use Rattle.c_tree.specs.declared.expressions.BinaryOperator.{BinaryOperator}
use Rattle.c_tree.specs.declared.expressions.Declarator.{Declarator}
use Rattle.c_tree.specs.declared.expressions.Enumerator.{Enumerator}
use Rattle.c_tree.specs.declared.expressions.Expr.{Expr}
use Rattle.c_tree.specs.declared.expressions.Member.{Member}
use Rattle.c_tree.specs.declared.expressions.Param.{Param}
use Rattle.c_tree.specs.declared.expressions.Parameters.{Parameters}
use Rattle.c_tree.specs.declared.expressions.Spec.{Spec}
use Rattle.c_tree.specs.declared.expressions.TypeName.{TypeName}
use Rattle.c_tree.specs.declared.expressions.UnaryOperator.{UnaryOperator}
use Rattle.c_tree.specs.declared.expressions.UnaryOperator.TheVariants as written
use Rattle.c_tree.specs.declared.words.Attr.{Attr}
use Rattle.c_tree.specs.declared.words.Span.{Span}
use Rattle.core_unit.specs.declared.tables.MemberInfo.{MemberInfo}
use Rattle.eff_types.specs.declared.types.CType.{CType}
use Rattle.type_rules.specs.declared.specifiers.Specifiers.{Specifiers}
use Rattle.type_rules.specs.declared.declarators.Parameter.{Parameter}
use Rattle.type_rules.specs.declared.declarators.Part.TheVariants.{ArrayOf, FunctionOf}
use Rattle.type_rules.specs.declared.declarators.Shape.{Shape}
use Rattle.type_rules.specs.Access.{element_by, size}
use Rattle.type_rules.specs.Assignments.{left_side, assigned_by}
use Rattle.type_rules.specs.Calls.{called, fresh, spine}
use Rattle.type_rules.specs.Conversions.{cast_to}
use Rattle.type_rules.specs.Declarators.{array_size, parameter, member, type_name, with_part}
use Rattle.type_rules.specs.Expressions.{unary}
use Rattle.type_rules.specs.Operands.{operand}
use Rattle.type_rules.specs.Operators.{operation_on, chosen}
use Rattle.type_rules.specs.Reading.{Rule, ◌>>=◌, ◌>>◌, gives, scoped, where_written}
use Rattle.type_rules.specs.Recursion.{value, expression, specifier, declarator, parameter_list}
use Rattle.type_rules.specs.Specifiers.{no_specifiers, enumerator, structure_closed}
use Rattle.type_specifiers.specs.Given.{given}
use Rattle.type_rules.specs.declared.found.Found.{Found}
use Rattle.type_rules.specs.declared.found.Operand.{Operand}

-- each item in order, from what those before it gave
unfoldable pub in_order : {A B : Type 0} → (A → B → Rule B) → List A → B → Rule B
in_order step [] b = gives b
in_order step (x ∷ xs) b = step x b >>= (λ next. in_order step xs next)

-- one more argument of a call, behind those before it
unfoldable pub argument : Expr → List Operand → Rule (List Operand)
argument e given = do
  o ← operand (expression e)
  gives (given ++ o ∷ [])

-- an expression that begins where none around it does; whether a call calls it
unfoldable pub fresh_value : Bool → Expr → Rule Found
fresh_value is_called e = fresh (spine e) (λ n. value is_called n e)

-- What remains of a form once its first part is read: the next part, and then the rule.
unfoldable pub element_behind : ℕ → Operand → Expr → Rule Found
element_behind place a i = do
  b ← operand (expression i)
  element_by place a b

unfoldable pub call_behind : (place site : ℕ) → Operand → List Expr → Rule Found
call_behind place site f es = do
  given ← in_order argument es []
  called place site f given

unfoldable pub cast_behind : ℕ → CType → Expr → Rule Found
cast_behind place t e = do
  o ← operand (expression e)
  cast_to place t o

unfoldable pub operation_behind : ℕ → BinaryOperator → Operand → Expr → Rule Found
operation_behind place operator a e = do
  b ← operand (expression e)
  operation_on place operator a b

unfoldable pub choice_behind : ℕ → Operand → Operand → Expr → Rule Found
choice_behind place test a e = do
  b ← operand (expression e)
  chosen place test a b

unfoldable pub alternatives_behind : ℕ → Operand → (a b : Expr) → Rule Found
alternatives_behind place test then_read else_read = do
  a ← operand (expression then_read)
  choice_behind place test a else_read

unfoldable pub right_side : ℕ → AssignmentOperator → Found → Expr → Rule Found
right_side place operator left e = do
  b ← operand (expression e)
  assigned_by place operator left b

unfoldable pub assignment_behind : ℕ → AssignmentOperator → Found → Expr → Rule Found
assignment_behind place operator left e = do
  left_side left
  right_side place operator left e

-- specifiers, behind those before them
abbrev pub specifier_list : List Spec → Specifiers → Rule Specifiers
specifier_list specs b = in_order specifier specs b

-- one more member, of the type that these specifiers say
unfoldable pub one_member : Specifiers → Declarator → List MemberInfo → Rule (List MemberInfo)
one_member b d before = member b (declarator d) before

-- a line of members
unfoldable pub member_line : Member → List MemberInfo → Rule (List MemberInfo)
member_line m before = do
  b ← specifier_list m.specs no_specifiers
  in_order (one_member b) m.declarators before

-- an expression where one is written
abbrev pub written_as : Option Expr → Option (Rule Found)
written_as None = None
written_as (Some e) = Some (expression e)

-- the size of an array, where it is written
unfoldable pub written_size : Option Expr → Rule ℕ
written_size e = do
  size ← where_written e expression
  array_size (given size)

-- what stands behind a declarator, once that is read
unfoldable pub array_behind : Shape → Option Expr → Rule Shape
array_behind d e = do
  n ← written_size e
  gives (with_part (ArrayOf n) d)

unfoldable pub function_behind : Shape → Parameters → List Attr → Rule Shape
function_behind d ps attributes = do
  all ← scoped (parameter_list ps)
  gives (with_part (FunctionOf all attributes) d)

-- the members of a structure, once its tag is read
unfoldable pub structure_behind : ℕ → Option Span → ℕ → List Member → Specifiers → Rule Specifiers
structure_behind place tag k lines b = do
  members ← in_order member_line lines []
  structure_closed place tag k members b

unfoldable pub one_enumerator : Enumerator → Option ℕ → Rule (Option ℕ)
one_enumerator e next = enumerator e.name (written_as e.value) next

-- one more parameter, behind those before it
unfoldable pub one_parameter : Param → List Parameter → Rule (List Parameter)
one_parameter p before = parameter p.place (specifier_list p.specs no_specifiers) (declarator p.declarator) before

unfoldable pub type_of_name : TypeName → Rule CType
type_of_name t = type_name t.place (specifier_list t.specs no_specifiers) (declarator t.declarator)

-- Of an operator before its operand, where that was found. `sites`: the number of the next call site before it was read; the operand of
-- `sizeof` isn't evaluated, so it has no call sites (C17 6.5.3.4).
abbrev pub unary_of : (sites place : ℕ) → UnaryOperator → Found → Rule Found
unary_of sites place written.Sizeof f = λ s. size place f.kind (record s { sites = sites })
unary_of sites place operator f = unary place operator (gives f)

-- of `sizeof` of a type
abbrev pub size_of_type_name : (sites place : ℕ) → CType → Rule Found
size_of_type_name sites place t = λ s. size place t (record s { sites = sites })
