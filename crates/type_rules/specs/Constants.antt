-- Constant expressions (C17 6.6): what an expression is worth before the program runs. It is typed first; its value is read off the typed tree.
use Rattle.std.specs.Prelude.{ℕ, Bool, true, false, not, ◌&&◌, ◌||◌, if◌then◌else◌, Result, Ok, Err}
use Rattle.arithmetic.specs.Operators.{truth}
use Rattle.arithmetic.specs.Operations.{operation_of}
use Rattle.arithmetic.specs.Values.{applied, applied_to, number, is_true, bits_in}
use Rattle.arithmetic.specs.declared.traps.TrapKind.{TrapKind}
use Rattle.eff_types.specs.Types.{is_number, is_void_pointer}
use Rattle.core_unit.specs.Shapes.{sign_of}
use Rattle.core_unit.specs.Typing.{type_of}
use Rattle.core_unit.specs.declared.expressions.Expr as expr
use Rattle.core_unit.specs.declared.expressions.Expr.{Expr, Row_of-Expr, end_of-Expr, more_of-Expr}
use Rattle.core_unit.specs.declared.operators.LogicalOperator.{LogicalOperator}
use Rattle.core_unit.specs.declared.operators.LogicalOperator.TheVariants as logical
use Rattle.core_unit.specs.declared.words.Word.{Word}
use Rattle.core_unit.specs.declared.words.Word.TheVariants.{Zero}
use Rattle.type_rules.specs.declared.found.Found.{Found}
use Rattle.type_rules.specs.declared.found.Constant.{Constant}
use Rattle.type_rules.specs.declared.found.Operand.{Operand}
use Rattle.type_rules.specs.declared.found.Worth.{Worth}
use Rattle.type_rules.specs.declared.found.Worth.TheVariants.{Known, Trapped, Varying}
use Rattle.type_rules.specs.Operands.{operand}
use Rattle.type_rules.specs.Reading.{Rule, gives, refused, ◌>>=◌, ◌>>◌}

-- Evaluation gives a word, or traps.
abbrev pub outcome : Result Word TrapKind → Worth
outcome (Ok value) = Known value
outcome (Err trap) = Trapped

abbrev pub of_one : (Word → Worth) → Worth → Worth
of_one f (Known a) = f a
of_one f Trapped = Trapped
of_one f Varying = Varying

-- of two operands, both of which are evaluated
abbrev pub of_both : (Word → Word → Worth) → Worth → Worth → Worth
of_both f Varying _ = Varying
of_both f _ Varying = Varying
of_both f (Known a) (Known b) = f a b
of_both f _ _ = Trapped

-- Both operands of `&&` and `||` are constant; the right one may trap where the left one decides (C17 6.5.13, 6.5.14 and 6.6).
abbrev pub decided : LogicalOperator → Bool → Bool
decided logical.And first = not first
decided logical.Or first = first

abbrev pub of_logical : LogicalOperator → Worth → Worth → Worth
of_logical operator Varying _ = Varying
of_logical operator _ Varying = Varying
of_logical operator Trapped _ = Trapped
of_logical operator (Known a) Trapped = if decided operator (is_true a) then Known (number (truth (is_true a))) else Trapped
of_logical operator (Known a) (Known b) = Known (number (truth (if decided operator (is_true a) then is_true a else is_true b)))

-- All three operands of `?:` are constant; the one that isn't chosen may trap (C17 6.5.15 and 6.6).
abbrev pub of_choice : Worth → Worth → Worth → Worth
of_choice Varying _ _ = Varying
of_choice _ Varying _ = Varying
of_choice _ _ Varying = Varying
of_choice Trapped _ _ = Trapped
of_choice (Known test) a b = if is_true test then a else b

-- A constant expression is made of constants, enumerators, `sizeof` and operators without assignment, comma and call. A conversion keeps the word:
-- numbers have 32 bits each, and a constant pointer is null.
unfoldable pub worth : Expr → Worth
worth (expr.Number sign bits) = Known (number bits)
worth expr.Null = Known Zero
worth (expr.Sizeof words) = Known (number words)
worth (expr.Unary' operator _ (more_of-Expr e end_of-Expr)) = of_one (λ a. outcome (applied_to operator a)) (worth e)
worth (expr.Binary' operator _ (more_of-Expr a end_of-Expr) _ (more_of-Expr b end_of-Expr)) =
    of_both (λ x y. outcome (applied (operation_of operator (sign_of (type_of a)) (sign_of (type_of b))) x y)) (worth a) (worth b)
worth (expr.Logical' operator _ (more_of-Expr a end_of-Expr) _ (more_of-Expr b end_of-Expr)) = of_logical operator (worth a) (worth b)
worth (expr.Conditional' _ (more_of-Expr c end_of-Expr) _ (more_of-Expr a end_of-Expr) _ (more_of-Expr b end_of-Expr)) =
    of_choice (worth c) (worth a) (worth b)
worth (expr.Convert' why to _ (more_of-Expr e end_of-Expr)) = worth e
worth _ = Varying

abbrev pub is_known : Worth → Bool
is_known (Known value) = true
is_known _ = false

abbrev pub is_known_zero : Worth → Bool
is_known_zero (Known value) = not (is_true value)
is_known_zero _ = false

-- A null pointer constant (C17 6.3.2.3): `NULL`, a constant number of value 0, or that cast to `void *`.
abbrev pub is_zero_number : Expr → Bool
is_zero_number e = is_number (type_of e) && is_known_zero (worth e)

unfoldable pub is_null : Expr → Bool
is_null expr.Null = true
is_null (expr.Convert' why to _ (more_of-Expr e end_of-Expr)) =
    (is_number to || is_void_pointer to) && is_zero_number e
is_null e = is_zero_number e

abbrev pub is_null_constant : Operand → Bool
is_null_constant o = is_null o.node

abbrev pub known_bits : Worth → ℕ
known_bits (Known value) = bits_in value
known_bits _ = 0

-- an array's size or an enumerator's value
unfoldable pub number_constant : Rule Found → Rule Constant
number_constant expression = do
  o ← operand expression
  refused (not (is_number o.kind)) 3 o.place
  refused (not (is_known (worth o.node))) 7 o.place
  gives (record { place = o.place; sign = sign_of o.kind; bits = known_bits (worth o.node) })
