-- Operands: what an expression is once it is used for its value (C17 6.3).
use Rattle.std.specs.Prelude.{ℕ, Bool, true, false, if◌then◌else◌}
use Rattle.eff_types.specs.Types.{is_function, same}
use Rattle.eff_types.specs.declared.types.CType.{CType, Char, Int, Mutex, Struct}
use Rattle.core_unit.specs.Shapes.{is_array, element_of, pointer_to, number_type, sign_of}
use Rattle.core_unit.specs.Typed.{common}
use Rattle.core_unit.specs.declared.expressions.Expr.{Expr}
use Rattle.core_unit.specs.declared.expressions.Expr.TheVariants as expr
use Rattle.core_unit.specs.declared.expressions.Place.{Place}
use Rattle.core_unit.specs.declared.operators.Cause.{Cause}
use Rattle.core_unit.specs.declared.operators.Cause.TheVariants as cause
use Rattle.core_unit.specs.declared.operators.Sign.{Sign}
use Rattle.type_rules.specs.declared.found.Found.{Found}
use Rattle.type_rules.specs.declared.found.Operand.{Operand}
use Rattle.type_rules.specs.declared.found.Form.{Form}
use Rattle.type_rules.specs.declared.found.Form.TheVariants.{Lvalue, Value}
use Rattle.type_rules.specs.Reading.{Rule, gives, refused, fails, ◌>>=◌, ◌>>◌}

-- an expression that is used for its value
abbrev pub operand_of : ℕ → CType → Expr → Operand
operand_of place kind node = record { place = place; kind = kind; node = node }

-- what is found of an expression that designates an object, and of another
abbrev pub found_object : ℕ → CType → Place → Found
found_object place kind object = record { place = place; kind = kind; form = Lvalue object }

abbrev pub found_value : ℕ → CType → Expr → Found
found_value place kind node = record { place = place; kind = kind; form = Value node }

-- An array becomes a pointer to its first element, a function a pointer to itself, and of another object its value is taken (C17 6.3.2.1).
abbrev pub value_in : ℕ → CType → Form → Operand
value_in place kind (Lvalue object) =
    if is_array kind then operand_of place (pointer_to (element_of kind)) (expr.ArrayPointer object)
    else operand_of place kind (expr.Load object)
value_in place kind (Value node) =
    if is_function kind then operand_of place (pointer_to kind) (expr.FunctionPointer node) else operand_of place kind node

unfoldable pub as_value : Found → Operand
as_value f = value_in f.place f.kind f.form

-- A structure or a mutex.
abbrev pub is_whole : CType → Bool
is_whole Mutex = true
is_whole (Struct number) = true
is_whole _ = false

-- An expression of structure or mutex type stands only under `&`, `sizeof` and `.` (this project's own rule). Elsewhere it is refused as soon as
-- it was read.
unfoldable pub operand : Rule Found → Rule Operand
operand expression = do
  f ← expression
  refused (is_whole f.kind) 3 f.place
  gives (as_value f)

-- the place that an expression designates (C17 6.3.2.1)
abbrev pub lvalue_in : ℕ → Form → Rule Place
lvalue_in at (Lvalue object) = gives object
lvalue_in at (Value node) = fails 6 at

unfoldable pub lvalue : Found → Rule Place
lvalue f = lvalue_in f.place f.form

-- the operand, converted
abbrev pub turned : Cause → CType → Operand → Operand
turned why to o = operand_of o.place to (expr.Convert why to o.node)

abbrev pub is_char : CType → Bool
is_char Char = true
is_char _ = false

-- A `char` becomes an `int` in operations (C17 6.3.1.1).
unfoldable pub promoted : Operand → Operand
promoted o = if is_char o.kind then turned cause.Implicit Int o else o

-- the sign that two numbers have in common in an operation (C17 6.3.1.8)
abbrev pub common_sign : Operand → Operand → Sign
common_sign a b = common (sign_of a.kind) (sign_of b.kind)

-- a number in an operation of this sign
unfoldable pub in_sign : Sign → Operand → Operand
in_sign sign o =
    if same (promoted o).kind (number_type sign) then promoted o else turned cause.Implicit (number_type sign) (promoted o)
