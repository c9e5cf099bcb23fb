-- Conversions of operands (C17 6.3.2.3, 6.5.4 and 6.5.16.1). Each is a node of the typed tree; one that adds a level to a pointer to a function is
-- warned of (Clang's manual 'Function Effect Analysis').
use Rattle.std.specs.Prelude.{ℕ, true, false, ◌&&◌, ◌||◌, if◌then◌else◌, Result, Ok, Err}
use Rattle.eff_types.specs.Conversion.{conversion}
use Rattle.eff_types.specs.Types.{is_number, is_function_pointer, is_void_pointer}
use Rattle.eff_types.specs.declared.conversions.Conversion.{Conversion}
use Rattle.eff_types.specs.declared.conversions.Conversion.TheVariants as as_a
use Rattle.eff_types.specs.declared.conversions.Mismatch.{Mismatch}
use Rattle.eff_types.specs.declared.conversions.Mismatch.TheVariants as mismatch
use Rattle.eff_types.specs.declared.types.CType.{CType, Void}
use Rattle.core_unit.specs.declared.expressions.Expr.TheVariants as expr
use Rattle.core_unit.specs.declared.operators.Cause.{Cause}
use Rattle.core_unit.specs.declared.operators.Cause.TheVariants as cause
use Rattle.type_rules.specs.Constants.{is_null_constant}
use Rattle.type_rules.specs.declared.found.Found.{Found}
use Rattle.type_rules.specs.declared.found.Operand.{Operand}
use Rattle.type_rules.specs.Operands.{operand, turned, found_value}
use Rattle.type_rules.specs.Reading.{Rule, gives, fails, warned, ◌>>=◌, ◌>>◌}
use Rattle.type_rules.specs.declared.notes.TypeWarning.TheVariants as warning

-- Why an operand takes a pointer type: a number becomes a pointer, and `void *` a pointer to a function, as null alone; between pointers of one
-- kind it is converted like every other.
abbrev pub null_cause : Cause → CType → CType → Cause
null_cause why from to = if is_number from || (is_void_pointer from && is_function_pointer to) then cause.Null else why

-- What an allowed conversion makes of an operand. A cast is a node also where the types are equal.
abbrev pub converted_as : Cause → CType → Operand → Conversion → Rule Operand
converted_as cause.Cast to o as_a.Same = gives (turned cause.Cast to o)
converted_as why to o as_a.Same = gives o
converted_as why to o as_a.Number = gives (turned why to o)
converted_as why to o as_a.Pointer = gives (turned why to o)
converted_as why to o as_a.Null = gives (turned (null_cause why o.kind to) to o)
converted_as why to o (as_a.Effects level) = do
  warned level (λ l. warning.Conversion o.place l)
  gives (turned why to o)

-- `at`: where a mismatch is refused, which is the operand itself or the whole cast. What is left out is refused at the operand.
abbrev pub converted_by : Cause → ℕ → CType → Operand → Result Conversion Mismatch → Rule Operand
converted_by why at to o (Ok how) = converted_as why to o how
converted_by why at to o (Err mismatch.Mismatch) = fails 3 at
converted_by why at to o (Err mismatch.LeftOut) = fails 11 o.place

-- without a cast: by an assignment, an initializer, an argument or a result
unfoldable pub converted : CType → Operand → Rule Operand
converted to o = converted_by cause.Implicit o.place to o (conversion o.kind to (is_null_constant o) false)

-- A cast (C17 6.5.4): to `void`, or by a conversion.
abbrev pub cast_to : ℕ → CType → Operand → Rule Found
cast_to place Void o = gives (found_value place Void (expr.Discard o.node))
cast_to place to o = do
  c ← converted_by cause.Cast place to o (conversion o.kind to (is_null_constant o) true)
  gives (found_value place to c.node)

unfoldable pub cast : ℕ → Rule CType → Rule Found → Rule Found
cast place name expression = do
  to ← name
  o ← operand expression
  cast_to place to o
