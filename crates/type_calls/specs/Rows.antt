-- The library function that an expression names.
use Rattle.std.specs.Prelude.{ℕ, Option, Some, None}
use Rattle.core_unit.specs.declared.expressions.Expr.{Expr}
use Rattle.core_unit.specs.declared.expressions.Expr.TheVariants as expr

-- its row, if it names one
abbrev pub row_named : Expr → Option ℕ
row_named (expr.LibraryFunction row) = Some row
row_named _ = None
