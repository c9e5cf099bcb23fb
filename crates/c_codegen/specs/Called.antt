-- What the code tells of the callee of a call.
use Rattle.std.specs.Prelude.{◌≡◌}
use Rattle.core_unit.specs.Places.{callee, Named as named, Row as row, Through as through}
use Rattle.core_unit.specs.Shapes.{callee_of}
use Rattle.core_unit.specs.Typing.{type_of}
use Rattle.core_unit.specs.declared.expressions.Expr.{Expr}
use Rattle.c_codegen.specs.declared.callees.Called.{Called}
use Rattle.c_codegen.specs.declared.callees.Called.TheVariants.{Named, Row, Through}

abbrev pub IsCalled : Expr → Called → Type 0
IsCalled e (Named function) = callee e ≡ named function
IsCalled e (Row number) = callee e ≡ row number
IsCalled e Through = callee e ≡ through (callee_of (type_of e))
