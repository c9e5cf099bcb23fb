-- The type that two operands have in common, by which of them has it.
use Rattle.std.specs.Prelude.{Option, Some, None}
use Rattle.eff_types.specs.declared.types.CType.{CType}
use Rattle.type_operators.specs.declared.pointers.Common.{Common}
use Rattle.type_operators.specs.declared.pointers.Common.TheVariants.{First, Second, Neither}

abbrev pub type_of : Common → CType → CType → Option CType
type_of First t u = Some t
type_of Second t u = Some u
type_of Neither t u = None
