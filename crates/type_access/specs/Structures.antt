-- The structure that a type is.
use Rattle.std.specs.Prelude.{ℕ, Option, Some, None}
use Rattle.eff_types.specs.declared.types.CType.{CType, Struct}

-- its number, if it is one
abbrev pub structure_of : CType → Option ℕ
structure_of (Struct number) = Some number
structure_of _ = None
