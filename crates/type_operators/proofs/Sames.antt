-- A type is the same as itself.
use Rattle.std.proofs.Common.{◌≡◌, true, refl}
use Rattle.eff_types.proofs.Sameness.{same-is}
use Rattle.eff_types.specs.Types.{same}
use Rattle.eff_types.specs.declared.types.CType.{CType}

pub same_self : (t : CType) → same t t ≡ true
same_self t = (same-is t t).1 refl
