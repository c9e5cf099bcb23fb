-- The type of a parameter by the tests of the code.
use Rattle.std.proofs.Common.{◌≡◌, true, false, refl}
use Rattle.eff_types.specs.Types.{is_function}
use Rattle.eff_types.specs.declared.types.CType as of_type
use Rattle.eff_types.specs.declared.types.CType.{CType, end_of-CType, more_of-CType}
use Rattle.core_unit.specs.Shapes.{is_array, element_of, pointer_to}
use Rattle.type_rules.specs.Types.{adjusted}

pub adjusted-array : (t : CType) → is_array t ≡ true → pointer_to (element_of t) ≡ adjusted t
adjusted-array (of_type.Array' _ (more_of-CType t end_of-CType) n) e = refl
adjusted-array t e = absurd (cc)

pub adjusted-function : (t : CType) → is_function t ≡ true → pointer_to t ≡ adjusted t
adjusted-function (of_type.Function' s r z ps e) h = refl
adjusted-function t h = absurd (cc)

pub adjusted-other : (t : CType) → is_array t ≡ false → is_function t ≡ false → t ≡ adjusted t
adjusted-other (of_type.Array' s (more_of-CType t end_of-CType) n) e h = absurd (cc)
adjusted-other (of_type.Function' s r z ps e) g h = absurd (cc)
adjusted-other t e h = refl

pub ruleset adjusted_lines = (adjusted-array, adjusted-function, adjusted-other)
