-- Two operands together.
use Rattle.std.proofs.Common.{◌≡◌, Bool, true, false, refl}
use Rattle.std.specs.Prelude.{◌&&◌, if◌then◌else◌}
use Rattle.eff_types.specs.Types.{is_number, is_data_pointer, same}
use Rattle.eff_types.specs.declared.types.CType.{CType}
use Rattle.type_rules.specs.Operators.{pair_of}
use Rattle.type_rules.specs.declared.found.Pair.{Pair}
use Rattle.type_rules.specs.declared.found.Pair.TheVariants.{Numbers, PointerFirst, PointerSecond, Pointers, Others}

-- what a pair tells of its types
abbrev pub PairTold : CType → CType → Pair → Type 0
PairTold t u Numbers = is_number t && is_number u ≡ true
PairTold t u PointerFirst = is_data_pointer t && is_number u ≡ true
PairTold t u PointerSecond = is_number t && is_data_pointer u ≡ true
PairTold t u Pointers = is_data_pointer t && same t u ≡ true
PairTold t u Others = Unit {0}

pair_lines : (t u : CType) (a b c d : Bool) → is_number t && is_number u ≡ a → is_data_pointer t && is_number u ≡ b → is_number t && is_data_pointer u ≡ c
    → is_data_pointer t && same t u ≡ d
    → PairTold t u (if a then Numbers else if b then PointerFirst else if c then PointerSecond else if d then Pointers else Others)
pair_lines t u true b c d e f g h = e
pair_lines t u false true c d e f g h = f
pair_lines t u false false true d e f g h = g
pair_lines t u false false false true e f g h = h
pair_lines t u false false false false e f g h = tt

pub pair_told : (t u : CType) → PairTold t u (pair_of t u)
unfolding pair_of
pair_told t u =
    pair_lines t u (is_number t && is_number u) (is_data_pointer t && is_number u) (is_number t && is_data_pointer u) (is_data_pointer t && same t u)
    refl refl refl refl
