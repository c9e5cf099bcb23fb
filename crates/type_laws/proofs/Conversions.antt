-- A conversion that is allowed makes a typed node.
use Rattle.std.proofs.Common.{◌≡◌, Bool, true, false, refl, Option, inl, inr}
use Rattle.std.specs.Prelude.{◌&&◌, ◌||◌, ◌⊎◌, if◌then◌else◌, Result, Ok, Err}
use Rattle.eff_types.specs.Conversion.{conversion}
use Rattle.eff_types.specs.Types.{is_number, is_pointer, is_function_pointer, is_data_pointer, is_void_pointer, same, same_outside, same_but_for_effects}
use Rattle.eff_types.specs.declared.conversions.Conversion.{Conversion}
use Rattle.eff_types.specs.declared.conversions.Conversion.TheVariants as as_a
use Rattle.eff_types.specs.declared.conversions.Mismatch.{Mismatch}
use Rattle.eff_types.specs.declared.conversions.Mismatch.TheVariants as mismatch
use Rattle.eff_types.specs.declared.levels.Level.{Level}
use Rattle.eff_types.specs.declared.types.CType.{CType}

-- what an allowed conversion tells of its types
abbrev pub Told : (from to : CType) → (null explicit : Bool) → Conversion → Type 0
Told from to null explicit as_a.Same = same from to ≡ true
Told from to null explicit as_a.Number = (same from to ≡ false) × (is_number from && is_number to ≡ true)
Told from to null explicit as_a.Null = (same from to ≡ false) × (null && is_pointer to ≡ true)
Told from to null explicit (as_a.Effects level) = (same from to ≡ false) × (is_function_pointer from && is_function_pointer to && same_outside from to ≡ true)
Told from to null explicit as_a.Pointer =
    (same from to ≡ false)
    × ((is_data_pointer from && is_data_pointer to && (is_void_pointer from || is_void_pointer to) ≡ true)
    ⊎ (is_data_pointer from && is_data_pointer to && explicit ≡ true))

abbrev pub ToldOf : (from to : CType) → (null explicit : Bool) → Result Conversion Mismatch → Type 0
ToldOf from to null explicit (Ok how) = Told from to null explicit how
ToldOf from to null explicit (Err why) = Unit {0}

module _ (from to : CType) (null explicit : Bool) where
  pointer_lines : (a b c : Bool) → same from to ≡ false → is_data_pointer from && is_data_pointer to && (is_void_pointer from || is_void_pointer to) ≡ b
      → is_data_pointer from && is_data_pointer to && explicit ≡ c
      → ToldOf from to null explicit (if a then Err mismatch.LeftOut else if b then Ok as_a.Pointer else if c then Ok as_a.Pointer else Err mismatch.Mismatch)
  pointer_lines true b c d e f = tt
  pointer_lines false true c d e f = (d, inl e)
  pointer_lines false false true d e f = (d, inr f)
  pointer_lines false false false d e f = tt

  left_out : (a : Bool) (rest : Result Conversion Mismatch) → ToldOf from to null explicit rest
      → ToldOf from to null explicit (if a then Err mismatch.LeftOut else rest)
  left_out true rest told = tt
  left_out false rest told = told

  effects_line : (a : Bool) (level : Option Level) (rest : Result Conversion Mismatch) → same from to ≡ false
      → is_function_pointer from && is_function_pointer to && same_outside from to ≡ a → ToldOf from to null explicit rest
      → ToldOf from to null explicit (if a then Ok (as_a.Effects level) else rest)
  effects_line true level rest d e told = (d, e)
  effects_line false level rest d e told = told

  null_line : (a : Bool) (rest : Result Conversion Mismatch) → same from to ≡ false → null && is_pointer to ≡ a → ToldOf from to null explicit rest
      → ToldOf from to null explicit (if a then Ok as_a.Null else rest)
  null_line true rest d e told = (d, e)
  null_line false rest d e told = told

  number_line : (a : Bool) (rest : Result Conversion Mismatch) → same from to ≡ false → is_number from && is_number to ≡ a → ToldOf from to null explicit rest
      → ToldOf from to null explicit (if a then Ok as_a.Number else rest)
  number_line true rest d e told = (d, e)
  number_line false rest d e told = told

  same_line : (a : Bool) (rest : Result Conversion Mismatch) → same from to ≡ a → (same from to ≡ false → ToldOf from to null explicit rest)
      → ToldOf from to null explicit (if a then Ok as_a.Same else rest)
  same_line true rest e told = e
  same_line false rest e told = told e

  pub conversion_told : ToldOf from to null explicit (conversion from to null explicit)
  unfolding conversion
  conversion_told =
      same_line (same from to) _ refl (λ other.
      number_line (is_number from && is_number to) _ other refl (
      null_line (null && is_pointer to) _ other refl (
      effects_line (is_function_pointer from && is_function_pointer to && same_outside from to) _ _ other refl (
      left_out (is_function_pointer from || is_function_pointer to) _ (
      left_out ((is_pointer from && is_number to) || (is_number from && is_pointer to)) _ (
      pointer_lines (is_data_pointer from && is_data_pointer to && same_but_for_effects from to)
      (is_data_pointer from && is_data_pointer to && (is_void_pointer from || is_void_pointer to)) (is_data_pointer from && is_data_pointer to && explicit)
      other refl refl))))))
