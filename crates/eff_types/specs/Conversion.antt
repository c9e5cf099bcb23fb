-- What a conversion from one type to another is.
use Rattle.std.specs.Prelude.{Bool, ◌&&◌, ◌||◌, if◌then◌else◌, Result, Ok, Err}
use Rattle.eff_types.specs.Effects.{added}
use Rattle.eff_types.specs.Types.{is_number, is_pointer, is_function_pointer, is_data_pointer, is_void_pointer, same, same_outside, same_but_for_effects, target_effects}
use Rattle.eff_types.specs.declared.types.CType.{CType}
use Rattle.eff_types.specs.declared.conversions.Conversion.{Conversion}
use Rattle.eff_types.specs.declared.conversions.Conversion.TheVariants as as_a
use Rattle.eff_types.specs.declared.conversions.Mismatch.{Mismatch}
use Rattle.eff_types.specs.declared.conversions.Mismatch.TheVariants as refused

-- The first line that fits (C17 6.3.2.3, 6.5.4, 6.5.16.1; the lines on effects are of 'Function Effect Analysis', and what is left
-- out is this project's own rule). `null`: the value is a null pointer constant; `explicit`: the conversion is written as a cast.
unfoldable pub conversion : CType → CType → Bool → Bool → Result Conversion Mismatch
conversion from to null explicit =
    if same from to then Ok as_a.Same
    else if is_number from && is_number to then Ok as_a.Number
    else if null && is_pointer to then Ok as_a.Null
    else if is_function_pointer from && is_function_pointer to && same_outside from to then
    Ok (as_a.Effects (added (target_effects from) (target_effects to)))
    else if is_function_pointer from || is_function_pointer to then Err refused.LeftOut
    else if (is_pointer from && is_number to) || (is_number from && is_pointer to) then Err refused.LeftOut
    else if is_data_pointer from && is_data_pointer to && same_but_for_effects from to then Err refused.LeftOut
    else if is_data_pointer from && is_data_pointer to && (is_void_pointer from || is_void_pointer to) then Ok as_a.Pointer
    else if is_data_pointer from && is_data_pointer to && explicit then Ok as_a.Pointer
    else Err refused.Mismatch
