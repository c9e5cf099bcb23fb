-- What code knows of the functions and the types of a unit (this project's own rules).
use Rattle.std.specs.Prelude.{◌≡◌, ℕ, suc, ◌||◌, if◌then◌else◌, List, [], ◌∷◌, Option, Some}
use Rattle.core_unit.specs.Shapes.{callee_of, level_of}
use Rattle.core_unit.specs.declared.tables.FunctionInfo.{FunctionInfo}
use Rattle.core_unit.specs.declared.tables.UnitParts.{UnitParts}
use Rattle.core_unit.specs.declared.words.Word.{Word}
use Rattle.eff_types.specs.Types.{is_number, is_data_pointer, is_function_pointer, is_void}
use Rattle.eff_types.specs.declared.types.CType.{CType}
use Rattle.eff_types.specs.declared.types.FnType.{FnType}
use Rattle.mcode.specs.Machine.{Program, serves_at}
use Rattle.mcode.specs.Words.{is_same_signature, serves}
use Rattle.mcode.specs.declared.code.Entry.{Entry}
use Rattle.mcode.specs.declared.code.Served.{Served}
use Rattle.mcode.specs.declared.code.Served.TheVariants.{Number, DataPointer, FunctionPointer, Nothing}
use Rattle.src_model.specs.Source.{is_main}

-- the place of the first function, counted from here, that has this type up to outer effects; behind the last one where none has it
abbrev pub first_of_signature : (from : ℕ) → List FunctionInfo → Option FnType → ℕ
first_of_signature from [] t = from
first_of_signature from (f ∷ fs) t = if is_same_signature f.kind t then from else first_of_signature (suc from) fs t

-- The number of a function type: types that are equal up to outer effects have one.
unfoldable pub signature_number : UnitParts → Option FnType → ℕ
signature_number u t = first_of_signature 0 u.functions t

-- The words that serve a load of a type.
abbrev pub served : UnitParts → CType → Served
served u t =
    if is_number t then Number else if is_data_pointer t then DataPointer
    else if is_function_pointer t then FunctionPointer (signature_number u (callee_of t)) (level_of t) else Nothing

-- They are those that the type is served by.
abbrev pub StandsFor : UnitParts → Program → Served → CType → Type 0
StandsFor u c kind t = (word : Word) → serves_at c kind word ≡ serves u t word

-- What code knows of a function with a definition, whose instructions begin at this place.
abbrev pub entry_at : UnitParts → (place : ℕ) → FunctionInfo → Entry
entry_at u place f = record {
  place = place;
  frame_words = f.frame_words;
  signature = signature_number u (Some f.kind);
  noreturn = f.noreturn;
  falls = is_void f.kind.result || is_main f;
  gives_number = is_number f.kind.result;
  result_level = level_of f.kind.result;
}
