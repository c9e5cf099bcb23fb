-- Words as values: which word bits stand for, which type a word serves, and which word a store writes (this project's own rules).
use Rattle.std.specs.Prelude.{ℕ, ◌/◌, ◌%◌, ◌^◌, Bool, true, false, not, ◌&&◌, nat_eq, nat_lt, nat_le, if◌then◌else◌, Option, Some, None, Result, Ok, Err, slice_get}
use Rattle.eff_types.specs.Comparison.{is_equal, signature_likeness_of}
use Rattle.eff_types.specs.Effects.{is_below}
use Rattle.eff_types.specs.Types.{is_number, is_data_pointer, is_function_pointer}
use Rattle.eff_types.specs.declared.levels.Level.{Level}
use Rattle.eff_types.specs.declared.levels.Level.TheVariants.{Plain, NonAllocating, NonBlocking}
use Rattle.eff_types.specs.declared.types.CType.{CType}
use Rattle.eff_types.specs.declared.types.FnType.{FnType}
use Rattle.core_unit.specs.Shapes.{callee_of, level_of}
use Rattle.core_unit.specs.Words.{packed}
use Rattle.core_unit.specs.declared.body.Body.{Body}
use Rattle.core_unit.specs.declared.tables.FunctionInfo.{FunctionInfo}
use Rattle.core_unit.specs.declared.tables.UnitParts.{UnitParts}
use Rattle.core_unit.specs.declared.words.Word.{Word}
use Rattle.core_unit.specs.declared.words.Word.TheVariants.{Zero, Undefined, Number, DataPointer, FunctionPointer, Mutex, Live, Freed}
use Rattle.arithmetic.specs.declared.traps.TrapKind.{TrapKind}
use Rattle.arithmetic.specs.declared.traps.TrapKind.TheVariants.{NullAccess, BadAccess}
use Rattle.mcode.specs.Memory.{halt}

abbrev pub level_by : ℕ → Level
level_by n = if nat_eq n 0 then Plain else if nat_eq n 1 then NonAllocating else NonBlocking

-- a word by the number of its kind, its level and what it carries
abbrev pub word_by : (kind : ℕ) → Level → (carried : ℕ) → Word
word_by kind level carried =
    if nat_eq kind 0 then Zero else if nat_eq kind 1 then Undefined else if nat_eq kind 2 then Number carried
    else if nat_eq kind 3 then DataPointer carried else if nat_eq kind 4 then FunctionPointer carried level
    else if nat_eq kind 5 then Mutex carried else if nat_eq kind 6 then Live carried else Freed carried

abbrev pub is_in_range : Word → Bool
is_in_range Zero = true
is_in_range Undefined = true
is_in_range (Number bits) = nat_lt 0 bits && nat_lt bits (2 ^ 32)
is_in_range (DataPointer address) = nat_lt 0 address && nat_le address (2 ^ 20)
is_in_range (FunctionPointer function level) = nat_lt function 4096
is_in_range (Mutex thread) = nat_lt thread 64
is_in_range (Live words) = nat_le words (2 ^ 20)
is_in_range (Freed words) = nat_le words (2 ^ 20)

-- the word, where these are the bits that stand for it
abbrev pub where_packed : Word → ℕ → Option Word
where_packed word raw = if is_in_range word && nat_eq (packed word) raw then Some word else None

-- The word for which bits stand, if there is one.
unfoldable pub unpacked : ℕ → Option Word
unpacked raw = where_packed (word_by (raw / 2 ^ 60) (level_by (raw % 2 ^ 60 / 2 ^ 32)) (raw % 2 ^ 32)) raw

-- The address of the object that a pointer designates, or why there is none. Words from the halt word on are no objects.
abbrev pub accessed : Word → Result ℕ TrapKind
accessed Zero = Err NullAccess
accessed (DataPointer at) = if nat_lt at halt then Ok at else Err BadAccess
accessed _ = Err BadAccess

abbrev pub is_defined : Option Body → Bool
is_defined (Some body) = true
is_defined None = false

-- Of function types: equal results and parameters. Their own effects are free (C17 6.7.6.3).
abbrev pub is_same_signature : FnType → Option FnType → Bool
is_same_signature f (Some g) = is_equal (signature_likeness_of f g)
is_same_signature f None = false

-- A word for this function, at this level, serves a type of pointers to functions where the function is defined and has that type up to outer
-- effects, and the level is at least that of the type.
abbrev pub serves_function : Option FunctionInfo → Level → CType → Bool
serves_function (Some info) level t =
    is_function_pointer t && is_defined info.body && is_same_signature info.kind (callee_of t) && not (is_below level (level_of t))
serves_function None level t = false

-- Whether a word may be loaded at a scalar type: zero at each; a number at `char`, `int` and `unsigned int`; a data pointer at each type of data
-- pointers.
abbrev pub serves : UnitParts → CType → Word → Bool
serves u t Zero = true
serves u t (Number bits) = is_number t
serves u t (DataPointer at) = is_data_pointer t
serves u t (FunctionPointer function level) = serves_function (slice_get u.functions function) level t
serves u t _ = false

abbrev pub where_served : UnitParts → CType → Option Word → Option Word
where_served u t (Some word) = if serves u t word then Some word else None
where_served u t None = None

-- The value of a load at a type, by the bits that answered it.
abbrev pub loaded : UnitParts → CType → ℕ → Option Word
loaded u t raw = where_served u t (unpacked raw)

-- The word that a store of a value writes: a pointer to a function takes the level of its static type.
abbrev pub written : CType → Word → Word
written t (FunctionPointer function level) = FunctionPointer function (level_of t)
written t word = word

-- What a thread is started with: a number, a pointer to an object, or null.
abbrev pub argument : Option Word → Word
argument (Some Zero) = Zero
argument (Some (Number bits)) = Number bits
argument (Some (DataPointer address)) = DataPointer address
argument _ = Undefined
