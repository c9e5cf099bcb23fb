-- What typing asks of types.
use Rattle.std.specs.Prelude.{ℕ, ◌==◌, Bool, true, false, not, ◌&&◌, ◌||◌, Option, Some, None}
use Rattle.eff_types.specs.Types.{is_number, is_void, is_function, points_to}
use Rattle.eff_types.specs.declared.levels.Level.{Level}
use Rattle.eff_types.specs.declared.levels.Level.TheVariants.{Plain}
use Rattle.eff_types.specs.declared.types.FnType.{FnType}
use Rattle.eff_types.specs.declared.types.CType.{CType, Void, Int, Unsigned, Struct, Pointer', Array', Function', end_of-CType, more_of-CType, items-the_row-CType}
use Rattle.core_unit.specs.declared.operators.Sign.{Sign}
use Rattle.core_unit.specs.declared.operators.Sign.TheVariants.{Signed, Unsigned as Without}

-- the type as a function type, if it is one
abbrev pub function_in : CType → Option FnType
function_in (Function' _ (more_of-CType result end_of-CType) _ params effects) =
    Some (record { result = result; params = items-the_row-CType _ params; effects = effects })
function_in _ = None

-- The function type that a type is or points to. Every rule on calls and on pointers to functions goes through it.
unfoldable pub callee_of : CType → Option FnType
callee_of (Pointer' _ (more_of-CType t end_of-CType)) = function_in t
callee_of t = function_in t

-- The level that is known of a function by this type; Plain where it is none.
abbrev pub level_in : Option FnType → Level
level_in (Some f) = f.effects.level
level_in None = Plain

-- The level that is known of the function which a type is or points to, and which the store of such a pointer writes (this project's own rule).
abbrev pub level_of : CType → Level
level_of t = level_in (callee_of t)

abbrev pub result_of : Option FnType → CType
result_of (Some f) = f.result
result_of None = Void

-- what a pointer points to
abbrev pub target_of : CType → CType
target_of (Pointer' _ (more_of-CType t end_of-CType)) = t
target_of _ = Void

-- what an array is made of
abbrev pub element_of : CType → CType
element_of (Array' _ (more_of-CType t end_of-CType) _) = t
element_of _ = Void

abbrev pub pointer_to : CType → CType
pointer_to t = Pointer' _ (more_of-CType t end_of-CType)

abbrev pub array_of : CType → ℕ → CType
array_of t n = Array' _ (more_of-CType t end_of-CType) n

abbrev pub is_array : CType → Bool
is_array (Array' _ _ _) = true
is_array _ = false

-- an array without a size, which has size 0
abbrev pub is_unsized : CType → Bool
is_unsized (Array' _ _ n) = n == 0
is_unsized _ = false

abbrev pub is_pointer : CType → Bool
is_pointer (Pointer' _ _) = true
is_pointer _ = false

-- The scalar types (C17 6.2.5): numbers and pointers.
abbrev pub is_scalar : CType → Bool
is_scalar t = is_number t || is_pointer t

-- `int` and `unsigned int`, which numbers have in operations (C17 6.3.1.1)
abbrev pub is_promoted : CType → Bool
is_promoted Int = true
is_promoted Unsigned = true
is_promoted _ = false

-- a pointer to an object, of which `*` makes an lvalue and to which a number is added (C17 6.5.3.2 and 6.5.6)
abbrev pub is_object_pointer : CType → Bool
is_object_pointer = points_to (λ t. not (is_function t) && not (is_void t))

-- a structure
abbrev pub is_struct : CType → Bool
is_struct (Struct _) = true
is_struct _ = false

-- the types of objects that are initialized by lists
abbrev pub is_aggregate : CType → Bool
is_aggregate t = is_array t || is_struct t

-- the type of promoted numbers of a sign
abbrev pub number_type : Sign → CType
number_type Signed = Int
number_type Without = Unsigned

-- the sign that a number has once it is promoted: a `char` becomes an `int`
abbrev pub sign_of : CType → Sign
sign_of Unsigned = Without
sign_of _ = Signed
