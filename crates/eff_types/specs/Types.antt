-- Types as conversions see them: their kinds, when two are the same, and the effects inside them.
use Rattle.std.specs.Prelude.{Bool, true, false, not, ◌&&◌, ◌==◌}
use Rattle.eff_types.specs.Effects.{rank, plain}
use Rattle.eff_types.specs.declared.levels.Effects.{Effects}
use Rattle.eff_types.specs.declared.types.CType.{CType, Void, Char, Int, Unsigned, Mutex, Struct, Pointer', Array', Function', Row_of-CType, end_of-CType, more_of-CType}

-- The numbers: `char`, `int` and `unsigned int` (C17 6.2.5; this subset has no others).
abbrev pub is_number : CType → Bool
is_number Char = true
is_number Int = true
is_number Unsigned = true
is_number _ = false

abbrev pub is_void : CType → Bool
is_void Void = true
is_void _ = false

abbrev pub is_function : CType → Bool
is_function (Function' _ _ _ _ _) = true
is_function _ = false

abbrev pub is_pointer : CType → Bool
is_pointer (Pointer' _ _) = true
is_pointer _ = false

-- a pointer, to a type that passes the test
unfoldable pub points_to : (CType → Bool) → CType → Bool
points_to test (Pointer' _ (more_of-CType t end_of-CType)) = test t
points_to test _ = false

abbrev pub is_function_pointer : CType → Bool
is_function_pointer = points_to is_function

-- a pointer to anything but a function
abbrev pub is_data_pointer : CType → Bool
is_data_pointer = points_to (λ t. not (is_function t))

abbrev pub is_void_pointer : CType → Bool
is_void_pointer = points_to is_void

abbrev pub same_flag : Bool → Bool → Bool
same_flag true b = b
same_flag false b = not b

abbrev pub same_effects : Effects → Effects → Bool
same_effects e f = (rank e.level == rank f.level) && same_flag e.no_block_inference f.no_block_inference
    && same_flag e.no_alloc_inference f.no_alloc_inference

-- Two types are the same where they are built alike, with the same array sizes, structures and effects (C17 6.2.7; a structure is
-- known by its number). It decides `≡`.
unfoldable mutual
  pub same : CType → CType → Bool
  same Void Void = true
  same Char Char = true
  same Int Int = true
  same Unsigned Unsigned = true
  same Mutex Mutex = true
  same (Pointer' _ t) (Pointer' _ u) = same_row t u
  same (Array' _ t n) (Array' _ u m) = (n == m) && same_row t u
  same (Struct n) (Struct m) = n == m
  same (Function' _ r _ ps e) (Function' _ s _ qs f) = same_effects e f && same_row r s && same_row ps qs
  same _ _ = false

  pub same_row : {n m : _} → Row_of-CType n → Row_of-CType m → Bool
  same_row end_of-CType end_of-CType = true
  same_row (more_of-CType t ts) (more_of-CType u us) = same t u && same_row ts us
  same_row _ _ = false

-- The type with no level and no flag at any function type in it.
unfoldable mutual
  pub without_effects : CType → CType
  without_effects (Pointer' s t) = Pointer' s (row_without_effects t)
  without_effects (Array' s t n) = Array' s (row_without_effects t) n
  without_effects (Function' s r z ps e) = Function' s (row_without_effects r) z (row_without_effects ps) plain
  without_effects t = t

  pub row_without_effects : {n : _} → Row_of-CType n → Row_of-CType n
  row_without_effects end_of-CType = end_of-CType
  row_without_effects (more_of-CType t ts) = more_of-CType (without_effects t) (row_without_effects ts)

abbrev pub own_effects : CType → Effects
own_effects (Function' _ _ _ _ e) = e
own_effects _ = plain

-- the effects of the function type that it points to
unfoldable pub target_effects : CType → Effects
target_effects (Pointer' _ (more_of-CType t end_of-CType)) = own_effects t
target_effects _ = plain

-- A function type with no level and no flag of its own; another type as it is.
abbrev pub without_own_effects : CType → CType
without_own_effects (Function' s r z ps e) = Function' s r z ps plain
without_own_effects t = t

abbrev pub row_without_own_effects : {n : _} → Row_of-CType n → Row_of-CType n
row_without_own_effects end_of-CType = end_of-CType
row_without_own_effects (more_of-CType t ts) = more_of-CType (without_own_effects t) (row_without_own_effects ts)

-- The type without its outer effects, which are those of the function type that it is or points to. The effects below stay.
unfoldable pub without_outer_effects : CType → CType
without_outer_effects (Pointer' s t) = Pointer' s (row_without_own_effects t)
without_outer_effects t = without_own_effects t

-- equal up to outer effects
abbrev pub same_outside : CType → CType → Bool
same_outside a b = same (without_outer_effects a) (without_outer_effects b)

-- equal but for the effects anywhere in them
abbrev pub same_but_for_effects : CType → CType → Bool
same_but_for_effects a b = same (without_effects a) (without_effects b)
