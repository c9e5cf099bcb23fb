-- The value of `sizeof`: the words of a type modulo 2^32 (C17 6.5.3.4; that a word is the unit, and that the count wraps, is this project's
-- own rule).
use Rattle.std.specs.Prelude.{ℕ, ◌*◌, ◌%◌, ◌^◌, List, slice_get, Option, Some, None}
use Rattle.eff_types.specs.declared.types.CType.{CType, Void, Struct, Array', Function', end_of-CType, more_of-CType}

abbrev pub known_size : Option ℕ → ℕ
known_size (Some words) = words
known_size None = 0

-- `sizes` has the words of each structure of the unit modulo 2^32.
unfoldable pub size_of : List ℕ → CType → ℕ
size_of sizes Void = 0
size_of sizes (Function' _ _ _ _ _) = 0
size_of sizes (Array' _ (more_of-CType t end_of-CType) n) = n * size_of sizes t % 2 ^ 32
size_of sizes (Struct number) = known_size (slice_get sizes number)
size_of sizes _ = 1
