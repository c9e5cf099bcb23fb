-- What declarations ask of types, and the effects that attributes give them.
use Rattle.std.specs.Prelude.{Bool, true, false, if◌then◌else◌, ◌||◌, ◌==◌, List, [], ◌∷◌, flat_map, slice_get, is_none, Option, Some, None}
use Rattle.std.specs.List.{list_any}
use Rattle.eff_types.specs.Effects.{plain, union, conflict}
use Rattle.eff_types.specs.Types.{is_void}
use Rattle.eff_types.specs.declared.levels.Effects.{Effects}
use Rattle.eff_types.specs.declared.levels.Level.TheVariants as level
use Rattle.eff_types.specs.declared.types.CType.{CType, Void, Struct, Pointer', Array', Function', end_of-CType, more_of-CType}
use Rattle.c_tree.specs.declared.words.Attr.{Attr}
use Rattle.c_tree.specs.declared.words.AttrWord.{AttrWord}
use Rattle.c_tree.specs.declared.words.Effect.{Effect}
use Rattle.c_tree.specs.declared.words.Effect.TheVariants as effect
use Rattle.core_unit.specs.Shapes.{is_scalar, pointer_to}
use Rattle.core_unit.specs.declared.tables.StructInfo.{StructInfo}

abbrev pub is_open : Option StructInfo → Bool
is_open (Some s) = is_none s.members
is_open None = true

-- The incomplete types (C17 6.2.5): `void`, a structure whose members aren't known, and an array without a size, which has size 0 here.
abbrev pub is_incomplete : List StructInfo → CType → Bool
is_incomplete structures Void = true
is_incomplete structures (Struct k) = is_open (slice_get structures k)
is_incomplete structures (Array' _ _ n) = n == 0
is_incomplete structures _ = false

-- what a function may give (this project's own rule: no structures)
abbrev pub is_result : CType → Bool
is_result t = is_void t || is_scalar t

-- a parameter's type: an array is a pointer to its element, and a function a pointer to itself (C17 6.7.6.3)
abbrev pub adjusted : CType → CType
adjusted (Array' _ (more_of-CType t end_of-CType) n) = pointer_to t
adjusted (Function' s r z ps e) = pointer_to (Function' s r z ps e)
adjusted t = t

-- What a word of an attribute says of a function type (Clang's manual 'Function Effect Analysis').
abbrev pub word_effects : Effect → Effects
word_effects (effect.NonBlocking (Some false)) = record plain { no_block_inference = true }
word_effects (effect.NonBlocking _) = record plain { level = level.NonBlocking }
word_effects (effect.NonAllocating (Some false)) = record plain { no_alloc_inference = true }
word_effects (effect.NonAllocating _) = record plain { level = level.NonAllocating }
word_effects effect.Blocking = record plain { no_block_inference = true }
word_effects effect.Allocating = record plain { no_alloc_inference = true }
word_effects effect.NoReturn = plain

abbrev pub says_no_return : Effect → Bool
says_no_return effect.NoReturn = true
says_no_return _ = false

abbrev pub is_noreturn : AttrWord → Bool
is_noreturn w = says_no_return w.effect

-- of attributes: whether one says that the function doesn't return, and the effects of the others
abbrev pub says_noreturn : List Attr → Bool
says_noreturn attributes = list_any (λ a. list_any is_noreturn a.words) attributes

abbrev pub effects_of_word : AttrWord → List Effects
effects_of_word w = if is_noreturn w then [] else word_effects w.effect ∷ []

abbrev pub effects_in : List Attr → List Effects
effects_in attributes = flat_map (λ a. flat_map effects_of_word a.words) attributes

-- The effects of the outermost function type, met through pointers and arrays: those of attributes in the specifiers belong to it.
unfoldable pub outermost_effects : CType → Option Effects
outermost_effects (Pointer' _ (more_of-CType t end_of-CType)) = outermost_effects t
outermost_effects (Array' _ (more_of-CType t end_of-CType) n) = outermost_effects t
outermost_effects (Function' _ r _ ps e) = Some e
outermost_effects _ = None

unfoldable pub with_effects : List Effects → CType → CType
with_effects more (Pointer' s (more_of-CType t end_of-CType)) = Pointer' s (more_of-CType (with_effects more t) end_of-CType)
with_effects more (Array' s (more_of-CType t end_of-CType) n) = Array' s (more_of-CType (with_effects more t) end_of-CType) n
with_effects more (Function' s r z ps e) = Function' s r z ps (union (e ∷ more))
with_effects more t = t

-- a type without attributes stays as it is
abbrev pub attributed : List Effects → CType → CType
attributed [] t = t
attributed more t = with_effects more t

-- the effects are asked of a type that has no function type
abbrev pub lacks_function : List Effects → Option Effects → Bool
lacks_function (e ∷ es) None = true
lacks_function _ _ = false

abbrev pub conflicts_with : List Effects → Option Effects → Bool
conflicts_with more (Some e) = conflict (e ∷ more)
conflicts_with more None = false
