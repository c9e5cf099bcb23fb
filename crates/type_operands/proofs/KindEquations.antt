-- What is asked of types, from how they are made.
use Rattle.std.proofs.Common.{◌≡◌, ◌∙◌, refl, ℕ, ◌*◌, ◌%◌, ◌^◌, ◌==◌, false, List, slice_get, Result, Ok, Err, IfOk}
use denote.Hole.Carrier.{hidden}
use Rattle.eff_types.proofs.Shapes.{eta-Array}
use Rattle.eff_types.specs.Types.{is_pointer}
use Rattle.eff_types.specs.declared.types.CType.{CType, Void, Char, Int, Unsigned, Mutex, Struct, Pointer', Array', end_of-CType, more_of-CType}
use Rattle.eff_types.specs.declared.types.CType.TheBlock.{hidden-the_row-CType-0, shape-the_row-CType-0, hidden-the_row-CType-1, shape-the_row-CType-1}
use Rattle.eff_types.specs.declared.types.CType.TheVariants.{Pointer, Array, Function}
use Rattle.eff_types.specs.declared.types.FnType.{FnType}
use Rattle.core_unit.specs.Layout.{told, struct_words, words_of}
use Rattle.core_unit.specs.Shapes as shapes
use Rattle.core_unit.specs.Shapes.{pointer_to, array_of, element_of, target_of, is_array, is_unsized}
use Rattle.core_unit.specs.declared.tables.StructInfo.{StructInfo}
use Rattle.type_rules.specs.Sizes.{known_size, size_of}
use Rattle.type_rules.specs.Types.{is_incomplete}

-- the two tests for pointers are one
pub pointer_alike : (t : CType) → is_pointer t ≡ shapes.is_pointer t
pointer_alike (Pointer' s t) = refl
pointer_alike _ = refl

pub is_array-other : (t : CType) → ((u : CType) (n : ℕ) → t ≡ Array u n → ⊥) → is_array t ≡ false
is_array-other (Array' s (more_of-CType u end_of-CType) n) other = absurd (other u n (eta-Array s u n))
is_array-other _ other = refl

pub is_unsized-other : (t : CType) → ((u : CType) (n : ℕ) → t ≡ Array u n → ⊥) → is_unsized t ≡ false
is_unsized-other (Array' s (more_of-CType u end_of-CType) n) other = absurd (other u n (eta-Array s u n))
is_unsized-other _ other = refl

pub pointer_is : (t : CType) → Pointer t ≡ pointer_to t
unfolding hidden hidden-the_row-CType-0 shape-the_row-CType-0
pointer_is t = refl

pub array_is : (t : CType) (n : ℕ) → Array t n ≡ array_of t n
unfolding hidden hidden-the_row-CType-0 shape-the_row-CType-0
array_is t n = refl

-- a type that is answered, by another name of it
pub value_is : {E : Type 0} (r : Result CType E) (x y : CType) → x ≡ y → IfOk r (λ t. t ≡ x) → IfOk r (λ t. t ≡ y)
value_is (Ok t) x y e h = h ∙ e
value_is (Err error) x y e h = tt

pub element_of-Pointer : (t : CType) → element_of (Pointer t) ≡ Void
unfolding hidden hidden-the_row-CType-0 shape-the_row-CType-0 hidden-the_row-CType-1 shape-the_row-CType-1
element_of-Pointer t = refl

pub element_of-Array : (t : CType) (n : ℕ) → element_of (Array t n) ≡ t
unfolding hidden hidden-the_row-CType-0 shape-the_row-CType-0 hidden-the_row-CType-1 shape-the_row-CType-1
element_of-Array t n = refl

pub element_of-Function : (f : FnType) → element_of (Function f) ≡ Void
unfolding hidden hidden-the_row-CType-0 shape-the_row-CType-0 hidden-the_row-CType-1 shape-the_row-CType-1
element_of-Function f = refl

pub target_of-Pointer : (t : CType) → target_of (Pointer t) ≡ t
unfolding hidden hidden-the_row-CType-0 shape-the_row-CType-0 hidden-the_row-CType-1 shape-the_row-CType-1
target_of-Pointer t = refl

pub target_of-Array : (t : CType) (n : ℕ) → target_of (Array t n) ≡ Void
unfolding hidden hidden-the_row-CType-0 shape-the_row-CType-0 hidden-the_row-CType-1 shape-the_row-CType-1
target_of-Array t n = refl

pub target_of-Function : (f : FnType) → target_of (Function f) ≡ Void
unfolding hidden hidden-the_row-CType-0 shape-the_row-CType-0 hidden-the_row-CType-1 shape-the_row-CType-1
target_of-Function f = refl

pub is_incomplete-Pointer : (structures : List StructInfo) (t : CType) → is_incomplete structures (Pointer t) ≡ false
unfolding hidden hidden-the_row-CType-0 shape-the_row-CType-0 hidden-the_row-CType-1 shape-the_row-CType-1
is_incomplete-Pointer structures t = refl

pub is_incomplete-Array : (structures : List StructInfo) (t : CType) (n : ℕ) → is_incomplete structures (Array t n) ≡ (n == 0)
unfolding hidden hidden-the_row-CType-0 shape-the_row-CType-0 hidden-the_row-CType-1 shape-the_row-CType-1
is_incomplete-Array structures t n = refl

pub is_incomplete-Function : (structures : List StructInfo) (f : FnType) → is_incomplete structures (Function f) ≡ false
unfolding hidden hidden-the_row-CType-0 shape-the_row-CType-0 hidden-the_row-CType-1 shape-the_row-CType-1
is_incomplete-Function structures f = refl

pub words_of-Void : (structures : List StructInfo) → words_of structures Void ≡ 0
unfolding words_of
words_of-Void structures = refl

pub words_of-Char : (structures : List StructInfo) → words_of structures Char ≡ 1
unfolding words_of
words_of-Char structures = refl

pub words_of-Int : (structures : List StructInfo) → words_of structures Int ≡ 1
unfolding words_of
words_of-Int structures = refl

pub words_of-Unsigned : (structures : List StructInfo) → words_of structures Unsigned ≡ 1
unfolding words_of
words_of-Unsigned structures = refl

pub words_of-Mutex : (structures : List StructInfo) → words_of structures Mutex ≡ 1
unfolding words_of
words_of-Mutex structures = refl

pub words_of-Pointer : (structures : List StructInfo) (t : CType) → words_of structures (Pointer t) ≡ 1
unfolding words_of hidden hidden-the_row-CType-0 shape-the_row-CType-0 hidden-the_row-CType-1 shape-the_row-CType-1
words_of-Pointer structures t = refl

pub words_of-Array : (structures : List StructInfo) (t : CType) (n : ℕ) → words_of structures (Array t n) ≡ told (n * words_of structures t)
unfolding words_of hidden hidden-the_row-CType-0 shape-the_row-CType-0 hidden-the_row-CType-1 shape-the_row-CType-1
words_of-Array structures t n = refl

pub words_of-Struct : (structures : List StructInfo) (k : ℕ) → words_of structures (Struct k) ≡ struct_words (slice_get structures k)
unfolding words_of
words_of-Struct structures k = refl

pub words_of-Function : (structures : List StructInfo) (f : FnType) → words_of structures (Function f) ≡ 0
unfolding words_of hidden hidden-the_row-CType-0 shape-the_row-CType-0 hidden-the_row-CType-1 shape-the_row-CType-1
words_of-Function structures f = refl

pub size_of-Void : (sizes : List ℕ) → size_of sizes Void ≡ 0
unfolding size_of
size_of-Void sizes = refl

pub size_of-Char : (sizes : List ℕ) → size_of sizes Char ≡ 1
unfolding size_of
size_of-Char sizes = refl

pub size_of-Int : (sizes : List ℕ) → size_of sizes Int ≡ 1
unfolding size_of
size_of-Int sizes = refl

pub size_of-Unsigned : (sizes : List ℕ) → size_of sizes Unsigned ≡ 1
unfolding size_of
size_of-Unsigned sizes = refl

pub size_of-Mutex : (sizes : List ℕ) → size_of sizes Mutex ≡ 1
unfolding size_of
size_of-Mutex sizes = refl

pub size_of-Pointer : (sizes : List ℕ) (t : CType) → size_of sizes (Pointer t) ≡ 1
unfolding size_of hidden hidden-the_row-CType-0 shape-the_row-CType-0 hidden-the_row-CType-1 shape-the_row-CType-1
size_of-Pointer sizes t = refl

pub size_of-Array : (sizes : List ℕ) (t : CType) (n : ℕ) → size_of sizes (Array t n) ≡ n * size_of sizes t % 2 ^ 32
unfolding size_of hidden hidden-the_row-CType-0 shape-the_row-CType-0 hidden-the_row-CType-1 shape-the_row-CType-1
size_of-Array sizes t n = refl

pub size_of-Struct : (sizes : List ℕ) (k : ℕ) → size_of sizes (Struct k) ≡ known_size (slice_get sizes k)
unfolding size_of
size_of-Struct sizes k = refl

pub size_of-Function : (sizes : List ℕ) (f : FnType) → size_of sizes (Function f) ≡ 0
unfolding size_of hidden hidden-the_row-CType-0 shape-the_row-CType-0 hidden-the_row-CType-1 shape-the_row-CType-1
size_of-Function sizes f = refl

-- what types are made of
pub ruleset parts_of_kinds = (element_of-Pointer, element_of-Array, element_of-Function, target_of-Pointer, target_of-Array, target_of-Function)

-- which types are incomplete
pub ruleset incomplete_kinds = (is_incomplete-Pointer, is_incomplete-Array, is_incomplete-Function)

-- the words of types
pub ruleset words_of_kinds = (words_of-Void, words_of-Char, words_of-Int, words_of-Unsigned, words_of-Mutex, words_of-Pointer, words_of-Array, words_of-Struct, words_of-Function)

-- the sizes of types
pub ruleset sizes_of_kinds = (size_of-Void, size_of-Char, size_of-Int, size_of-Unsigned, size_of-Mutex, size_of-Pointer, size_of-Array, size_of-Struct, size_of-Function)
