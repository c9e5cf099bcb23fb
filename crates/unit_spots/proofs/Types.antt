-- Types, as the code makes and reads them.
use Rattle.std.proofs.Common.{◌≡◌, ℕ, ◌≤◌, refl, sym, ◌∙◌, Some, None, slice_get, ap, length, arith}
use Rattle.std.proofs.lemmas.Option.{slice_get_past}
use Rattle.std.specs.Prelude.{Result, Ok, Err, IfOk}
use denote.Hole.Carrier.{hidden}
use Rattle.eff_types.specs.declared.types.FnType.{FnType}
use Rattle.eff_types.specs.declared.types.CType.{CType}
use Rattle.eff_types.specs.declared.types.CType.TheBlock.{hidden-the_row-CType-0, shape-the_row-CType-0, hidden-the_row-CType-1, shape-the_row-CType-1}
use Rattle.eff_types.specs.declared.types.CType.TheVariants.{Void, Char, Int, Unsigned, Mutex, Pointer, Array, Struct, Function}
use Rattle.core_unit.specs.Library.{row_type, row_types}
use Rattle.core_unit.specs.Shapes.{array_of, element_of, result_of, target_of}

pub array_is : (t : CType) (n : ℕ) → Array t n ≡ array_of t n
unfolding hidden hidden-the_row-CType-0 shape-the_row-CType-0
array_is t n = refl

pub element_of-Array : (t : CType) (n : ℕ) → element_of (Array t n) ≡ t
unfolding hidden hidden-the_row-CType-0 shape-the_row-CType-0
element_of-Array t n = refl

pub element_of-Pointer : (t : CType) → element_of (Pointer t) ≡ Void
unfolding hidden hidden-the_row-CType-0 shape-the_row-CType-0
element_of-Pointer t = refl

pub element_of-Function : (f : FnType) → element_of (Function f) ≡ Void
unfolding hidden hidden-the_row-CType-0 shape-the_row-CType-0 hidden-the_row-CType-1 shape-the_row-CType-1
element_of-Function f = refl

pub target_of-Pointer : (t : CType) → target_of (Pointer t) ≡ t
unfolding hidden hidden-the_row-CType-0 shape-the_row-CType-0
target_of-Pointer t = refl

pub target_of-Array : (t : CType) (n : ℕ) → target_of (Array t n) ≡ Void
unfolding hidden hidden-the_row-CType-0 shape-the_row-CType-0
target_of-Array t n = refl

pub target_of-Function : (f : FnType) → target_of (Function f) ≡ Void
unfolding hidden hidden-the_row-CType-0 shape-the_row-CType-0 hidden-the_row-CType-1 shape-the_row-CType-1
target_of-Function f = refl

pub ruleset target_rules = (target_of-Pointer, target_of-Array, target_of-Function)

pub ruleset element_rules = (element_of-Array, element_of-Pointer, element_of-Function)

-- past the last row the library has no type
pub no_row : (row : ℕ) → 15 ≤ row → result_of (row_type row) ≡ Void
unfolding row_type
no_row row past = ap result_of (slice_get_past row_types row past)

-- the value of an answer is another name of it
pub value_is : {E : Type 0} (r : Result CType E) (x y : CType) → x ≡ y → IfOk r (λ t. t ≡ x) → IfOk r (λ t. t ≡ y)
value_is (Ok t) x y e h = h ∙ e
value_is (Err error) x y e h = tt
