-- The function type that a type is or points to, from the parts of the type.
use Rattle.std.proofs.Common.{◌≡◌, refl, ap, sym, ℕ, Some, None}
use denote.Hole.Carrier.{hidden}
use Rattle.eff_types.proofs.Shapes.{Function-eq, eta-Function}
use Rattle.eff_types.specs.declared.types.CType.{CType, Void, Char, Int, Unsigned, Mutex, Struct}
use Rattle.eff_types.specs.declared.types.CType.TheBlock.{hidden-the_row-CType-0, shape-the_row-CType-0, hidden-the_row-CType-1, shape-the_row-CType-1}
use Rattle.eff_types.specs.declared.types.CType.TheVariants.{Pointer, Array, Function}
use Rattle.eff_types.specs.declared.types.FnType.{FnType}
use Rattle.core_unit.specs.Shapes.{function_in, callee_of}

pub function_in-Function : (f : FnType) → function_in (Function f) ≡ Some f
unfolding hidden hidden-the_row-CType-0 shape-the_row-CType-0 hidden-the_row-CType-1 shape-the_row-CType-1
function_in-Function f = ap Some (sym (Function-eq f _ (eta-Function _ f.result _ _ f.effects)))

pub function_in-Pointer : (t : CType) → function_in (Pointer t) ≡ None
unfolding hidden hidden-the_row-CType-0 shape-the_row-CType-0
function_in-Pointer t = refl

pub function_in-Array : (t : CType) (n : ℕ) → function_in (Array t n) ≡ None
unfolding hidden hidden-the_row-CType-0 shape-the_row-CType-0
function_in-Array t n = refl

pub callee_of-Function : (f : FnType) → callee_of (Function f) ≡ Some f
unfolding callee_of hidden hidden-the_row-CType-0 shape-the_row-CType-0 hidden-the_row-CType-1 shape-the_row-CType-1
callee_of-Function f = function_in-Function f

pub callee_of-Pointer : (t : CType) → callee_of (Pointer t) ≡ function_in t
unfolding callee_of hidden hidden-the_row-CType-0 shape-the_row-CType-0
callee_of-Pointer t = refl

pub callee_of-Array : (t : CType) (n : ℕ) → callee_of (Array t n) ≡ None
unfolding callee_of hidden hidden-the_row-CType-0 shape-the_row-CType-0
callee_of-Array t n = refl

pub callee_of-Void : callee_of Void ≡ None
unfolding callee_of
callee_of-Void = refl

pub callee_of-Char : callee_of Char ≡ None
unfolding callee_of
callee_of-Char = refl

pub callee_of-Int : callee_of Int ≡ None
unfolding callee_of
callee_of-Int = refl

pub callee_of-Unsigned : callee_of Unsigned ≡ None
unfolding callee_of
callee_of-Unsigned = refl

pub callee_of-Mutex : callee_of Mutex ≡ None
unfolding callee_of
callee_of-Mutex = refl

pub callee_of-Struct : (k : ℕ) → callee_of (Struct k) ≡ None
unfolding callee_of
callee_of-Struct k = refl

pub ruleset callee_rules = (function_in-Function, function_in-Pointer, function_in-Array, callee_of-Function, callee_of-Pointer, callee_of-Array, callee_of-Void, callee_of-Char, callee_of-Int, callee_of-Unsigned, callee_of-Mutex, callee_of-Struct)
