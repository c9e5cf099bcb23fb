-- Effects of function types, and pointers to functions by which either of two may be called, from their parts.
use Rattle.std.proofs.Common.{◌≡◌, refl, ℕ}
use denote.Hole.Carrier.{hidden}
use Rattle.eff_types.specs.Effects.{plain, shared}
use Rattle.eff_types.specs.Types.{own_effects, target_effects}
use Rattle.eff_types.specs.declared.types.FnType.{FnType}
use Rattle.eff_types.specs.declared.types.CType.{CType, Void, Char, Int, Unsigned, Mutex, Struct}
use Rattle.eff_types.specs.declared.types.CType.TheBlock.{hidden-the_row-CType-0, shape-the_row-CType-0, hidden-the_row-CType-1, shape-the_row-CType-1}
use Rattle.eff_types.specs.declared.types.CType.TheVariants.{Pointer, Array, Function}
use Rattle.core_unit.specs.Shapes.{pointer_to}
use Rattle.type_rules.specs.Operators.{shared_pointer}

pub own_effects-Function : (f : FnType) → own_effects (Function f) ≡ f.effects
unfolding hidden hidden-the_row-CType-0 shape-the_row-CType-0 hidden-the_row-CType-1 shape-the_row-CType-1
own_effects-Function f = refl

pub own_effects-Void : own_effects Void ≡ plain
unfolding hidden hidden-the_row-CType-0 shape-the_row-CType-0 hidden-the_row-CType-1 shape-the_row-CType-1
own_effects-Void = refl

pub own_effects-Char : own_effects Char ≡ plain
unfolding hidden hidden-the_row-CType-0 shape-the_row-CType-0 hidden-the_row-CType-1 shape-the_row-CType-1
own_effects-Char = refl

pub own_effects-Int : own_effects Int ≡ plain
unfolding hidden hidden-the_row-CType-0 shape-the_row-CType-0 hidden-the_row-CType-1 shape-the_row-CType-1
own_effects-Int = refl

pub own_effects-Unsigned : own_effects Unsigned ≡ plain
unfolding hidden hidden-the_row-CType-0 shape-the_row-CType-0 hidden-the_row-CType-1 shape-the_row-CType-1
own_effects-Unsigned = refl

pub own_effects-Mutex : own_effects Mutex ≡ plain
unfolding hidden hidden-the_row-CType-0 shape-the_row-CType-0 hidden-the_row-CType-1 shape-the_row-CType-1
own_effects-Mutex = refl

pub own_effects-Struct : (k : ℕ) → own_effects (Struct k) ≡ plain
unfolding hidden hidden-the_row-CType-0 shape-the_row-CType-0 hidden-the_row-CType-1 shape-the_row-CType-1
own_effects-Struct k = refl

pub own_effects-Pointer : (t : CType) → own_effects (Pointer t) ≡ plain
unfolding hidden hidden-the_row-CType-0 shape-the_row-CType-0 hidden-the_row-CType-1 shape-the_row-CType-1
own_effects-Pointer t = refl

pub own_effects-Array : (t : CType) (n : ℕ) → own_effects (Array t n) ≡ plain
unfolding hidden hidden-the_row-CType-0 shape-the_row-CType-0 hidden-the_row-CType-1 shape-the_row-CType-1
own_effects-Array t n = refl

pub target_effects-Pointer : (t : CType) → target_effects (Pointer t) ≡ own_effects t
unfolding target_effects hidden hidden-the_row-CType-0 shape-the_row-CType-0 hidden-the_row-CType-1 shape-the_row-CType-1
target_effects-Pointer t = refl

pub target_effects-Function : (f : FnType) → target_effects (Function f) ≡ plain
unfolding target_effects hidden hidden-the_row-CType-0 shape-the_row-CType-0 hidden-the_row-CType-1 shape-the_row-CType-1
target_effects-Function f = refl

pub target_effects-Void : target_effects Void ≡ plain
unfolding target_effects hidden hidden-the_row-CType-0 shape-the_row-CType-0 hidden-the_row-CType-1 shape-the_row-CType-1
target_effects-Void = refl

pub target_effects-Char : target_effects Char ≡ plain
unfolding target_effects hidden hidden-the_row-CType-0 shape-the_row-CType-0 hidden-the_row-CType-1 shape-the_row-CType-1
target_effects-Char = refl

pub target_effects-Int : target_effects Int ≡ plain
unfolding target_effects hidden hidden-the_row-CType-0 shape-the_row-CType-0 hidden-the_row-CType-1 shape-the_row-CType-1
target_effects-Int = refl

pub target_effects-Unsigned : target_effects Unsigned ≡ plain
unfolding target_effects hidden hidden-the_row-CType-0 shape-the_row-CType-0 hidden-the_row-CType-1 shape-the_row-CType-1
target_effects-Unsigned = refl

pub target_effects-Mutex : target_effects Mutex ≡ plain
unfolding target_effects hidden hidden-the_row-CType-0 shape-the_row-CType-0 hidden-the_row-CType-1 shape-the_row-CType-1
target_effects-Mutex = refl

pub target_effects-Struct : (k : ℕ) → target_effects (Struct k) ≡ plain
unfolding target_effects hidden hidden-the_row-CType-0 shape-the_row-CType-0 hidden-the_row-CType-1 shape-the_row-CType-1
target_effects-Struct k = refl

pub target_effects-Array : (t : CType) (n : ℕ) → target_effects (Array t n) ≡ plain
unfolding target_effects hidden hidden-the_row-CType-0 shape-the_row-CType-0 hidden-the_row-CType-1 shape-the_row-CType-1
target_effects-Array t n = refl

pub shared-Function : (f : FnType) (u : CType) → shared_pointer (Pointer (Function f)) u ≡ pointer_to (Function (record f { effects = shared f.effects (target_effects u) }))
unfolding hidden hidden-the_row-CType-0 shape-the_row-CType-0 hidden-the_row-CType-1 shape-the_row-CType-1
shared-Function f u = refl

pub shared-Pointer-Void : (u : CType) → shared_pointer (Pointer Void) u ≡ pointer_to Void
unfolding hidden hidden-the_row-CType-0 shape-the_row-CType-0 hidden-the_row-CType-1 shape-the_row-CType-1
shared-Pointer-Void u = refl

pub shared-Pointer-Char : (u : CType) → shared_pointer (Pointer Char) u ≡ pointer_to Char
unfolding hidden hidden-the_row-CType-0 shape-the_row-CType-0 hidden-the_row-CType-1 shape-the_row-CType-1
shared-Pointer-Char u = refl

pub shared-Pointer-Int : (u : CType) → shared_pointer (Pointer Int) u ≡ pointer_to Int
unfolding hidden hidden-the_row-CType-0 shape-the_row-CType-0 hidden-the_row-CType-1 shape-the_row-CType-1
shared-Pointer-Int u = refl

pub shared-Pointer-Unsigned : (u : CType) → shared_pointer (Pointer Unsigned) u ≡ pointer_to Unsigned
unfolding hidden hidden-the_row-CType-0 shape-the_row-CType-0 hidden-the_row-CType-1 shape-the_row-CType-1
shared-Pointer-Unsigned u = refl

pub shared-Pointer-Mutex : (u : CType) → shared_pointer (Pointer Mutex) u ≡ pointer_to Mutex
unfolding hidden hidden-the_row-CType-0 shape-the_row-CType-0 hidden-the_row-CType-1 shape-the_row-CType-1
shared-Pointer-Mutex u = refl

pub shared-Pointer-Struct : (k : ℕ) (u : CType) → shared_pointer (Pointer (Struct k)) u ≡ pointer_to (Struct k)
unfolding hidden hidden-the_row-CType-0 shape-the_row-CType-0 hidden-the_row-CType-1 shape-the_row-CType-1
shared-Pointer-Struct k u = refl

pub shared-Pointer-Pointer : (t : CType) (u : CType) → shared_pointer (Pointer (Pointer t)) u ≡ pointer_to (Pointer t)
unfolding hidden hidden-the_row-CType-0 shape-the_row-CType-0 hidden-the_row-CType-1 shape-the_row-CType-1
shared-Pointer-Pointer t u = refl

pub shared-Pointer-Array : (t : CType) (n : ℕ) (u : CType) → shared_pointer (Pointer (Array t n)) u ≡ pointer_to (Array t n)
unfolding hidden hidden-the_row-CType-0 shape-the_row-CType-0 hidden-the_row-CType-1 shape-the_row-CType-1
shared-Pointer-Array t n u = refl

pub shared_pointer-Function : (f : FnType) (u : CType) → shared_pointer (Function f) u ≡ Function f
unfolding hidden hidden-the_row-CType-0 shape-the_row-CType-0 hidden-the_row-CType-1 shape-the_row-CType-1
shared_pointer-Function f u = refl

pub shared_pointer-Void : (u : CType) → shared_pointer Void u ≡ Void
unfolding hidden hidden-the_row-CType-0 shape-the_row-CType-0 hidden-the_row-CType-1 shape-the_row-CType-1
shared_pointer-Void u = refl

pub shared_pointer-Char : (u : CType) → shared_pointer Char u ≡ Char
unfolding hidden hidden-the_row-CType-0 shape-the_row-CType-0 hidden-the_row-CType-1 shape-the_row-CType-1
shared_pointer-Char u = refl

pub shared_pointer-Int : (u : CType) → shared_pointer Int u ≡ Int
unfolding hidden hidden-the_row-CType-0 shape-the_row-CType-0 hidden-the_row-CType-1 shape-the_row-CType-1
shared_pointer-Int u = refl

pub shared_pointer-Unsigned : (u : CType) → shared_pointer Unsigned u ≡ Unsigned
unfolding hidden hidden-the_row-CType-0 shape-the_row-CType-0 hidden-the_row-CType-1 shape-the_row-CType-1
shared_pointer-Unsigned u = refl

pub shared_pointer-Mutex : (u : CType) → shared_pointer Mutex u ≡ Mutex
unfolding hidden hidden-the_row-CType-0 shape-the_row-CType-0 hidden-the_row-CType-1 shape-the_row-CType-1
shared_pointer-Mutex u = refl

pub shared_pointer-Struct : (k : ℕ) (u : CType) → shared_pointer (Struct k) u ≡ Struct k
unfolding hidden hidden-the_row-CType-0 shape-the_row-CType-0 hidden-the_row-CType-1 shape-the_row-CType-1
shared_pointer-Struct k u = refl

pub shared_pointer-Array : (t : CType) (n : ℕ) (u : CType) → shared_pointer (Array t n) u ≡ Array t n
unfolding hidden hidden-the_row-CType-0 shape-the_row-CType-0 hidden-the_row-CType-1 shape-the_row-CType-1
shared_pointer-Array t n u = refl

pub ruleset shared_rules = (own_effects-Function, own_effects-Void, own_effects-Char, own_effects-Int, own_effects-Unsigned, own_effects-Mutex, own_effects-Struct, own_effects-Pointer, own_effects-Array, target_effects-Pointer, target_effects-Function, target_effects-Void, target_effects-Char, target_effects-Int, target_effects-Unsigned, target_effects-Mutex, target_effects-Struct, target_effects-Array, shared-Function, shared-Pointer-Void, shared-Pointer-Char, shared-Pointer-Int, shared-Pointer-Unsigned, shared-Pointer-Mutex, shared-Pointer-Struct, shared-Pointer-Pointer, shared-Pointer-Array, shared_pointer-Function, shared_pointer-Void, shared_pointer-Char, shared_pointer-Int, shared_pointer-Unsigned, shared_pointer-Mutex, shared_pointer-Struct, shared_pointer-Array)
