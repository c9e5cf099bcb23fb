-- The effects of types, from how they are made.
use Rattle.std.proofs.Common.{◌≡◌, refl, ℕ, List, [], ◌∷◌, Some, None}
use denote.Hole.Carrier.{hidden}
use Rattle.eff_types.specs.Effects.{union}
use Rattle.eff_types.specs.declared.levels.Effects.{Effects}
use Rattle.eff_types.specs.declared.types.CType.{CType, Void, Char, Int, Unsigned, Mutex, Struct}
use Rattle.eff_types.specs.declared.types.CType.TheBlock.{hidden-the_row-CType-0, shape-the_row-CType-0, hidden-the_row-CType-1, shape-the_row-CType-1}
use Rattle.eff_types.specs.declared.types.CType.TheVariants.{Pointer, Array, Function}
use Rattle.eff_types.specs.declared.types.FnType.{FnType}
use Rattle.type_rules.specs.Types.{outermost_effects, with_effects}

pub outermost_effects-Pointer : (t : CType) → outermost_effects (Pointer t) ≡ outermost_effects t
unfolding hidden hidden-the_row-CType-0 shape-the_row-CType-0 hidden-the_row-CType-1 shape-the_row-CType-1 outermost_effects
outermost_effects-Pointer t = refl

pub outermost_effects-Array : (t : CType) (n : ℕ) → outermost_effects (Array t n) ≡ outermost_effects t
unfolding hidden hidden-the_row-CType-0 shape-the_row-CType-0 hidden-the_row-CType-1 shape-the_row-CType-1 outermost_effects
outermost_effects-Array t n = refl

pub outermost_effects-Function : (f : FnType) → outermost_effects (Function f) ≡ Some f.effects
unfolding hidden hidden-the_row-CType-0 shape-the_row-CType-0 hidden-the_row-CType-1 shape-the_row-CType-1 outermost_effects
outermost_effects-Function f = refl

pub outermost_effects-Void : outermost_effects Void ≡ None
unfolding outermost_effects
outermost_effects-Void = refl

pub outermost_effects-Char : outermost_effects Char ≡ None
unfolding outermost_effects
outermost_effects-Char = refl

pub outermost_effects-Int : outermost_effects Int ≡ None
unfolding outermost_effects
outermost_effects-Int = refl

pub outermost_effects-Unsigned : outermost_effects Unsigned ≡ None
unfolding outermost_effects
outermost_effects-Unsigned = refl

pub outermost_effects-Mutex : outermost_effects Mutex ≡ None
unfolding outermost_effects
outermost_effects-Mutex = refl

pub outermost_effects-Struct : (k : ℕ) → outermost_effects (Struct k) ≡ None
unfolding outermost_effects
outermost_effects-Struct k = refl

pub ruleset outermost = (outermost_effects-Pointer, outermost_effects-Array, outermost_effects-Function, outermost_effects-Void, outermost_effects-Char, outermost_effects-Int, outermost_effects-Unsigned, outermost_effects-Mutex, outermost_effects-Struct)

pub with_effects-Pointer : (more : List Effects) (t : CType) → with_effects more (Pointer t) ≡ Pointer (with_effects more t)
unfolding hidden hidden-the_row-CType-0 shape-the_row-CType-0 hidden-the_row-CType-1 shape-the_row-CType-1 with_effects
with_effects-Pointer more t = refl

pub with_effects-Array : (more : List Effects) (t : CType) (n : ℕ) → with_effects more (Array t n) ≡ Array (with_effects more t) n
unfolding hidden hidden-the_row-CType-0 shape-the_row-CType-0 hidden-the_row-CType-1 shape-the_row-CType-1 with_effects
with_effects-Array more t n = refl

pub with_effects-Function : (more : List Effects) (f : FnType) → with_effects more (Function f) ≡ Function (record f { effects = union (f.effects ∷ more) })
unfolding hidden hidden-the_row-CType-0 shape-the_row-CType-0 hidden-the_row-CType-1 shape-the_row-CType-1 with_effects
with_effects-Function more f = refl

pub with_effects-Void : (more : List Effects) → with_effects more Void ≡ Void
unfolding with_effects
with_effects-Void more = refl

pub with_effects-Char : (more : List Effects) → with_effects more Char ≡ Char
unfolding with_effects
with_effects-Char more = refl

pub with_effects-Int : (more : List Effects) → with_effects more Int ≡ Int
unfolding with_effects
with_effects-Int more = refl

pub with_effects-Unsigned : (more : List Effects) → with_effects more Unsigned ≡ Unsigned
unfolding with_effects
with_effects-Unsigned more = refl

pub with_effects-Mutex : (more : List Effects) → with_effects more Mutex ≡ Mutex
unfolding with_effects
with_effects-Mutex more = refl

pub with_effects-Struct : (more : List Effects) (k : ℕ) → with_effects more (Struct k) ≡ Struct k
unfolding with_effects
with_effects-Struct more k = refl

pub ruleset with_further = (with_effects-Pointer, with_effects-Array, with_effects-Function, with_effects-Void, with_effects-Char, with_effects-Int, with_effects-Unsigned, with_effects-Mutex, with_effects-Struct)
