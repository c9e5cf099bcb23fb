-- What specifiers and declarators make is formed, where none of their rules is broken.
use Rattle.std.proofs.Common.{◌≡◌, ℕ, ◌<◌, ◌*◌, Bool, true, false, refl, sym, ap, subst, List, [], ◌∷◌, map}
use Rattle.std.specs.Prelude.{◌||◌}
use denote.Hole.Carrier.{hidden}
use Rattle.eff_types.specs.Effects.{union}
use Rattle.eff_types.specs.declared.levels.Effects.{Effects}
use Rattle.eff_types.specs.declared.types.CType.{CType, Void, Char, Int, Unsigned, Mutex, Struct, Pointer', Array', Function', end_of-CType, more_of-CType}
use Rattle.eff_types.specs.declared.types.CType.TheBlock.{hidden-the_row-CType-0, shape-the_row-CType-0, hidden-the_row-CType-1, shape-the_row-CType-1}
use Rattle.eff_types.specs.declared.types.CType.TheVariants as a_type
use Rattle.core_unit.specs.Layout.{words_of, told}
use Rattle.core_unit.specs.Shapes.{array_of, is_scalar}
use Rattle.core_unit.specs.declared.tables.StructInfo.{StructInfo}
use Rattle.type_rules.specs.Declarators.{part_type, parts_type, is_misplaced, are_misplaced, part_is_incomplete, are_incomplete, made}
use Rattle.type_rules.specs.Seen.{Seen}
use Rattle.type_rules.specs.Specifiers.{base_type}
use Rattle.type_rules.specs.Types.{is_result, with_effects, attributed, effects_in}
use Rattle.type_rules.specs.declared.declarators.Made.{Made}
use Rattle.type_rules.specs.declared.declarators.Parameter.{Parameter}
use Rattle.type_rules.specs.declared.declarators.Part.{Part}
use Rattle.type_rules.specs.declared.declarators.Part.TheVariants.{PointerTo, ArrayOf, FunctionOf}
use Rattle.type_rules.specs.declared.declarators.Shape.{Shape}
use Rattle.type_rules.specs.declared.specifiers.Specifiers.{Specifiers}
use Rattle.type_laws.proofs.Formed.{IsFormed, AreFormed, CompleteHaveWords}
use Rattle.type_laws.proofs.Operands.{formed_pointer}
use Rattle.type_laws.proofs.Strides.{has_words}
use Rattle.type_laws.proofs.Triples.{Each}
use Rattle.type_laws.proofs.Types.{not_refused}

or_false_left : (a b : Bool) → a || b ≡ false → a ≡ false
or_false_left true b e = e
or_false_left false b e = refl

or_false_right : (a b : Bool) → a || b ≡ false → b ≡ false
or_false_right true b e = absurd (cc)
or_false_right false b e = e

-- a parameter is a scalar
abbrev pub IsParameter : List StructInfo → Parameter → Type 0
IsParameter structures p = IsFormed structures p.kind × (is_scalar p.kind ≡ true)

-- the parameters of a part
abbrev pub PartIsFormed : List StructInfo → Part → Type 0
PartIsFormed structures (FunctionOf ps attributes) = Each (IsParameter structures) ps
PartIsFormed structures _ = Unit {0}

row_of_list : (structures : List StructInfo) (ps : List Parameter) → Each (IsParameter structures) ps
    → AreFormed structures (hidden-the_row-CType-1 (map (λ p. p.kind) ps))
unfolding IsFormed hidden hidden-the_row-CType-0 shape-the_row-CType-0 hidden-the_row-CType-1 shape-the_row-CType-1
row_of_list structures [] each = tt
row_of_list structures (p ∷ ps) each = (each.0.0, each.0.1, row_of_list structures ps each.1)

function_formed : (structures : List StructInfo) (t : CType) (ps : List Parameter) (effects : Effects) → IsFormed structures t → is_result t ≡ true
    → Each (IsParameter structures) ps
    → IsFormed structures (a_type.Function (record { result = t; params = map (λ p. p.kind) ps; effects = effects }))
unfolding IsFormed hidden hidden-the_row-CType-0 shape-the_row-CType-0 hidden-the_row-CType-1 shape-the_row-CType-1
function_formed structures t ps effects formed result each = (formed, result, row_of_list structures ps each)

array_formed : (structures : List StructInfo) (t : CType) (n : ℕ) → IsFormed structures t → 0 < words_of structures t → IsFormed structures (array_of t n)
unfolding IsFormed
array_formed structures t n formed some = (formed, some)

part_formed : (structures : List StructInfo) (p : Part) (t : CType) → CompleteHaveWords structures → IsFormed structures t → is_misplaced p t ≡ false
    → part_is_incomplete structures p t ≡ false → PartIsFormed structures p → IsFormed structures (part_type p t)
part_formed structures PointerTo t complete formed placed known each = formed_pointer structures t formed
part_formed structures (ArrayOf n) t complete formed placed known each = array_formed structures t n formed (has_words structures t complete formed placed known)
part_formed structures (FunctionOf ps attributes) t complete formed placed known each =
    function_formed structures t ps (union (effects_in attributes)) formed (not_refused (is_result t) placed) each

pub parts_formed : (structures : List StructInfo) (t : CType) (ps : List Part) → CompleteHaveWords structures → IsFormed structures t → are_misplaced t ps ≡ false
    → are_incomplete structures t ps ≡ false → Each (PartIsFormed structures) ps → IsFormed structures (parts_type t ps)
parts_formed structures t [] complete formed placed known each = formed
parts_formed structures t (p ∷ ps) complete formed placed known each =
    part_formed structures p (parts_type t ps) complete
    (parts_formed structures t ps complete formed (or_false_right (is_misplaced p (parts_type t ps)) (are_misplaced t ps) placed)
    (or_false_right (part_is_incomplete structures p (parts_type t ps)) (are_incomplete structures t ps) known) each.1)
    (or_false_left (is_misplaced p (parts_type t ps)) (are_misplaced t ps) placed)
    (or_false_left (part_is_incomplete structures p (parts_type t ps)) (are_incomplete structures t ps) known) each.0

-- effects change neither the words of a type nor whether it is formed
words_with : (structures : List StructInfo) (more : List Effects) (t : CType) → words_of structures (with_effects more t) ≡ words_of structures t
unfolding words_of with_effects
words_with structures more (Array' s (more_of-CType t end_of-CType) n) = ap (λ w. told (n * w)) (words_with structures more t)
words_with structures more (Pointer' s (more_of-CType t end_of-CType)) = refl
words_with structures more (Function' s r z ps e) = refl
words_with structures more Void = refl
words_with structures more Char = refl
words_with structures more Int = refl
words_with structures more Unsigned = refl
words_with structures more Mutex = refl
words_with structures more (Struct k) = refl

effects_formed : (structures : List StructInfo) (more : List Effects) (t : CType) → IsFormed structures t → IsFormed structures (with_effects more t)
unfolding IsFormed with_effects
effects_formed structures more (Array' s (more_of-CType t end_of-CType) n) f =
    (effects_formed structures more t f.0, subst (λ w. 0 < w) (sym (words_with structures more t)) f.1)
effects_formed structures more (Pointer' s (more_of-CType t end_of-CType)) f = effects_formed structures more t f
effects_formed structures more (Function' s (more_of-CType r end_of-CType) z ps e) f = f
effects_formed structures more Void f = f
effects_formed structures more Char f = f
effects_formed structures more Int f = f
effects_formed structures more Unsigned f = f
effects_formed structures more Mutex f = f
effects_formed structures more (Struct k) f = f

attributed_formed : (structures : List StructInfo) (more : List Effects) (t : CType) → IsFormed structures t → IsFormed structures (attributed more t)
attributed_formed structures [] t f = f
attributed_formed structures (e ∷ es) t f = effects_formed structures (e ∷ es) t f

-- what is known of specifiers and of a declarator
abbrev pub AreSpecified : Specifiers → Seen → Type 0
AreSpecified b s = IsFormed s.structures (base_type b)

abbrev pub IsShaped : Shape → Seen → Type 0
IsShaped d s = Each (PartIsFormed s.structures) d.parts

abbrev pub MakesFormed : Made → Seen → Type 0
MakesFormed m s = m.mistyped ≡ false → m.incomplete ≡ false → IsFormed s.structures m.kind

or_three : (a b c : Bool) → a || b || c ≡ false → a ≡ false
or_three true b c e = e
or_three false b c e = refl

pub made_is_formed : (s : Seen) (b : Specifiers) (d : Shape) (place : ℕ) → CompleteHaveWords s.structures → AreSpecified b s → IsShaped d s
    → MakesFormed (made s.structures b d place) s
unfolding made
made_is_formed s b d place complete specified shaped mistyped incomplete =
    attributed_formed s.structures (effects_in b.attributes) (parts_type (base_type b) d.parts)
    (parts_formed s.structures (base_type b) d.parts complete specified (or_three (are_misplaced (base_type b) d.parts) _ _ mistyped) incomplete shaped)
