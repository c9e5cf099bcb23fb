-- Declarators (C17 6.7.6), from the declared name outwards, with the effects on the function types on their way, parameters and type names.
use Rattle.std.specs.Prelude.{ℕ, Bool, false, not, ◌||◌, ◌==◌, ◌^◌, nat_le, List, [], ◌∷◌, ◌++◌, map, length, is_some, Option, Some, None}
use Rattle.std.specs.List.{list_any}
use Rattle.std.specs.Str.{bytes_eq}
use Rattle.c_tree.specs.declared.words.Attr.{Attr}
use Rattle.c_tree.specs.declared.words.Span.{Span}
use Rattle.eff_types.specs.Effects.{union, conflict}
use Rattle.eff_types.specs.Types.{is_function}
use Rattle.eff_types.specs.declared.types.CType.{CType}
use Rattle.eff_types.specs.declared.types.CType.TheVariants as a_type
use Rattle.core_unit.specs.Shapes.{is_scalar, pointer_to, array_of, is_unsized}
use Rattle.core_unit.specs.declared.expressions.Storage.TheVariants.{Automatic}
use Rattle.core_unit.specs.declared.operators.Sign.{Sign}
use Rattle.core_unit.specs.declared.operators.Sign.TheVariants.{Signed, Unsigned as Without}
use Rattle.core_unit.specs.declared.tables.MemberInfo.{MemberInfo}
use Rattle.core_unit.specs.declared.tables.StructInfo.{StructInfo}
use Rattle.type_rules.specs.Constants.{number_constant}
use Rattle.type_rules.specs.declared.found.Found.{Found}
use Rattle.type_rules.specs.Reading.{Rule, Good, ◌>>=◌, ◌>>◌, gives, refused, seen, scoped, name_number, meaning_here, declared}
use Rattle.type_rules.specs.declared.names.Entity.TheVariants.{Variable}
pub use Rattle.type_rules.specs.declared.declarators.Made.{Made}
pub use Rattle.type_rules.specs.declared.declarators.Parameter.{Parameter}
pub use Rattle.type_rules.specs.declared.declarators.Part.{Part}
pub use Rattle.type_rules.specs.declared.declarators.Part.TheVariants.{PointerTo, ArrayOf, FunctionOf}
pub use Rattle.type_rules.specs.declared.declarators.Shape.{Shape}
use Rattle.type_rules.specs.Specifiers.{Specifiers, base_type, spelling}
use Rattle.type_rules.specs.Types.{is_incomplete, is_result, adjusted, says_noreturn, effects_in, outermost_effects, attributed, lacks_function, conflicts_with}

abbrev pub bare : Option Span → Shape
bare name = record { name = name; parts = [] }

abbrev pub with_part : Part → Shape → Shape
with_part p d = record d { parts = d.parts ++ p ∷ [] }

unfoldable pub pointer_part : Rule Shape → Rule Shape
pointer_part declarator = do
  d ← declarator
  gives (with_part PointerTo d)

abbrev pub is_no_size : Sign → ℕ → Bool
is_no_size Without bits = bits == 0
is_no_size Signed bits = bits == 0 || nat_le (2 ^ 31) bits

-- The size of an array, at least 1 (C17 6.7.6.2).
abbrev pub array_size : Option (Rule Found) → Rule ℕ
array_size None = gives 0
array_size (Some expression) = do
  c ← number_constant expression
  refused (is_no_size c.sign c.bits) 7 c.place
  gives c.bits

unfoldable pub array_part : Rule Shape → Option (Rule Found) → Rule Shape
array_part declarator size = do
  d ← declarator
  n ← array_size size
  gives (with_part (ArrayOf n) d)

-- Parameters are read in a scope of their own (C17 6.2.1).
unfoldable pub function_part : Rule Shape → Rule (List Parameter) → List Attr → Rule Shape
function_part declarator parameters attributes = do
  d ← declarator
  ps ← scoped parameters
  gives (with_part (FunctionOf ps attributes) d)

-- The type of the name, where the specifiers say this one: the parts nearer to the name stand further outside.
abbrev pub part_type : Part → CType → CType
part_type PointerTo t = pointer_to t
part_type (ArrayOf n) t = array_of t n
part_type (FunctionOf ps attributes) t = a_type.Function (record {
  result = t;
  params = map (λ p. p.kind) ps;
  effects = union (effects_in attributes);
})

abbrev pub parts_type : CType → List Part → CType
parts_type t [] = t
parts_type t (p ∷ ps) = part_type p (parts_type t ps)

-- A part doesn't fit what it is of: a function gives an array, a function or a structure; an array has functions as elements (C17 6.7.6).
abbrev pub is_misplaced : Part → CType → Bool
is_misplaced PointerTo t = false
is_misplaced (ArrayOf n) t = is_function t
is_misplaced (FunctionOf ps attributes) t = not (is_result t)

abbrev pub are_misplaced : CType → List Part → Bool
are_misplaced t [] = false
are_misplaced t (p ∷ ps) = is_misplaced p (parts_type t ps) || are_misplaced t ps

-- the attributes of one parameter list conflict
abbrev pub part_conflicts : Part → Bool
part_conflicts (FunctionOf ps attributes) = conflict (effects_in attributes)
part_conflicts _ = false

-- An array has elements of an incomplete type, or a pointer leads to an array without a size.
abbrev pub part_is_incomplete : List StructInfo → Part → CType → Bool
part_is_incomplete structures PointerTo t = is_unsized t
part_is_incomplete structures (ArrayOf n) t = is_incomplete structures t
part_is_incomplete structures (FunctionOf ps attributes) t = false

abbrev pub are_incomplete : List StructInfo → CType → List Part → Bool
are_incomplete structures t [] = false
are_incomplete structures t (p ∷ ps) = part_is_incomplete structures p (parts_type t ps) || are_incomplete structures t ps

abbrev pub part_is_noreturn : Part → Bool
part_is_noreturn (FunctionOf ps attributes) = says_noreturn attributes
part_is_noreturn _ = false

-- `noreturn` on the list of a function type that isn't the declared name's own
abbrev pub is_inner_noreturn : List Part → Bool
is_inner_noreturn [] = false
is_inner_noreturn (p ∷ ps) = list_any part_is_noreturn ps

abbrev pub is_own_noreturn : List Part → Bool
is_own_noreturn [] = false
is_own_noreturn (p ∷ ps) = part_is_noreturn p

abbrev pub part_parameters : Part → Option (List Parameter)
part_parameters (FunctionOf ps attributes) = Some ps
part_parameters _ = None

-- The parameters of the name's own list, where the declarator makes the name a function by one.
abbrev pub own_parameters : List Part → Option (List Parameter)
own_parameters [] = None
own_parameters (p ∷ parts) = part_parameters p

abbrev pub all_noreturn : Specifiers → Shape → Bool
all_noreturn b d = b.is_noreturn || says_noreturn b.attributes || is_own_noreturn d.parts

-- An attribute behind a parameter list belongs to that function type, and one in the specifiers to the outermost function type.
unfoldable pub made : List StructInfo → Specifiers → Shape → ℕ → Made
made structures b d place =
    let t = parts_type (base_type b) d.parts in
    let more = effects_in b.attributes in
    record {
      place = place;
      kind = attributed more t;
      noreturn = all_noreturn b d;
      parameters = own_parameters d.parts;
      mistyped = are_misplaced (base_type b) d.parts || lacks_function more (outermost_effects t) || is_inner_noreturn d.parts;
      conflicting = list_any part_conflicts d.parts || conflicts_with more (outermost_effects t);
      incomplete = are_incomplete structures (base_type b) d.parts;
    }

abbrev pub made_here : Specifiers → Shape → ℕ → Rule Made
made_here b d place = λ s. Good (made s.structures b d place) s

-- Of the rules that fail at one declared name the one with the lowest number is answered (this project's own rule).
abbrev pub faults : (redefined mistyped conflicting incomplete : Bool) (place : ℕ) → Rule (Unit {0})
faults redefined mistyped conflicting incomplete place = do
  refused redefined 2 place
  refused mistyped 3 place
  refused conflicting 4 place
  refused incomplete 10 place

abbrev pub start_or : Option Span → ℕ → ℕ
start_or (Some name) place = name.start
start_or None place = place

-- where a fault of a declarator is named: at its name, or at the first token of the parameter or type name without one
abbrev pub anchor : Shape → ℕ → ℕ
anchor d place = start_or d.name place

-- Parameters (C17 6.7.6.3): numbers and pointers, no two of one name.
abbrev pub parameter_declared : Option Span → Made → List Parameter → Rule (List Parameter)
parameter_declared None m before = do
  faults false (m.mistyped || m.noreturn || not (is_scalar (adjusted m.kind))) m.conflicting m.incomplete m.place
  gives (before ++ record { name = None; kind = adjusted m.kind } ∷ [])
parameter_declared (Some name) m before = do
  number ← name_number name
  here ← meaning_here number
  faults (is_some here) (m.mistyped || m.noreturn || not (is_scalar (adjusted m.kind))) m.conflicting m.incomplete m.place
  declared number (Variable (adjusted m.kind) (Automatic (length before)) None)
  gives (before ++ record { name = Some number; kind = adjusted m.kind } ∷ [])

unfoldable pub parameter : ℕ → Rule Specifiers → Rule Shape → List Parameter → Rule (List Parameter)
parameter place specifiers declarator before = do
  b ← specifiers
  d ← declarator
  m ← made_here b d (anchor d place)
  parameter_declared d.name m before

-- Type names (C17 6.7.7).
unfoldable pub type_name : ℕ → Rule Specifiers → Rule Shape → Rule CType
type_name place specifiers declarator = do
  b ← specifiers
  d ← declarator
  m ← made_here b d place
  faults false (m.mistyped || m.noreturn) m.conflicting (m.incomplete || is_unsized m.kind) place
  gives m.kind

-- A member (C17 6.7.2.1), behind those before it.
abbrev pub member_declared : Option Span → Made → List MemberInfo → Rule (List MemberInfo)
member_declared None m before = gives before
member_declared (Some name) m before = do
  text ← spelling name
  s ← seen
  faults (list_any (λ other. bytes_eq text other.name) before) (m.mistyped || m.noreturn || is_function m.kind)
      m.conflicting (m.incomplete || is_incomplete s.structures m.kind) m.place
  gives (before ++ record { name = text; kind = m.kind } ∷ [])

unfoldable pub member : Specifiers → Rule Shape → List MemberInfo → Rule (List MemberInfo)
member b declarator before = do
  d ← declarator
  m ← made_here b d (anchor d 0)
  member_declared d.name m before
