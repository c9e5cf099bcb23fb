-- Declarators, parameters, members and type names keep what was seen, and make types that are formed.
use Rattle.std.proofs.Common.{◌≡◌, ℕ, Bool, true, false, refl, sym, List, [], ◌∷◌, ◌++◌, length, Option, Some, None}
use Rattle.std.specs.Prelude.{not, ◌||◌, is_some}
use Rattle.std.specs.List.{list_any}
use Rattle.std.specs.Str.{bytes_eq}
use Rattle.scopes.specs.Number.{number_of, noted}
use Rattle.scopes.specs.Scope.{found_here}
use Rattle.c_tree.specs.declared.words.Attr.{Attr}
use Rattle.c_tree.specs.declared.words.Span.{Span}
use Rattle.eff_types.specs.Types.{is_function}
use Rattle.eff_types.specs.declared.types.CType.{CType, Void, Char, Int, Unsigned, Mutex, Struct, Pointer', Array', Function', end_of-CType, more_of-CType}
use Rattle.core_unit.specs.Shapes.{is_scalar, is_unsized}
use Rattle.core_unit.specs.Typed.{Tables}
use Rattle.core_unit.specs.declared.expressions.Storage.TheVariants.{Automatic}
use Rattle.core_unit.specs.declared.tables.MemberInfo.{MemberInfo}
use Rattle.core_unit.specs.declared.tables.StructInfo.{StructInfo}
use Rattle.type_rules.specs.Constants.{number_constant}
use Rattle.type_rules.specs.Declarators.{with_part, pointer_part, is_no_size, array_size, array_part, function_part, made, anchor, parameter_declared, parameter, type_name, member_declared, member}
use Rattle.type_rules.specs.Reading.{Read, Good, and_then, text_of, name_number, scoped}
use Rattle.type_rules.specs.Seen.{Seen}
use Rattle.type_rules.specs.Types.{is_incomplete, adjusted}
use Rattle.type_rules.specs.declared.declarators.Made as is_made
use Rattle.type_rules.specs.declared.declarators.Parameter.{Parameter}
use Rattle.type_rules.specs.declared.declarators.Part.{Part}
use Rattle.type_rules.specs.declared.declarators.Part.TheVariants.{PointerTo, ArrayOf, FunctionOf}
use Rattle.type_rules.specs.declared.declarators.Shape.{Shape}
use Rattle.type_rules.specs.declared.found.Found.{Found}
use Rattle.type_rules.specs.declared.names.Entity.TheVariants.{Variable}
use Rattle.type_rules.specs.declared.specifiers.Specifiers.{Specifiers}
use Rattle.type_laws.proofs.Declared.{IsParameter, PartIsFormed, AreSpecified, IsShaped, MakesFormed, made_is_formed}
use Rattle.type_laws.proofs.Each.{each_as, each_more}
use Rattle.type_laws.proofs.Formed.{IsFormed, Stay, OpenAreEmpty, formed_stays}
use Rattle.type_laws.proofs.Left.{Left, Calmly, then_left, gives_left, left_as, left_of, scoped_keeps}
use Rattle.type_laws.proofs.Literals.{IsType, Nothing}
use Rattle.type_laws.proofs.Specifying.{Silent, AreMembers, WrittenKeeps}
use Rattle.type_laws.proofs.Steps.{faults_keep, faults_left, noted_left, declared_left}
use Rattle.type_laws.proofs.Strides.{has_words}
use Rattle.type_laws.proofs.Tables.{members_stay}
use Rattle.type_laws.proofs.Triples.{Each, IsLawfulMember, Lawful, calm_same, calm_twice, Triple, Keeps, Always, then_keeps, gives_keeps, refused_keeps, anyway}
use Rattle.type_laws.proofs.Types.{is_object}
use Rattle.type_laws.proofs.Worths.{constant_keeps}

-- parts stay formed
pub parameter_stays : (before after : List StructInfo) (p : Parameter) → Stay before after → OpenAreEmpty before → IsParameter before p → IsParameter after p
parameter_stays before after p stay empty h = (formed_stays before after p.kind stay empty h.0, h.1)

part_stays : (before after : List StructInfo) (p : Part) → Stay before after → OpenAreEmpty before → PartIsFormed before p → PartIsFormed after p
part_stays before after PointerTo stay empty h = tt
part_stays before after (ArrayOf n) stay empty h = tt
part_stays before after (FunctionOf ps attributes) stay empty h =
    each_as (IsParameter before) (IsParameter after) ps (λ p q. parameter_stays before after p stay empty q) h

pub shape_stays : (d : Shape) (s t : Seen) → Stay s.structures t.structures → OpenAreEmpty s.structures → IsShaped d s → IsShaped d t
shape_stays d s t stay empty h =
    each_as (PartIsFormed s.structures) (PartIsFormed t.structures) d.parts (λ p q. part_stays s.structures t.structures p stay empty q) h

pub specified_stays : (b : Specifiers) (s t : Seen) → Stay s.structures t.structures → OpenAreEmpty s.structures → AreSpecified b s → AreSpecified b t
specified_stays b s t stay empty h = formed_stays s.structures t.structures _ stay empty h

-- a part more
part_keeps : (pre : Tables → Type 0) (s : Seen) (p : Part) (d : Shape) → Lawful s → IsShaped d s → PartIsFormed s.structures p → Triple pre IsShaped Silent s (Good (with_part p d) s)
part_keeps pre s p d lawful shaped formed =
    gives_keeps s (with_part p d) lawful (each_more (PartIsFormed s.structures) d.parts p shaped formed) (λ u leads knows q. tt)

pub pointers_keep : (declarator : Seen → Read Shape) → Keeps Always IsShaped Silent declarator → Keeps Always IsShaped Silent (pointer_part declarator)
unfolding pointer_part and_then
pointers_keep declarator keeps s lawful =
    then_keeps s (declarator s) _ (keeps s lawful) (λ d t t_lawful t_stay shaped. part_keeps _ t PointerTo d t_lawful shaped tt)

size_keeps : (size : Option (Seen → Read Found)) → WrittenKeeps size → Keeps Always (λ n t. Unit {0}) Silent (array_size size)
unfolding and_then
size_keeps None keeps s lawful = gives_keeps s 0 lawful tt (λ u leads knows p. tt)
size_keeps (Some expression) keeps s lawful =
    then_keeps s (number_constant expression s) _ (constant_keeps expression keeps s lawful) (λ c t t_lawful t_stay known.
    refused_keeps t (is_no_size c.sign c.bits) 7 c.place _ (λ e. gives_keeps t c.bits t_lawful tt (λ u leads knows p. tt)))

pub arrays_keep : (declarator : Seen → Read Shape) (size : Option (Seen → Read Found)) → Keeps Always IsShaped Silent declarator → WrittenKeeps size
    → Keeps Always IsShaped Silent (array_part declarator size)
unfolding array_part and_then
arrays_keep declarator size keeps written s lawful =
    then_keeps s (declarator s) _ (keeps s lawful) (λ d t t_lawful t_stay shaped.
    then_keeps t (array_size size t) _ (anyway t _ (size_keeps size written t t_lawful)) (λ n v v_lawful v_stay known.
    part_keeps _ v (ArrayOf n) d v_lawful (shape_stays d t v v_stay t_lawful.open_are_empty shaped) tt))

-- parameters, as far as they were read
abbrev pub AreParameters : List Parameter → Seen → Type 0
AreParameters ps s = Each (IsParameter s.structures) ps

pub functions_keep : (declarator : Seen → Read Shape) (parameters : Seen → Read (List Parameter)) (attributes : List Attr) → Keeps Always IsShaped Silent declarator
    → ((s : Seen) → Lawful s → Left (Calmly AreParameters s) s (parameters s)) → Keeps Always IsShaped Silent (function_part declarator parameters attributes)
unfolding function_part and_then
functions_keep declarator parameters attributes keeps p_keeps s lawful =
    then_keeps s (declarator s) _ (keeps s lawful) (λ d t t_lawful t_stay shaped.
    then_keeps t (scoped parameters t) _ (scoped_keeps _ AreParameters parameters t t_lawful (λ ps v scopes known. known) p_keeps) (λ ps v v_lawful v_stay known.
    part_keeps _ v (FunctionOf ps attributes) d v_lawful (shape_stays d t v v_stay t_lawful.open_are_empty shaped) known))

-- tests that don't hold
pub or_first : (a b : Bool) → a || b ≡ false → a ≡ false
or_first true b e = e
or_first false b e = refl

pub or_second : (a b : Bool) → a || b ≡ false → b ≡ false
or_second true b e = absurd (cc)
or_second false b e = e

pub first_of_three : (a b c : Bool) → a || b || c ≡ false → a ≡ false
first_of_three true b c e = e
first_of_three false b c e = refl

pub last_of_three : (a b c : Bool) → a || b || c ≡ false → c ≡ false
last_of_three true b c e = absurd (cc)
last_of_three false true c e = absurd (cc)
last_of_three false false c e = e

pub not_false : (a : Bool) → not a ≡ false → a ≡ true
not_false true e = refl
not_false false e = sym e

-- parameters
adjusted_formed : (structures : List StructInfo) (t : CType) → IsFormed structures t → IsFormed structures (adjusted t)
unfolding IsFormed
adjusted_formed structures (Array' _ (more_of-CType t end_of-CType) n) f = f.0
adjusted_formed structures (Function' s r z ps e) f = f
adjusted_formed structures (Pointer' s t) f = f
adjusted_formed structures (Struct k) f = f
adjusted_formed structures Void f = tt
adjusted_formed structures Char f = tt
adjusted_formed structures Int f = tt
adjusted_formed structures Unsigned f = tt
adjusted_formed structures Mutex f = tt

pub object_of_scalar : (t : CType) → is_scalar t ≡ true → is_object t ≡ true
object_of_scalar Char e = refl
object_of_scalar Int e = refl
object_of_scalar Unsigned e = refl
object_of_scalar (Pointer' s t) e = refl
object_of_scalar Void e = e
object_of_scalar Mutex e = refl
object_of_scalar (Struct k) e = refl
object_of_scalar (Array' _ t n) e = refl
object_of_scalar (Function' _ _ _ _ _) e = e

one_parameter : (s : Seen) (m : is_made.Made) (before : List Parameter) (name : Option ℕ) → AreParameters before s → MakesFormed m s
    → m.mistyped || m.noreturn || not (is_scalar (adjusted m.kind)) ≡ false → m.incomplete ≡ false
    → IsFormed s.structures (adjusted m.kind) × (is_scalar (adjusted m.kind) ≡ true) × AreParameters (before ++ record { name = name; kind = adjusted m.kind } ∷ []) s
one_parameter s m before name known makes mistyped incomplete =
    let formed = adjusted_formed s.structures m.kind (makes (first_of_three m.mistyped m.noreturn (not (is_scalar (adjusted m.kind))) mistyped) incomplete) in
    let scalar = not_false (is_scalar (adjusted m.kind)) (last_of_three m.mistyped m.noreturn (not (is_scalar (adjusted m.kind))) mistyped) in
    (formed, scalar, each_more (IsParameter s.structures) before (record { name = name; kind = adjusted m.kind }) known (formed, scalar))

declared_parameter : (s : Seen) (name : Option Span) (m : is_made.Made) (before : List Parameter) → Lawful s → AreParameters before s → MakesFormed m s
    → Left (Calmly AreParameters s) s (parameter_declared name m before s)
unfolding and_then name_number
declared_parameter s None m before lawful known makes =
    faults_left s false (m.mistyped || m.noreturn || not (is_scalar (adjusted m.kind))) m.conflicting m.incomplete m.place _ (λ a b c d.
    gives_left (Calmly AreParameters s) s _ lawful ((one_parameter s m before None known makes b d).2, calm_same s))
declared_parameter s (Some name) m before lawful known makes =
    noted_left s (noted s.names (text_of s.source name)) _
    (faults_left after (is_some (found_here s.scopes number)) (m.mistyped || m.noreturn || not (is_scalar (adjusted m.kind))) m.conflicting m.incomplete m.place _ (λ a b c d.
    let one = one_parameter s m before (Some number) known makes b d in
    declared_left (Calmly AreParameters s) after number (Variable (adjusted m.kind) (Automatic (length before)) None) _ lawful (one.0, object_of_scalar (adjusted m.kind) one.1)
    (one.2, calm_same s)))
  where
    number : ℕ
    number = number_of s.names (text_of s.source name)

    after : Seen
    after = record s { names = noted s.names (text_of s.source name) }

pub parameter_left : (place : ℕ) (specifiers : Seen → Read Specifiers) (declarator : Seen → Read Shape) (before : List Parameter) → Keeps Always AreSpecified Silent specifiers
    → Keeps Always IsShaped Silent declarator → (s : Seen) → Lawful s → AreParameters before s → Left (Calmly AreParameters s) s (parameter place specifiers declarator before s)
unfolding parameter and_then
parameter_left place specifiers declarator before s_keeps d_keeps s lawful known =
    then_left s (specifiers s) _ (left_of Always AreSpecified Silent s (specifiers s) (s_keeps s lawful)) (λ b t b_made.
    then_left t (declarator t) _ (left_of Always IsShaped Silent t (declarator t) (d_keeps t b_made.lawful)) (λ d v d_made.
    let specified = specified_stays b t v d_made.stay b_made.lawful.open_are_empty b_made.known.known in
    let makes = made_is_formed v b d (anchor d place) d_made.lawful.complete_have_words specified d_made.known.known in
    let before_known = given_stay before t v d_made.stay b_made.lawful.open_are_empty (given_stay before s t b_made.stay lawful.open_are_empty known) in
    let calm = calm_twice s t v b_made.known.calm d_made.known.calm in
    left_as (Calmly AreParameters v) (Calmly AreParameters s) v _ (declared_parameter v d.name (made v.structures b d (anchor d place)) before d_made.lawful before_known makes)
    (λ ps w h. (h.known.0, calm_twice s v w calm h.known.1))))
  where
    given_stay : (ps : List Parameter) (s t : Seen) → Stay s.structures t.structures → OpenAreEmpty s.structures → AreParameters ps s → AreParameters ps t
    given_stay ps s t stay empty h =
        each_as (IsParameter s.structures) (IsParameter t.structures) ps (λ p q. parameter_stays s.structures t.structures p stay empty q) h

-- type names
pub type_names_keep : (place : ℕ) (specifiers : Seen → Read Specifiers) (declarator : Seen → Read Shape) → Keeps Always AreSpecified Silent specifiers
    → Keeps Always IsShaped Silent declarator → Keeps Always IsType Nothing (type_name place specifiers declarator)
unfolding type_name and_then
type_names_keep place specifiers declarator s_keeps d_keeps s lawful =
    then_keeps s (specifiers s) _ (s_keeps s lawful) (λ b t t_lawful t_stay b_known.
    then_keeps t (declarator t) _ (anyway t _ (d_keeps t t_lawful)) (λ d v v_lawful v_stay shaped.
    let specified = specified_stays b t v v_stay t_lawful.open_are_empty b_known in
    let m = made v.structures b d place in
    let makes = made_is_formed v b d place v_lawful.complete_have_words specified shaped in
    faults_keep v false (m.mistyped || m.noreturn) m.conflicting (m.incomplete || is_unsized m.kind) place _ (λ p q r i.
    gives_keeps v m.kind v_lawful (makes (or_first m.mistyped m.noreturn q) (or_first m.incomplete (is_unsized m.kind) i)) (λ u leads knows p. tt))))

-- members
pub complete_object : (structures : List StructInfo) (t : CType) → is_function t ≡ false → is_incomplete structures t ≡ false → is_object t ≡ true
complete_object structures Void e f = absurd (cc)
complete_object structures (Function' _ _ _ _ _) e f = absurd (cc)
complete_object structures Char e f = refl
complete_object structures Int e f = refl
complete_object structures Unsigned e f = refl
complete_object structures Mutex e f = refl
complete_object structures (Struct k) e f = refl
complete_object structures (Pointer' _ t) e f = refl
complete_object structures (Array' _ t n) e f = refl

member_made : (s : Seen) (m : is_made.Made) (text : List ℕ) → Lawful s → MakesFormed m s → m.mistyped || m.noreturn || is_function m.kind ≡ false
    → m.incomplete || is_incomplete s.structures m.kind ≡ false → IsLawfulMember s.structures (record { name = text; kind = m.kind })
member_made s m text lawful makes mistyped incomplete =
    let formed = makes (first_of_three m.mistyped m.noreturn (is_function m.kind) mistyped) (or_first m.incomplete (is_incomplete s.structures m.kind) incomplete) in
    let function = last_of_three m.mistyped m.noreturn (is_function m.kind) mistyped in
    let complete = or_second m.incomplete (is_incomplete s.structures m.kind) incomplete in
    record {
      formed = formed;
      some = has_words s.structures m.kind lawful.complete_have_words formed function complete;
      solid = complete_object s.structures m.kind function complete;
    }

declared_member : (s : Seen) (name : Option Span) (m : is_made.Made) (before : List MemberInfo) → Lawful s → AreMembers before s → MakesFormed m s
    → Triple Always AreMembers Silent s (member_declared name m before s)
unfolding and_then
declared_member s None m before lawful known makes = gives_keeps s before lawful known (λ u leads knows p. tt)
declared_member s (Some name) m before lawful known makes =
    faults_keep s (list_any (λ other. bytes_eq (text_of s.source name) other.name) before) (m.mistyped || m.noreturn || is_function m.kind) m.conflicting
    (m.incomplete || is_incomplete s.structures m.kind) m.place _ (λ a b c d.
    gives_keeps s _ lawful (each_more (IsLawfulMember s.structures) before (record { name = text_of s.source name; kind = m.kind }) known
    (member_made s m (text_of s.source name) lawful makes b d)) (λ u leads knows p. tt))

pub members_keep : (b : Specifiers) (declarator : Seen → Read Shape) (before : List MemberInfo) → Keeps Always IsShaped Silent declarator → (s : Seen) → Lawful s → AreSpecified b s
    → AreMembers before s → Triple Always AreMembers Silent s (member b declarator before s)
unfolding member and_then
members_keep b declarator before keeps s lawful specified known =
    then_keeps s (declarator s) _ (keeps s lawful) (λ d t t_lawful t_stay shaped.
    anyway t _ (declared_member t d.name (made t.structures b d (anchor d 0)) before t_lawful (members_stay s.structures t.structures before t_stay lawful.open_are_empty known)
    (made_is_formed t b d (anchor d 0) t_lawful.complete_have_words (specified_stays b s t t_stay lawful.open_are_empty specified) shaped)))
