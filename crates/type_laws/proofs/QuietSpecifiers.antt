-- Specifiers, tags and declarators give nothing that has a level: only the constants in them may be warned of.
use Rattle.std.proofs.Common.{ℕ, Bool, true, false, List, length, Option, Some, None}
use Rattle.std.specs.Prelude.{not, ◌&&◌, ◌||◌, ◌==◌, is_some, bytes_eq}
use Rattle.std.specs.List.{list_any}
use Rattle.c_tree.specs.declared.words.Attr.{Attr}
use Rattle.c_tree.specs.declared.words.Span.{Span}
use Rattle.eff_types.specs.Types.{is_function}
use Rattle.core_unit.specs.Shapes.{is_scalar, is_unsized}
use Rattle.core_unit.specs.declared.expressions.Storage.TheVariants.{Automatic}
use Rattle.core_unit.specs.declared.tables.FunctionInfo.{FunctionInfo}
use Rattle.core_unit.specs.declared.tables.MemberInfo.{MemberInfo}
use Rattle.scopes.specs.Scope.{found, found_here, declare}
use Rattle.type_rules.specs.Constants.{number_constant}
use Rattle.type_rules.specs.Declarators.{pointer_part, is_no_size, array_size, array_part, function_part, made, anchor, faults, parameter_declared, parameter, type_name, member_declared, member}
use Rattle.type_rules.specs.Reading.{Read, Good, Bad, and_then, name_number, text_of, scoped, declared}
use Rattle.type_rules.specs.Seen.{Seen}
use Rattle.type_rules.specs.Specifiers.{named_type, typedef_name, structure_by, tagged_structure, opened_structure, structure_name, structure_closed, structure, enumeration_by, tagged_enumeration, opened_enumeration, enumeration_name, enumeration, is_outside_int, enumerator_value, enumerator_named, enumerator_valued, enumerator}
use Rattle.type_rules.specs.Types.{is_incomplete, adjusted}
use Rattle.type_rules.specs.declared.declarators.Made.{Made}
use Rattle.type_rules.specs.declared.declarators.Parameter.{Parameter}
use Rattle.type_rules.specs.declared.declarators.Shape.{Shape}
use Rattle.type_rules.specs.declared.found.Found.{Found}
use Rattle.type_rules.specs.declared.names.Entity.{Entity}
use Rattle.type_rules.specs.declared.names.Entity.TheVariants.{Variable, Function, TypeName, Enumerator, Library, NullPointer, MutexInitializer}
use Rattle.type_rules.specs.declared.names.Tag.{Tag}
use Rattle.type_rules.specs.declared.names.Tag.TheVariants.{Structure, Enumeration}
use Rattle.type_rules.specs.declared.specifiers.Specifiers.{Specifiers}
use Rattle.type_laws.proofs.Quiet.{Always, Anything, Quiet, Quietly, then_quiet, gives_quiet, moves_quiet, fails_quiet, refused_quiet, if_quiet, anyway, scoped_quiet}
use Rattle.type_laws.proofs.QuietCalls.{name_number_quiet, number_constant_quiet}
use Rattle.type_laws.proofs.QuietOperands.{QuietFound}

module _ {A : Type 0} {pre : List FunctionInfo → Type 0} where
  -- nothing that is asked changes
  pub steady : (s : Seen) (a : A) → Quiet pre Anything s (Good a s)
  steady s a = gives_quiet s a (λ u ends p. tt)

-- a name is declared
pub declared_quiet : (pre : List FunctionInfo → Type 0) (s : Seen) (number : ℕ) (e : Entity) → Quiet pre Anything s (declared number e s)
declared_quiet pre s number e = moves_quiet s (record s { scopes = declare s.scopes number e }) tt (λ u ends. ends) (λ u kept. kept) (λ u ends p. tt)

named_type_quiet : (pre : List FunctionInfo → Type 0) (s : Seen) (e : Option Entity) (place : ℕ) → Quiet pre Anything s (named_type e place s)
named_type_quiet pre s (Some (TypeName t)) place = steady s t
named_type_quiet pre s (Some (Variable t storage number)) place = fails_quiet s 1 place
named_type_quiet pre s (Some (Function number)) place = fails_quiet s 1 place
named_type_quiet pre s (Some (Enumerator bits)) place = fails_quiet s 1 place
named_type_quiet pre s (Some (Library row)) place = fails_quiet s 1 place
named_type_quiet pre s (Some NullPointer) place = fails_quiet s 1 place
named_type_quiet pre s (Some MutexInitializer) place = fails_quiet s 1 place
named_type_quiet pre s None place = fails_quiet s 1 place

pub typedef_name_quiet : (name : Span) (b : Specifiers) → Quietly Anything (typedef_name name b)
unfolding typedef_name
typedef_name_quiet name b s =
    then_quiet s (name_number name s) _ (name_number_quiet Always s name) (λ number t.
    then_quiet t (Good (found t.scopes number) t) _ (steady t (found t.scopes number)) (λ e v.
    then_quiet v (named_type e name.start v) _ (named_type_quiet _ v e name.start) (λ k w.
    steady w _)))

structure_by_quiet : (pre : List FunctionInfo → Type 0) (name : Span) (number : ℕ) (opens : Bool) (tag : Option Tag) (s : Seen)
    → Quiet pre Anything s (structure_by name number opens tag s)
unfolding and_then
structure_by_quiet pre name number opens (Some (Structure k opened)) s =
    refused_quiet s (opens && opened) 2 name.start _ (λ e. moves_quiet s _ k (λ u ends. ends) (λ u kept. kept) (λ u ends p. tt))
structure_by_quiet pre name number opens (Some (Enumeration opened)) s = fails_quiet s 2 name.start
structure_by_quiet pre name number opens None s = moves_quiet s _ _ (λ u ends. ends) (λ u kept. kept) (λ u ends p. tt)

tagged_structure_quiet : (opens : Bool) (name : Span) → Quietly Anything (tagged_structure opens name)
unfolding tagged_structure
tagged_structure_quiet opens name s =
    then_quiet s (name_number name s) _ (name_number_quiet Always s name) (λ number t.
    then_quiet t (Good (found t.tags number) t) _ (steady t (found t.tags number)) (λ tag v.
    structure_by_quiet _ name number opens tag v))

opened_structure_quiet : (tag : Option Span) → Quietly Anything (opened_structure tag)
opened_structure_quiet None s = moves_quiet s _ _ (λ u ends. ends) (λ u kept. kept) (λ u ends p. tt)
opened_structure_quiet (Some name) s = tagged_structure_quiet true name s

pub structure_name_quiet : (name : Span) (b : Specifiers) → Quietly Anything (structure_name name b)
unfolding structure_name
structure_name_quiet name b s = then_quiet s (tagged_structure false name s) _ (tagged_structure_quiet false name s) (λ k t. steady t _)

structure_closed_quiet : (pre : List FunctionInfo → Type 0) (place : ℕ) (tag : Option Span) (k : ℕ) (members : List MemberInfo) (b : Specifiers) (s : Seen)
    → Quiet pre Anything s (structure_closed place tag k members b s)
unfolding and_then
structure_closed_quiet pre place None k members b s =
    refused_quiet s (length members == 0) 10 place _ (λ e. moves_quiet s _ _ (λ u ends. ends) (λ u kept. kept) (λ u ends p. tt))
structure_closed_quiet pre place (Some name) k members b s =
    refused_quiet s (length members == 0) 10 place _ (λ e. moves_quiet s _ _ (λ u ends. ends) (λ u kept. kept) (λ u ends p. tt))

pub structure_quiet : (place : ℕ) (tag : Option Span) (members : Seen → Read (List MemberInfo)) (b : Specifiers) → Quietly Anything members
    → Quietly Anything (structure place tag members b)
unfolding structure
structure_quiet place tag members b keeps s =
    then_quiet s (opened_structure tag s) _ (opened_structure_quiet tag s) (λ k t.
    then_quiet t (members t) _ (anyway t (members t) (keeps t)) (λ ms v.
    structure_closed_quiet _ place tag k ms b v))

enumeration_by_quiet : (pre : List FunctionInfo → Type 0) (name : Span) (number : ℕ) (opens : Bool) (tag : Option Tag) (s : Seen)
    → Quiet pre Anything s (enumeration_by name number opens tag s)
enumeration_by_quiet pre name number opens (Some (Enumeration opened)) s =
    refused_quiet s (opens && opened) 2 name.start _ (λ e. moves_quiet s _ _ (λ u ends. ends) (λ u kept. kept) (λ u ends p. tt))
enumeration_by_quiet pre name number opens (Some (Structure k opened)) s = fails_quiet s 2 name.start
enumeration_by_quiet pre name number opens None s = moves_quiet s _ _ (λ u ends. ends) (λ u kept. kept) (λ u ends p. tt)

tagged_enumeration_quiet : (opens : Bool) (name : Span) → Quietly Anything (tagged_enumeration opens name)
unfolding tagged_enumeration
tagged_enumeration_quiet opens name s =
    then_quiet s (name_number name s) _ (name_number_quiet Always s name) (λ number t.
    then_quiet t (Good (found t.tags number) t) _ (steady t (found t.tags number)) (λ tag v.
    enumeration_by_quiet _ name number opens tag v))

opened_enumeration_quiet : (tag : Option Span) → Quietly Anything (opened_enumeration tag)
opened_enumeration_quiet None s = steady s tt
opened_enumeration_quiet (Some name) s = tagged_enumeration_quiet true name s

pub enumeration_name_quiet : (name : Span) (b : Specifiers) → Quietly Anything (enumeration_name name b)
unfolding enumeration_name
enumeration_name_quiet name b s = then_quiet s (tagged_enumeration false name s) _ (tagged_enumeration_quiet false name s) (λ k t. steady t _)

pub enumeration_quiet : (tag : Option Span) (enumerators : Seen → Read (Option ℕ)) (b : Specifiers) → Quietly Anything enumerators
    → Quietly Anything (enumeration tag enumerators b)
unfolding enumeration
enumeration_quiet tag enumerators b keeps s =
    then_quiet s (opened_enumeration tag s) _ (opened_enumeration_quiet tag s) (λ k t.
    then_quiet t (enumerators t) _ (anyway t (enumerators t) (keeps t)) (λ last v. steady v _))

-- a constant, where one is written
abbrev pub WrittenQuiet : Option (Seen → Read Found) → Type 0
WrittenQuiet None = Unit {0}
WrittenQuiet (Some rule) = Quietly QuietFound rule

enumerator_value_quiet : (pre : List FunctionInfo → Type 0) (place : ℕ) (written : Option (Seen → Read Found)) (next : Option ℕ) → WrittenQuiet written → (s : Seen)
    → Quiet pre Anything s (enumerator_value place written next s)
enumerator_value_quiet pre place (Some expression) next keeps s =
    then_quiet s (number_constant expression s) _ (number_constant_quiet pre s expression keeps) (λ c t.
    refused_quiet t (is_outside_int c.sign c.bits) 7 c.place _ (λ e. steady t _))
enumerator_value_quiet pre place None (Some bits) keeps s = steady s bits
enumerator_value_quiet pre place None None keeps s = fails_quiet s 7 place

enumerator_valued_quiet : (pre : List FunctionInfo → Type 0) (name : Span) (number : ℕ) (written : Option (Seen → Read Found)) (next : Option ℕ) → WrittenQuiet written
    → (s : Seen) → Quiet pre Anything s (enumerator_valued name number written next s)
enumerator_valued_quiet pre name number written next keeps s =
    then_quiet s (enumerator_value name.start written next s) _ (enumerator_value_quiet pre name.start written next keeps s) (λ bits t.
    then_quiet t (declared number (Enumerator bits) t) _ (declared_quiet _ t number (Enumerator bits)) (λ x v. steady v _))

enumerator_named_quiet : (pre : List FunctionInfo → Type 0) (name : Span) (s : Seen) → Quiet pre Anything s (enumerator_named name s)
enumerator_named_quiet pre name s =
    then_quiet s (name_number name s) _ (name_number_quiet pre s name) (λ number t.
    then_quiet t (Good (found_here t.scopes number) t) _ (steady t (found_here t.scopes number)) (λ here v.
    refused_quiet v (is_some here) 2 name.start _ (λ e. steady v number)))

pub enumerator_quiet : (name : Span) (written : Option (Seen → Read Found)) (next : Option ℕ) → WrittenQuiet written → Quietly Anything (enumerator name written next)
unfolding enumerator
enumerator_quiet name written next keeps s =
    then_quiet s (enumerator_named name s) _ (enumerator_named_quiet Always name s) (λ number t. enumerator_valued_quiet _ name number written next keeps t)

pub pointer_part_quiet : (declarator : Seen → Read Shape) → Quietly Anything declarator → Quietly Anything (pointer_part declarator)
unfolding pointer_part
pointer_part_quiet declarator keeps s = then_quiet s (declarator s) _ (keeps s) (λ d t. steady t _)

array_size_quiet : (pre : List FunctionInfo → Type 0) (size : Option (Seen → Read Found)) → WrittenQuiet size → (s : Seen) → Quiet pre Anything s (array_size size s)
array_size_quiet pre None keeps s = steady s 0
array_size_quiet pre (Some expression) keeps s =
    then_quiet s (number_constant expression s) _ (number_constant_quiet pre s expression keeps) (λ c t.
    refused_quiet t (is_no_size c.sign c.bits) 7 c.place _ (λ e. steady t _))

pub array_part_quiet : (declarator : Seen → Read Shape) (size : Option (Seen → Read Found)) → Quietly Anything declarator → WrittenQuiet size
    → Quietly Anything (array_part declarator size)
unfolding array_part
array_part_quiet declarator size keeps written s =
    then_quiet s (declarator s) _ (keeps s) (λ d t.
    then_quiet t (array_size size t) _ (array_size_quiet _ size written t) (λ n v. steady v _))

pub function_part_quiet : (declarator : Seen → Read Shape) (parameters : Seen → Read (List Parameter)) (attributes : List Attr) → Quietly Anything declarator
    → Quietly Anything parameters → Quietly Anything (function_part declarator parameters attributes)
unfolding function_part
function_part_quiet declarator parameters attributes first second s =
    then_quiet s (declarator s) _ (first s) (λ d t.
    then_quiet t (scoped parameters t) _ (anyway t (scoped parameters t) (scoped_quiet Anything parameters second t)) (λ ps v. steady v _))

pub faults_quiet : (pre : List FunctionInfo → Type 0) (redefined mistyped conflicting incomplete : Bool) (place : ℕ) (s : Seen)
    → Quiet pre Anything s (faults redefined mistyped conflicting incomplete place s)
faults_quiet pre redefined mistyped conflicting incomplete place s =
    refused_quiet s redefined 2 place _ (λ a.
    refused_quiet s mistyped 3 place _ (λ b.
    refused_quiet s conflicting 4 place _ (λ c.
    if_quiet s incomplete (Bad 10 place) (Good tt s) (λ d. fails_quiet s 10 place) (λ d. steady s tt))))

parameter_declared_quiet : (pre : List FunctionInfo → Type 0) (name : Option Span) (m : Made) (before : List Parameter) (s : Seen)
    → Quiet pre Anything s (parameter_declared name m before s)
parameter_declared_quiet pre None m before s =
    then_quiet s (faults false (m.mistyped || m.noreturn || not (is_scalar (adjusted m.kind))) m.conflicting m.incomplete m.place s) _
    (faults_quiet pre false _ m.conflicting m.incomplete m.place s) (λ x t. steady t _)
parameter_declared_quiet pre (Some name) m before s =
    then_quiet s (name_number name s) _ (name_number_quiet pre s name) (λ number t.
    then_quiet t (Good (found_here t.scopes number) t) _ (steady t (found_here t.scopes number)) (λ here v.
    then_quiet v (faults (is_some here) (m.mistyped || m.noreturn || not (is_scalar (adjusted m.kind))) m.conflicting m.incomplete m.place v) _
    (faults_quiet _ (is_some here) _ m.conflicting m.incomplete m.place v) (λ x w.
    then_quiet w (declared number (Variable (adjusted m.kind) (Automatic (length before)) None) w) _
    (declared_quiet _ w number (Variable (adjusted m.kind) (Automatic (length before)) None)) (λ y z. steady z _))))

pub parameter_quiet : (place : ℕ) (specifiers : Seen → Read Specifiers) (declarator : Seen → Read Shape) (before : List Parameter) → Quietly Anything specifiers
    → Quietly Anything declarator → Quietly Anything (parameter place specifiers declarator before)
unfolding parameter and_then
parameter_quiet place specifiers declarator before first second s =
    then_quiet s (specifiers s) _ (first s) (λ b t.
    then_quiet t (declarator t) _ (anyway t (declarator t) (second t)) (λ d v.
    parameter_declared_quiet _ d.name (made v.structures b d (anchor d place)) before v))

pub type_name_quiet : (place : ℕ) (specifiers : Seen → Read Specifiers) (declarator : Seen → Read Shape) → Quietly Anything specifiers
    → Quietly Anything declarator → Quietly Anything (type_name place specifiers declarator)
unfolding type_name and_then
type_name_quiet place specifiers declarator first second s =
    then_quiet s (specifiers s) _ (first s) (λ b t.
    then_quiet t (declarator t) _ (anyway t (declarator t) (second t)) (λ d v.
    let m = made v.structures b d place in
    then_quiet v (faults false (m.mistyped || m.noreturn) m.conflicting (m.incomplete || is_unsized m.kind) place v) _
    (faults_quiet _ false (m.mistyped || m.noreturn) m.conflicting (m.incomplete || is_unsized m.kind) place v) (λ x w. steady w _)))

member_declared_quiet : (pre : List FunctionInfo → Type 0) (name : Option Span) (m : Made) (before : List MemberInfo) (s : Seen)
    → Quiet pre Anything s (member_declared name m before s)
unfolding and_then
member_declared_quiet pre None m before s = steady s before
member_declared_quiet pre (Some name) m before s =
    let text = text_of s.source name in
    then_quiet s (faults (list_any (λ other. bytes_eq text other.name) before) (m.mistyped || m.noreturn || is_function m.kind) m.conflicting
    (m.incomplete || is_incomplete s.structures m.kind) m.place s) _ (faults_quiet pre _ _ m.conflicting _ m.place s) (λ x t. steady t _)

pub member_quiet : (b : Specifiers) (declarator : Seen → Read Shape) (before : List MemberInfo) → Quietly Anything declarator → Quietly Anything (member b declarator before)
unfolding member and_then
member_quiet b declarator before keeps s =
    then_quiet s (declarator s) _ (keeps s) (λ d t. member_declared_quiet _ d.name (made t.structures b d (anchor d 0)) before t)
