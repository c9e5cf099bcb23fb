-- Specifiers, declarators and type names take no call site: what is written in them is constant, or isn't evaluated.
use Rattle.std.proofs.Common.{ℕ, Bool, true, false, refl, List, [], ◌∷◌, length, Option, Some, None}
use Rattle.std.specs.Prelude.{◌&&◌, ◌==◌, is_some, ◌||◌, not}
use Rattle.scopes.specs.Number.{number_of, noted}
use Rattle.scopes.specs.Scope.{found, found_here}
use Rattle.c_tree.specs.declared.words.Attr.{Attr}
use Rattle.c_tree.specs.declared.words.Span.{Span}
use Rattle.core_unit.specs.declared.tables.MemberInfo.{MemberInfo}
use Rattle.type_rules.specs.Constants.{number_constant}
use Rattle.type_rules.specs.Declarators.{pointer_part, is_no_size, array_size, array_part, function_part, faults, parameter_declared, parameter, type_name, member_declared, member, made}
use Rattle.type_rules.specs.Reading.{Read, Good, and_then, scoped, text_of, name_number}
use Rattle.type_rules.specs.Seen.{Seen}
use Rattle.type_rules.specs.Specifiers.{named_type, typedef_name, structure_by, tagged_structure, opened_structure, structure_name, structure_closed, structure, enumeration_by, tagged_enumeration, opened_enumeration, enumeration_name, enumeration, is_outside_int, enumerator_value, enumerator_named, enumerator_valued, enumerator, with_type}
use Rattle.type_rules.specs.declared.declarators.Made.{Made}
use Rattle.type_rules.specs.declared.declarators.Parameter.{Parameter}
use Rattle.type_rules.specs.declared.declarators.Shape.{Shape}
use Rattle.type_rules.specs.declared.found.Found.{Found}
use Rattle.type_rules.specs.declared.names.Entity.{Entity}
use Rattle.type_rules.specs.declared.names.Entity.TheVariants.{TypeName}
use Rattle.type_rules.specs.declared.names.Tag.{Tag}
use Rattle.type_rules.specs.declared.names.Tag.TheVariants.{Structure, Enumeration}
use Rattle.type_rules.specs.declared.specifiers.Specifiers.{Specifiers}
use Rattle.type_laws.proofs.Numbered.{IsIdle, then_reads, then_idle, gives_reads, fails_reads, refused_reads, found_spots, Reads}
use Rattle.type_laws.proofs.NumberedConstants.{constant_idle}
use Rattle.type_laws.proofs.NumberedOperators.{ReadsFrom}
use Rattle.type_laws.proofs.Progress.{Progress, progress, CountedAt}
use Rattle.std.specs.List.{list_any}
use Rattle.std.specs.Str.{bytes_eq}
use Rattle.core_unit.specs.Shapes.{is_scalar, is_unsized}
use Rattle.eff_types.specs.Types.{is_function}
use Rattle.type_rules.specs.Types.{adjusted, is_incomplete}
use Rattle.core_unit.specs.Places.{Spot}

-- a rule by which the progress stays, wherever it is read
abbrev pub AlwaysIdle : {A : Type 0} → (Seen → Read A) → Type 0
AlwaysIdle rule = (s : Seen) → IsIdle (progress s) (rule s)

-- an array's size or an enumerator's value, where it is written
abbrev pub WrittenIsCounted : Option (Seen → Read Found) → Type 0
WrittenIsCounted None = Unit {0}
WrittenIsCounted (Some rule) = ReadsFrom found_spots CountedAt rule

-- The tests are written out where this is used, since they aren't found from the rule.
module _ {A : Type 0} {f : A → List Spot} {P : List Spot → Progress → Type 0} where
  pub faults_reads : (s : Seen) (redefined mistyped conflicting incomplete : Bool) (place : ℕ) (k : Unit {0} → Seen → Read A) → Reads f P (k tt s)
      → Reads f P (and_then (faults redefined mistyped conflicting incomplete place s) k)
  unfolding and_then
  faults_reads s true mistyped conflicting incomplete place k next = fails_reads 2 place
  faults_reads s false true conflicting incomplete place k next = fails_reads 3 place
  faults_reads s false false true incomplete place k next = fails_reads 4 place
  faults_reads s false false false true place k next = fails_reads 10 place
  faults_reads s false false false false place k next = next

pub scoped_idle : {A : Type 0} (rule : Seen → Read A) → AlwaysIdle rule → AlwaysIdle (scoped rule)
unfolding scoped and_then
scoped_idle rule never s =
    then_reads (rule (record s { scopes = [] ∷ s.scopes })) _ (never (record s { scopes = [] ∷ s.scopes })) (λ a t e. record { holds = e })

-- specifiers
named_type_idle : (e : Option Entity) (place : ℕ) → AlwaysIdle (named_type e place)
named_type_idle (Some (TypeName t)) place s = gives_reads s t refl
named_type_idle e place s = fails_reads 1 place

pub typedef_idle : (name : Span) (b : Specifiers) → AlwaysIdle (typedef_name name b)
unfolding typedef_name name_number and_then
typedef_idle name b s =
    let number = number_of s.names (text_of s.source name) in
    let now : Seen = record s { names = noted s.names (text_of s.source name) } in
    then_reads (named_type (found s.scopes number) name.start now) (λ t v. Good (with_type t b) v) (named_type_idle (found s.scopes number) name.start now) (λ t v e.
    gives_reads v (with_type t b) e)

structure_by_idle : (name : Span) (number : ℕ) (opens : Bool) (tag : Option Tag) → AlwaysIdle (structure_by name number opens tag)
unfolding and_then
structure_by_idle name number opens (Some (Structure k opened)) s = refused_reads s (opens && opened) 2 name.start _ (λ e. record { holds = refl })
structure_by_idle name number opens (Some (Enumeration opened)) s = fails_reads 2 name.start
structure_by_idle name number opens None s = record { holds = refl }

tagged_idle : (opens : Bool) (name : Span) → AlwaysIdle (tagged_structure opens name)
unfolding tagged_structure name_number and_then
tagged_idle opens name s =
    structure_by_idle name (number_of s.names (text_of s.source name)) opens (found s.tags (number_of s.names (text_of s.source name)))
    (record s { names = noted s.names (text_of s.source name) })

pub structure_name_idle : (name : Span) (b : Specifiers) → AlwaysIdle (structure_name name b)
unfolding structure_name and_then
structure_name_idle name b s = then_reads (tagged_structure false name s) _ (tagged_idle false name s) (λ k t e. gives_reads t _ e)

opened_idle : (tag : Option Span) → AlwaysIdle (opened_structure tag)
opened_idle None s = record { holds = refl }
opened_idle (Some name) s = tagged_idle true name s

closed_idle : (place : ℕ) (tag : Option Span) (k : ℕ) (members : List MemberInfo) (b : Specifiers) → AlwaysIdle (structure_closed place tag k members b)
unfolding and_then
closed_idle place None k members b s = refused_reads s (length members == 0) 10 place _ (λ e. record { holds = refl })
closed_idle place (Some name) k members b s = refused_reads s (length members == 0) 10 place _ (λ e. record { holds = refl })

pub structure_idle : (place : ℕ) (tag : Option Span) (members : Seen → Read (List MemberInfo)) (b : Specifiers) → AlwaysIdle members → AlwaysIdle (structure place tag members b)
unfolding structure and_then
structure_idle place tag members b never s =
    then_idle (progress s) (opened_structure tag s) _ (opened_idle tag s) (λ k t.
    then_idle (progress t) (members t) _ (never t) (λ ms v. closed_idle place tag k ms b v))

enumeration_by_idle : (name : Span) (number : ℕ) (opens : Bool) (tag : Option Tag) → AlwaysIdle (enumeration_by name number opens tag)
unfolding and_then
enumeration_by_idle name number opens (Some (Enumeration opened)) s = refused_reads s (opens && opened) 2 name.start _ (λ e. record { holds = refl })
enumeration_by_idle name number opens (Some (Structure k opened)) s = fails_reads 2 name.start
enumeration_by_idle name number opens None s = record { holds = refl }

tagged_enumeration_idle : (opens : Bool) (name : Span) → AlwaysIdle (tagged_enumeration opens name)
unfolding tagged_enumeration name_number and_then
tagged_enumeration_idle opens name s =
    enumeration_by_idle name (number_of s.names (text_of s.source name)) opens (found s.tags (number_of s.names (text_of s.source name)))
    (record s { names = noted s.names (text_of s.source name) })

pub enumeration_name_idle : (name : Span) (b : Specifiers) → AlwaysIdle (enumeration_name name b)
unfolding enumeration_name and_then
enumeration_name_idle name b s = then_reads (tagged_enumeration false name s) _ (tagged_enumeration_idle false name s) (λ k t e. gives_reads t _ e)

opened_enumeration_idle : (tag : Option Span) → AlwaysIdle (opened_enumeration tag)
opened_enumeration_idle None s = gives_reads s tt refl
opened_enumeration_idle (Some name) s = tagged_enumeration_idle true name s

pub enumeration_idle : (tag : Option Span) (enumerators : Seen → Read (Option ℕ)) (b : Specifiers) → AlwaysIdle enumerators → AlwaysIdle (enumeration tag enumerators b)
unfolding enumeration and_then
enumeration_idle tag enumerators b never s =
    then_idle (progress s) (opened_enumeration tag s) _ (opened_enumeration_idle tag s) (λ k t.
    then_idle (progress t) (enumerators t) _ (never t) (λ last v. gives_reads v _ refl))

value_idle : (place : ℕ) (written : Option (Seen → Read Found)) (next : Option ℕ) → WrittenIsCounted written → AlwaysIdle (enumerator_value place written next)
unfolding and_then
value_idle place (Some expression) next counted s =
    then_idle (progress s) (number_constant expression s) _ (constant_idle expression s (counted s)) (λ c t.
    refused_reads t (is_outside_int c.sign c.bits) 7 c.place _ (λ e. gives_reads t c.bits refl))
value_idle place None (Some bits) counted s = gives_reads s bits refl
value_idle place None None counted s = fails_reads 7 place

valued_idle : (name : Span) (number : ℕ) (written : Option (Seen → Read Found)) (next : Option ℕ) → WrittenIsCounted written
    → AlwaysIdle (enumerator_valued name number written next)
unfolding and_then
valued_idle name number written next counted s =
    then_idle (progress s) (enumerator_value name.start written next s) _ (value_idle name.start written next counted s) (λ bits t. record { holds = refl })

enumerator_named_idle : (name : Span) → AlwaysIdle (enumerator_named name)
unfolding name_number and_then
enumerator_named_idle name s =
    let number = number_of s.names (text_of s.source name) in
    let now : Seen = record s { names = noted s.names (text_of s.source name) } in
    refused_reads now (is_some (found_here s.scopes number)) 2 name.start (λ x t. Good number t) (λ e. record { holds = refl })

pub enumerator_idle : (name : Span) (written : Option (Seen → Read Found)) (next : Option ℕ) → WrittenIsCounted written → AlwaysIdle (enumerator name written next)
unfolding enumerator and_then
enumerator_idle name written next counted s =
    then_idle (progress s) (enumerator_named name s) _ (enumerator_named_idle name s) (λ number t. valued_idle name number written next counted t)

-- declarators
pub pointer_idle : (declarator : Seen → Read Shape) → AlwaysIdle declarator → AlwaysIdle (pointer_part declarator)
unfolding pointer_part and_then
pointer_idle declarator never s = then_reads (declarator s) _ (never s) (λ d t e. gives_reads t _ e)

size_idle : (size : Option (Seen → Read Found)) → WrittenIsCounted size → AlwaysIdle (array_size size)
unfolding and_then
size_idle None counted s = gives_reads s 0 refl
size_idle (Some expression) counted s =
    then_idle (progress s) (number_constant expression s) _ (constant_idle expression s (counted s)) (λ c t.
    refused_reads t (is_no_size c.sign c.bits) 7 c.place _ (λ e. gives_reads t c.bits refl))

pub array_idle : (declarator : Seen → Read Shape) (size : Option (Seen → Read Found)) → AlwaysIdle declarator → WrittenIsCounted size → AlwaysIdle (array_part declarator size)
unfolding array_part and_then
array_idle declarator size never counted s =
    then_idle (progress s) (declarator s) _ (never s) (λ d t. then_reads (array_size size t) _ (size_idle size counted t) (λ n v e. gives_reads v _ e))

pub function_idle : (declarator : Seen → Read Shape) (parameters : Seen → Read (List Parameter)) (attributes : List Attr) → AlwaysIdle declarator → AlwaysIdle parameters
    → AlwaysIdle (function_part declarator parameters attributes)
unfolding function_part and_then
function_idle declarator parameters attributes never also s =
    then_idle (progress s) (declarator s) _ (never s) (λ d t. then_reads (scoped parameters t) _ (scoped_idle parameters also t) (λ ps v e. gives_reads v _ e))

declared_idle : (name : Option Span) (m : Made) (before : List Parameter) → AlwaysIdle (parameter_declared name m before)
unfolding name_number and_then
declared_idle None m before s =
    faults_reads s false (m.mistyped || m.noreturn || not (is_scalar (adjusted m.kind))) m.conflicting m.incomplete m.place _ (record { holds = refl })
declared_idle (Some name) m before s =
    let number = number_of s.names (text_of s.source name) in
    let now : Seen = record s { names = noted s.names (text_of s.source name) } in
    faults_reads now (is_some (found_here s.scopes number)) (m.mistyped || m.noreturn || not (is_scalar (adjusted m.kind))) m.conflicting m.incomplete m.place _ (record { holds = refl })

pub parameter_idle : (place : ℕ) (specifiers : Seen → Read Specifiers) (declarator : Seen → Read Shape) (before : List Parameter) → AlwaysIdle specifiers
    → AlwaysIdle declarator → AlwaysIdle (parameter place specifiers declarator before)
unfolding parameter and_then
parameter_idle place specifiers declarator before never also s =
    then_idle (progress s) (specifiers s) _ (never s) (λ b t. then_idle (progress t) (declarator t) _ (also t) (λ d v. declared_idle d.name _ before v))

pub type_name_idle : (place : ℕ) (specifiers : Seen → Read Specifiers) (declarator : Seen → Read Shape) → AlwaysIdle specifiers → AlwaysIdle declarator
    → AlwaysIdle (type_name place specifiers declarator)
unfolding type_name and_then
type_name_idle place specifiers declarator never also s =
    then_idle (progress s) (specifiers s) _ (never s) (λ b t. then_idle (progress t) (declarator t) _ (also t) (λ d v.
    let m = made v.structures b d place in
    faults_reads v false (m.mistyped || m.noreturn) m.conflicting (m.incomplete || is_unsized m.kind) place _ (record { holds = refl })))

member_declared_idle : (name : Option Span) (m : Made) (before : List MemberInfo) → AlwaysIdle (member_declared name m before)
unfolding and_then
member_declared_idle None m before s = gives_reads s before refl
member_declared_idle (Some name) m before s =
    faults_reads s (list_any (λ other. bytes_eq (text_of s.source name) other.name) before) (m.mistyped || m.noreturn || is_function m.kind) m.conflicting
    (m.incomplete || is_incomplete s.structures m.kind) m.place _ (record { holds = refl })

pub member_idle : (b : Specifiers) (declarator : Seen → Read Shape) (before : List MemberInfo) → AlwaysIdle declarator → AlwaysIdle (member b declarator before)
unfolding member and_then
member_idle b declarator before never s = then_idle (progress s) (declarator s) _ (never s) (λ d t. member_declared_idle d.name _ before t)
