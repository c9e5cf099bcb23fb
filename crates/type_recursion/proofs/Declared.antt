-- How specifiers, members, enumerators, parameters and declarators are read, part by part: one equation a form.
use Rattle.std.proofs.Common.{◌≡◌, ◌∙◌, refl, sym, ap, ℕ, List, [], ◌∷◌, ◌++◌, drop, Option, Some, None}
use denote.Hole.Carrier.{hidden}
use Rattle.c_tree.specs.declared.expressions.Declarator.{Declarator}
use Rattle.c_tree.specs.declared.expressions.Declarator.TheVariants as of_declarator
use Rattle.c_tree.specs.declared.expressions.Declarator.TheBlock.{hidden-the_row-Declarator-0, shape-the_row-Declarator-0, hidden-the_row-Declarator-6, shape-the_row-Declarator-6, hidden-the_row-Expr-1, shape-the_row-Expr-1, hidden-the_row-Spec-3, shape-the_row-Spec-3, hidden-the_row-Param-5, shape-the_row-Param-5, hidden-the_row-Member-7, shape-the_row-Member-7, hidden-the_row-Enumerator-8, shape-the_row-Enumerator-8, back-Declarator-Array-2}
use Rattle.c_tree.specs.declared.expressions.Enumerator.{Enumerator}
use Rattle.c_tree.specs.declared.expressions.Expr.{Expr}
use Rattle.c_tree.specs.declared.expressions.Member.{Member}
use Rattle.c_tree.specs.declared.expressions.Param.{Param}
use Rattle.c_tree.specs.declared.expressions.Parameters.{Parameters}
use Rattle.c_tree.specs.declared.expressions.Parameters.TheVariants as params
use Rattle.c_tree.specs.declared.expressions.PointerQualifier.{PointerQualifier}
use Rattle.c_tree.specs.declared.expressions.Spec.{Spec}
use Rattle.c_tree.specs.declared.expressions.Spec.TheVariants as spec
use Rattle.c_tree.specs.declared.expressions.TypeName.{TypeName}
use Rattle.c_tree.specs.declared.words.Attr.{Attr}
use Rattle.c_tree.specs.declared.words.FunctionWord.{FunctionWord}
use Rattle.c_tree.specs.declared.words.Qualifier.{Qualifier}
use Rattle.c_tree.specs.declared.words.Span.{Span}
use Rattle.c_tree.specs.declared.words.StorageWord.{StorageWord}
use Rattle.c_tree.specs.declared.words.TypeWord.{TypeWord}
use Rattle.core_unit.specs.declared.tables.MemberInfo.{MemberInfo}
use Rattle.eff_types.specs.declared.types.CType.{Int}
use Rattle.type_rules.specs.declared.specifiers.Specifiers.{Specifiers}
use Rattle.type_rules.specs.declared.declarators.Shape.{Shape}
use Rattle.type_rules.specs.declared.declarators.Parameter.{Parameter}
use Rattle.type_rules.specs.Declarators.{bare, with_part, pointer_part, array_part, array_size, function_part, parameter, member, type_name}
use Rattle.type_rules.specs.Reading.{Read, Good, Bad, Rule, and_then, gives, scoped, where_written}
use Rattle.type_rules.specs.Recursion.{expression, value, specifiers, specifier, declarator, members, member_lines, enumerators, written, parameters, parameter_list}
use Rattle.type_rules.specs.Seen.{Seen}
use Rattle.type_rules.specs.Specifiers.{no_specifiers, with_storage, with_function_word, with_attribute, with_type_word, with_type, typedef_name, structure_name, structure, structure_closed, opened_structure, enumeration_name, enumeration, opened_enumeration, enumerator, enumerator_named, enumerator_valued}
use Rattle.type_rules.specs.declared.declarators.Part.TheVariants.{PointerTo, ArrayOf, FunctionOf}
use Rattle.type_recursion.specs.Lists.{in_order, array_behind, function_behind, structure_behind, written_size, one_member, member_line, written_as, one_enumerator, one_parameter, type_of_name}
use Rattle.type_recursion.proofs.Forms.{specifiers_row}
use Rattle.type_recursion.proofs.Continued.{then_good, then_bad, then_assoc, then_same, then_alike, array_size-reads, enumerator-reads, member-first, parameter-first, type_name-first}
use Rattle.type_specifiers.specs.Given.{given}

-- lists
members_row : (ds : List Declarator) (b : Specifiers) (before : List MemberInfo) (s : Seen) → members (hidden-the_row-Declarator-6 ds) b before s ≡ in_order (one_member b) ds before s
unfolding value in_order one_member hidden hidden-the_row-Declarator-6 shape-the_row-Declarator-6
members_row [] b before s = refl
members_row (d ∷ ds) b before s = then_alike (member b (declarator d) before s) _ _ (λ now t. members_row ds b now t)

lines_row : (ms : List Member) (before : List MemberInfo) (s : Seen) → member_lines (hidden-the_row-Member-7 ms) before s ≡ in_order member_line ms before s
unfolding value in_order member_line hidden hidden-the_row-Member-7 shape-the_row-Member-7 hidden-the_row-Spec-3 shape-the_row-Spec-3 hidden-the_row-Declarator-6 shape-the_row-Declarator-6
lines_row [] before s = refl
lines_row (m ∷ ms) before s =
    then_same _ _ _ (specifiers_row m.specs no_specifiers s)
    ∙ then_alike (in_order specifier m.specs no_specifiers s) _ _
    (λ b t. then_same _ _ _ (members_row m.declarators b before t) ∙ then_alike (in_order (one_member b) m.declarators before t) _ _ (λ now u. lines_row ms now u))
    ∙ sym (then_assoc (in_order specifier m.specs no_specifiers s) _ _)

written_row : (e : Option Expr) → written (back-Declarator-Array-2 e) ≡ written_as e
unfolding value expression hidden hidden-the_row-Expr-1 shape-the_row-Expr-1
written_row None = refl
written_row (Some e) = refl

enumerators_row : (es : List Enumerator) (next : Option ℕ) (s : Seen) → enumerators (hidden-the_row-Enumerator-8 es) next s ≡ in_order one_enumerator es next s
unfolding value in_order one_enumerator hidden hidden-the_row-Enumerator-8 shape-the_row-Enumerator-8 hidden-the_row-Expr-1 shape-the_row-Expr-1
enumerators_row [] next s = refl
enumerators_row (e ∷ es) next s =
    then_same _ _ _ (ap (λ w. enumerator e.name w next s) (written_row e.value))
    ∙ then_alike (enumerator e.name (written_as e.value) next s) _ _ (λ now t. enumerators_row es now t)

parameter-alike : (place : ℕ) (before : List Parameter) (m n : Rule Specifiers) (d : Rule Shape) (s : Seen) → m s ≡ n s → parameter place m d before s ≡ parameter place n d before s
unfolding parameter
parameter-alike place before m n d s e = then_same _ _ _ e

params_row : (ps : List Param) (before : List Parameter) (s : Seen) → parameters (hidden-the_row-Param-5 ps) before s ≡ in_order one_parameter ps before s
unfolding value in_order one_parameter hidden hidden-the_row-Param-5 shape-the_row-Param-5 hidden-the_row-Spec-3 shape-the_row-Spec-3 hidden-the_row-Declarator-0 shape-the_row-Declarator-0
params_row [] before s = refl
params_row (p ∷ ps) before s =
    then_same _ _ _ (parameter-alike p.place before _ _ (declarator p.declarator) s (specifiers_row p.specs no_specifiers s))
    ∙ then_alike (one_parameter p before s) _ _ (λ now t. params_row ps now t)

-- specifiers
module _ (b : Specifiers) (s : Seen) where
  pub specifier-Storage : (p : ℕ) (w : StorageWord) → specifier (spec.Storage p w) b s ≡ Good (with_storage w b) s
  unfolding value
  specifier-Storage p w = refl

  pub specifier-Function : (p : ℕ) (w : FunctionWord) → specifier (spec.Function p w) b s ≡ Good (with_function_word w b) s
  unfolding value
  specifier-Function p w = refl

  pub specifier-Qualifier : (p : ℕ) (w : Qualifier) → specifier (spec.Qualifier p w) b s ≡ Good b s
  unfolding value
  specifier-Qualifier p w = refl

  pub specifier-Type : (p : ℕ) (w : TypeWord) → specifier (spec.«Type» p w) b s ≡ Good (with_type_word w b) s
  unfolding value
  specifier-Type p w = refl

  pub specifier-TypedefName : (n : Span) → specifier (spec.TypedefName n) b s ≡ typedef_name n b s
  unfolding value
  specifier-TypedefName n = refl

  pub specifier-Attribute : (a : Attr) → specifier (spec.Attribute a) b s ≡ Good (with_attribute a b) s
  unfolding value
  specifier-Attribute a = refl

  pub specifier-StructName : (p : ℕ) (n : Span) → specifier (spec.StructName p n) b s ≡ structure_name n b s
  unfolding value
  specifier-StructName p n = refl

  pub specifier-Struct : (p : ℕ) (tag : Option Span) (ms : List Member) → specifier (spec.Struct p tag ms) b s
      ≡ and_then (opened_structure tag s) (λ k t. structure_behind p tag k ms b t)
  unfolding value structure structure_behind hidden hidden-the_row-Member-7 shape-the_row-Member-7
  specifier-Struct p tag ms = then_alike (opened_structure tag s) _ _ (λ k t. ap (λ r. and_then r (λ all u. structure_closed p tag k all b u)) (lines_row ms [] t))

  pub specifier-EnumName : (p : ℕ) (n : Span) → specifier (spec.EnumName p n) b s ≡ enumeration_name n b s
  unfolding value
  specifier-EnumName p n = refl

  pub specifier-Enum : (p : ℕ) (tag : Option Span) (es : List Enumerator) → specifier (spec.Enum p tag es) b s
      ≡ and_then (opened_enumeration tag s) (λ _ t. and_then (in_order one_enumerator es (Some 0) t) (λ _ u. Good (with_type Int b) u))
  unfolding value enumeration hidden hidden-the_row-Enumerator-8 shape-the_row-Enumerator-8
  specifier-Enum p tag es = then_alike (opened_enumeration tag s) _ _ (λ _ t. ap (λ r. and_then r (λ _ u. Good (with_type Int b) u)) (enumerators_row es (Some 0) t))

pub ruleset specifier_rules = (then_good, then_bad, specifier-Storage, specifier-Function, specifier-Qualifier, specifier-Type, specifier-TypedefName, specifier-Attribute, specifier-StructName, specifier-Struct, specifier-EnumName, specifier-Enum)

-- items of lists
pub line-reads : (m : Member) (before : List MemberInfo) (s : Seen) →
    member_line m before s ≡ and_then (in_order specifier m.specs no_specifiers s) (λ b t. in_order (one_member b) m.declarators before t)
unfolding member_line
line-reads m before s = refl

pub member-reads : (b : Specifiers) (d : Declarator) (before : List MemberInfo) (s : Seen) →
    one_member b d before s ≡ and_then (declarator d s) (λ x t. member b (gives x) before t)
unfolding one_member
member-reads b d before s = member-first b before (declarator d) s

pub enumerator-item : (e : Enumerator) (next : Option ℕ) (s : Seen) →
    one_enumerator e next s ≡ and_then (enumerator_named e.name s) (λ k t. and_then (where_written e.value expression t) (λ f u. enumerator_valued e.name k (given f) next u))
unfolding one_enumerator enumerator
enumerator-item e next s = then_alike (enumerator_named e.name s) _ _ (λ k t. enumerator-reads e.name k e.value next t)

pub parameter-item : (p : Param) (before : List Parameter) (s : Seen) →
    one_parameter p before s ≡ and_then (in_order specifier p.specs no_specifiers s) (λ b t. and_then (declarator p.declarator t) (λ d u. parameter p.place (gives b) (gives d) before u))
unfolding one_parameter
parameter-item p before s = parameter-first p.place before _ (declarator p.declarator) s

pub type_name-item : (n : TypeName) (s : Seen) →
    type_of_name n s ≡ and_then (in_order specifier n.specs no_specifiers s) (λ b t. and_then (declarator n.declarator t) (λ d u. type_name n.place (gives b) (gives d) u))
unfolding type_of_name
type_name-item n s = type_name-first n.place _ (declarator n.declarator) s

pub ruleset item_rules = (then_good, then_bad, line-reads, member-reads, enumerator-item, parameter-item, type_name-item)

-- declarators
pub list-Empty : (s : Seen) → parameter_list params.Empty s ≡ Good [] s
unfolding value
list-Empty s = refl

pub list-Void : (s : Seen) (p : ℕ) → parameter_list (params.Void p) s ≡ Good [] s
unfolding value
list-Void s p = refl

pub list-List : (s : Seen) (ps : List Param) → parameter_list (params.List ps) s ≡ in_order one_parameter ps [] s
unfolding value hidden hidden-the_row-Param-5 shape-the_row-Param-5
list-List s ps = params_row ps [] s

module _ (s : Seen) where
  pub declarator-Name : (n : Span) → declarator (of_declarator.Name n) s ≡ Good (bare (Some n)) s
  unfolding value
  declarator-Name n = refl

  pub declarator-Absent : declarator of_declarator.Absent s ≡ Good (bare None) s
  unfolding value
  declarator-Absent = refl

  pub declarator-Pointer : (p : ℕ) (qs : List PointerQualifier) (d : Declarator) → declarator (of_declarator.Pointer p qs d) s
      ≡ and_then (declarator d s) (λ x t. Good (with_part PointerTo x) t)
  unfolding value pointer_part hidden hidden-the_row-Declarator-0 shape-the_row-Declarator-0
  declarator-Pointer p qs d = refl

  pub declarator-Grouped : (p : ℕ) (d : Declarator) → declarator (of_declarator.Parenthesised p d) s ≡ declarator d s
  unfolding value hidden hidden-the_row-Declarator-0 shape-the_row-Declarator-0
  declarator-Grouped p d = refl

  pub declarator-Array : (d : Declarator) (p : ℕ) (size : Option Expr) → declarator (of_declarator.Array d p size) s
      ≡ and_then (declarator d s) (λ x t. array_behind x size t)
  unfolding value array_part array_behind written_size hidden hidden-the_row-Declarator-0 shape-the_row-Declarator-0
  declarator-Array d p size =
      ap (λ w. array_part (declarator d) w s) (written_row size)
      ∙ then_alike (declarator d s) _ _ (λ x t. ap (λ r. and_then r (λ n v. Good (with_part (ArrayOf n) x) v)) (array_size-reads size t))

  pub declarator-Function : (d : Declarator) (p : ℕ) (ps : Parameters) (attributes : List Attr) → declarator (of_declarator.Function d p ps attributes) s
      ≡ and_then (declarator d s) (λ x t. function_behind x ps attributes t)
  unfolding value function_part function_behind hidden hidden-the_row-Declarator-0 shape-the_row-Declarator-0
  declarator-Function d p ps attributes = refl

  pub function-behind : (x : Shape) (ps : Parameters) (attributes : List Attr) → function_behind x ps attributes s
      ≡ and_then (parameter_list ps (record s { scopes = [] ∷ s.scopes })) (λ all u. Good (with_part (FunctionOf all attributes) x) (record u { scopes = drop 1 u.scopes }))
  unfolding function_behind scoped and_then
  function-behind x ps attributes = then_assoc (parameter_list ps (record s { scopes = [] ∷ s.scopes })) _ _

  pub array-behind : (x : Shape) (e : Option Expr) → array_behind x e s ≡ and_then (written_size e s) (λ n t. Good (with_part (ArrayOf n) x) t)
  unfolding array_behind
  array-behind x e = refl

  pub size-written : (e : Option Expr) → written_size e s ≡ and_then (where_written e expression s) (λ f t. array_size (given f) t)
  unfolding written_size
  size-written e = refl

  pub structure-behind : (p : ℕ) (tag : Option Span) (k : ℕ) (ms : List Member) (b : Specifiers) →
      structure_behind p tag k ms b s ≡ and_then (in_order member_line ms [] s) (λ all t. structure_closed p tag k all b t)
  unfolding structure_behind
  structure-behind p tag k ms b = refl

pub ruleset behind_rules = (then_good, then_bad, function-behind, array-behind, size-written, structure-behind)

pub ruleset declarator_rules = (then_good, then_bad, list-Empty, list-Void, list-List, declarator-Name, declarator-Absent, declarator-Pointer, declarator-Grouped, declarator-Array, declarator-Function)
