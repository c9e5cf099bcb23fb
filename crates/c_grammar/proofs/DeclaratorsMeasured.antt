-- Declarators and parameters are as deep as the nodes that their rules count.
use Rattle.std.proofs.Common.{◌≡◌, refl, ◌∙◌, ap, ℕ, ◌+◌, max, List, [], ◌∷◌, map, Option, Some, None, arith}
use Rattle.c_tree.specs.Depth.{node, deepest, spec_depth, declarator_depth, parameters_depth, param_depth}
use Rattle.c_tree.specs.declared.words.TypeWord.TheVariants as type_word
use Rattle.c_tree.specs.declared.expressions.Declarator as trees
use Rattle.c_tree.specs.declared.expressions.Declarator.TheVariants as d
use Rattle.c_tree.specs.declared.expressions.Param.{Param}
use Rattle.c_tree.specs.declared.expressions.Spec.{Spec}
use Rattle.c_tree.specs.declared.expressions.Spec.TheVariants as spec
use Rattle.c_tree.proofs.Equations.{depth-Type, depth-Attribute, depth-Declared, depth-Absent, depth-Pointer, depth-Grouped, depth-Array, depth-Function, depth-Empty, depth-Void, depth-List}
use Rattle.c_grammar.specs.Lexemes.{place}
use Rattle.c_grammar.specs.Specifiers.{attr}
use Rattle.c_tree.specs.declared.words.AttrSpelling.TheVariants.{Brackets}
use Rattle.c_grammar.specs.declared.state.SpecifierContext.{SpecifierContext}
use Rattle.c_grammar.specs.declared.state.DeclaratorKind.{DeclaratorKind}
use Rattle.c_grammar.specs.declared.state.Bracket.{Bracket}
use Rattle.c_grammar.specs.declared.state.DeclaratorKind.TheVariants.{Ordinary as OrdinaryKind, Member as MemberKind, Parameter as ParameterKind, Abstract as AbstractKind}
use Rattle.c_grammar.specs.declared.state.Bracket.TheVariants.{Barred, Opened}
use Rattle.c_grammar.specs.Rules.{Scope, DeclaratorRead, ParamsRead, AttributesRead, Declarator, Direct, Pointer, Group, Qualifiers, Params, ParamList}
use Rattle.c_grammar.specs.Expressions.{Reading}
use Rattle.c_grammar.specs.Declarators.{absent, closing, no_params, only, parameters_of, direct_start, direct_step, array_rest, function_of, function_rest, group_bracket, open_group, join}
use Rattle.c_grammar.proofs.Measured.{PartsMeasured}
use Rattle.c_grammar.proofs.Measure.{measure, Fine, Counted, all_specs}

-- a declarator with the depth so far, of what is no node and of what is one
abbrev pub PlainCounted : ℕ → Reading DeclaratorRead → Type 0
PlainCounted deep parts = PartsMeasured measure Fine (λ d. d) (λ x. declarator_depth x.tree) deep parts

abbrev pub NodeCounted : ℕ → Reading DeclaratorRead → Type 0
NodeCounted deep parts = PartsMeasured measure Fine (λ d. d + 1) (λ x. declarator_depth x.tree) deep parts

closing_counted : (bracket : Option ℕ) (x : DeclaratorRead) (deep : ℕ) → declarator_depth x.tree ≡ deep → PlainCounted deep (closing bracket x)
closing_counted None x deep e = e
closing_counted (Some p) x deep e = λ t. e

pub declarator_counted : (s : Scope) (kind : DeclaratorKind) (b : Bracket) → Counted (Declarator s kind b)
declarator_counted s kind (Opened p) = (tt, λ x. closing_counted x.bracket x _ (omega arith))
declarator_counted s kind _ = ((tt, λ x. omega arith), (tt, λ x. closing_counted x.bracket x _ (omega arith)))

pub qualifiers_counted : Counted Qualifiers
qualifiers_counted = ((λ t. (tt, λ more. refl)), refl)

pub pointer_counted : (s : Scope) (kind : DeclaratorKind) → Counted (Pointer s kind)
pointer_counted s kind = λ t. (tt, λ qs. (tt, λ x. depth-Pointer _ _ _ ∙ omega arith))

start_counted : (s : Scope) (kind : DeclaratorKind) (b : Bracket) → PlainCounted 0 (direct_start s kind b)
start_counted s kind (Opened p) = depth-Absent
start_counted s OrdinaryKind b = ((λ t. depth-Declared _), (tt, λ x. omega arith))
start_counted s MemberKind b = ((λ t. depth-Declared _), (tt, λ x. omega arith))
start_counted s ParameterKind Barred = ((λ t. depth-Declared _), (tt, λ x. omega arith))
start_counted s ParameterKind b = ((λ t. depth-Declared _), ((tt, λ x. omega arith), depth-Absent))
start_counted s AbstractKind Barred = (tt, λ x. omega arith)
start_counted s AbstractKind b = ((tt, λ x. omega arith), depth-Absent)

-- the one word `void` is not deep
only_is : (p : Param) (specs : List Spec) (x : trees.Declarator) → param_depth p ≡ max (all_specs specs) (declarator_depth x)
    → parameters_depth (only p specs x) ≡ max (param_depth p) 0
only_is p (spec.Type place type_word.Void ∷ []) d.Absent e =
    let flat : spec_depth (spec.Type place type_word.Void) ≡ 0 = depth-Type _ _ in
    let absent : declarator_depth d.Absent ≡ 0 = depth-Absent in
    depth-Void place ∙ omega arith
only_is p _ _ e = depth-List (p ∷ [])

parameters_are : (ps : List Param) → parameters_depth (parameters_of ps) ≡ deepest (map param_depth ps)
parameters_are [] = depth-Empty
parameters_are (p ∷ []) = only_is p p.specs p.declarator refl
parameters_are (p ∷ q ∷ more) = depth-List (p ∷ q ∷ more)

function_is : (x : DeclaratorRead) (p : ℕ) (given : ParamsRead) (attributes : AttributesRead)
    → declarator_depth (function_of x p given attributes).tree ≡ max (declarator_depth x.tree) (deepest (map param_depth given.params)) + 1
function_is x p given attributes = depth-Function _ _ _ _ ∙ ap (λ n. node (max (declarator_depth x.tree) n)) (parameters_are given.params)

array_counted : (x : DeclaratorRead) (s : Scope) (p : ℕ) → NodeCounted (declarator_depth x.tree) (array_rest x s p)
array_counted x s p = ((λ c. depth-Array _ _ None ∙ omega arith), (tt, λ size c. depth-Array _ _ (Some size)))

step_counted : (s : Scope) (kind : DeclaratorKind) (b : Bracket) (bracket : Option ℕ) (x : DeclaratorRead)
    → NodeCounted (declarator_depth x.tree) (direct_step s kind b bracket x)
step_counted s kind b (Some p) x = array_counted x s p
step_counted s kind b None x =
    ((λ t. array_counted x s (place t)), (λ t. (tt, λ given c. (tt, λ attributes. function_is x (place t) given attributes ∙ omega arith))))

pub direct_counted : (s : Scope) (kind : DeclaratorKind) (b : Bracket) → Counted (Direct s kind b)
direct_counted s kind b = (start_counted s kind b, (λ x. step_counted s kind b x.bracket x))

-- a function with nothing before its parameters
rest_counted : (deep : ℕ) (s : Scope) (p : ℕ) (given : ParamsRead) → deepest (map param_depth given.params) ≡ deep
    → NodeCounted deep (function_rest s p given)
rest_counted deep s p given e =
    let nothing : declarator_depth d.Absent ≡ 0 = depth-Absent in
    λ c. (tt, λ attributes. function_is (absent None) p given attributes ∙ omega arith)

bracket_counted : (s : Scope) (kind : DeclaratorKind) (p b : ℕ) → NodeCounted 0 (group_bracket s kind p b)
bracket_counted s kind p b = (
  (λ o. (
    tt,
    λ words. (
      let flat : spec_depth (spec.Attribute (attr b Brackets words)) ≡ 0 = depth-Attribute _ in omega arith,
      λ given. rest_counted _ s p given (omega arith),
    ),
  )),
  (tt, λ x c. depth-Grouped _ _ ∙ omega arith),
)

open_counted : (s : Scope) (kind : DeclaratorKind) (p : ℕ) → NodeCounted 0 (open_group s kind p)
open_counted s kind p = (
  (λ b. bracket_counted s kind p (place b)),
  ((refl, λ given. rest_counted _ s p given (omega arith)), (rest_counted 0 s p no_params refl, (tt, λ x c. depth-Grouped _ _ ∙ omega arith))),
)

pub group_counted : (s : Scope) (kind : DeclaratorKind) → Counted (Group s kind)
group_counted s ParameterKind = λ t. open_counted s ParameterKind (place t)
group_counted s AbstractKind = λ t. open_counted s AbstractKind (place t)
group_counted s _ = λ t. (tt, λ x c. depth-Grouped _ _ ∙ omega arith)

pub params_counted : (s : Scope) → Counted (Params s)
params_counted s = ((refl, λ given. omega arith), refl)

joined : (before specs : List Spec) → all_specs before ≡ 0 → all_specs (join before specs) ≡ all_specs specs
joined [] specs e = refl
joined (first ∷ more) specs e =
    let rest : all_specs (join more specs) ≡ all_specs specs = joined more specs (omega arith) in
    omega arith

pub param_list_counted : (context : SpecifierContext) (s : Scope) (before : List Spec) → all_specs before ≡ 0 → Counted (ParamList context s before)
param_list_counted context s before flat = (
  tt,
  λ x.
      let same : all_specs (join before x.specs) ≡ all_specs x.specs = joined before x.specs flat in
      (tt, λ y. ((λ c. (refl, λ more. omega arith)), omega arith)),
)
