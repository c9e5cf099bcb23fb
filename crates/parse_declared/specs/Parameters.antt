-- Parameters, by the parts of the code.
use Rattle.std.specs.Prelude.{ℕ, max, Bool, true, false, List, [], ◌∷◌, ◌++◌, Option, Some, None}
use Rattle.grammar.specs.Parts.{Return, Call}
use Rattle.grammar.specs.Parser.{Outcome, Got, Bad}
use Rattle.c_tree.specs.declared.words.TypeWord.TheVariants as type_word
use Rattle.c_tree.specs.declared.expressions.Spec.{Spec}
use Rattle.c_tree.specs.declared.expressions.Spec.TheVariants as spec
use Rattle.c_tree.specs.declared.expressions.Param.{Param}
use Rattle.c_tree.specs.declared.expressions.Parameters.{Parameters}
use Rattle.c_tree.specs.declared.expressions.Parameters.TheVariants as parameters
use Rattle.c_tree.specs.declared.expressions.Declarator as trees
use Rattle.c_tree.specs.declared.expressions.Declarator.TheVariants as d
use Rattle.c_grammar.specs.Lexemes.{Lexeme}
use Rattle.c_grammar.specs.declared.state.SpecifierContext.{SpecifierContext}
use Rattle.c_grammar.specs.declared.state.DeclaratorKind.TheVariants.{Parameter as ParameterKind}
use Rattle.c_grammar.specs.Rules.{Scope, ParamsRead, Specs, Declarator}
use Rattle.c_grammar.specs.Expressions.{Reading}
use Rattle.c_grammar.specs.Specifiers.{no_specs, after}
use Rattle.c_grammar.specs.Declarators.{param, join, with_name}

abbrev pub is_absent : trees.Declarator → Bool
is_absent d.Absent = true
is_absent _ = false

abbrev pub lone_void : List Spec → Option ℕ
lone_void (spec.Type place type_word.Void ∷ []) = Some place
lone_void _ = None

-- the parameters, of which this is the place of the one word `void` where they are it
abbrev pub listed : Option ℕ → List Param → Parameters
listed (Some place) params = parameters.Void place
listed None [] = parameters.Empty
listed None (p ∷ more) = parameters.List (p ∷ more)

-- one parameter with the text of its name
pub record ParamRead : Type 0 where
  pub param : Param
  pub name : Option (List ℕ)

abbrev pub one_param : SpecifierContext → Scope → List Spec → Reading ParamRead
one_param context s before =
    Call (Specs context s no_specs) (λ x. Call (Declarator s ParameterKind (after x.bracket)) (λ y.
    Return (record { param = param (join before x.specs) y; name = y.name })))

-- one parameter behind the others, and all of these in front of what is read here
abbrev pub with_param : ParamsRead → ParamRead → ParamsRead
with_param list p = record { params = list.params ++ p.param ∷ []; names = list.names ++ with_name p.name [] }

abbrev pub behind_params : ParamsRead → ℕ → Outcome Lexeme ParamsRead → Outcome Lexeme ParamsRead
behind_params list d (Got more e left) = Got (record { params = list.params ++ more.params; names = list.names ++ more.names }) (max d e) left
behind_params list d (Bad deep left) = Bad deep left
