-- Declarators and parameters.
--
--     declarator = { "*" { qual } } direct .
--     direct     = ident | "(" declarator ")" | direct "[" [ cond ] "]" | direct "(" params ")" { attr } .
--     params     = [ "void" | param { "," param } ] .
--     param      = specs [ declarator | abstract ] .
--     abstract   = "*" { qual } [ abstract ] | adirect .
--     adirect    = "(" abstract ")" | [ adirect ] "[" [ cond ] "]" | [ adirect ] "(" params ")" { attr } .
--
-- A declarator and an abstract one are read by one rule, which knows whether a name must, may or can't stand at
-- the inmost (DeclaratorKind). They are made of the same parts, and all that a parameter may have is one of the two.
use Rattle.std.specs.Prelude.{ℕ, Bool, true, false, not, ◌&&◌, List, [], ◌∷◌, Option, Some, None}
use Rattle.grammar.specs.Parts.{Return, Take, Call, Either}
use Rattle.c_tree.specs.declared.words.AttrSpelling.TheVariants.{Brackets}
use Rattle.c_tree.specs.declared.words.TypeWord.TheVariants as type_word
use Rattle.c_tree.specs.declared.words.Qualifier.TheVariants as qualifier
use Rattle.c_tree.specs.declared.expressions.Spec.{Spec}
use Rattle.c_tree.specs.declared.expressions.Spec.TheVariants as spec
use Rattle.c_tree.specs.declared.expressions.Expr.{Expr}
use Rattle.c_tree.specs.declared.expressions.PointerQualifier.{PointerQualifier}
use Rattle.c_tree.specs.declared.expressions.Param.{Param}
use Rattle.c_tree.specs.declared.expressions.Parameters.{Parameters}
use Rattle.c_tree.specs.declared.expressions.Parameters.TheVariants as parameters
use Rattle.c_tree.specs.declared.expressions.Declarator as trees
use Rattle.c_tree.specs.declared.expressions.Declarator.TheVariants as d
use Rattle.c_grammar.specs.declared.terminal.Terminal.{Terminal}
use Rattle.c_grammar.specs.declared.terminal.Terminal.TheVariants as k
use Rattle.c_grammar.specs.Lexemes.{Lexeme, span, place, is, has_text}
use Rattle.c_grammar.specs.Trees.{specs_place}
use Rattle.c_grammar.specs.declared.state.SpecifierContext.{SpecifierContext}
use Rattle.c_grammar.specs.declared.state.DeclaratorKind.{DeclaratorKind}
use Rattle.c_grammar.specs.declared.state.Bracket.{Bracket}
use Rattle.c_grammar.specs.declared.state.Reach.{Reach}
use Rattle.c_grammar.specs.declared.state.SpecifierContext.TheVariants.{«Type» as TypeContext, Barred as BarredContext}
use Rattle.c_grammar.specs.declared.state.DeclaratorKind.TheVariants.{Ordinary as OrdinaryKind, Member as MemberKind, Parameter as ParameterKind, Abstract as AbstractKind}
use Rattle.c_grammar.specs.declared.state.Bracket.TheVariants.{Unknown, Passed, Barred, Opened}
use Rattle.c_grammar.specs.declared.state.Reach.TheVariants.{Nothing, NameAlone, Called, More}
use Rattle.c_grammar.specs.Rules.{Scope, AttributesRead, DeclaratorRead, ParamsRead, Conditional, Specs, ClangWords, Attributes, Declarator, Direct, Pointer, Group, Qualifiers, Params, ParamList}
use Rattle.c_grammar.specs.Expressions.{Reading, word, dead_end, has_type}
use Rattle.c_grammar.specs.Specifiers.{no_specs, reserved_names, is_ordinary_name, is_qualifier, attr, after}

-- A name is no typedef name from here on.
abbrev pub hide : Option (List ℕ) → Scope → Scope
hide None s = s
hide (Some name) s = record s { types = record { name = name; is_type = false } ∷ s.types }

abbrev pub hide_all : List (List ℕ) → Scope → Scope
hide_all [] s = s
hide_all (name ∷ names) s = hide_all names (hide (Some name) s)

abbrev pub named : Lexeme → DeclaratorRead
named t = record { tree = d.Name (span t); reach = NameAlone; name = Some t.text; own = []; bracket = None }

abbrev pub absent : Option ℕ → DeclaratorRead
absent bracket = record { tree = d.Absent; reach = Nothing; name = None; own = []; bracket = bracket }

abbrev pub pointer_to : ℕ → List PointerQualifier → DeclaratorRead → DeclaratorRead
pointer_to p qualifiers x = record { tree = d.Pointer p qualifiers x.tree; reach = More; name = x.name; own = x.own; bracket = None }

-- parentheses round a name alone leave it a name alone
abbrev pub in_group : Reach → Reach
in_group NameAlone = NameAlone
in_group reach = More

abbrev pub grouped : ℕ → DeclaratorRead → DeclaratorRead
grouped p x = record { tree = d.Parenthesised p x.tree; reach = in_group x.reach; name = x.name; own = x.own; bracket = None }

abbrev pub array_of : DeclaratorRead → ℕ → Option Expr → DeclaratorRead
array_of x p size = record { tree = d.Array x.tree p size; reach = More; name = x.name; own = x.own; bracket = None }

-- the one word `void` is no parameter
abbrev pub only : Param → List Spec → trees.Declarator → Parameters
only p (spec.Type place type_word.Void ∷ []) d.Absent = parameters.Void place
only p _ _ = parameters.List (p ∷ [])

abbrev pub parameters_of : List Param → Parameters
parameters_of [] = parameters.Empty
parameters_of (p ∷ []) = only p p.specs p.declarator
parameters_of (p ∷ q ∷ more) = parameters.List (p ∷ q ∷ more)

-- the list behind a name alone is the list that makes the name a function
abbrev pub own_names : Reach → List (List ℕ) → List (List ℕ) → List (List ℕ)
own_names NameAlone names before = names
own_names _ names before = before

abbrev pub function_of : DeclaratorRead → ℕ → ParamsRead → AttributesRead → DeclaratorRead
function_of x p given attributes = record {
  tree = d.Function x.tree p (parameters_of given.params) attributes.attributes;
  reach = Called;
  name = x.name;
  own = own_names x.reach given.names x.own;
  bracket = attributes.bracket;
}

-- A declarator whose last `[` has no array yet is not whole.
abbrev pub closing : Option ℕ → DeclaratorRead → Reading DeclaratorRead
closing None x = Return x
closing (Some p) x = dead_end x

abbrev pub closed : DeclaratorRead → Reading DeclaratorRead
closed x = closing x.bracket x

abbrev pub declarator : Scope → DeclaratorKind → Bracket → Reading DeclaratorRead
declarator s kind (Opened p) = Call (Direct s kind (Opened p)) closed
declarator s kind b = Either (Call (Pointer s kind) Return) (Call (Direct s kind b) closed)

abbrev pub qualifier_of : Lexeme → Terminal → PointerQualifier
qualifier_of t k.Const = record { place = place t; qualifier = qualifier.Const }
qualifier_of t k.Volatile = record { place = place t; qualifier = qualifier.Volatile }
qualifier_of t _ = record { place = place t; qualifier = qualifier.Restrict }

abbrev pub qualifiers : Reading (List PointerQualifier)
qualifiers = Either (Take is_qualifier (λ t. Call Qualifiers (λ more. Return (qualifier_of t t.terminal ∷ more)))) (Return [])

abbrev pub pointer : Scope → DeclaratorKind → Reading DeclaratorRead
pointer s kind =
    word k.Star (λ t. Call Qualifiers (λ qs. Call (Declarator s kind Unknown) (λ x. Return (pointer_to (place t) qs x))))

-- an ordinary name that is no typedef name
abbrev pub is_free_name : Scope → Lexeme → Bool
is_free_name s t = is k.Name t && (not (has_type s.types t) && not (has_text reserved_names t))

-- what a direct declarator begins with
abbrev pub direct_start : Scope → DeclaratorKind → Bracket → Reading DeclaratorRead
direct_start s kind (Opened p) = Return (absent (Some p))
direct_start s OrdinaryKind b = Either (Take is_ordinary_name (λ t. Return (named t))) (Call (Group s OrdinaryKind) Return)
direct_start s MemberKind b = Either (word k.Name (λ t. Return (named t))) (Call (Group s MemberKind) Return)
direct_start s ParameterKind Barred = Either (Take (is_free_name s) (λ t. Return (named t))) (Call (Group s ParameterKind) Return)
direct_start s ParameterKind b =
    Either (Take is_ordinary_name (λ t. Return (named t))) (Either (Call (Group s ParameterKind) Return) (Return (absent None)))
direct_start s AbstractKind Barred = Call (Group s AbstractKind) Return
direct_start s AbstractKind b = Either (Call (Group s AbstractKind) Return) (Return (absent None))

-- In a block a parameter list does not make a declared name a function. Where nothing stands before the `(`, the
-- parameter list is read as a group.
abbrev pub takes_params : Scope → DeclaratorKind → Reach → Bool
takes_params s kind Nothing = false
takes_params s OrdinaryKind NameAlone = not s.block
takes_params s kind reach = true

-- No array stands at the front where no `[` does. Behind a parameter list the attributes have told of a `[`.
abbrev pub takes_array : Reach → Bracket → Bool
takes_array Called b = false
takes_array Nothing Passed = false
takes_array reach b = true

abbrev pub array_rest : DeclaratorRead → Scope → ℕ → Reading DeclaratorRead
array_rest x s p =
    Either (word k.CloseBracket (λ c. Return (array_of x p None)))
    (Call (Conditional s) (λ size. word k.CloseBracket (λ c. Return (array_of x p (Some size)))))

-- One step is one array or one function. Where the `[` was read before, the array goes on behind it.
abbrev pub direct_step : Scope → DeclaratorKind → Bracket → Option ℕ → DeclaratorRead → Reading DeclaratorRead
direct_step s kind b (Some p) x = array_rest x s p
direct_step s kind b None x =
    Either (Take (λ t. is k.OpenBracket t && takes_array x.reach b) (λ t. array_rest x s (place t)))
    (Take (λ t. is k.OpenParen t && takes_params s kind x.reach)
    (λ t. Call (Params s) (λ given. word k.CloseParen (λ c. Call (Attributes s) (λ attributes. Return (function_of x (place t) given attributes))))))

-- A group is what stands in parentheses at the front of a direct declarator: a declarator, or, where a name may
-- lack, the parameters of a function whose declarator has nothing before them. Both are one node from the `(` on.
-- What may begin a parameter is one, also where it could be a declared name: `int (T)` with a typedef name T is a
-- function (C17 6.7.6.3). A `[` there begins an attribute of the first parameter, or an array; the token behind
-- it decides.
abbrev pub no_params : ParamsRead
no_params = record { params = []; names = [] }

abbrev pub function_rest : Scope → ℕ → ParamsRead → Reading DeclaratorRead
function_rest s p given = word k.CloseParen (λ c. Call (Attributes s) (λ attributes. Return (function_of (absent None) p given attributes)))

abbrev pub group_bracket : Scope → DeclaratorKind → ℕ → ℕ → Reading DeclaratorRead
group_bracket s kind p b =
    Either (word k.OpenBracket (λ o. Call ClangWords (λ words.
    Call (ParamList TypeContext s (spec.Attribute (attr b Brackets words) ∷ [])) (λ given. function_rest s p given))))
    (Call (Declarator s kind (Opened b)) (λ x. word k.CloseParen (λ c. Return (grouped p x))))

abbrev pub open_group : Scope → DeclaratorKind → ℕ → Reading DeclaratorRead
open_group s kind p =
    Either (word k.OpenBracket (λ b. group_bracket s kind p (place b)))
    (Either (Call (ParamList BarredContext s []) (λ given. function_rest s p given))
    (Either (function_rest s p no_params)
    (Call (Declarator s kind Barred) (λ x. word k.CloseParen (λ c. Return (grouped p x))))))

abbrev pub group : Scope → DeclaratorKind → Reading DeclaratorRead
group s ParameterKind = word k.OpenParen (λ t. open_group s ParameterKind (place t))
group s AbstractKind = word k.OpenParen (λ t. open_group s AbstractKind (place t))
group s kind = word k.OpenParen (λ t. Call (Declarator s kind Unknown) (λ x. word k.CloseParen (λ c. Return (grouped (place t) x))))

-- Parameters, of which the specifiers of the first go on behind those that were read before. The name of one hides
-- a typedef name from the end of its declarator on, as far as the list goes.
abbrev pub params : Scope → Reading ParamsRead
params s = Either (Call (ParamList TypeContext s []) Return) (Return no_params)

abbrev pub param : List Spec → DeclaratorRead → Param
param specs x = record { place = specs_place specs; specs = specs; declarator = x.tree }

abbrev pub with_name : Option (List ℕ) → List (List ℕ) → List (List ℕ)
with_name None names = names
with_name (Some name) names = name ∷ names

abbrev pub join : List Spec → List Spec → List Spec
join [] specs = specs
join (first ∷ more) specs = first ∷ join more specs

abbrev pub add_param : List Spec → DeclaratorRead → ParamsRead → ParamsRead
add_param specs x more = record { params = param specs x ∷ more.params; names = with_name x.name more.names }

abbrev pub param_list : SpecifierContext → Scope → List Spec → Reading ParamsRead
param_list context s before =
    Call (Specs context s no_specs) (λ x. Call (Declarator s ParameterKind (after x.bracket)) (λ y.
    Either (word k.Comma (λ c. Call (ParamList TypeContext (hide y.name s) []) (λ more. Return (add_param (join before x.specs) y more))))
    (Return (add_param (join before x.specs) y no_params))))
