-- What may come next in a declarator, and what stands at its front, by tests of the code.
use Rattle.std.specs.Prelude.{ℕ, Bool, true, false, ◌&&◌, ◌||◌, List, [], ◌∷◌, Option, Some, None}
use Rattle.c_tree.specs.declared.words.AttrSpelling.TheVariants.{Brackets}
use Rattle.c_tree.specs.declared.expressions.Spec.{Spec}
use Rattle.c_tree.specs.declared.expressions.Spec.TheVariants as spec
use Rattle.c_grammar.specs.declared.terminal.Terminal.TheVariants as k
use Rattle.grammar.specs.Parts.{Return, Call}
use Rattle.c_grammar.specs.Lexemes.{Lexeme, is}
use Rattle.c_grammar.specs.declared.state.DeclaratorKind.{DeclaratorKind}
use Rattle.c_grammar.specs.declared.state.Bracket.{Bracket}
use Rattle.c_grammar.specs.declared.state.Reach.{Reach}
use Rattle.c_grammar.specs.declared.state.SpecifierContext.{SpecifierContext}
use Rattle.c_grammar.specs.declared.state.DeclaratorKind.TheVariants.{Ordinary as OrdinaryKind, Member as MemberKind, Parameter as ParameterKind, Abstract as AbstractKind}
use Rattle.c_grammar.specs.declared.state.Bracket.TheVariants.{Unknown, Barred, Opened}
use Rattle.c_grammar.specs.declared.state.SpecifierContext.TheVariants.{«Type» as TypeContext}
use Rattle.c_grammar.specs.Rules.{Scope, DeclaratorRead, ParamsRead, Declarator, Params, ParamList, ClangWords, Attributes}
use Rattle.c_grammar.specs.Expressions.{Reading, word}
use Rattle.c_grammar.specs.Specifiers.{is_ordinary_name, attr}
use Rattle.c_grammar.specs.Declarators.{is_free_name, takes_array, takes_params, function_of, absent, grouped, open_group}
use Rattle.c_grammar.specs.Lookahead.{starts_size}

-- the place of the `[` that was read before
abbrev pub opened_at : Bracket → Option ℕ
opened_at (Opened p) = Some p
opened_at _ = None

-- a name that is declared
abbrev pub starts_name : Scope → DeclaratorKind → Bracket → Lexeme → Bool
starts_name s OrdinaryKind b t = is_ordinary_name t
starts_name s MemberKind b t = is k.Name t
starts_name s ParameterKind Barred t = is_free_name s t
starts_name s ParameterKind b t = is_ordinary_name t
starts_name s AbstractKind b t = false

-- nothing may stand at the inmost
abbrev pub may_lack : DeclaratorKind → Bracket → Bool
may_lack kind Barred = false
may_lack ParameterKind b = true
may_lack AbstractKind b = true
may_lack kind b = false

-- an array or a function, behind what was read
abbrev pub starts_step : Scope → DeclaratorKind → Bracket → Option ℕ → Reach → Lexeme → Bool
starts_step s kind b (Some p) reach t = starts_size s t
starts_step s kind b None reach t = (is k.OpenBracket t && takes_array reach b) || (is k.OpenParen t && takes_params s kind reach)

-- behind the parameters of a function, whose `(` stands at this place behind the declarator
abbrev pub function_parts : Scope → DeclaratorRead → ℕ → ParamsRead → Reading DeclaratorRead
function_parts s x p given = word k.CloseParen (λ c. Call (Attributes s) (λ attributes. Return (function_of x p given attributes)))

-- behind their `(`
abbrev pub params_parts : Scope → DeclaratorRead → ℕ → Reading DeclaratorRead
params_parts s x p = Call (Params s) (λ given. function_parts s x p given)

-- behind the `(` of a group that ends in these
abbrev pub declarator_parts : Scope → DeclaratorKind → Bracket → ℕ → Reading DeclaratorRead
declarator_parts s kind b p = Call (Declarator s kind b) (λ x. word k.CloseParen (λ c. Return (grouped p x)))

abbrev pub list_parts : SpecifierContext → Scope → List Spec → ℕ → Reading DeclaratorRead
list_parts context s before p = Call (ParamList context s before) (λ given. function_parts s (absent None) p given)

abbrev pub attribute_parts : Scope → ℕ → ℕ → Reading DeclaratorRead
attribute_parts s p b = Call ClangWords (λ words. list_parts TypeContext s (spec.Attribute (attr b Brackets words) ∷ []) p)

-- behind the `(` of any group
abbrev pub group_parts : Scope → DeclaratorKind → ℕ → Reading DeclaratorRead
group_parts s ParameterKind p = open_group s ParameterKind p
group_parts s AbstractKind p = open_group s AbstractKind p
group_parts s kind p = declarator_parts s kind Unknown p
