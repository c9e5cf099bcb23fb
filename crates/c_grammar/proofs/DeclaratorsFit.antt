-- One token decides in declarators, parameters and type names.
use Rattle.std.proofs.Common.{◌≡◌, ℕ, Bool, true, false, not, ◌||◌, List, [], Option, Some, None, refl}
use Rattle.grammar.specs.Parser.{begins, nothing, holds, and_then}
use Rattle.grammar.proofs.Checked.{Checks, Orders, within, apart}
use Rattle.c_tree.specs.declared.expressions.Spec.{Spec}
use Rattle.c_grammar.specs.Lexemes.{Lexeme}
use Rattle.c_grammar.specs.Expressions.{has_type}
use Rattle.c_grammar.specs.declared.state.SpecifierContext.{SpecifierContext}
use Rattle.c_grammar.specs.declared.state.DeclaratorKind.{DeclaratorKind}
use Rattle.c_grammar.specs.declared.state.Bracket.{Bracket}
use Rattle.c_grammar.specs.declared.state.Reach.{Reach}
use Rattle.c_grammar.specs.declared.state.SpecifierContext.TheVariants.{File as FileContext, Block as BlockContext, Member as MemberContext, «Type» as TypeContext, Barred as BarredContext}
use Rattle.c_grammar.specs.declared.state.DeclaratorKind.TheVariants.{Ordinary as OrdinaryKind, Member as MemberKind, Parameter as ParameterKind, Abstract as AbstractKind}
use Rattle.c_grammar.specs.declared.state.Bracket.TheVariants.{Unknown, Passed, Barred, Opened}
use Rattle.c_grammar.specs.declared.state.Reach.TheVariants.{Nothing, NameAlone, Called, More}
use Rattle.c_grammar.specs.Rules.{Declared, Scope, DeclaratorRead, ParamsRead, Specs, TypeName, Attributes, Declarator, Direct, Pointer, Group, Qualifiers, Params, ParamList}
use Rattle.c_text.specs.declared.Token.{Token}
use Rattle.c_grammar.specs.declared.terminal.Terminal.TheVariants as k
use Rattle.c_grammar.specs.Lexemes.{is, has_text}
use Rattle.c_tree.specs.declared.expressions.TypeName as names
use Rattle.c_grammar.specs.Trees.{specs_place}
use Rattle.c_grammar.specs.Specifiers.{no_specs, reserved_names, after}
use Rattle.c_grammar.specs.Declarators.{closing, array_rest, direct_step, function_of, takes_array, add_param, join, no_params}
use Rattle.c_grammar.specs.Lookahead.{c_lookahead, starts_specs, starts_declarator, ends_specs, ends_declarator, ends_direct, ends_group, ends_attributes, empty_declarator}
use Rattle.c_grammar.proofs.Every.{All, all, rows, call_first, optional_first, apart_empty, apart_none, apart_guard, and_both, within_one, within_self}
use Rattle.c_grammar.proofs.Fine.{Fine, begins_not}

-- the test of the names in a row of names
abbrev known : Scope → List ℕ → Token → Bool
known s text token = has_type s.types (record { terminal = k.Name; token = token; text = text })

-- A whole direct declarator goes on to the end of the declarator, and one whose `[` has no array to nothing.
closed_fine : (open_at : Option ℕ) (x : DeclaratorRead)
    → All (λ t. within (begins c_lookahead (closing open_at x) t) (ends_direct open_at t))
    × All (λ t. within (holds (λ y. ends_declarator t) (nothing c_lookahead (closing open_at x))) (ends_direct open_at t))
    × Checks c_lookahead All all (λ y t. ends_declarator t) (closing open_at x)
closed_fine None x = ((λ y p. refl), (λ y p. refl), tt)
closed_fine (Some q) x = ((λ y p. refl), (λ y p. refl), (λ t e. tt))

closed_orders : (open_at : Option ℕ) (x : DeclaratorRead) → Orders c_lookahead All all 25 (closing open_at x)
closed_orders None x = tt
closed_orders (Some q) x = tt

-- what goes on behind a group, and behind attributes
group_follows : (s : Scope) (kind : DeclaratorKind) (b : Bracket) (open_at : Option ℕ) (x : DeclaratorRead) (reach : Reach)
    → All (λ t. within (ends_direct open_at t || begins c_lookahead (direct_step s kind b open_at (record x { reach = reach })) t) (ends_group open_at reach s t))
group_follows s kind b None x Nothing = λ y p. refl
group_follows s kind b None x NameAlone = λ y p. refl
group_follows s kind b None x Called = λ y p. refl
group_follows s kind b None x More = λ y p. refl
group_follows s kind b (Some q) x reach = λ y p. within_one (not (known s y p))

called_follows : (s : Scope) (kind : DeclaratorKind) (b : Bracket) (open_at : Option ℕ) (x : DeclaratorRead)
    → All (λ t. within (ends_direct open_at t || begins c_lookahead (direct_step s kind b open_at (record x { reach = Called })) t) (ends_attributes open_at s t))
called_follows s kind b None x = λ y p. refl
called_follows s kind b (Some q) x = λ y p. within_one (not (known s y p))

group_called : (s : Scope) (open_at : Option ℕ) → All (λ t. within (ends_group open_at Called s t) (ends_attributes open_at s t))
group_called s None = λ y p. refl
group_called s (Some q) = λ y p. within_self (not (known s y p))

-- the steps of a direct declarator
abbrev Goes : Scope → DeclaratorKind → Bracket → DeclaratorRead → Lexeme → Bool
Goes s kind b x t = ends_direct x.bracket t || begins c_lookahead (direct_step s kind b x.bracket x) t

array_fine : (s : Scope) (kind : DeclaratorKind) (b : Bracket) (x : DeclaratorRead) (q : ℕ) → Checks c_lookahead All all (Goes s kind b) (array_rest x s q)
array_fine s kind b x q = (refl, (λ y p. refl), (λ y p. refl), (λ t e. tt), (λ a. ((λ y p. refl), (λ y p. refl), (λ t e. tt))))

step_fine : (s : Scope) (kind : DeclaratorKind) (b : Bracket) (open_at : Option ℕ) (x : DeclaratorRead)
    → Checks c_lookahead All all (Goes s kind b) (direct_step s kind b open_at x)
step_fine s kind b (Some q) x = array_fine s kind b x q
step_fine s kind b None x = (
  refl,
  (λ y p. and_both (apart (takes_array x.reach b) false) true (apart_none (takes_array x.reach b)) refl),
  (λ y p. refl),
  (λ t e. array_fine s kind b x t.token.start),
  (λ t e given. (
    (λ y p. refl),
    (λ y p. refl),
    (λ u f a. (begins_not (Attributes s) a, called_follows s kind b a.bracket (function_of x t.token.start given a), tt)),
  )),
)

step_nothing : (s : Scope) (kind : DeclaratorKind) (b : Bracket) (open_at : Option ℕ) (x : DeclaratorRead) → nothing c_lookahead (direct_step s kind b open_at x) ≡ None
step_nothing s kind b None x = refl
step_nothing s kind b (Some q) x = refl

step_orders : (s : Scope) (kind : DeclaratorKind) (b : Bracket) (open_at : Option ℕ) (x : DeclaratorRead) → Orders c_lookahead All all 24 (direct_step s kind b open_at x)
step_orders s kind b None x = (tt, tt)
step_orders s kind b (Some q) x = (tt, (refl, (λ a e. tt)))

step_apart : (s : Scope) (kind : DeclaratorKind) (b : Bracket) (open_at : Option ℕ) (x : DeclaratorRead)
    → All (λ t. apart (ends_direct open_at t) (begins c_lookahead (direct_step s kind b open_at x) t))
step_apart s kind b None x = λ y p. refl
step_apart s kind b (Some q) x = λ y p. refl

-- parameters and a declarator in a group begin apart: what may be a typedef name is one
group_first : (block : Bool) (types : List Declared)
    → All (λ t. apart (starts_specs BarredContext (record { types = types; block = block }) no_specs t || false)
    (is k.CloseParen t || (starts_declarator (record { types = types; block = block }) ParameterKind Barred t || false)))
group_first true types = λ x p. apart_guard (has_type types (record { terminal = k.Name; token = p; text = x })) (not (has_text reserved_names (record { terminal = k.Name; token = p; text = x })))
group_first false types = λ x p. apart_guard (has_type types (record { terminal = k.Name; token = p; text = x })) (not (has_text reserved_names (record { terminal = k.Name; token = p; text = x })))

nameless_first : (block : Bool) (types : List Declared)
    → All (λ t. apart (starts_specs BarredContext (record { types = types; block = block }) no_specs t || false)
    (is k.CloseParen t || (starts_declarator (record { types = types; block = block }) AbstractKind Barred t || false)))
nameless_first true types = λ x p. apart_none ((has_type types (record { terminal = k.Name; token = p; text = x }) || false) || false)
nameless_first false types = λ x p. apart_none ((has_type types (record { terminal = k.Name; token = p; text = x }) || false) || false)

-- what follows the specifiers of a parameter or a type name
param_specs : (context : SpecifierContext) (s : Scope) (open_at : Option ℕ)
    → All (λ t. within (starts_declarator s ParameterKind (after open_at) t || holds (λ y. is k.Comma t || false) (empty_declarator ParameterKind (after open_at))) (ends_specs context open_at s t))
param_specs context s None = λ y p. refl
param_specs FileContext s (Some q) = λ y p. refl
param_specs BlockContext s (Some q) = λ y p. refl
param_specs MemberContext s (Some q) = λ y p. refl
param_specs TypeContext s (Some q) = λ y p. within_one (not (known s y p))
param_specs BarredContext s (Some q) = λ y p. within_one (not (known s y p))

param_specs_end : (context : SpecifierContext) (s : Scope) (open_at : Option ℕ) (v : DeclaratorRead → ParamsRead)
    → All (λ t. within (holds (λ y. is k.CloseParen t) (and_then (empty_declarator ParameterKind (after open_at)) (λ y. Some (v y)))) (ends_specs context open_at s t))
param_specs_end context s None v = λ y p. refl
param_specs_end context s (Some q) v = begins_not (Specs context s no_specs) (record { specs = []; bracket = Some q })

type_specs : (s : Scope) (open_at : Option ℕ)
    → All (λ t. within (starts_declarator s AbstractKind (after open_at) t || holds (λ y. false) (empty_declarator AbstractKind (after open_at))) (ends_specs TypeContext open_at s t))
type_specs s None = λ y p. refl
type_specs s (Some q) = λ y p. within_one (not (known s y p))

type_specs_end : (s : Scope) (open_at : Option ℕ) (v : DeclaratorRead → names.TypeName)
    → All (λ t. within (holds (λ y. is k.CloseParen t) (and_then (empty_declarator AbstractKind (after open_at)) (λ y. Some (v y)))) (ends_specs TypeContext open_at s t))
type_specs_end s None v = λ y p. refl
type_specs_end s (Some q) v = begins_not (Specs TypeContext s no_specs) (record { specs = []; bracket = Some q })

pub declarator_fine : (s : Scope) (kind : DeclaratorKind) (b : Bracket) → Fine (Declarator s kind b)
declarator_fine s kind (Opened q) = (search rows depth 20, refl, (refl, (λ a e. closed_orders a.bracket a)), (λ a. closed_fine a.bracket a))
declarator_fine s OrdinaryKind Unknown = (search rows depth 20, refl, ((refl, (λ a e. tt)), (refl, (λ a e. closed_orders a.bracket a))), (refl, (λ x p. refl), (λ x p. refl), (λ a. ((λ x p. refl), (λ x p. refl), tt)), (λ a. closed_fine a.bracket a)))
declarator_fine s OrdinaryKind Passed = (search rows depth 20, refl, ((refl, (λ a e. tt)), (refl, (λ a e. closed_orders a.bracket a))), (refl, (λ x p. refl), (λ x p. refl), (λ a. ((λ x p. refl), (λ x p. refl), tt)), (λ a. closed_fine a.bracket a)))
declarator_fine s OrdinaryKind Barred = (search rows depth 20, refl, ((refl, (λ a e. tt)), (refl, (λ a e. closed_orders a.bracket a))), (refl, (λ x p. refl), (λ x p. refl), (λ a. ((λ x p. refl), (λ x p. refl), tt)), (λ a. closed_fine a.bracket a)))
declarator_fine s MemberKind Unknown = ((λ x p. refl), refl, ((refl, (λ a e. tt)), (refl, (λ a e. closed_orders a.bracket a))), (refl, (λ x p. refl), (λ x p. refl), (λ a. ((λ x p. refl), (λ x p. refl), tt)), (λ a. closed_fine a.bracket a)))
declarator_fine s MemberKind Passed = ((λ x p. refl), refl, ((refl, (λ a e. tt)), (refl, (λ a e. closed_orders a.bracket a))), (refl, (λ x p. refl), (λ x p. refl), (λ a. ((λ x p. refl), (λ x p. refl), tt)), (λ a. closed_fine a.bracket a)))
declarator_fine s MemberKind Barred = ((λ x p. refl), refl, ((refl, (λ a e. tt)), (refl, (λ a e. closed_orders a.bracket a))), (refl, (λ x p. refl), (λ x p. refl), (λ a. ((λ x p. refl), (λ x p. refl), tt)), (λ a. closed_fine a.bracket a)))
declarator_fine s ParameterKind Unknown = (search rows depth 20, refl, ((refl, (λ a e. tt)), (refl, (λ a e. closed_orders a.bracket a))), (refl, (λ x p. refl), (λ x p. refl), (λ a. ((λ x p. refl), (λ x p. refl), tt)), (λ a. closed_fine a.bracket a)))
declarator_fine s ParameterKind Passed = (search rows depth 20, refl, ((refl, (λ a e. tt)), (refl, (λ a e. closed_orders a.bracket a))), (refl, (λ x p. refl), (λ x p. refl), (λ a. ((λ x p. refl), (λ x p. refl), tt)), (λ a. closed_fine a.bracket a)))
declarator_fine s ParameterKind Barred = (search rows depth 20, refl, ((refl, (λ a e. tt)), (refl, (λ a e. closed_orders a.bracket a))), (refl, (λ x p. refl), (λ x p. refl), (λ a. ((λ x p. refl), (λ x p. refl), tt)), (λ a. closed_fine a.bracket a)))
declarator_fine s AbstractKind Unknown = ((λ x p. refl), refl, ((refl, (λ a e. tt)), (refl, (λ a e. closed_orders a.bracket a))), (refl, (λ x p. refl), (λ x p. refl), (λ a. ((λ x p. refl), (λ x p. refl), tt)), (λ a. closed_fine a.bracket a)))
declarator_fine s AbstractKind Passed = ((λ x p. refl), refl, ((refl, (λ a e. tt)), (refl, (λ a e. closed_orders a.bracket a))), (refl, (λ x p. refl), (λ x p. refl), (λ a. ((λ x p. refl), (λ x p. refl), tt)), (λ a. closed_fine a.bracket a)))
declarator_fine s AbstractKind Barred = ((λ x p. refl), refl, ((refl, (λ a e. tt)), (refl, (λ a e. closed_orders a.bracket a))), (refl, (λ x p. refl), (λ x p. refl), (λ a. ((λ x p. refl), (λ x p. refl), tt)), (λ a. closed_fine a.bracket a)))

pub pointer_fine : (s : Scope) (kind : DeclaratorKind) → Fine (Pointer s kind)
pointer_fine s OrdinaryKind = ((λ x p. refl), refl, refl, tt, (λ t e. (λ a. ((λ x p. refl), (λ x p. refl), (λ a. ((λ x p. refl), (λ x p. refl), tt))))))
pointer_fine s MemberKind = ((λ x p. refl), refl, refl, tt, (λ t e. (λ a. ((λ x p. refl), (λ x p. refl), (λ a. ((λ x p. refl), (λ x p. refl), tt))))))
pointer_fine s ParameterKind = ((λ x p. refl), refl, refl, tt, (λ t e. (λ a. ((λ x p. refl), (λ x p. refl), (λ a. ((λ x p. refl), (λ x p. refl), tt))))))
pointer_fine s AbstractKind = ((λ x p. refl), refl, refl, tt, (λ t e. (λ a. ((λ x p. refl), (λ x p. refl), (λ a. ((λ x p. refl), (λ x p. refl), tt))))))

pub qualifiers_fine : Fine Qualifiers
qualifiers_fine = ((λ x p. refl), refl, (tt, tt), (refl, (λ x p. refl), (λ x p. refl), (λ t e. (λ a. ((λ x p. refl), (λ x p. refl), tt))), tt))

pub direct_fine : (s : Scope) (kind : DeclaratorKind) (b : Bracket) → Fine (Direct s kind b)
direct_fine s kind (Opened q) = (search rows depth 20, refl, tt, tt, (λ y. step_nothing s kind (Opened q) y.bracket y), (λ y. step_orders s kind (Opened q) y.bracket y), (λ y. step_fine s kind (Opened q) y.bracket y), (λ y. step_apart s kind (Opened q) y.bracket y))
direct_fine s OrdinaryKind Unknown = (search rows depth 20, refl, (tt, (refl, (λ a e. tt))), (refl, search rows depth 20, (λ x p. refl), (λ t e. tt), (λ a. (begins_not (Group s OrdinaryKind) a, group_follows s OrdinaryKind Unknown a.bracket a a.reach, tt))), (λ y. step_nothing s OrdinaryKind Unknown y.bracket y), (λ y. step_orders s OrdinaryKind Unknown y.bracket y), (λ y. step_fine s OrdinaryKind Unknown y.bracket y), (λ y. step_apart s OrdinaryKind Unknown y.bracket y))
direct_fine s OrdinaryKind Passed = (search rows depth 20, refl, (tt, (refl, (λ a e. tt))), (refl, search rows depth 20, (λ x p. refl), (λ t e. tt), (λ a. (begins_not (Group s OrdinaryKind) a, group_follows s OrdinaryKind Passed a.bracket a a.reach, tt))), (λ y. step_nothing s OrdinaryKind Passed y.bracket y), (λ y. step_orders s OrdinaryKind Passed y.bracket y), (λ y. step_fine s OrdinaryKind Passed y.bracket y), (λ y. step_apart s OrdinaryKind Passed y.bracket y))
direct_fine s OrdinaryKind Barred = (search rows depth 20, refl, (tt, (refl, (λ a e. tt))), (refl, search rows depth 20, (λ x p. refl), (λ t e. tt), (λ a. (begins_not (Group s OrdinaryKind) a, group_follows s OrdinaryKind Barred a.bracket a a.reach, tt))), (λ y. step_nothing s OrdinaryKind Barred y.bracket y), (λ y. step_orders s OrdinaryKind Barred y.bracket y), (λ y. step_fine s OrdinaryKind Barred y.bracket y), (λ y. step_apart s OrdinaryKind Barred y.bracket y))
direct_fine s MemberKind Unknown = ((λ x p. refl), refl, (tt, (refl, (λ a e. tt))), (refl, (λ x p. refl), (λ x p. refl), (λ t e. tt), (λ a. (begins_not (Group s MemberKind) a, group_follows s MemberKind Unknown a.bracket a a.reach, tt))), (λ y. step_nothing s MemberKind Unknown y.bracket y), (λ y. step_orders s MemberKind Unknown y.bracket y), (λ y. step_fine s MemberKind Unknown y.bracket y), (λ y. step_apart s MemberKind Unknown y.bracket y))
direct_fine s MemberKind Passed = ((λ x p. refl), refl, (tt, (refl, (λ a e. tt))), (refl, (λ x p. refl), (λ x p. refl), (λ t e. tt), (λ a. (begins_not (Group s MemberKind) a, group_follows s MemberKind Passed a.bracket a a.reach, tt))), (λ y. step_nothing s MemberKind Passed y.bracket y), (λ y. step_orders s MemberKind Passed y.bracket y), (λ y. step_fine s MemberKind Passed y.bracket y), (λ y. step_apart s MemberKind Passed y.bracket y))
direct_fine s MemberKind Barred = ((λ x p. refl), refl, (tt, (refl, (λ a e. tt))), (refl, (λ x p. refl), (λ x p. refl), (λ t e. tt), (λ a. (begins_not (Group s MemberKind) a, group_follows s MemberKind Barred a.bracket a a.reach, tt))), (λ y. step_nothing s MemberKind Barred y.bracket y), (λ y. step_orders s MemberKind Barred y.bracket y), (λ y. step_fine s MemberKind Barred y.bracket y), (λ y. step_apart s MemberKind Barred y.bracket y))
direct_fine s ParameterKind Unknown = (search rows depth 20, refl, (tt, ((refl, (λ a e. tt)), tt)), (refl, search rows depth 20, (λ x p. refl), (λ t e. tt), (refl, (λ x p. refl), (λ x p. refl), (λ a. (begins_not (Group s ParameterKind) a, group_follows s ParameterKind Unknown a.bracket a a.reach, tt)), tt)), (λ y. step_nothing s ParameterKind Unknown y.bracket y), (λ y. step_orders s ParameterKind Unknown y.bracket y), (λ y. step_fine s ParameterKind Unknown y.bracket y), (λ y. step_apart s ParameterKind Unknown y.bracket y))
direct_fine s ParameterKind Passed = (search rows depth 20, refl, (tt, ((refl, (λ a e. tt)), tt)), (refl, search rows depth 20, (λ x p. refl), (λ t e. tt), (refl, (λ x p. refl), (λ x p. refl), (λ a. (begins_not (Group s ParameterKind) a, group_follows s ParameterKind Passed a.bracket a a.reach, tt)), tt)), (λ y. step_nothing s ParameterKind Passed y.bracket y), (λ y. step_orders s ParameterKind Passed y.bracket y), (λ y. step_fine s ParameterKind Passed y.bracket y), (λ y. step_apart s ParameterKind Passed y.bracket y))
direct_fine s ParameterKind Barred = (search rows depth 20, refl, (tt, (refl, (λ a e. tt))), (refl, search rows depth 20, (λ x p. refl), (λ t e. tt), (λ a. (begins_not (Group s ParameterKind) a, group_follows s ParameterKind Barred a.bracket a a.reach, tt))), (λ y. step_nothing s ParameterKind Barred y.bracket y), (λ y. step_orders s ParameterKind Barred y.bracket y), (λ y. step_fine s ParameterKind Barred y.bracket y), (λ y. step_apart s ParameterKind Barred y.bracket y))
direct_fine s AbstractKind Unknown = ((λ x p. refl), refl, ((refl, (λ a e. tt)), tt), (refl, (λ x p. refl), (λ x p. refl), (λ a. (begins_not (Group s AbstractKind) a, group_follows s AbstractKind Unknown a.bracket a a.reach, tt)), tt), (λ y. step_nothing s AbstractKind Unknown y.bracket y), (λ y. step_orders s AbstractKind Unknown y.bracket y), (λ y. step_fine s AbstractKind Unknown y.bracket y), (λ y. step_apart s AbstractKind Unknown y.bracket y))
direct_fine s AbstractKind Passed = ((λ x p. refl), refl, ((refl, (λ a e. tt)), tt), (refl, (λ x p. refl), (λ x p. refl), (λ a. (begins_not (Group s AbstractKind) a, group_follows s AbstractKind Passed a.bracket a a.reach, tt)), tt), (λ y. step_nothing s AbstractKind Passed y.bracket y), (λ y. step_orders s AbstractKind Passed y.bracket y), (λ y. step_fine s AbstractKind Passed y.bracket y), (λ y. step_apart s AbstractKind Passed y.bracket y))
direct_fine s AbstractKind Barred = ((λ x p. refl), refl, (refl, (λ a e. tt)), (λ a. (begins_not (Group s AbstractKind) a, group_follows s AbstractKind Barred a.bracket a a.reach, tt)), (λ y. step_nothing s AbstractKind Barred y.bracket y), (λ y. step_orders s AbstractKind Barred y.bracket y), (λ y. step_fine s AbstractKind Barred y.bracket y), (λ y. step_apart s AbstractKind Barred y.bracket y))

pub group_fine : (s : Scope) (kind : DeclaratorKind) → Fine (Group s kind)
group_fine s OrdinaryKind = ((λ x p. refl), refl, refl, tt, (λ t e. (λ a. ((λ x p. refl), (λ x p. refl), (λ t e. tt)))))
group_fine s MemberKind = ((λ x p. refl), refl, refl, tt, (λ t e. (λ a. ((λ x p. refl), (λ x p. refl), (λ t e. tt)))))
group_fine s ParameterKind = ((λ x p. refl), refl, refl, tt, (λ t e. (refl, (λ x p. refl), (λ x p. refl), (λ t e. (refl, (λ x p. refl), (λ x p. refl), (λ t e. (λ a. ((λ x p. refl), (λ x p. refl), (λ a. ((λ x p. refl), (λ x p. refl), (λ t e. (λ a. (begins_not (Attributes s) a, group_called s a.bracket, tt)))))))), (λ a. ((λ x p. refl), (λ x p. refl), (λ t e. tt))))), (refl, group_first s.block s.types, (λ x p. refl), (λ a. ((λ x p. refl), (λ x p. refl), (λ t e. (λ a. (begins_not (Attributes s) a, group_called s a.bracket, tt))))), (refl, (λ x p. refl), (λ x p. refl), (λ t e. (λ a. (begins_not (Attributes s) a, group_called s a.bracket, tt))), (λ a. ((λ x p. refl), (λ x p. refl), (λ t e. tt))))))))
group_fine s AbstractKind = ((λ x p. refl), refl, refl, tt, (λ t e. (refl, (λ x p. refl), (λ x p. refl), (λ t e. (refl, (λ x p. refl), (λ x p. refl), (λ t e. (λ a. ((λ x p. refl), (λ x p. refl), (λ a. ((λ x p. refl), (λ x p. refl), (λ t e. (λ a. (begins_not (Attributes s) a, group_called s a.bracket, tt)))))))), (λ a. ((λ x p. refl), (λ x p. refl), (λ t e. tt))))), (refl, nameless_first s.block s.types, (λ x p. refl), (λ a. ((λ x p. refl), (λ x p. refl), (λ t e. (λ a. (begins_not (Attributes s) a, group_called s a.bracket, tt))))), (refl, (λ x p. refl), (λ x p. refl), (λ t e. (λ a. (begins_not (Attributes s) a, group_called s a.bracket, tt))), (λ a. ((λ x p. refl), (λ x p. refl), (λ t e. tt))))))))

pub params_fine : (s : Scope) → Fine (Params s)
params_fine s = (optional_first (λ t. starts_specs TypeContext s no_specs t), refl, ((refl, (λ a e. tt)), tt), (refl, apart_empty (λ t. starts_specs TypeContext s no_specs t || false), (λ x p. refl), (λ a. ((λ x p. refl), (λ x p. refl), tt)), tt))

pub param_list_fine : (context : SpecifierContext) (s : Scope) (before : List Spec) → Fine (ParamList context s before)
param_list_fine context s before = (call_first (λ t. starts_specs context s no_specs t), refl, (refl, (λ a e. (refl, (λ a e. (tt, tt))))), (λ a. (param_specs context s a.bracket, param_specs_end context s a.bracket (λ y. add_param (join before a.specs) y no_params), (λ a. ((λ x p. refl), (λ x p. refl), (refl, (λ x p. refl), (λ x p. refl), (λ t e. (λ a. ((λ x p. refl), (λ x p. refl), tt))), tt))))))

pub type_name_fine : (s : Scope) → Fine (TypeName s)
type_name_fine s = (call_first (λ t. starts_specs TypeContext s no_specs t), refl, (refl, (λ a e. (refl, (λ a e. tt)))), (λ a. (type_specs s a.bracket, type_specs_end s a.bracket (λ y. record { place = specs_place a.specs; specs = a.specs; declarator = y.tree }), (λ a. ((λ x p. refl), (λ x p. refl), tt)))))
