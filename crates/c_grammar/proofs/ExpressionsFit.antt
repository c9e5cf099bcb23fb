-- One token decides in expressions.
use Rattle.std.proofs.Common.{Bool, true, false, not, ◌&&◌, ◌||◌, List, refl}
use Rattle.grammar.proofs.Checked.{within, apart}
use Rattle.c_grammar.specs.Expressions.{has_type}
use Rattle.c_grammar.specs.declared.state.Front.{Front}
use Rattle.c_grammar.specs.declared.state.Precedence.{Precedence}
use Rattle.c_grammar.specs.declared.state.Front.TheVariants.{Cast as CastFront, Unary as UnaryFront, Bare as BareFront, Opened as OpenedFront}
use Rattle.c_grammar.specs.declared.state.Precedence.TheVariants.{LogicalOr}
use Rattle.c_grammar.specs.declared.state.SpecifierContext.TheVariants.{«Type» as TypeContext}
use Rattle.c_grammar.specs.Rules.{Declared, Scope, Expression, Assignment, Conditional, Prefix, Arguments, MoreArguments, Binary, Operand, Postfix, Primary, Texts}
use Rattle.c_grammar.proofs.Every.{All, rows, names_differ}
use Rattle.c_grammar.specs.declared.terminal.Terminal.TheVariants as k
use Rattle.c_grammar.specs.Lexemes.{is}
use Rattle.c_grammar.specs.Trees.{is_cast}
use Rattle.c_grammar.specs.Specifiers.{no_specs}
use Rattle.c_grammar.specs.Lookahead.{starts_specs, starts_expression, ends_operand, ends_primary}
use Rattle.c_grammar.proofs.Fine.{Fine, begins_not}

-- a type name and an expression begin apart: by the words of functions and by the typedef names
pub types_first : (block : Bool) (types : List Declared)
    → All (λ t. apart (starts_specs TypeContext (record { types = types; block = block }) no_specs t || false)
    (starts_expression (record { types = types; block = block }) t || false))
types_first true types = λ x p. names_differ (has_type types (record { terminal = k.Name; token = p; text = x }))
types_first false types = λ x p. names_differ (has_type types (record { terminal = k.Name; token = p; text = x }))

-- a postfix operator stands behind what is no cast
step_rows : (cast : Bool) → All (λ t. within
    (ends_operand t || ((is k.OpenBracket t && not cast) || ((is k.OpenParen t && not cast) || ((is k.Dot t && not cast)
    || ((is k.Arrow t && not cast) || ((is k.Increment t && not cast) || (is k.Decrement t && not cast)))))))
    (ends_primary cast t))
step_rows true = λ x p. refl
step_rows false = λ x p. refl

pub texts_fine : Fine Texts
texts_fine = ((λ x p. refl), refl, (tt, tt), (refl, (λ x p. refl), (λ x p. refl), (λ t e. (λ a. ((λ x p. refl), (λ x p. refl), tt))), tt))

pub more_arguments_fine : (s : Scope) → Fine (MoreArguments s)
more_arguments_fine s = ((λ x p. refl), refl, (tt, tt), (refl, (λ x p. refl), (λ x p. refl), (λ t e. (λ a. ((λ x p. refl), (λ x p. refl), (λ a. ((λ x p. refl), (λ x p. refl), tt))))), tt))

pub arguments_fine : (s : Scope) → Fine (Arguments s)
arguments_fine s = (search rows depth 20, refl, ((refl, (λ a e. (refl, (λ a e. tt)))), tt), (refl, search rows depth 20, (λ x p. refl), (λ a. ((λ x p. refl), (λ x p. refl), (λ a. ((λ x p. refl), (λ x p. refl), tt)))), tt))

pub expression_fine : (s : Scope) → Fine (Expression s)
expression_fine s = (search rows depth 20, refl, (refl, (λ a e. tt)), (λ a. ((λ x p. refl), (λ x p. refl), tt)), (λ y. refl), (λ y. tt), (λ y. (λ t e. (λ a. ((λ x p. refl), (λ x p. refl), tt)))), (λ a. (λ x p. refl)))

pub assignment_fine : (s : Scope) → Fine (Assignment s)
assignment_fine s = (search rows depth 20, refl, (refl, (λ a e. tt)), (λ a. ((λ x p. refl), (λ x p. refl), tt)), (λ y. refl), (λ y. tt), (λ y. (λ t e. (λ a. ((λ x p. refl), (λ x p. refl), tt)))), (λ a. (λ x p. refl)))

pub conditional_fine : (s : Scope) → Fine (Conditional s)
conditional_fine s = (search rows depth 20, refl, (refl, (λ a e. tt)), (λ a. ((λ x p. refl), (λ x p. refl), tt)), (λ y. refl), (λ y. tt), (λ y. (λ t e. (λ a. ((λ x p. refl), (λ x p. refl), (λ t e. (λ a. ((λ x p. refl), (λ x p. refl), tt))))))), (λ a. (λ x p. refl)))

pub binary_fine : (l : Precedence) (s : Scope) → Fine (Binary l s)
binary_fine LogicalOr s = (search rows depth 20, refl, (refl, (λ a e. tt)), (λ a. ((λ x p. refl), (λ x p. refl), tt)), (λ y. refl), (λ y. tt), (λ y. (λ t e. (λ a. ((λ x p. refl), (λ x p. refl), tt)))), (λ a. (λ x p. refl)))
binary_fine _ s = (search rows depth 20, refl, (refl, (λ a e. tt)), (λ a. ((λ x p. refl), (λ x p. refl), tt)), (λ y. refl), (λ y. tt), (λ y. (λ t e. (λ a. ((λ x p. refl), (λ x p. refl), tt)))), (λ a. (λ x p. refl)))

pub prefix_fine : (s : Scope) → Fine (Prefix s)
prefix_fine s = ((λ x p. refl), refl, refl, (tt, (tt, tt)), (refl, (λ x p. refl), (λ x p. refl), (λ t e. (λ a. ((λ x p. refl), (λ x p. refl), tt))), (refl, (λ x p. refl), (λ x p. refl), (λ t e. (λ a. ((λ x p. refl), (λ x p. refl), tt))), (λ t e. (refl, (λ x p. refl), (λ x p. refl), (λ t e. (refl, types_first s.block s.types, (λ x p. refl), (λ a. ((λ x p. refl), (λ x p. refl), (λ t e. tt))), (λ a. ((λ x p. refl), (λ x p. refl), tt)))), (λ a. ((λ x p. refl), (λ x p. refl), tt)))))))

pub operand_fine : (f : Front) (s : Scope) → Fine (Operand f s)
operand_fine (OpenedFront p) s = (search rows depth 20, refl, (refl, (λ a e. tt)), (λ a. ((λ x p. refl), (λ x p. refl), tt)))
operand_fine _ s = (search rows depth 20, refl, ((refl, (λ a e. tt)), (refl, (λ a e. tt))), (refl, (λ x p. refl), (λ x p. refl), (λ a. ((λ x p. refl), (λ x p. refl), tt)), (λ a. ((λ x p. refl), (λ x p. refl), tt))))

pub postfix_fine : (f : Front) (s : Scope) → Fine (Postfix f s)
postfix_fine CastFront s = (search rows depth 20, refl, (refl, (λ a e. tt)), (λ a. (begins_not (Primary CastFront s) a, step_rows (is_cast a), tt)), (λ y. refl), (λ y. (tt, (tt, (tt, (tt, (tt, tt)))))), (λ y. (refl, search rows depth 20, (λ x p. refl), (λ t e. (λ a. ((λ x p. refl), (λ x p. refl), (λ t e. tt)))), (refl, search rows depth 20, (λ x p. refl), (λ t e. (λ a. ((λ x p. refl), (λ x p. refl), (λ t e. tt)))), (refl, search rows depth 20, (λ x p. refl), (λ t e. (λ t e. tt)), (refl, search rows depth 20, (λ x p. refl), (λ t e. (λ t e. tt)), (refl, search rows depth 20, (λ x p. refl), (λ t e. tt), (λ t e. tt))))))), (λ a. (λ x p. refl)))
postfix_fine f s = (search rows depth 20, refl, (refl, (λ a e. tt)), (λ a. (begins_not (Primary f s) a, step_rows (is_cast a), tt)), (λ y. refl), (λ y. (tt, (tt, (tt, (tt, (tt, tt)))))), (λ y. (refl, search rows depth 20, (λ x p. refl), (λ t e. (λ a. ((λ x p. refl), (λ x p. refl), (λ t e. tt)))), (refl, search rows depth 20, (λ x p. refl), (λ t e. (λ a. ((λ x p. refl), (λ x p. refl), (λ t e. tt)))), (refl, search rows depth 20, (λ x p. refl), (λ t e. (λ t e. tt)), (refl, search rows depth 20, (λ x p. refl), (λ t e. (λ t e. tt)), (refl, search rows depth 20, (λ x p. refl), (λ t e. tt), (λ t e. tt))))))), (λ a. (λ x p. refl)))

pub primary_fine : (f : Front) (s : Scope) → Fine (Primary f s)
primary_fine CastFront s = (search rows depth 20, refl, refl, ((tt, (tt, (tt, tt))), tt), (refl, search rows depth 20, (λ x p. refl), (refl, search rows depth 20, (λ x p. refl), (λ t e. tt), (refl, (λ x p. refl), (λ x p. refl), (λ t e. tt), (refl, (λ x p. refl), (λ x p. refl), (λ t e. tt), (λ t e. (λ a. ((λ x p. refl), (λ x p. refl), tt)))))), (λ t e. (refl, types_first s.block s.types, (λ x p. refl), (λ a. ((λ x p. refl), (λ x p. refl), (λ t e. (λ a. ((λ x p. refl), (λ x p. refl), tt))))), (λ a. ((λ x p. refl), (λ x p. refl), (λ t e. tt)))))))
primary_fine UnaryFront s = (search rows depth 20, refl, refl, ((tt, (tt, (tt, tt))), tt), (refl, search rows depth 20, (λ x p. refl), (refl, search rows depth 20, (λ x p. refl), (λ t e. tt), (refl, (λ x p. refl), (λ x p. refl), (λ t e. tt), (refl, (λ x p. refl), (λ x p. refl), (λ t e. tt), (λ t e. (λ a. ((λ x p. refl), (λ x p. refl), tt)))))), (λ t e. (λ a. ((λ x p. refl), (λ x p. refl), (λ t e. tt))))))
primary_fine BareFront s = (search rows depth 20, refl, refl, (tt, (tt, (tt, tt))), (refl, search rows depth 20, search rows depth 20, (λ t e. tt), (refl, (λ x p. refl), (λ x p. refl), (λ t e. tt), (refl, (λ x p. refl), (λ x p. refl), (λ t e. tt), (λ t e. (λ a. ((λ x p. refl), (λ x p. refl), tt)))))))
primary_fine (OpenedFront p) s = (search rows depth 20, refl, refl, (refl, (λ a e. tt)), (λ a. ((λ x p. refl), (λ x p. refl), (λ t e. tt))))
