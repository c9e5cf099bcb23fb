-- Expressions are as deep as the nodes that their rules count.
use Rattle.std.proofs.Common.{refl, ◌∙◌, arith}
use Rattle.c_tree.proofs.Equations.{depth-Name, depth-Number, depth-Character, depth-Text, depth-Parenthesised, depth-Index, depth-Call, depth-Access, depth-Step, depth-Unary, depth-SizeofType, depth-Cast, depth-Binary, depth-Conditional, depth-Assignment}
use Rattle.c_grammar.specs.declared.state.Front.{Front}
use Rattle.c_grammar.specs.declared.state.Precedence.{Precedence}
use Rattle.c_grammar.specs.declared.state.Front.TheVariants.{Cast as CastFront, Unary as UnaryFront, Bare as BareFront, Opened as OpenedFront}
use Rattle.c_grammar.specs.declared.state.Precedence.TheVariants.{LogicalOr}
use Rattle.c_grammar.specs.Rules.{Scope, Expression, Assignment, Conditional, Prefix, Arguments, MoreArguments, Binary, Operand, Postfix, Primary, Texts}
use Rattle.c_grammar.proofs.Measure.{Counted}

pub expression_counted : (s : Scope) → Counted (Expression s)
expression_counted s = ((tt, λ a. omega arith), (λ y t. (tt, λ b. depth-Binary _ _ _ _ _)))

pub assignment_counted : (s : Scope) → Counted (Assignment s)
assignment_counted s = ((tt, λ a. omega arith), (λ y t. (tt, λ b. depth-Assignment _ _ _ _ _)))

pub conditional_counted : (s : Scope) → Counted (Conditional s)
conditional_counted s = ((tt, λ a. omega arith), (λ y t. (tt, λ b u. (tt, λ c. depth-Conditional _ _ _ _ ∙ omega arith))))

pub binary_counted : (l : Precedence) (s : Scope) → Counted (Binary l s)
binary_counted LogicalOr s = ((tt, λ a. omega arith), (λ y t. (tt, λ b. depth-Binary _ _ _ _ _)))
binary_counted _ s = ((tt, λ a. omega arith), (λ y t. (tt, λ b. depth-Binary _ _ _ _ _)))

pub operand_counted : (f : Front) (s : Scope) → Counted (Operand f s)
operand_counted (OpenedFront p) s = (tt, λ a. omega arith)
operand_counted _ s = ((tt, λ a. omega arith), (tt, λ a. omega arith))

pub prefix_counted : (s : Scope) → Counted (Prefix s)
prefix_counted s = (
  (λ t. (tt, λ a. depth-Unary _ _ _ ∙ omega arith)),
  (
    (λ t. (tt, λ a. depth-Unary _ _ _ ∙ omega arith)),
    (λ t. ((λ o. ((tt, λ n c. depth-SizeofType _ n ∙ omega arith), (tt, λ a. depth-Unary _ _ _ ∙ omega arith))), (tt, λ a. depth-Unary _ _ _ ∙ omega arith))),
  ),
)

pub postfix_counted : (f : Front) (s : Scope) → Counted (Postfix f s)
postfix_counted f s = (
  (tt, λ a. omega arith),
  (λ y. (
    (λ t. (tt, λ i c. depth-Index _ _ _)),
    (
      (λ t. (tt, λ given c. depth-Call _ _ _)),
      (
        (λ t m. depth-Access _ _ _ _),
        ((λ t m. depth-Access _ _ _ _), ((λ t. depth-Step _ _ _), (λ t. depth-Step _ _ _))),
      ),
    ),
  )),
)

bare_primary_counted : (s : Scope) → Counted (Primary BareFront s)
bare_primary_counted s = ((λ t. depth-Name _), ((λ t. depth-Number _), ((λ t. depth-Character _), (λ t. (tt, λ more. depth-Text _ ∙ omega arith)))))

pub primary_counted : (f : Front) (s : Scope) → Counted (Primary f s)
primary_counted CastFront s = (
  bare_primary_counted s,
  (λ t. ((tt, λ n c. (tt, λ a. depth-Cast _ n _ ∙ omega arith)), (tt, λ a c. depth-Parenthesised _ _ ∙ omega arith))),
)
primary_counted UnaryFront s = (bare_primary_counted s, (λ t. (tt, λ a c. depth-Parenthesised _ _ ∙ omega arith)))
primary_counted BareFront s = bare_primary_counted s
primary_counted (OpenedFront p) s = (tt, λ a c. depth-Parenthesised _ _ ∙ omega arith)

pub arguments_counted : (s : Scope) → Counted (Arguments s)
arguments_counted s = ((tt, λ a. (tt, λ more. omega arith)), refl)

pub more_arguments_counted : (s : Scope) → Counted (MoreArguments s)
more_arguments_counted s = ((λ t. (tt, λ a. (tt, λ more. omega arith))), refl)

pub texts_counted : Counted Texts
texts_counted = ((λ t. (tt, λ more. refl)), refl)
