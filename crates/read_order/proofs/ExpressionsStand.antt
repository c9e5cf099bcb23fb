-- Expressions stand in order where their rules read them.
use Rattle.std.proofs.Common.{ℕ, ◌≤◌, ◌<◌, arith}
use Rattle.c_tree.specs.declared.expressions.Expr.{Expr}
use Rattle.c_grammar.specs.declared.state.Front.{Front}
use Rattle.c_grammar.specs.declared.state.Precedence.{Precedence}
use Rattle.c_grammar.specs.declared.state.Front.TheVariants.{Cast as CastFront, Unary as UnaryFront, Bare as BareFront, Opened as OpenedFront}
use Rattle.c_grammar.specs.declared.state.Precedence.TheVariants.{LogicalOr}
use Rattle.c_grammar.specs.Lexemes.{span, place}
use Rattle.c_grammar.specs.Rules.{Scope, Expression, Assignment, Conditional, Prefix, Arguments, MoreArguments, Binary, Operand, Postfix, Primary}
use Rattle.c_grammar.specs.Expressions.{postfix_step, bare_primary, inside, cast_rest}
use Rattle.read_order.proofs.Placed.{placed_under}
use Rattle.read_order.proofs.Spans.{IsAt, within_of, nothing, joined, widened, name_at, number_at, character_at, text_at, size_at, parenthesised_at, unary_at, cast_at, binary_at, assignment_at, conditional_at, index_at, call_at, access_at, step_at}
use Rattle.read_order.proofs.Standing.{start, stop, Stands, Keep, Placed}

pub expression_placed : (s : Scope) → Placed (Expression s)
expression_placed s = ((λ from a end more x. x), (λ y from at far x t is above long b end more z. binary_at y _ _ b x z (omega (arith, above, long))))

pub assignment_placed : (s : Scope) → Placed (Assignment s)
assignment_placed s = ((λ from a end more x. x), (λ y from at far x t is above long b end more z. assignment_at y _ _ b x z (omega (arith, above, long))))

pub conditional_placed : (s : Scope) → Placed (Conditional s)
conditional_placed s = (
  (λ from a end more x. x),
  (λ y from at far x t is above long b middle more z u is_colon under wide c end last w.
      conditional_at y b c x z w (omega (arith, above, long)) (omega (arith, under, wide))),
)

pub binary_placed : (l : Precedence) (s : Scope) → Placed (Binary l s)
binary_placed LogicalOr s = ((λ from a end more x. x), (λ y from at far x t is above long b end more z. binary_at y _ _ b x z (omega (arith, above, long))))
binary_placed _ s = ((λ from a end more x. x), (λ y from at far x t is above long b end more z. binary_at y _ _ b x z (omega (arith, above, long))))

pub operand_placed : (f : Front) (s : Scope) → Placed (Operand f s)
operand_placed (OpenedFront p) s = λ from a end more x. x
operand_placed _ s = λ from. ((λ a end more x. x), (λ a end more x. x))

pub prefix_placed : (s : Scope) → Placed (Prefix s)
prefix_placed s = λ from. (
  (λ t is above long a end more x. unary_at (place t) _ a x above long),
  (
    (λ t is above long a end more x. unary_at (place t) _ a x above long),
    (λ t is above long. (
      (λ o opens under wide. (
        (λ n middle more known c closes beyond last. size_at (place t) n from (stop c) above (omega (arith, long, under, wide, more, beyond, last))),
        (λ a end more x. unary_at (place t) _ a (x wide) above (omega (arith, long, under))),
      )),
      (λ a end more x. unary_at (place t) _ a x above long),
    )),
  ),
)

-- a step of a postfix expression
step_keeps : (s : Scope) (y : Expr) (from at : ℕ) → IsAt y from at → Keep (λ end x. IsAt x from end) at (postfix_step s y)
step_keeps s y from at x = (
  (λ t is above long i middle more z c closes under wide. index_at y i x z (omega (arith, above, long)) (omega (arith, under, wide))),
  (
    (λ t is above long given middle more z c closes under wide. call_at y given x z (omega (arith, above, long)) (omega (arith, under, wide))),
    (
      (λ t is above long m named under wide. access_at y _ _ x (omega (arith, above, long, under, wide))),
      (
        (λ t is above long m named under wide. access_at y _ _ x (omega (arith, above, long, under, wide))),
        ((λ t is above long. step_at y _ x (omega (arith, above, long))), (λ t is above long. step_at y _ x (omega (arith, above, long)))),
      ),
    ),
  ),
)

pub postfix_placed : (f : Front) (s : Scope) → Placed (Postfix f s)
postfix_placed (OpenedFront p) s = (
  (λ from a end more x. x),
  (λ y from at far x. placed_under start stop Stands (p < from) (λ end z. IsAt z p end) at (postfix_step s y) (λ less. step_keeps s y p at (x less))),
)
postfix_placed _ s = ((λ from a end more x. x), (λ y from at far x. step_keeps s y from at x))

bare_keeps : (s : Scope) (from : ℕ) → Keep (λ end x. IsAt x from end) from (bare_primary s)
bare_keeps s from = (
  (λ t is above long. name_at (span t) from (stop t) above long),
  (
    (λ t is above long. number_at (span t) from (stop t) above long),
    (
      (λ t is above long. character_at (span t) from (stop t) above long),
      (λ t is above long more end late known. text_at (span t) more from end above (omega (arith, long, late))),
    ),
  ),
)

inside_keeps : (s : Scope) (from p at : ℕ) → from ≤ p → p < at → Keep (λ end x. IsAt x from end) at (inside s p)
inside_keeps s from p at low less = λ a middle more x c closes under wide. parenthesised_at p a x low less (omega (arith, under, wide))

cast_keeps : (s : Scope) (from p at : ℕ) → from ≤ p → p < at → Keep (λ end x. IsAt x from end) at (cast_rest s p)
cast_keeps s from p at low less = λ n middle more known c closes under wide a end late x. cast_at p n a x low (omega (arith, less, more, under, wide))

pub primary_placed : (f : Front) (s : Scope) → Placed (Primary f s)
primary_placed CastFront s =
    λ from. (bare_keeps s from, (λ t is above long. (cast_keeps s from (place t) (stop t) above long, inside_keeps s from (place t) (stop t) above long)))
primary_placed UnaryFront s = λ from. (bare_keeps s from, (λ t is above long. inside_keeps s from (place t) (stop t) above long))
primary_placed BareFront s = λ from. bare_keeps s from
primary_placed (OpenedFront p) s =
    λ from. placed_under start stop Stands (p < from) (λ end z. IsAt z p end) from (inside s p) (λ less. inside_keeps s p p from (omega arith) less)

pub arguments_placed : (s : Scope) → Placed (Arguments s)
arguments_placed s = λ from. (
  (λ a at more x others end late z. joined (within_of a x) z (omega arith)),
  nothing (omega arith) (λ to le. le),
)

pub more_arguments_placed : (s : Scope) → Placed (MoreArguments s)
more_arguments_placed s = λ from. (
  (λ t is above long a at more x others end late z. widened (joined (within_of a x) z (omega arith)) (omega (arith, above, long)) (omega arith)),
  nothing (omega arith) (λ to le. le),
)
