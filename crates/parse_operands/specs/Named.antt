-- The rules that expressions are read by.
use Rattle.std.specs.Prelude.{ℕ, List}
use Rattle.grammar.specs.Parser.{Outcome}
use Rattle.c_tree.specs.declared.expressions.Expr.{Expr}
use Rattle.c_grammar.specs.Lexemes.{Lexeme}
use Rattle.c_grammar.specs.declared.state.Precedence.{Precedence}
use Rattle.c_grammar.specs.declared.state.Precedence.TheVariants.{LogicalOr, LogicalAnd, InclusiveOr, ExclusiveOr, BitwiseAnd, Equality, Relational, Shift, Additive, Multiplicative}
use Rattle.c_grammar.specs.declared.state.Front.TheVariants.{Cast as CastFront, Unary as UnaryFront, Bare as BareFront, Opened as OpenedFront}
use Rattle.c_grammar.specs.Rules.{Scope, Expression, Assignment, Conditional, Binary, Operand, Postfix}
use Rattle.parse_input.specs.Reads.{named}
use Rattle.parse_operands.specs.declared.wanted.Wanted.{Wanted}
use Rattle.parse_operands.specs.declared.wanted.Wanted.TheVariants as wanted

-- what stands on the right of an operator of a level
abbrev pub right_of : ℕ → Precedence → Scope → List Lexeme → Outcome Lexeme Expr
right_of room LogicalOr s ts = named room (Binary LogicalAnd s) ts
right_of room LogicalAnd s ts = named room (Binary InclusiveOr s) ts
right_of room InclusiveOr s ts = named room (Binary ExclusiveOr s) ts
right_of room ExclusiveOr s ts = named room (Binary BitwiseAnd s) ts
right_of room BitwiseAnd s ts = named room (Binary Equality s) ts
right_of room Equality s ts = named room (Binary Relational s) ts
right_of room Relational s ts = named room (Binary Shift s) ts
right_of room Shift s ts = named room (Binary Additive s) ts
right_of room Additive s ts = named room (Binary Multiplicative s) ts
right_of room Multiplicative s ts = named room (Operand CastFront s) ts

abbrev pub named_expression : ℕ → Wanted → Scope → List Lexeme → Outcome Lexeme Expr
named_expression room wanted.Expression s ts = named room (Expression s) ts
named_expression room wanted.Assignment s ts = named room (Assignment s) ts
named_expression room wanted.Conditional s ts = named room (Conditional s) ts
named_expression room (wanted.Right level) s ts = right_of room level s ts
named_expression room wanted.Cast s ts = named room (Operand CastFront s) ts
named_expression room wanted.Unary s ts = named room (Operand UnaryFront s) ts
named_expression room wanted.Bare s ts = named room (Operand BareFront s) ts
named_expression room (wanted.Opened place) s ts = named room (Postfix (OpenedFront place) s) ts
