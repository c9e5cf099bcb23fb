-- Nodes of an operator and its operand, and the parts of rules that functions of their own read.
use Rattle.std.specs.Prelude.{ℕ, suc, Bool, false, List}
use Rattle.grammar.specs.Parts.{Return, Call}
use Rattle.grammar.specs.Parser.{Outcome, Got, Bad, one_more}
use Rattle.c_tree.specs.declared.expressions.Expr.{Expr}
use Rattle.c_tree.specs.declared.expressions.Expr.TheVariants as tree
use Rattle.c_tree.specs.declared.expressions.UnaryOperator.{UnaryOperator}
use Rattle.c_grammar.specs.declared.terminal.Terminal.TheVariants as k
use Rattle.c_grammar.specs.Lexemes.{Lexeme, place}
use Rattle.c_grammar.specs.declared.state.Front.{Front}
use Rattle.c_grammar.specs.declared.state.Front.TheVariants.{Opened as OpenedFront}
use Rattle.c_grammar.specs.Rules.{Scope, TypeName}
use Rattle.c_grammar.specs.Expressions.{Reading, word, sizeof_parts, unary_operator}
use Rattle.c_grammar.specs.Lookahead.{starts_prefix}
use Rattle.parse_input.specs.Input.{sees}
use Rattle.parse_input.specs.Reads.{named, reads}
use Rattle.parse_operands.specs.declared.wanted.Wanted.{Wanted}
use Rattle.parse_operands.specs.Named.{named_expression}

-- an operator at this place, and what was read behind it
abbrev pub unary_node : ℕ → UnaryOperator → Outcome Lexeme Expr → Outcome Lexeme Expr
unary_node p operator (Got a depth left) = Got (tree.Unary p operator a) (suc depth) left
unary_node p operator (Bad deep left) = Bad deep left

-- the operator that this token is, and the operand behind it
abbrev pub operation : ℕ → Wanted → Scope → Lexeme → List Lexeme → Outcome Lexeme Expr
operation room wanted s t ts = unary_node (place t) (unary_operator t.terminal) (named_expression room wanted s ts)

-- an operand begins with an operator
abbrev pub prefix_first : Front → Scope → List Lexeme → Bool
prefix_first (OpenedFront place) s ts = false
prefix_first f s ts = sees starts_prefix ts

-- a type name behind `sizeof (`
abbrev pub type_part : Scope → ℕ → Reading Expr
type_part s p = Call (TypeName s) (λ n. word k.CloseParen (λ c. Return (tree.SizeofType p n)))

-- what stands behind `sizeof`, whose place this is, and the node of both
unfoldable pub sized : ℕ → Scope → ℕ → List Lexeme → Outcome Lexeme Expr
sized room s p ts = one_more (reads (named room) (sizeof_parts s p) ts)
