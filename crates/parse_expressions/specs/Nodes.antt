-- Nodes of an operator and what is read on both its sides.
use Rattle.std.specs.Prelude.{ℕ, suc, max, Bool, not, ◌&&◌, List}
use Rattle.grammar.specs.Parts.{Return, Call}
use Rattle.grammar.specs.Parser.{Outcome, Got, Bad}
use Rattle.c_tree.specs.declared.expressions.Expr.{Expr}
use Rattle.c_tree.specs.declared.expressions.Expr.TheVariants as tree
use Rattle.c_tree.specs.declared.expressions.BinaryOperator.{BinaryOperator}
use Rattle.c_tree.specs.declared.expressions.AssignmentOperator.{AssignmentOperator}
use Rattle.c_grammar.specs.declared.terminal.Terminal.TheVariants as k
use Rattle.c_grammar.specs.Lexemes.{Lexeme, is, is_among}
use Rattle.c_grammar.specs.Trees.{place_of, is_conditional, is_unary}
use Rattle.c_grammar.specs.Rules.{Scope, Expression, Conditional}
use Rattle.c_grammar.specs.Expressions.{Reading, word, assignment_operators}
use Rattle.c_grammar.specs.declared.state.Precedence.{Precedence}
use Rattle.parse_operands.specs.Named.{right_of}

-- what was read before, of this depth, an operator at this place, and what was read behind it
abbrev pub binary_node : Expr → ℕ → BinaryOperator → ℕ → Outcome Lexeme Expr → Outcome Lexeme Expr
binary_node a depth operator p (Got b deeper left) = Got (tree.Binary (place_of a) a operator p b) (suc (max depth deeper)) left
binary_node a depth operator p (Bad deep left) = Bad deep left

abbrev pub assignment_node : Expr → ℕ → AssignmentOperator → ℕ → Outcome Lexeme Expr → Outcome Lexeme Expr
assignment_node a depth operator p (Got b deeper left) = Got (tree.Assignment (place_of a) a operator p b) (suc (max depth deeper)) left
assignment_node a depth operator p (Bad deep left) = Bad deep left

-- a `?` goes on behind this, or an assignment operator
abbrev pub asks : Expr → Lexeme → Bool
asks a t = is k.Question t && not (is_conditional a)

abbrev pub assigns : Expr → Lexeme → Bool
assigns a t = is_among assignment_operators t && is_unary a

-- what stands behind a condition and its `?`
abbrev pub branches : Scope → Expr → Reading Expr
branches s a = Call (Expression s) (λ b. word k.Colon (λ u. Call (Conditional s) (λ c. Return (tree.Conditional (place_of a) a b c))))

-- what stands on the right of an operator of a level, as one word
unfoldable pub on_right : ℕ → Precedence → Scope → List Lexeme → Outcome Lexeme Expr
on_right room level s ts = right_of room level s ts
