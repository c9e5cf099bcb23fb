-- Expressions in statements: each part as an equation.
use Rattle.std.proofs.Common.{◌≡◌, refl, ℕ, zero, Bool, true, false, cond, List, Option, Some, None, ap, ◌∙◌}
use Rattle.grammar.specs.Parts.{Return, Call}
use Rattle.grammar.specs.Parser.{Outcome, Got, Bad, after, deepen}
use Rattle.c_tree.specs.declared.expressions.Expr.{Expr}
use Rattle.c_grammar.specs.declared.terminal.Terminal.{Terminal}
use Rattle.c_grammar.specs.declared.terminal.Terminal.TheVariants as k
use Rattle.c_grammar.specs.Lexemes.{Lexeme, is}
use Rattle.c_grammar.specs.Rules.{Scope, Expression, MaybeExpression}
use Rattle.c_grammar.specs.Expressions.{Reading}
use Rattle.c_grammar.specs.Lookahead.{starts_expression}
use Rattle.c_grammar.specs.Statements.{maybe_expression}
use Rattle.parse_input.specs.Input.{sees, behind}
use Rattle.parse_input.specs.Reads.{named, reads}
use Rattle.parse_input.proofs.Steps.{plain_rule, max_zero}
use Rattle.parse_statements.specs.Forms.{condition, expression_until}
use Rattle.parse_input.proofs.Choices.{sees_first, either}
use Rattle.parse_declarations.proofs.Gathered.{mapped, one_call}

abbrev some_expression : Scope → Reading (Option Expr)
some_expression s = Call (Expression s) (λ a. Return (Some a))

pub maybe_rule : (room : ℕ) (s : Scope) (ts : List Lexeme)
    → named room (MaybeExpression s) ts ≡ cond (sees (starts_expression s) ts) (mapped (λ a. Some a) (named room (Expression s) ts)) (Got None 0 ts)
maybe_rule room s ts =
    plain_rule room (MaybeExpression s) ts (maybe_expression s) refl
    ∙ either (sees_first (starts_expression s) ts)
    (one_call (named room) (Expression s) (λ a. Some a) ts) refl

-- a token behind what was read
abbrev pub ended : {A : Type 0} → Terminal → A → ℕ → List Lexeme → Outcome Lexeme A
ended terminal x d left = cond (sees (is terminal) left) (Got x d (behind left)) (Bad false left)

behind_word : {A : Type 0} (terminal : Terminal) (x : A) (d : ℕ) (left : List Lexeme)
    → deepen d (cond (sees (is terminal) left) (Got x zero (behind left)) (Bad false left)) ≡ ended terminal x d left
behind_word terminal x d left = go (sees (is terminal) left)
  where
    go : (b : Bool) → deepen d (cond b (Got x zero (behind left)) (Bad false left)) ≡ cond b (Got x d (behind left)) (Bad false left)
    go true = ap (λ n. Got x n (behind left)) (max_zero d)
    go false = refl

pub until_rule : (room : ℕ) (terminal : Terminal) (s : Scope) (ts : List Lexeme)
    → reads (named room) (expression_until terminal s) ts ≡ after (λ a d left. ended terminal a d left) (named room (MaybeExpression s) ts)
unfolding expression_until
until_rule room terminal s ts = go (named room (MaybeExpression s) ts)
  where
    go : (o : Outcome Lexeme (Option Expr))
        → after (λ a d left. deepen d (cond (sees (is terminal) left) (Got a zero (behind left)) (Bad false left))) o ≡ after (λ a d left. ended terminal a d left) o
    go (Got a d left) = behind_word terminal a d left
    go (Bad deep left) = refl

pub condition_rule : (room : ℕ) (s : Scope) (ts : List Lexeme)
    → reads (named room) (condition s) ts
    ≡ cond (sees (is k.OpenParen) ts) (after (λ a d left. ended k.CloseParen a d left) (named room (Expression s) (behind ts))) (Bad false ts)
unfolding condition
condition_rule room s ts = ap (λ o. cond (sees (is k.OpenParen) ts) o (Bad false ts)) (go (named room (Expression s) (behind ts)))
  where
    go : (o : Outcome Lexeme Expr)
        → after (λ a d left. deepen d (cond (sees (is k.CloseParen) left) (Got a zero (behind left)) (Bad false left))) o
        ≡ after (λ a d left. ended k.CloseParen a d left) o
    go (Got a d left) = behind_word k.CloseParen a d left
    go (Bad deep left) = refl
