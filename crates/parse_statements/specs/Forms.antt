-- The parts of statements that functions of their own read.
use Rattle.std.specs.Prelude.{ℕ, Bool, true, not, ◌&&◌, Option, Some, None}
use Rattle.grammar.specs.Parts.{Return, Take, Call, Either}
use Rattle.c_tree.specs.declared.expressions.Expr.{Expr}
use Rattle.c_tree.specs.declared.statements.ForStart.{ForStart}
use Rattle.c_tree.specs.declared.statements.ForStart.TheVariants as start
use Rattle.c_tree.specs.declared.statements.Stmt.{Stmt}
use Rattle.c_tree.specs.declared.statements.Stmt.TheVariants as stmt
use Rattle.c_grammar.specs.declared.terminal.Terminal.{Terminal}
use Rattle.c_grammar.specs.declared.terminal.Terminal.TheVariants as k
use Rattle.c_grammar.specs.Lexemes.{place, is}
use Rattle.c_grammar.specs.Rules.{Scope, StatementRead, Expression, Declaration, MaybeExpression, Statement}
use Rattle.c_grammar.specs.Expressions.{Reading, word}
use Rattle.c_grammar.specs.Statements.{whole, statement_place}

-- an expression in parentheses
unfoldable pub condition : Scope → Reading Expr
condition s = word k.OpenParen (λ o. Call (Expression s) (λ test. word k.CloseParen (λ c. Return test)))

-- an expression, or none, up to a token
unfoldable pub expression_until : Terminal → Scope → Reading (Option Expr)
expression_until terminal s = Call (MaybeExpression s) (λ a. word terminal (λ c. Return a))

-- each kind of statement
unfoldable pub else_parts : Scope → Bool → ℕ → Expr → StatementRead → Reading StatementRead
else_parts s loop p test x =
    Either (Take (λ t. is k.Else t && not x.is_open)
    (λ t. Call (Statement s loop) (λ y. Return (record { tree = stmt.If p test x.tree (Some y.tree); is_open = y.is_open }))))
    (Return (record { tree = stmt.If p test x.tree None; is_open = true }))

unfoldable pub if_parts : Scope → Bool → ℕ → Expr → Reading StatementRead
if_parts s loop p test = Call (Statement s loop) (λ x. else_parts s loop p test x)

unfoldable pub if_form : Scope → Bool → Reading StatementRead
if_form s loop = word k.If (λ t. word k.OpenParen (λ o. Call (Expression s) (λ test. word k.CloseParen (λ c. if_parts s loop (place t) test))))

unfoldable pub while_form : Scope → Reading StatementRead
while_form s =
    word k.While (λ t. word k.OpenParen (λ o. Call (Expression s) (λ test. word k.CloseParen (λ c.
    Call (Statement s true) (λ x. Return (record { tree = stmt.While (place t) test x.tree; is_open = x.is_open }))))))

-- the condition at the end of a `do`
unfoldable pub do_test : Scope → ℕ → Stmt → Reading StatementRead
do_test s p body =
    word k.OpenParen (λ o. Call (Expression s) (λ test. word k.CloseParen (λ c. word k.Semicolon (λ e. Return (whole (stmt.DoWhile p body test))))))

unfoldable pub do_form : Scope → Reading StatementRead
do_form s = word k.Do (λ t. Call (Statement s true) (λ x. word k.While (λ w. do_test s (place t) x.tree)))

-- the start of a `for`, and the scope behind it
pub record StartRead : Type 0 where
  pub start : ForStart
  pub scope : Scope

abbrev pub start_read : ForStart → Scope → StartRead
start_read start scope = record { start = start; scope = scope }

unfoldable pub for_start : Scope → Reading StartRead
for_start s =
    Either (Call (Declaration s) (λ first. Return (start_read (start.Declaration first.tree) first.scope)))
    (Call (MaybeExpression s) (λ first. word k.Semicolon (λ c. Return (start_read (start.Expression first) s))))

-- what follows the condition of a `for`, and what follows its start
unfoldable pub for_step : Scope → ℕ → ForStart → Option Expr → Reading StatementRead
for_step s p first test =
    Call (MaybeExpression s) (λ next. word k.CloseParen (λ c.
    Call (Statement s true) (λ x. Return (record { tree = stmt.For p first test next x.tree; is_open = x.is_open }))))

unfoldable pub for_parts : Scope → ℕ → ForStart → Reading StatementRead
for_parts s p first = Call (MaybeExpression s) (λ test. word k.Semicolon (λ t. for_step s p first test))

unfoldable pub for_form : Scope → Reading StatementRead
for_form s =
    word k.For (λ t. word k.OpenParen (λ o. Either
    (Call (Declaration s) (λ first. for_parts first.scope (place t) (start.Declaration first.tree)))
    (Call (MaybeExpression s) (λ first. word k.Semicolon (λ c. for_parts s (place t) (start.Expression first))))))

unfoldable pub return_form : Scope → Reading StatementRead
return_form s = word k.Return (λ t. Call (MaybeExpression s) (λ a. word k.Semicolon (λ c. Return (whole (stmt.Return (place t) a)))))

unfoldable pub expression_form : Scope → Reading StatementRead
expression_form s = Call (MaybeExpression s) (λ a. word k.Semicolon (λ c. Return (whole (stmt.Expression (statement_place a c) a))))
