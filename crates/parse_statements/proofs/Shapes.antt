-- Statements: each kind as an equation.
use Rattle.std.proofs.Common.{◌≡◌, refl, ℕ, zero, max, arith, Bool, true, false, cond, List, Option, ap, ◌∙◌}
use Rattle.grammar.specs.Parts.{Return, Call}
use Rattle.grammar.specs.Parser.{Outcome, Got, Bad, after, deepen}
use Rattle.c_tree.specs.declared.expressions.Expr.{Expr}
use Rattle.c_tree.specs.declared.statements.Stmt.{Stmt}
use Rattle.c_tree.specs.declared.statements.Stmt.TheVariants as stmt
use Rattle.c_grammar.specs.declared.terminal.Terminal.{Terminal}
use Rattle.c_grammar.specs.declared.terminal.Terminal.TheVariants as k
use Rattle.c_grammar.specs.Lexemes.{Lexeme, is, place}
use Rattle.c_grammar.specs.Rules.{Scope, Rule, ValueOf, StatementRead, Expression, MaybeExpression, Statement}
use Rattle.c_grammar.specs.Expressions.{Reading, word}
use Rattle.c_grammar.specs.Statements.{whole}
use Rattle.parse_input.specs.Input.{head, sees, behind}
use Rattle.parse_input.specs.Reads.{named, reads}
use Rattle.parse_statements.specs.Forms.{condition, expression_until, if_parts, if_form, while_form, do_test, do_form, return_form}

-- a rule and the token behind it
call_word : {A : Type 0} (call : (n : Rule) → List Lexeme → Outcome Lexeme (ValueOf n)) (n : Rule) (terminal : Terminal) (then : ValueOf n → Reading A)
    (ts : List Lexeme)
    → reads call (Call n (λ a. word terminal (λ c. then a))) ts
    ≡ after (λ a d left. deepen d (reads call (then a) left)) (reads call (Call n (λ a. word terminal (λ c. Return a))) ts)
call_word {A} call n terminal then ts = go (call n ts)
  where
    behind_word : (a : ValueOf n) (d : ℕ) (left : List Lexeme) (b : Bool)
        → deepen d (cond b (reads call (then a) (behind left)) (Bad false left))
        ≡ after (λ x e us. deepen e (reads call (then x) us)) (deepen d (cond b (Got a zero (behind left)) (Bad false left)))
    behind_word a d left true = ap (λ e. deepen e (reads call (then a) (behind left))) (same d)
      where
        same : (m : ℕ) → m ≡ max m 0
        same m = omega arith
    behind_word a d left false = refl

    go : (o : Outcome Lexeme (ValueOf n))
        → after (λ a d left. deepen d (cond (sees (is terminal) left) (reads call (then a) (behind left)) (Bad false left))) o
        ≡ after (λ x e us. deepen e (reads call (then x) us))
        (after (λ a d left. deepen d (cond (sees (is terminal) left) (Got a zero (behind left)) (Bad false left))) o)
    go (Got a d left) = behind_word a d left (sees (is terminal) left)
    go (Bad deep left) = refl

pub until_then : {A : Type 0} (room : ℕ) (terminal : Terminal) (s : Scope) (then : Option Expr → Reading A) (ts : List Lexeme)
    → reads (named room) (Call (MaybeExpression s) (λ a. word terminal (λ c. then a))) ts
    ≡ after (λ a d left. deepen d (reads (named room) (then a) left)) (reads (named room) (expression_until terminal s) ts)
unfolding expression_until
until_then room terminal s then ts = call_word (named room) (MaybeExpression s) terminal then ts

condition_then : {A : Type 0} (room : ℕ) (s : Scope) (then : Expr → Reading A) (ts : List Lexeme)
    → reads (named room) (word k.OpenParen (λ o. Call (Expression s) (λ test. word k.CloseParen (λ c. then test)))) ts
    ≡ after (λ a d left. deepen d (reads (named room) (then a) left)) (reads (named room) (condition s) ts)
unfolding condition
condition_then {A} room s then ts =
    ap (λ o. cond (sees (is k.OpenParen) ts) o (Bad false ts)) (call_word (named room) (Expression s) k.CloseParen then (behind ts))
    ∙ go (sees (is k.OpenParen) ts) (reads (named room) (Call (Expression s) (λ test. word k.CloseParen (λ c. Return test))) (behind ts))
  where
    go : (b : Bool) (o : Outcome Lexeme Expr)
        → cond b (after (λ a d left. deepen d (reads (named room) (then a) left)) o) (Bad false ts)
        ≡ after (λ a d left. deepen d (reads (named room) (then a) left)) (cond b o (Bad false ts))
    go true o = refl
    go false o = refl

pub return_rule : (room : ℕ) (s : Scope) (ts : List Lexeme) → sees (is k.Return) ts ≡ true
    → reads (named room) (return_form s) ts
    ≡ after (λ a d left. deepen d (Got (whole (stmt.Return (place (head ts)) a)) zero left)) (reads (named room) (expression_until k.Semicolon s) (behind ts))
unfolding return_form
return_rule room s ts e = rw e (until_then room k.Semicolon s (λ a. Return (whole (stmt.Return (place (head ts)) a))) (behind ts))

pub if_rule : (room : ℕ) (s : Scope) (loop : Bool) (ts : List Lexeme) → sees (is k.If) ts ≡ true
    → reads (named room) (if_form s loop) ts
    ≡ after (λ test d left. deepen d (reads (named room) (if_parts s loop (place (head ts)) test) left)) (reads (named room) (condition s) (behind ts))
unfolding if_form
if_rule room s loop ts e = rw e (condition_then room s (λ test. if_parts s loop (place (head ts)) test) (behind ts))

abbrev looped : Scope → ℕ → Expr → Reading StatementRead
looped s p test = Call (Statement s true) (λ x. Return (record { tree = stmt.While p test x.tree; is_open = x.is_open }))

pub while_rule : (room : ℕ) (s : Scope) (ts : List Lexeme) → sees (is k.While) ts ≡ true
    → reads (named room) (while_form s) ts
    ≡ after (λ test d left. deepen d (reads (named room) (looped s (place (head ts)) test) left)) (reads (named room) (condition s) (behind ts))
unfolding while_form
while_rule room s ts e = rw e (condition_then room s (λ test. looped s (place (head ts)) test) (behind ts))

abbrev until_end : ℕ → Stmt → Expr → Reading StatementRead
until_end p body test = word k.Semicolon (λ e. Return (whole (stmt.DoWhile p body test)))

pub do_test_rule : (room : ℕ) (s : Scope) (p : ℕ) (body : Stmt) (ts : List Lexeme)
    → reads (named room) (do_test s p body) ts
    ≡ after (λ test d left. deepen d (reads (named room) (until_end p body test) left)) (reads (named room) (condition s) ts)
unfolding do_test
do_test_rule room s p body ts = condition_then room s (λ test. until_end p body test) ts

pub do_rule : (room : ℕ) (s : Scope) (ts : List Lexeme) → sees (is k.Do) ts ≡ true
    → reads (named room) (do_form s) ts
    ≡ after (λ x d left. deepen d (cond (sees (is k.While) left) (reads (named room) (do_test s (place (head ts)) x.tree) (behind left)) (Bad false left)))
    (named room (Statement s true) (behind ts))
unfolding do_form
do_rule room s ts e = rw e refl
