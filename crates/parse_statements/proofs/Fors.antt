-- `for`: each of its parts as an equation.
use Rattle.std.proofs.Common.{◌≡◌, refl, ℕ, zero, Bool, true, false, cond, List, Option, ap, ◌∙◌, sym}
use Rattle.grammar.specs.Parts.{Return, Call}
use Rattle.grammar.specs.Parser.{Outcome, Got, Bad, after, deepen}
use Rattle.c_tree.specs.declared.expressions.Expr.{Expr}
use Rattle.c_tree.specs.declared.statements.ForStart.{ForStart}
use Rattle.c_tree.specs.declared.statements.ForStart.TheVariants as start
use Rattle.c_tree.specs.declared.statements.Stmt.TheVariants as stmt
use Rattle.c_grammar.specs.declared.terminal.Terminal.TheVariants as k
use Rattle.c_grammar.specs.Lexemes.{Lexeme, is, place}
use Rattle.c_grammar.specs.declared.state.SpecifierContext.TheVariants.{Block as BlockContext}
use Rattle.c_grammar.specs.Rules.{Scope, DeclarationRead, StatementRead, Declaration, Statement}
use Rattle.c_grammar.specs.Expressions.{Reading}
use Rattle.c_grammar.specs.Specifiers.{no_specs}
use Rattle.c_grammar.specs.Lookahead.{starts_specs}
use Rattle.parse_input.specs.Input.{head, sees, behind}
use Rattle.parse_input.specs.Reads.{named, reads}
use Rattle.parse_input.proofs.Steps.{max_zero}
use Rattle.parse_statements.specs.Forms.{expression_until, StartRead, start_read, for_start, for_step, for_parts, for_form}
use Rattle.parse_input.proofs.Choices.{sees_first, either}
use Rattle.parse_declarations.proofs.Gathered.{mapped, one_call}
use Rattle.parse_statements.proofs.Shapes.{until_then}

abbrev declared_start : DeclarationRead → StartRead
declared_start x = start_read (start.Declaration x.tree) x.scope

abbrev expressed_start : Scope → Option Expr → StartRead
expressed_start s a = start_read (start.Expression a) s

abbrev one_declaration : Scope → Reading StartRead
one_declaration s = Call (Declaration s) (λ x. Return (declared_start x))

zero_depth : {A B : Type 0} (f : A → B) (o : Outcome Lexeme A) → after (λ a d left. deepen d (Got (f a) zero left)) o ≡ mapped f o
zero_depth f (Got a d left) = ap (λ n. Got (f a) n left) (max_zero d)
zero_depth f (Bad deep left) = refl

pub start_rule : (room : ℕ) (s : Scope) (ts : List Lexeme)
    → reads (named room) (for_start s) ts
    ≡ cond (sees (starts_specs BlockContext s no_specs) ts) (mapped (λ x. declared_start x) (named room (Declaration s) ts))
    (mapped (λ a. expressed_start s a) (reads (named room) (expression_until k.Semicolon s) ts))
unfolding for_start
start_rule room s ts =
    either (sees_first (starts_specs BlockContext s no_specs) ts)
    (one_call (named room) (Declaration s) (λ x. declared_start x) ts)
    (until_then room k.Semicolon s (λ a. Return (expressed_start s a)) ts
    ∙ zero_depth (λ a. expressed_start s a) (reads (named room) (expression_until k.Semicolon s) ts))

abbrev for_body : Scope → ℕ → ForStart → Option Expr → Option Expr → Reading StatementRead
for_body s p first test next = Call (Statement s true) (λ x. Return (record { tree = stmt.For p first test next x.tree; is_open = x.is_open }))

pub step_rule : (room : ℕ) (s : Scope) (p : ℕ) (first : ForStart) (test : Option Expr) (ts : List Lexeme)
    → reads (named room) (for_step s p first test) ts
    ≡ after (λ next d left. deepen d (reads (named room) (for_body s p first test next) left)) (reads (named room) (expression_until k.CloseParen s) ts)
unfolding for_step
step_rule room s p first test ts = until_then room k.CloseParen s (λ next. for_body s p first test next) ts

pub parts_rule : (room : ℕ) (s : Scope) (p : ℕ) (first : ForStart) (ts : List Lexeme)
    → reads (named room) (for_parts s p first) ts
    ≡ after (λ test d left. deepen d (reads (named room) (for_step s p first test) left)) (reads (named room) (expression_until k.Semicolon s) ts)
unfolding for_parts
parts_rule room s p first ts = until_then room k.Semicolon s (λ test. for_step s p first test) ts

abbrev behind_start : ℕ → ℕ → Outcome Lexeme StartRead → Outcome Lexeme StatementRead
behind_start room p o = after (λ first d left. deepen d (reads (named room) (for_parts first.scope p first.start) left)) o

abbrev begun : Scope → ℕ → Reading StatementRead
begun s p = Call (Declaration s) (λ first. for_parts first.scope p (start.Declaration first.tree))

pub for_rule : (room : ℕ) (s : Scope) (ts : List Lexeme) → sees (is k.For) ts ≡ true
    → reads (named room) (for_form s) ts
    ≡ cond (sees (is k.OpenParen) (behind ts)) (behind_start room (place (head ts)) (reads (named room) (for_start s) (behind (behind ts))))
    (Bad false (behind ts))
unfolding for_form
for_rule room s ts e =
    rw e (ap (λ o. cond (sees (is k.OpenParen) (behind ts)) o (Bad false (behind ts)))
    (either (sees_first (starts_specs BlockContext s no_specs) (behind (behind ts)))
    (declared_first (named room (Declaration s) (behind (behind ts))))
    (until_then room k.Semicolon s (λ a. for_parts s (place (head ts)) (start.Expression a)) (behind (behind ts))
    ∙ expressed_first (reads (named room) (expression_until k.Semicolon s) (behind (behind ts))))
    ∙ choose (sees (starts_specs BlockContext s no_specs) (behind (behind ts))) (λ o. behind_start room (place (head ts)) o) _ _
    ∙ ap (λ o. behind_start room (place (head ts)) o) (sym (start_rule room s (behind (behind ts))))))
  where
    declared_first : (o : Outcome Lexeme DeclarationRead)
        → after (λ x d left. deepen d (reads (named room) (for_parts x.scope (place (head ts)) (start.Declaration x.tree)) left)) o
        ≡ behind_start room (place (head ts)) (mapped (λ x. declared_start x) o)
    declared_first (Got x d left) = refl
    declared_first (Bad deep left) = refl

    expressed_first : (o : Outcome Lexeme (Option Expr))
        → after (λ a d left. deepen d (reads (named room) (for_parts s (place (head ts)) (start.Expression a)) left)) o
        ≡ behind_start room (place (head ts)) (mapped (λ a. expressed_start s a) o)
    expressed_first (Got a d left) = refl
    expressed_first (Bad deep left) = refl

    choose : {X Y : Type 0} (p : Bool) (f : X → Y) (x y : X) → cond p (f x) (f y) ≡ f (cond p x y)
    choose true f x y = refl
    choose false f x y = refl
