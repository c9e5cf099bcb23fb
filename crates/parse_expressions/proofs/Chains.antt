-- Conditional expressions, assignments and commas: the chains as equations.
use Rattle.std.proofs.Common.{◌≡◌, refl, ℕ, suc, ◌-◌, ◌<◌, ◌≤◌, max, Bool, true, false, cond, not, ◌&&◌, List, [], ◌∷◌, ap, ◌∙◌}
use Rattle.grammar.specs.Parts.{Return, Call}
use Rattle.grammar.specs.Parser.{Outcome, Got, Bad, after, deepen}
use Rattle.c_tree.specs.declared.expressions.Expr.{Expr}
use Rattle.c_tree.specs.declared.expressions.Expr.TheVariants as e
use Rattle.c_tree.specs.declared.expressions.BinaryOperator.{BinaryOperator}
use Rattle.c_tree.specs.declared.expressions.BinaryOperator.TheVariants as operator
use Rattle.c_tree.specs.declared.expressions.AssignmentOperator.{AssignmentOperator}
use Rattle.c_grammar.specs.declared.terminal.Terminal.TheVariants as k
use Rattle.c_grammar.specs.Lexemes.{Lexeme, is, is_among, place}
use Rattle.c_grammar.specs.Trees.{place_of, is_conditional}
use Rattle.c_grammar.specs.declared.state.Precedence.TheVariants.{LogicalOr}
use Rattle.c_grammar.specs.Rules.{Scope, Expression, Assignment, Conditional, Binary}
use Rattle.c_grammar.specs.Expressions.{comma_step, assignment_step, assignment_operators, assignment_operator, conditional_step}
use Rattle.parse_input.specs.Input.{head, behind, sees}
use Rattle.parse_input.specs.Reads.{named, past, reads, joined}
use Rattle.parse_input.proofs.Steps as steps
use Rattle.parse_input.proofs.Steps.{chain_rule, past_ends, past_full, past_goes}
use Rattle.parse_expressions.specs.Nodes.{binary_node, assignment_node, asks, assigns, branches}
use Rattle.parse_input.proofs.Choices.{passed}

pub expression_begins : (room : ℕ) (s : Scope) (ts : List Lexeme)
    → named room (Expression s) ts ≡ after (λ x d us. past room (Expression s) x d us) (named room (Assignment s) ts)
expression_begins room s ts =
    chain_rule room (Expression s) (Call (Assignment s) Return) (comma_step s) refl ts ∙ ap (λ o. after (λ x d us. past room (Expression s) x d us) o) (passed (named room (Assignment s) ts))

pub expression_ends : (room : ℕ) (s : Scope) (x : Expr) (d : ℕ) (ts : List Lexeme) → sees (is k.Comma) ts ≡ false → past room (Expression s) x d ts ≡ Got x d ts
expression_ends room s x d ts e = past_ends room (Expression s) (Call (Assignment s) Return) (comma_step s) refl x d ts e

pub expression_full : (room : ℕ) (s : Scope) (x : Expr) (d : ℕ) (ts : List Lexeme) → sees (is k.Comma) ts ≡ true → room ≤ d → past room (Expression s) x d ts ≡ Bad true ts
expression_full room s x d ts e l = past_full room (Expression s) (Call (Assignment s) Return) (comma_step s) refl x d ts e l

pub assignment_begins : (room : ℕ) (s : Scope) (ts : List Lexeme)
    → named room (Assignment s) ts ≡ after (λ x d us. past room (Assignment s) x d us) (named room (Conditional s) ts)
assignment_begins room s ts =
    chain_rule room (Assignment s) (Call (Conditional s) Return) (assignment_step s) refl ts ∙ ap (λ o. after (λ x d us. past room (Assignment s) x d us) o) (passed (named room (Conditional s) ts))

pub assignment_ends : (room : ℕ) (s : Scope) (x : Expr) (d : ℕ) (ts : List Lexeme) → sees (assigns x) ts ≡ false → past room (Assignment s) x d ts ≡ Got x d ts
assignment_ends room s x d ts e = past_ends room (Assignment s) (Call (Conditional s) Return) (assignment_step s) refl x d ts e

pub assignment_full : (room : ℕ) (s : Scope) (x : Expr) (d : ℕ) (ts : List Lexeme) → sees (assigns x) ts ≡ true → room ≤ d → past room (Assignment s) x d ts ≡ Bad true ts
assignment_full room s x d ts e l = past_full room (Assignment s) (Call (Conditional s) Return) (assignment_step s) refl x d ts e l

pub conditional_begins : (room : ℕ) (s : Scope) (ts : List Lexeme)
    → named room (Conditional s) ts ≡ after (λ x d us. past room (Conditional s) x d us) (named room (Binary LogicalOr s) ts)
conditional_begins room s ts =
    chain_rule room (Conditional s) (Call (Binary LogicalOr s) Return) (conditional_step s) refl ts ∙ ap (λ o. after (λ x d us. past room (Conditional s) x d us) o) (passed (named room (Binary LogicalOr s) ts))

pub conditional_ends : (room : ℕ) (s : Scope) (x : Expr) (d : ℕ) (ts : List Lexeme) → sees (asks x) ts ≡ false → past room (Conditional s) x d ts ≡ Got x d ts
conditional_ends room s x d ts e = past_ends room (Conditional s) (Call (Binary LogicalOr s) Return) (conditional_step s) refl x d ts e

pub conditional_full : (room : ℕ) (s : Scope) (x : Expr) (d : ℕ) (ts : List Lexeme) → sees (asks x) ts ≡ true → room ≤ d → past room (Conditional s) x d ts ≡ Bad true ts
conditional_full room s x d ts e l = past_full room (Conditional s) (Call (Binary LogicalOr s) Return) (conditional_step s) refl x d ts e l

-- a step, as the node that it makes
pub binary_step_node : (a : Expr) (d : ℕ) (op : BinaryOperator) (p : ℕ) (o : Outcome Lexeme Expr)
    → joined d (after (λ b f left. deepen f (Got (e.Binary (place_of a) a op p b) 0 left)) o) ≡ binary_node a d op p o
binary_step_node a d op p (Got b f left) = ap (λ n. Got (e.Binary (place_of a) a op p b) (suc (max d n)) left) (steps.max_zero f)
binary_step_node a d op p (Bad deep left) = refl

assignment_step_node : (a : Expr) (d : ℕ) (op : AssignmentOperator) (p : ℕ) (o : Outcome Lexeme Expr)
    → joined d (after (λ b f left. deepen f (Got (e.Assignment (place_of a) a op p b) 0 left)) o) ≡ assignment_node a d op p o
assignment_step_node a d op p (Got b f left) = ap (λ n. Got (e.Assignment (place_of a) a op p b) (suc (max d n)) left) (steps.max_zero f)
assignment_step_node a d op p (Bad deep left) = refl

pub expression_goes : (room : ℕ) (s : Scope) (x : Expr) (d : ℕ) (ts : List Lexeme) → sees (is k.Comma) ts ≡ true → d < room
    → past room (Expression s) x d ts
    ≡ after (λ y f us. past room (Expression s) y f us) (binary_node x d operator.Comma (place (head ts)) (named (room - 1) (Assignment s) (behind ts)))
expression_goes room s x d ts h l =
    past_goes room (Expression s) (Call (Assignment s) Return) (comma_step s) refl x d ts h l
    ∙ ap (λ o. after (λ y f us. past room (Expression s) y f us) o)
    (ap (λ b. joined d (cond b (after (λ b f left. deepen f (Got (e.Binary (place_of x) x operator.Comma (place (head ts)) b) 0 left)) (named (room - 1) (Assignment s) (behind ts))) (Bad false ts))) h
    ∙ binary_step_node x d operator.Comma (place (head ts)) (named (room - 1) (Assignment s) (behind ts)))

-- what passes a test where it is read
abbrev Each : (Expr → Bool) → Outcome Lexeme Expr → Type 0
Each test (Got y d us) = test y ≡ true
Each test (Bad deep us) = Unit {0}

each_deeper : (test : Expr → Bool) (d : ℕ) (o : Outcome Lexeme Expr) → Each test o → Each test (deepen d o)
each_deeper test d (Got y f us) h = h
each_deeper test d (Bad deep us) h = tt

each_after : (test : Expr → Bool) (next : Expr → ℕ → List Lexeme → Outcome Lexeme Expr) (o : Outcome Lexeme Expr)
    → ((y : Expr) (d : ℕ) (us : List Lexeme) → Each test (next y d us)) → Each test (after next o)
each_after test next (Got y d us) h = h y d us
each_after test next (Bad deep us) h = tt

each_way : (test : Expr → Bool) (b : Bool) (o p : Outcome Lexeme Expr) → Each test o → Each test p → Each test (cond b o p)
each_way test true o p h i = h
each_way test false o p h i = i

none_of : (test : Lexeme → Bool) (ts : List Lexeme) → ((t : Lexeme) → test t ≡ false) → sees test ts ≡ false
unfolding sees
none_of test [] h = refl
none_of test (t ∷ ts) h = h t

and_false : (b c : Bool) → c ≡ false → (b && c) ≡ false
and_false true c h = h
and_false false c h = refl

not_true : (b : Bool) → b ≡ true → not b ≡ false
not_true true h = refl
not_true false h = cc

-- a chain that ends behind each of these
ends_behind : (room : ℕ) (s : Scope) (d : ℕ) (o : Outcome Lexeme Expr) → Each is_conditional o
    → after (λ y f us. past room (Conditional s) y f us) (joined d o) ≡ joined d o
ends_behind room s d (Got y f us) h =
    conditional_ends room s y (suc (max d f)) us (none_of (asks y) us (λ t. and_false (is k.Question t) (not (is_conditional y)) (not_true (is_conditional y) h)))
ends_behind room s d (Bad deep us) h = refl

branches_each : (room : ℕ) (s : Scope) (a : Expr) (ts : List Lexeme) → Each is_conditional (reads (named room) (branches s a) ts)
branches_each room s a ts =
    each_after is_conditional _ (named room (Expression s) ts) (λ b d us. each_deeper is_conditional d _
    (each_way is_conditional (sees (is k.Colon) us) _ _
    (each_after is_conditional _ (named room (Conditional s) (behind us)) (λ c f vs. refl)) tt))

pub conditional_goes : (room : ℕ) (s : Scope) (x : Expr) (d : ℕ) (ts : List Lexeme) → sees (asks x) ts ≡ true → d < room
    → past room (Conditional s) x d ts ≡ joined d (reads (named (room - 1)) (branches s x) (behind ts))
conditional_goes room s x d ts h l =
    past_goes room (Conditional s) (Call (Binary LogicalOr s) Return) (conditional_step s) refl x d ts h l
    ∙ ap (λ b. after (λ y f us. past room (Conditional s) y f us) (joined d (cond b (reads (named (room - 1)) (branches s x) (behind ts)) (Bad false ts)))) h
    ∙ ends_behind room s d (reads (named (room - 1)) (branches s x) (behind ts)) (branches_each (room - 1) s x (behind ts))

assigned_ends : (room : ℕ) (s : Scope) (a : Expr) (d : ℕ) (op : AssignmentOperator) (p : ℕ) (o : Outcome Lexeme Expr)
    → after (λ y f us. past room (Assignment s) y f us) (assignment_node a d op p o) ≡ assignment_node a d op p o
assigned_ends room s a d op p (Got b f us) =
    assignment_ends room s (e.Assignment (place_of a) a op p b) (suc (max d f)) us
    (none_of (assigns (e.Assignment (place_of a) a op p b)) us (λ t. and_false (is_among assignment_operators t) false refl))
assigned_ends room s a d op p (Bad deep us) = refl

pub assignment_goes : (room : ℕ) (s : Scope) (x : Expr) (d : ℕ) (ts : List Lexeme) → sees (assigns x) ts ≡ true → d < room
    → past room (Assignment s) x d ts
    ≡ assignment_node x d (assignment_operator (head ts).terminal) (place (head ts)) (named (room - 1) (Assignment s) (behind ts))
assignment_goes room s x d ts h l =
    past_goes room (Assignment s) (Call (Conditional s) Return) (assignment_step s) refl x d ts h l
    ∙ ap (λ o. after (λ y f us. past room (Assignment s) y f us) o)
    (ap (λ b. joined d (cond b (after (λ b f left. deepen f (Got (e.Assignment (place_of x) x (assignment_operator (head ts).terminal) (place (head ts)) b) 0 left)) (named (room - 1) (Assignment s) (behind ts))) (Bad false ts))) h
    ∙ assignment_step_node x d (assignment_operator (head ts).terminal) (place (head ts)) (named (room - 1) (Assignment s) (behind ts)))
    ∙ assigned_ends room s x d (assignment_operator (head ts).terminal) (place (head ts)) (named (room - 1) (Assignment s) (behind ts))
