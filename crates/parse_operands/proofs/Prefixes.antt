-- Operands, and operators before them: each rule as an equation.
use Rattle.std.proofs.Common.{◌≡◌, refl, ℕ, suc, ◌-◌, ◌<◌, ◌≤◌, Bool, true, false, cond, List, [], ◌∷◌, length, ap, ◌∙◌}
use Rattle.grammar.specs.Parts.{Return, Call}
use Rattle.grammar.specs.Parser.{Outcome, Got, Bad, begins, after, deepen, one_more}
use Rattle.c_tree.specs.declared.expressions.Expr.{Expr}
use Rattle.c_tree.specs.declared.expressions.Expr.TheVariants as e
use Rattle.c_tree.specs.declared.expressions.UnaryOperator.{UnaryOperator}
use Rattle.c_tree.specs.declared.expressions.UnaryOperator.TheVariants as unary
use Rattle.c_grammar.specs.declared.terminal.Terminal.TheVariants as k
use Rattle.c_grammar.specs.Lexemes.{Lexeme, is, is_among, place}
use Rattle.c_grammar.specs.declared.state.Front.{Front}
use Rattle.c_grammar.specs.declared.state.Front.TheVariants.{Cast as CastFront, Unary as UnaryFront, Bare as BareFront, Opened as OpenedFront}
use Rattle.c_grammar.specs.declared.state.SpecifierContext.TheVariants.{«Type» as TypeContext}
use Rattle.c_grammar.specs.declared.state.Precedence.TheVariants.{LogicalAnd, InclusiveOr, ExclusiveOr, BitwiseAnd, Equality, Relational, Shift, Additive, Multiplicative}
use Rattle.c_grammar.specs.Rules.{Rule, ValueOf, Scope, Operand, Prefix, Postfix, Binary, Expression, Assignment, Conditional}
use Rattle.c_grammar.specs.Expressions.{Reading, operand, prefix, cast_operators}
use Rattle.c_grammar.specs.Specifiers.{no_specs}
use Rattle.c_grammar.specs.Lookahead.{c_lookahead, starts_specs, starts_prefix}
use Rattle.parse_input.specs.Input.{head, behind, sees}
use Rattle.parse_input.specs.Reads.{named, reads}
use Rattle.parse_input.proofs.Steps as steps
use Rattle.parse_input.proofs.Steps.{plain_rule, node_rule, full_rule, within, shorter}
use Rattle.parse_input.proofs.Choices.{sees_first, passed, either}
use Rattle.parse_operands.specs.declared.wanted.Wanted.{Wanted}
use Rattle.parse_operands.specs.declared.wanted.Wanted.TheVariants as wanted
use Rattle.c_grammar.specs.declared.state.Precedence.TheVariants as operators
use Rattle.parse_operands.specs.Named.{named_expression}
use Rattle.parse_operands.specs.Nodes.{unary_node, operation, prefix_first, sized, type_part}

abbrev prefix_part : Scope → Reading Expr
prefix_part s = Call (Prefix s) Return

plain_operand : (room : ℕ) (f : Front) (s : Scope) (ts : List Lexeme)
    → cond (sees (begins c_lookahead (prefix_part s)) ts)
    (after (λ a depth left. deepen depth (Got a 0 left)) (named room (Prefix s) ts)) (after (λ a depth left. deepen depth (Got a 0 left)) (named room (Postfix f s) ts))
    ≡ cond (sees starts_prefix ts) (named room (Prefix s) ts) (named room (Postfix f s) ts)
plain_operand room f s ts = either (sees_first starts_prefix ts) (passed (named room (Prefix s) ts)) (passed (named room (Postfix f s) ts))

pub an_operand : (room : ℕ) (f : Front) (s : Scope) (ts : List Lexeme)
    → named room (Operand f s) ts ≡ cond (prefix_first f s ts) (named room (Prefix s) ts) (named room (Postfix f s) ts)
an_operand room CastFront s ts = plain_rule room (Operand CastFront s) ts (operand CastFront s) refl ∙ plain_operand room CastFront s ts
an_operand room UnaryFront s ts = plain_rule room (Operand UnaryFront s) ts (operand UnaryFront s) refl ∙ plain_operand room UnaryFront s ts
an_operand room BareFront s ts = plain_rule room (Operand BareFront s) ts (operand BareFront s) refl ∙ plain_operand room BareFront s ts
an_operand room (OpenedFront p) s ts =
    plain_rule room (Operand (OpenedFront p) s) ts (operand (OpenedFront p) s) refl ∙ passed (named room (Postfix (OpenedFront p) s) ts)

pub no_prefix : (room : ℕ) (s : Scope) (ts : List Lexeme) → room ≡ 0
    → named room (Prefix s) ts ≡ Bad (sees starts_prefix ts) ts
no_prefix room s ts e = full_rule room (Prefix s) ts (prefix s) refl e

-- a node of an operator and what is read behind it
node_of : (p : ℕ) (operator : UnaryOperator) (o : Outcome Lexeme Expr)
    → one_more (after (λ a depth left. deepen depth (Got (e.Unary p operator a) 0 left)) o) ≡ unary_node p operator o
node_of p operator (Got a d left) = ap (λ n. Got (e.Unary p operator a) (suc n) left) (steps.max_zero d)
node_of p operator (Bad deep left) = refl

-- what begins with the token of a test, asked once
asked_once : {A : Type 0} (b : Bool) (x y z : Outcome Lexeme A) → one_more (cond b (cond b x y) z) ≡ cond b (one_more x) (one_more z)
asked_once true x y z = refl
asked_once false x y z = refl

one_of_two : {A : Type 0} (b : Bool) (x y : Outcome Lexeme A) → one_more (cond b x y) ≡ cond b (one_more x) (one_more y)
one_of_two true x y = refl
one_of_two false x y = refl

pub a_prefix : (room : ℕ) (s : Scope) (ts : List Lexeme) → 0 < room
    → named room (Prefix s) ts
    ≡ cond (sees (is_among (k.Increment ∷ k.Decrement ∷ [])) ts) (operation (room - 1) wanted.Unary s (head ts) (behind ts))
    (cond (sees (is_among cast_operators) ts) (operation (room - 1) wanted.Cast s (head ts) (behind ts))
    (cond (sees (is k.Sizeof) ts) (sized (room - 1) s (place (head ts)) (behind ts)) (Bad false ts)))
unfolding sized
a_prefix room s ts l =
    node_rule room (Prefix s) ts (prefix s) refl l
    ∙ asked_once (sees (is_among (k.Increment ∷ k.Decrement ∷ [])) ts) _ _ _
    ∙ either refl (node_of _ _ _)
    (asked_once (sees (is_among cast_operators) ts) _ _ _ ∙ either refl (node_of _ _ _) (one_of_two (sees (is k.Sizeof) ts) _ _))

pub a_size : (room : ℕ) (s : Scope) (p : ℕ) (ts : List Lexeme)
    → sized room s p ts
    ≡ cond (sees (is k.OpenParen) ts)
    (cond (sees (starts_specs TypeContext s no_specs) (behind ts)) (one_more (reads (named room) (type_part s p) (behind ts)))
    (unary_node p unary.Sizeof (named room (Postfix (OpenedFront (place (head ts))) s) (behind ts))))
    (unary_node p unary.Sizeof (named room (Operand BareFront s) ts))
unfolding sized
a_size room s p ts =
    asked_once (sees (is k.OpenParen) ts) _ _ _
    ∙ either refl
    (one_of_two (sees (begins c_lookahead (type_part s p)) (behind ts)) _ _ ∙ either (sees_first (starts_specs TypeContext s no_specs) (behind ts)) refl (node_of _ _ _))
    (node_of _ _ _)

-- an expression is no deeper than its room, and leaves no more tokens
rule_bounds : (room : ℕ) (n : Rule) (ts : List Lexeme) (x : ValueOf n) (d : ℕ) (us : List Lexeme) → named room n ts ≡ Got x d us
    → (d ≤ room) × (length us ≤ length ts)
rule_bounds room n ts x d us h = (within room n ts x d us h, shorter room n ts x d us h)

expression_bounds : (room : ℕ) (w : Wanted) (s : Scope) (ts : List Lexeme) (x : Expr) (d : ℕ) (us : List Lexeme)
    → named_expression room w s ts ≡ Got x d us → (d ≤ room) × (length us ≤ length ts)
expression_bounds room wanted.Expression s ts x d us h = rule_bounds room (Expression s) ts x d us h
expression_bounds room wanted.Assignment s ts x d us h = rule_bounds room (Assignment s) ts x d us h
expression_bounds room wanted.Conditional s ts x d us h = rule_bounds room (Conditional s) ts x d us h
expression_bounds room wanted.Cast s ts x d us h = rule_bounds room (Operand CastFront s) ts x d us h
expression_bounds room wanted.Unary s ts x d us h = rule_bounds room (Operand UnaryFront s) ts x d us h
expression_bounds room wanted.Bare s ts x d us h = rule_bounds room (Operand BareFront s) ts x d us h
expression_bounds room (wanted.Opened p) s ts x d us h = rule_bounds room (Postfix (OpenedFront p) s) ts x d us h
expression_bounds room (wanted.Right operators.LogicalOr) s ts x d us h = rule_bounds room (Binary LogicalAnd s) ts x d us h
expression_bounds room (wanted.Right operators.LogicalAnd) s ts x d us h = rule_bounds room (Binary InclusiveOr s) ts x d us h
expression_bounds room (wanted.Right operators.InclusiveOr) s ts x d us h = rule_bounds room (Binary ExclusiveOr s) ts x d us h
expression_bounds room (wanted.Right operators.ExclusiveOr) s ts x d us h = rule_bounds room (Binary BitwiseAnd s) ts x d us h
expression_bounds room (wanted.Right operators.BitwiseAnd) s ts x d us h = rule_bounds room (Binary Equality s) ts x d us h
expression_bounds room (wanted.Right operators.Equality) s ts x d us h = rule_bounds room (Binary Relational s) ts x d us h
expression_bounds room (wanted.Right operators.Relational) s ts x d us h = rule_bounds room (Binary Shift s) ts x d us h
expression_bounds room (wanted.Right operators.Shift) s ts x d us h = rule_bounds room (Binary Additive s) ts x d us h
expression_bounds room (wanted.Right operators.Additive) s ts x d us h = rule_bounds room (Binary Multiplicative s) ts x d us h
expression_bounds room (wanted.Right operators.Multiplicative) s ts x d us h = rule_bounds room (Operand CastFront s) ts x d us h

pub expression_within : (room : ℕ) (w : Wanted) (s : Scope) (ts : List Lexeme) (x : Expr) (d : ℕ) (us : List Lexeme)
    → named_expression room w s ts ≡ Got x d us → d ≤ room
expression_within room w s ts x d us h = (expression_bounds room w s ts x d us h).0

pub expression_shorter : (room : ℕ) (w : Wanted) (s : Scope) (ts : List Lexeme) (x : Expr) (d : ℕ) (us : List Lexeme)
    → named_expression room w s ts ≡ Got x d us → length us ≤ length ts
expression_shorter room w s ts x d us h = (expression_bounds room w s ts x d us h).1
