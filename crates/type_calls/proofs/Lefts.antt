-- How many calls begin at the first token of an expression, from the parts of it.
use Rattle.std.proofs.Common.{◌≡◌, refl, ℕ, ◌+◌, List}
use denote.Hole.Carrier.{hidden}
use Rattle.c_tree.specs.declared.expressions.AccessOperator.{AccessOperator}
use Rattle.c_tree.specs.declared.expressions.AssignmentOperator.{AssignmentOperator}
use Rattle.c_tree.specs.declared.expressions.BinaryOperator.{BinaryOperator}
use Rattle.c_tree.specs.declared.expressions.Declarator.TheBlock.{hidden-the_row-Expr-1, shape-the_row-Expr-1, hidden-the_row-Expr-2, shape-the_row-Expr-2, hidden-the_row-TypeName-4, shape-the_row-TypeName-4}
use Rattle.c_tree.specs.declared.expressions.Expr.{Expr}
use Rattle.c_tree.specs.declared.expressions.Expr.TheVariants as expr
use Rattle.c_tree.specs.declared.expressions.StepOperator.{StepOperator}
use Rattle.c_tree.specs.declared.expressions.TypeName.{TypeName}
use Rattle.c_tree.specs.declared.expressions.UnaryOperator.{UnaryOperator}
use Rattle.c_tree.specs.declared.words.Span.{Span}
use Rattle.type_rules.specs.Calls.{spine}

pub spine-Call : (p : ℕ) (f : Expr) (es : List Expr) → spine (expr.Call p f es) ≡ spine f + 1
unfolding spine hidden hidden-the_row-Expr-1 shape-the_row-Expr-1 hidden-the_row-Expr-2 shape-the_row-Expr-2 hidden-the_row-TypeName-4 shape-the_row-TypeName-4
spine-Call p f es = refl

pub spine-Index : (p : ℕ) (a i : Expr) → spine (expr.Index p a i) ≡ spine a
unfolding spine hidden hidden-the_row-Expr-1 shape-the_row-Expr-1 hidden-the_row-Expr-2 shape-the_row-Expr-2 hidden-the_row-TypeName-4 shape-the_row-TypeName-4
spine-Index p a i = refl

pub spine-Access : (p : ℕ) (e : Expr) (operator : AccessOperator) (at : Span) → spine (expr.Access p e operator at) ≡ spine e
unfolding spine hidden hidden-the_row-Expr-1 shape-the_row-Expr-1 hidden-the_row-Expr-2 shape-the_row-Expr-2 hidden-the_row-TypeName-4 shape-the_row-TypeName-4
spine-Access p e operator at = refl

pub spine-Step : (p : ℕ) (e : Expr) (operator : StepOperator) → spine (expr.Step p e operator) ≡ spine e
unfolding spine hidden hidden-the_row-Expr-1 shape-the_row-Expr-1 hidden-the_row-Expr-2 shape-the_row-Expr-2 hidden-the_row-TypeName-4 shape-the_row-TypeName-4
spine-Step p e operator = refl

pub spine-Binary : (p : ℕ) (a : Expr) (operator : BinaryOperator) (at : ℕ) (b : Expr) → spine (expr.Binary p a operator at b) ≡ spine a
unfolding spine hidden hidden-the_row-Expr-1 shape-the_row-Expr-1 hidden-the_row-Expr-2 shape-the_row-Expr-2 hidden-the_row-TypeName-4 shape-the_row-TypeName-4
spine-Binary p a operator at b = refl

pub spine-Conditional : (p : ℕ) (c a b : Expr) → spine (expr.Conditional p c a b) ≡ spine c
unfolding spine hidden hidden-the_row-Expr-1 shape-the_row-Expr-1 hidden-the_row-Expr-2 shape-the_row-Expr-2 hidden-the_row-TypeName-4 shape-the_row-TypeName-4
spine-Conditional p c a b = refl

pub spine-Assignment : (p : ℕ) (a : Expr) (operator : AssignmentOperator) (at : ℕ) (b : Expr) → spine (expr.Assignment p a operator at b) ≡ spine a
unfolding spine hidden hidden-the_row-Expr-1 shape-the_row-Expr-1 hidden-the_row-Expr-2 shape-the_row-Expr-2 hidden-the_row-TypeName-4 shape-the_row-TypeName-4
spine-Assignment p a operator at b = refl

pub spine-Name : (at : Span) → spine (expr.Name at) ≡ 0
unfolding spine hidden hidden-the_row-Expr-1 shape-the_row-Expr-1 hidden-the_row-Expr-2 shape-the_row-Expr-2 hidden-the_row-TypeName-4 shape-the_row-TypeName-4
spine-Name at = refl

pub spine-Number : (at : Span) → spine (expr.Number at) ≡ 0
unfolding spine hidden hidden-the_row-Expr-1 shape-the_row-Expr-1 hidden-the_row-Expr-2 shape-the_row-Expr-2 hidden-the_row-TypeName-4 shape-the_row-TypeName-4
spine-Number at = refl

pub spine-Character : (at : Span) → spine (expr.Character at) ≡ 0
unfolding spine hidden hidden-the_row-Expr-1 shape-the_row-Expr-1 hidden-the_row-Expr-2 shape-the_row-Expr-2 hidden-the_row-TypeName-4 shape-the_row-TypeName-4
spine-Character at = refl

pub spine-Text : (strings : List Span) → spine (expr.Text strings) ≡ 0
unfolding spine hidden hidden-the_row-Expr-1 shape-the_row-Expr-1 hidden-the_row-Expr-2 shape-the_row-Expr-2 hidden-the_row-TypeName-4 shape-the_row-TypeName-4
spine-Text strings = refl

pub spine-Parenthesised : (p : ℕ) (e : Expr) → spine (expr.Parenthesised p e) ≡ 0
unfolding spine hidden hidden-the_row-Expr-1 shape-the_row-Expr-1 hidden-the_row-Expr-2 shape-the_row-Expr-2 hidden-the_row-TypeName-4 shape-the_row-TypeName-4
spine-Parenthesised p e = refl

pub spine-Unary : (p : ℕ) (operator : UnaryOperator) (e : Expr) → spine (expr.Unary p operator e) ≡ 0
unfolding spine hidden hidden-the_row-Expr-1 shape-the_row-Expr-1 hidden-the_row-Expr-2 shape-the_row-Expr-2 hidden-the_row-TypeName-4 shape-the_row-TypeName-4
spine-Unary p operator e = refl

pub spine-SizeofType : (p : ℕ) (name : TypeName) → spine (expr.SizeofType p name) ≡ 0
unfolding spine hidden hidden-the_row-Expr-1 shape-the_row-Expr-1 hidden-the_row-Expr-2 shape-the_row-Expr-2 hidden-the_row-TypeName-4 shape-the_row-TypeName-4
spine-SizeofType p name = refl

pub spine-Cast : (p : ℕ) (name : TypeName) (e : Expr) → spine (expr.Cast p name e) ≡ 0
unfolding spine hidden hidden-the_row-Expr-1 shape-the_row-Expr-1 hidden-the_row-Expr-2 shape-the_row-Expr-2 hidden-the_row-TypeName-4 shape-the_row-TypeName-4
spine-Cast p name e = refl

pub ruleset spine_rules = (spine-Call, spine-Index, spine-Access, spine-Step, spine-Binary, spine-Conditional, spine-Assignment, spine-Name, spine-Number, spine-Character, spine-Text, spine-Parenthesised, spine-Unary, spine-SizeofType, spine-Cast)
