-- An expression stands in order where its parts do, form by form.
use Rattle.std.proofs.Common.{◌≡◌, ℕ, ◌<◌, ◌≤◌, List, [], ◌∷◌}
use denote.Hole.Carrier.{hidden}
use Rattle.c_tree.specs.declared.expressions.AccessOperator.{AccessOperator}
use Rattle.c_tree.specs.declared.expressions.AssignmentOperator.{AssignmentOperator}
use Rattle.c_tree.specs.declared.expressions.BinaryOperator.{BinaryOperator}
use Rattle.c_tree.specs.declared.expressions.Declarator.TheBlock.{hidden-the_row-Expr-1, shape-the_row-Expr-1, hidden-the_row-Expr-2, shape-the_row-Expr-2, hidden-the_row-TypeName-4, shape-the_row-TypeName-4}
use Rattle.c_tree.specs.declared.expressions.Expr.{Expr}
use Rattle.c_tree.specs.declared.expressions.Expr.TheVariants as expr
use Rattle.c_tree.specs.declared.expressions.StepOperator.{StepOperator}
use Rattle.c_tree.specs.declared.expressions.TypeName.{TypeName}
use Rattle.c_tree.specs.declared.expressions.UnaryOperator.{UnaryOperator}
use Rattle.c_tree.specs.declared.words.Span.{Span}
use Rattle.tree_order.specs.Stands.{Then, Behind, ExprStands, ExprsStand}

-- one behind the other, as a list holds them
abbrev pub AllStand : {A : Type 0} → (A → ℕ → ℕ → Type 0) → List A → ℕ → ℕ → Type 0
AllStand stands [] from to = from ≤ to
AllStand stands (x ∷ xs) from to = Then (stands x) (AllStand stands xs) from to

exprs_row : (es : List Expr) (from to : ℕ) → AllStand ExprStands es from to → ExprsStand (hidden-the_row-Expr-2 es) from to
unfolding ExprStands hidden hidden-the_row-Expr-2 shape-the_row-Expr-2
exprs_row [] from to h = h
exprs_row (e ∷ es) from to h = (h.0, h.1, exprs_row es h.0 to h.2)

pub stands-Name : (n : Span) (from to : ℕ) → from < to → ExprStands (expr.Name n) from to
unfolding ExprStands
stands-Name n from to h = h

pub stands-Number : (n : Span) (from to : ℕ) → from < to → ExprStands (expr.Number n) from to
unfolding ExprStands
stands-Number n from to h = h

pub stands-Character : (n : Span) (from to : ℕ) → from < to → ExprStands (expr.Character n) from to
unfolding ExprStands
stands-Character n from to h = h

pub stands-Text : (ns : List Span) (from to : ℕ) → from < to → ExprStands (expr.Text ns) from to
unfolding ExprStands
stands-Text ns from to h = h

pub stands-Parenthesised : (p : ℕ) (e : Expr) (from to : ℕ) → Behind (ExprStands e) from to → ExprStands (expr.Parenthesised p e) from to
unfolding ExprStands hidden hidden-the_row-Expr-1 shape-the_row-Expr-1
stands-Parenthesised p e from to h = h

pub stands-Index : (p : ℕ) (a i : Expr) (from to : ℕ) → Then (ExprStands a) (ExprStands i) from to → ExprStands (expr.Index p a i) from to
unfolding ExprStands hidden hidden-the_row-Expr-1 shape-the_row-Expr-1
stands-Index p a i from to h = h

pub stands-Call : (p : ℕ) (f : Expr) (es : List Expr) (from to : ℕ) → p ≡ from → Then (ExprStands f) (AllStand ExprStands es) from to → ExprStands (expr.Call p f es) from to
unfolding ExprStands hidden hidden-the_row-Expr-1 shape-the_row-Expr-1 hidden-the_row-Expr-2 shape-the_row-Expr-2
stands-Call p f es from to at h = (at, (h.0, h.1, exprs_row es h.0 to h.2))

pub stands-Access : (p : ℕ) (e : Expr) (o : AccessOperator) (n : Span) (from to : ℕ) → ExprStands e from to → ExprStands (expr.Access p e o n) from to
unfolding ExprStands hidden hidden-the_row-Expr-1 shape-the_row-Expr-1
stands-Access p e o n from to h = h

pub stands-Step : (p : ℕ) (e : Expr) (o : StepOperator) (from to : ℕ) → ExprStands e from to → ExprStands (expr.Step p e o) from to
unfolding ExprStands hidden hidden-the_row-Expr-1 shape-the_row-Expr-1
stands-Step p e o from to h = h

pub stands-Unary : (p : ℕ) (o : UnaryOperator) (e : Expr) (from to : ℕ) → Behind (ExprStands e) from to → ExprStands (expr.Unary p o e) from to
unfolding ExprStands hidden hidden-the_row-Expr-1 shape-the_row-Expr-1
stands-Unary p o e from to h = h

pub stands-SizeofType : (p : ℕ) (t : TypeName) (from to : ℕ) → from < to → ExprStands (expr.SizeofType p t) from to
unfolding ExprStands
stands-SizeofType p t from to h = h

pub stands-Cast : (p : ℕ) (t : TypeName) (e : Expr) (from to : ℕ) → Behind (ExprStands e) from to → ExprStands (expr.Cast p t e) from to
unfolding ExprStands hidden hidden-the_row-Expr-1 shape-the_row-Expr-1 hidden-the_row-TypeName-4 shape-the_row-TypeName-4
stands-Cast p t e from to h = h

pub stands-Binary : (p : ℕ) (a : Expr) (o : BinaryOperator) (at : ℕ) (b : Expr) (from to : ℕ) → Then (ExprStands a) (ExprStands b) from to → ExprStands (expr.Binary p a o at b) from to
unfolding ExprStands hidden hidden-the_row-Expr-1 shape-the_row-Expr-1
stands-Binary p a o at b from to h = h

pub stands-Conditional : (p : ℕ) (a b c : Expr) (from to : ℕ) → Then (ExprStands a) (Then (ExprStands b) (ExprStands c)) from to → ExprStands (expr.Conditional p a b c) from to
unfolding ExprStands hidden hidden-the_row-Expr-1 shape-the_row-Expr-1
stands-Conditional p a b c from to h = h

pub stands-Assignment : (p : ℕ) (a : Expr) (o : AssignmentOperator) (at : ℕ) (b : Expr) (from to : ℕ) → Then (ExprStands a) (ExprStands b) from to → ExprStands (expr.Assignment p a o at b) from to
unfolding ExprStands hidden hidden-the_row-Expr-1 shape-the_row-Expr-1
stands-Assignment p a o at b from to h = h
