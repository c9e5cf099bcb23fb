-- Initializers, declarations, statements and the tree stand in order where their parts do, form by form.
use Rattle.std.proofs.Common.{ℕ, ◌≤◌, List, [], ◌∷◌, Option, Some, None, arith}
use denote.Hole.Carrier.{hidden}
use Rattle.c_tree.specs.declared.declarations.Decl.{Decl}
use Rattle.c_tree.specs.declared.declarations.Init.{Init}
use Rattle.c_tree.specs.declared.declarations.Init.TheBlock.{hidden-the_row-Init-0, shape-the_row-Init-0}
use Rattle.c_tree.specs.declared.declarations.Init.TheVariants as init
use Rattle.c_tree.specs.declared.expressions.Expr.{Expr}
use Rattle.c_tree.specs.declared.statements.BlockItem.{BlockItem}
use Rattle.c_tree.specs.declared.statements.BlockItem.TheBlock.{hidden-the_row-BlockItem-1, shape-the_row-BlockItem-1, hidden-the_row-Stmt-0, shape-the_row-Stmt-0}
use Rattle.c_tree.specs.declared.statements.BlockItem.TheVariants as item
use Rattle.c_tree.specs.declared.statements.ForStart.{ForStart}
use Rattle.c_tree.specs.declared.statements.Stmt.{Stmt}
use Rattle.c_tree.specs.declared.statements.Stmt.TheVariants as statement
use Rattle.c_tree.specs.declared.statements.Tree.{Tree}
use Rattle.tree_order.proofs.Forms.{AllStand}
use Rattle.tree_order.specs.Stands.{Then, Behind, ExprStands, OptionalStands, InitStands, InitsStand, DeclaratorsStand, DeclStands, StartStands, StmtStands, ItemStands, ItemsStand, ListStands, ExternalsStand, StandsInOrder}

inits_row : (is : List Init) (from to : ℕ) → AllStand InitStands is from to → InitsStand (hidden-the_row-Init-0 is) from to
unfolding InitStands hidden hidden-the_row-Init-0 shape-the_row-Init-0
inits_row [] from to h = h
inits_row (i ∷ is) from to h = (h.0, h.1, inits_row is h.0 to h.2)

pub stands-Value : (e : Expr) (from to : ℕ) → ExprStands e from to → InitStands (init.Value e) from to
unfolding InitStands
stands-Value e from to h = h

pub stands-InitList : (p : ℕ) (is : List Init) (from to : ℕ) → Behind (AllStand InitStands is) from to → InitStands (init.List p is) from to
unfolding InitStands hidden hidden-the_row-Init-0 shape-the_row-Init-0
stands-InitList p is from to h = (h.0, h.1, inits_row is h.0 to h.2)

pub stands-Decl : (d : Decl) (from to : ℕ) → DeclaratorsStand d.declarators from to → DeclStands d from to
unfolding DeclStands
stands-Decl d from to h = h

items_row : (is : List BlockItem) (from to : ℕ) → ListStands is from to → ItemsStand (hidden-the_row-BlockItem-1 is) from to
unfolding StmtStands hidden hidden-the_row-BlockItem-1 shape-the_row-BlockItem-1
items_row [] from to h = h
items_row (i ∷ is) from to h = (h.0, h.1, items_row is h.0 to h.2)

pub stands-Block : (p : ℕ) (is : List BlockItem) (from to : ℕ) → Behind (ListStands is) from to → StmtStands (statement.Block p is) from to
unfolding StmtStands hidden hidden-the_row-BlockItem-1 shape-the_row-BlockItem-1
stands-Block p is from to h = (h.0, h.1, items_row is h.0 to h.2)

pub stands-Expression : (p : ℕ) (e : Option Expr) (from to : ℕ) → OptionalStands e from to → StmtStands (statement.Expression p e) from to
unfolding StmtStands
stands-Expression p e from to h = h

pub stands-If : (p : ℕ) (c : Expr) (s : Stmt) (from to : ℕ) → Behind (Then (ExprStands c) (StmtStands s)) from to → StmtStands (statement.If p c s None) from to
unfolding StmtStands hidden hidden-the_row-Stmt-0 shape-the_row-Stmt-0
stands-If p c s from to (begin, behind, (middle, test, body)) = (begin, behind, (middle, test, (to, body, omega arith)))

pub stands-IfElse : (p : ℕ) (c : Expr) (s other : Stmt) (from to : ℕ) → Behind (Then (ExprStands c) (Then (StmtStands s) (StmtStands other))) from to → StmtStands (statement.If p c s (Some other)) from to
unfolding StmtStands hidden hidden-the_row-Stmt-0 shape-the_row-Stmt-0
stands-IfElse p c s other from to h = h

pub stands-While : (p : ℕ) (c : Expr) (s : Stmt) (from to : ℕ) → Behind (Then (ExprStands c) (StmtStands s)) from to → StmtStands (statement.While p c s) from to
unfolding StmtStands hidden hidden-the_row-Stmt-0 shape-the_row-Stmt-0
stands-While p c s from to h = h

pub stands-DoWhile : (p : ℕ) (s : Stmt) (c : Expr) (from to : ℕ) → Behind (Then (StmtStands s) (ExprStands c)) from to → StmtStands (statement.DoWhile p s c) from to
unfolding StmtStands hidden hidden-the_row-Stmt-0 shape-the_row-Stmt-0
stands-DoWhile p s c from to h = h

pub stands-For : (p : ℕ) (first : ForStart) (c next : Option Expr) (s : Stmt) (from to : ℕ) →
    Behind (Then (StartStands first) (Then (OptionalStands c) (Then (OptionalStands next) (StmtStands s)))) from to → StmtStands (statement.For p first c next s) from to
unfolding StmtStands hidden hidden-the_row-Stmt-0 shape-the_row-Stmt-0
stands-For p first c next s from to h = h

pub stands-Break : (p from to : ℕ) → from ≤ to → StmtStands (statement.Break p) from to
unfolding StmtStands
stands-Break p from to h = h

pub stands-Continue : (p from to : ℕ) → from ≤ to → StmtStands (statement.Continue p) from to
unfolding StmtStands
stands-Continue p from to h = h

pub stands-Return : (p : ℕ) (e : Option Expr) (from to : ℕ) → Behind (OptionalStands e) from to → StmtStands (statement.Return p e) from to
unfolding StmtStands
stands-Return p e from to h = h

pub stands-Declaration : (d : Decl) (from to : ℕ) → DeclStands d from to → ItemStands (item.Declaration d) from to
unfolding StmtStands
stands-Declaration d from to h = h

pub stands-Statement : (s : Stmt) (from to : ℕ) → StmtStands s from to → ItemStands (item.Statement s) from to
unfolding StmtStands hidden hidden-the_row-Stmt-0 shape-the_row-Stmt-0
stands-Statement s from to h = h

pub stands-Tree : (t : Tree) → ExternalsStand t.externals → StandsInOrder t
unfolding StandsInOrder
stands-Tree t h = h
