-- How deep a declaration or a statement is, from how deep its parts are.
use Rattle.std.proofs.Common.{◌≡◌, refl, ap, ℕ, ◌+◌, ◌-◌, ◌^◌, max, min, arith, List, [], ◌∷◌, map, Option, Some, None}
use denote.Hole.Carrier.{hidden}
use Rattle.c_tree.specs.Depth.{node, deepest, saturated, expr_depth, spec_depth, declarator_depth, optional_depth, init_depth, inits_depth, init_declarator_depth, declaration_depth, start_depth, statement_depth, else_depth, item_depth, items_depth, optional_statement_depth, definition_depth, external_depth, tree_depth}
use Rattle.c_tree.specs.declared.declarations.Decl.{Decl}
use Rattle.c_tree.specs.declared.declarations.FunctionDefinition.{FunctionDefinition}
use Rattle.c_tree.specs.declared.declarations.Init.{Init}
use Rattle.c_tree.specs.declared.declarations.Init.TheBlock.{hidden-the_row-Init-0, shape-the_row-Init-0}
use Rattle.c_tree.specs.declared.declarations.Init.TheVariants as init
use Rattle.c_tree.specs.declared.expressions.Expr.{Expr}
use Rattle.c_tree.specs.declared.statements.BlockItem.{BlockItem}
use Rattle.c_tree.specs.declared.statements.BlockItem.TheBlock.{hidden-the_row-BlockItem-1, shape-the_row-BlockItem-1, hidden-the_row-Stmt-0, shape-the_row-Stmt-0, back-Stmt-If-3}
use Rattle.c_tree.specs.declared.statements.BlockItem.TheVariants as item
use Rattle.c_tree.specs.declared.statements.ForStart.{ForStart}
use Rattle.c_tree.specs.declared.statements.Stmt.{Stmt}
use Rattle.c_tree.specs.declared.statements.Stmt.TheVariants as statement
use Rattle.c_tree.specs.declared.statements.Tree.{Tree}
use Rattle.c_tree.proofs.Equations.{saturated-0, saturated-1, saturated-max, saturated-node}

inits_row : (is : List Init) → inits_depth (hidden-the_row-Init-0 is) ≡ deepest (map init_depth is)
unfolding init_depth hidden hidden-the_row-Init-0 shape-the_row-Init-0
inits_row [] = refl
inits_row (i ∷ is) = ap (max (init_depth i)) (inits_row is)

items_row : (is : List BlockItem) → items_depth (hidden-the_row-BlockItem-1 is) ≡ deepest (map item_depth is)
unfolding statement_depth hidden hidden-the_row-BlockItem-1 shape-the_row-BlockItem-1
items_row [] = refl
items_row (i ∷ is) = ap (max (item_depth i)) (items_row is)

else_held : (s : Option Stmt) → else_depth (back-Stmt-If-3 s) ≡ optional_statement_depth s
unfolding statement_depth hidden hidden-the_row-Stmt-0 shape-the_row-Stmt-0
else_held None = refl
else_held (Some s) = refl

pub depth-Value : (e : Expr) → init_depth (init.Value e) ≡ expr_depth e
unfolding init_depth
depth-Value e = refl

pub depth-InitList : (p : ℕ) (is : List Init) → init_depth (init.List p is) ≡ node (deepest (map init_depth is))
unfolding init_depth hidden hidden-the_row-Init-0 shape-the_row-Init-0
depth-InitList p is = ap node (inits_row is)

pub depth-Decl : (d : Decl) → declaration_depth d ≡ node (max (deepest (map spec_depth d.specs)) (deepest (map init_declarator_depth d.declarators)))
unfolding declaration_depth
depth-Decl d = refl

pub depth-Block : (p : ℕ) (is : List BlockItem) → statement_depth (statement.Block p is) ≡ node (deepest (map item_depth is))
unfolding statement_depth hidden hidden-the_row-BlockItem-1 shape-the_row-BlockItem-1
depth-Block p is = ap node (items_row is)

pub depth-Expression : (p : ℕ) (e : Option Expr) → statement_depth (statement.Expression p e) ≡ node (optional_depth e)
unfolding statement_depth
depth-Expression p e = refl

pub depth-If : (p : ℕ) (c : Expr) (s : Stmt) (other : Option Stmt) → statement_depth (statement.If p c s other) ≡ node (max (expr_depth c) (max (statement_depth s) (optional_statement_depth other)))
unfolding statement_depth hidden hidden-the_row-Stmt-0 shape-the_row-Stmt-0
depth-If p c s other = ap (λ n. node (max (expr_depth c) (max (statement_depth s) n))) (else_held other)

pub depth-While : (p : ℕ) (c : Expr) (s : Stmt) → statement_depth (statement.While p c s) ≡ node (max (expr_depth c) (statement_depth s))
unfolding statement_depth hidden hidden-the_row-Stmt-0 shape-the_row-Stmt-0
depth-While p c s = refl

pub depth-DoWhile : (p : ℕ) (s : Stmt) (c : Expr) → statement_depth (statement.DoWhile p s c) ≡ node (max (statement_depth s) (expr_depth c))
unfolding statement_depth hidden hidden-the_row-Stmt-0 shape-the_row-Stmt-0
depth-DoWhile p s c = refl

pub depth-For : (p : ℕ) (first : ForStart) (c next : Option Expr) (s : Stmt) → statement_depth (statement.For p first c next s) ≡ node (max (max (start_depth first) (max (optional_depth c) (optional_depth next))) (statement_depth s))
unfolding statement_depth hidden hidden-the_row-Stmt-0 shape-the_row-Stmt-0
depth-For p first c next s = refl

pub depth-Break : (p : ℕ) → statement_depth (statement.Break p) ≡ node 0
unfolding statement_depth
depth-Break p = refl

pub depth-Continue : (p : ℕ) → statement_depth (statement.Continue p) ≡ node 0
unfolding statement_depth
depth-Continue p = refl

pub depth-Return : (p : ℕ) (e : Option Expr) → statement_depth (statement.Return p e) ≡ node (optional_depth e)
unfolding statement_depth
depth-Return p e = refl

pub depth-Declaration : (d : Decl) → item_depth (item.Declaration d) ≡ declaration_depth d
unfolding statement_depth
depth-Declaration d = refl

pub depth-Statement : (s : Stmt) → item_depth (item.Statement s) ≡ statement_depth s
unfolding statement_depth hidden hidden-the_row-Stmt-0 shape-the_row-Stmt-0
depth-Statement s = refl

pub depth-Definition : (f : FunctionDefinition) → definition_depth f ≡ node (max (max (deepest (map spec_depth f.specs)) (declarator_depth f.declarator)) (node (deepest (map item_depth f.body))))
unfolding definition_depth
depth-Definition f = refl

pub depth-Tree : (t : Tree) → tree_depth t ≡ deepest (map external_depth t.externals)
unfolding tree_depth
depth-Tree t = refl

-- a node round three parts, where each is saturated
pub saturated-three : (a b d m n r : ℕ) → m ≡ max (saturated b) (saturated d) → n ≡ max (saturated a) m → r ≡ min (n + 1) (2 ^ 32 - 1) →
    r ≡ saturated (node (max a (max b d)))
unfolding saturated
saturated-three a b d m n r is_m is_n is_r = omega arith

pub ruleset statement_rules = (saturated-0, saturated-1, saturated-max, saturated-node, depth-Value, depth-InitList, depth-Decl, depth-Block, depth-Expression, depth-If, depth-While, depth-DoWhile, depth-For, depth-Break, depth-Continue, depth-Return, depth-Declaration, depth-Statement, depth-Definition)
