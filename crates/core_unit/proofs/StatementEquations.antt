-- What the count and the places of a statement are, from those of its parts: one equation a form.
use Rattle.std.proofs.Common.{◌≡◌, refl, ap, ℕ, ◌+◌, List, [], ◌∷◌, Option}
use denote.Hole.Carrier.{hidden}
use Rattle.core_unit.specs.Nodes.{nodes, optional_nodes, initializer_nodes, initializers_nodes, listed_nodes, stmt_nodes, stmts_nodes, start_nodes, list_nodes, begun_nodes}
use Rattle.core_unit.specs.Places.{spots, optional_spots, initializer_spots, stmt_spots, stmts_spots, list_spots, declared, Spot}
use Rattle.core_unit.specs.declared.body.Braces.TheVariants.{Bare, Braced}
use Rattle.core_unit.specs.declared.body.Initializer.{Initializer}
use Rattle.core_unit.specs.declared.body.Initializer.TheBlock.{hidden-the_row-Initializer-0, shape-the_row-Initializer-0}
use Rattle.core_unit.specs.declared.body.Initializer.TheVariants as init
use Rattle.core_unit.specs.declared.body.LocalVariable.{LocalVariable}
use Rattle.core_unit.specs.declared.body.LoopKind.{LoopKind}
use Rattle.core_unit.specs.declared.body.LoopKind.TheVariants.{While, DoWhile}
use Rattle.core_unit.specs.declared.body.Stmt as form
use Rattle.core_unit.specs.declared.body.Stmt.{Stmt}
use Rattle.core_unit.specs.declared.body.Stmt.TheBlock.{hidden-the_row-Stmt-0, shape-the_row-Stmt-0, hidden-the_row-Stmt-1, shape-the_row-Stmt-1}
use Rattle.core_unit.specs.declared.body.Stmt.TheVariants as stmt
use Rattle.core_unit.specs.declared.expressions.Expr.{Expr}

listed_row : (is : List Initializer) → initializers_nodes (hidden-the_row-Initializer-0 is) ≡ listed_nodes is
unfolding initializer_nodes hidden hidden-the_row-Initializer-0 shape-the_row-Initializer-0
listed_row [] = refl
listed_row (i ∷ is) = ap (λ n. initializer_nodes i + n) (listed_row is)

pub nodes-List : (is : List Initializer) (after : ℕ) → initializer_nodes (init.List is after) ≡ 1 + listed_nodes is
unfolding initializer_nodes hidden hidden-the_row-Initializer-0 shape-the_row-Initializer-0
nodes-List is after = ap (λ n. 1 + n) (listed_row is)

pub nodes-Absent : (words : ℕ) → initializer_nodes (init.Absent words) ≡ 0
unfolding initializer_nodes
nodes-Absent words = refl

pub nodes-Bare : (e : Expr) → initializer_nodes (init.Value Bare e) ≡ 1 + nodes e
unfolding initializer_nodes
nodes-Bare e = refl

pub nodes-Braced : (e : Expr) → initializer_nodes (init.Value Braced e) ≡ 2 + nodes e
unfolding initializer_nodes
nodes-Braced e = refl

pub nodes-Text : (bytes : List ℕ) (after : ℕ) → initializer_nodes (init.Text bytes after) ≡ 2
unfolding initializer_nodes
nodes-Text bytes after = refl

pub nodes-Zeros : (words : ℕ) → initializer_nodes (init.Zeros words) ≡ 3
unfolding initializer_nodes
nodes-Zeros words = refl

pub nodes-Mutex : initializer_nodes init.Mutex ≡ 2
unfolding initializer_nodes
nodes-Mutex = refl

nodes_row : (ss : List Stmt) → stmts_nodes (hidden-the_row-Stmt-0 ss) ≡ list_nodes ss
unfolding stmt_nodes hidden hidden-the_row-Stmt-0 shape-the_row-Stmt-0
nodes_row [] = refl
nodes_row (s ∷ ss) = ap (λ n. stmt_nodes s + n) (nodes_row ss)

spots_row : (ss : List Stmt) (rest : List Spot) → stmts_spots (hidden-the_row-Stmt-0 ss) rest ≡ list_spots ss rest
unfolding stmt_spots hidden hidden-the_row-Stmt-0 shape-the_row-Stmt-0
spots_row [] rest = refl
spots_row (s ∷ ss) rest = ap (stmt_spots s) (spots_row ss rest)

pub nodes-Block : (ss : List Stmt) → stmt_nodes (stmt.Block ss) ≡ 1 + list_nodes ss
unfolding stmt_nodes hidden hidden-the_row-Stmt-0 shape-the_row-Stmt-0
nodes-Block ss = ap (λ n. 1 + n) (nodes_row ss)

pub nodes-Variable : (v : LocalVariable) → stmt_nodes (stmt.Variable v) ≡ 1 + initializer_nodes v.initializer
unfolding stmt_nodes
nodes-Variable v = refl

pub nodes-Empty : stmt_nodes stmt.Empty ≡ 1
unfolding stmt_nodes
nodes-Empty = refl

pub nodes-Break : stmt_nodes stmt.Break ≡ 1
unfolding stmt_nodes
nodes-Break = refl

pub nodes-Continue : stmt_nodes stmt.Continue ≡ 1
unfolding stmt_nodes
nodes-Continue = refl

pub nodes-Expression : (e : Expr) → stmt_nodes (stmt.Expression e) ≡ 1 + nodes e
unfolding stmt_nodes
nodes-Expression e = refl

pub nodes-If : (c : Expr) (s : Stmt) (ss : List Stmt) → stmt_nodes (stmt.If c s ss) ≡ 1 + nodes c + stmt_nodes s + list_nodes ss
unfolding stmt_nodes hidden hidden-the_row-Stmt-0 shape-the_row-Stmt-0 hidden-the_row-Stmt-1 shape-the_row-Stmt-1
nodes-If c s ss = ap (λ n. 1 + nodes c + stmt_nodes s + n) (nodes_row ss)

pub nodes-Loop : (kind : LoopKind) (c : Expr) (s : Stmt) → stmt_nodes (stmt.Loop kind c s) ≡ 1 + nodes c + stmt_nodes s
unfolding stmt_nodes hidden hidden-the_row-Stmt-1 shape-the_row-Stmt-1
nodes-Loop kind c s = refl

start_row : (ss : List Stmt) → start_nodes (hidden-the_row-Stmt-0 ss) ≡ begun_nodes ss
unfolding stmt_nodes hidden hidden-the_row-Stmt-0 shape-the_row-Stmt-0
start_row [] = refl
start_row (form.Expression e ∷ ss) = ap (λ n. nodes e + n) (start_row ss)
start_row (s ∷ ss) = ap (λ n. stmt_nodes s + n) (start_row ss)

pub nodes-For : (start : List Stmt) (test step : Option Expr) (s : Stmt) →
    stmt_nodes (stmt.For start test step s) ≡ 1 + begun_nodes start + optional_nodes test + optional_nodes step + stmt_nodes s
unfolding stmt_nodes hidden hidden-the_row-Stmt-0 shape-the_row-Stmt-0 hidden-the_row-Stmt-1 shape-the_row-Stmt-1
nodes-For start test step s = ap (λ n. 1 + n + optional_nodes test + optional_nodes step + stmt_nodes s) (start_row start)

pub nodes-Return : (e : Option Expr) → stmt_nodes (stmt.Return e) ≡ 1 + optional_nodes e
unfolding stmt_nodes
nodes-Return e = refl

pub spots-Block : (rest : List Spot) (ss : List Stmt) → stmt_spots (stmt.Block ss) rest ≡ list_spots ss rest
unfolding stmt_spots hidden hidden-the_row-Stmt-0 shape-the_row-Stmt-0
spots-Block rest ss = spots_row ss rest

pub spots-Variable : (rest : List Spot) (v : LocalVariable) →
    stmt_spots (stmt.Variable v) rest ≡ declared v.storage v.place (initializer_spots v.initializer rest)
unfolding stmt_spots
spots-Variable rest v = refl

pub spots-Expression : (rest : List Spot) (e : Expr) → stmt_spots (stmt.Expression e) rest ≡ spots e rest
unfolding stmt_spots
spots-Expression rest e = refl

pub spots-If : (rest : List Spot) (c : Expr) (s : Stmt) (ss : List Stmt) → stmt_spots (stmt.If c s ss) rest ≡ spots c (stmt_spots s (list_spots ss rest))
unfolding stmt_spots hidden hidden-the_row-Stmt-0 shape-the_row-Stmt-0 hidden-the_row-Stmt-1 shape-the_row-Stmt-1
spots-If rest c s ss = ap (λ more. spots c (stmt_spots s more)) (spots_row ss rest)

pub spots-While : (rest : List Spot) (c : Expr) (s : Stmt) → stmt_spots (stmt.Loop While c s) rest ≡ spots c (stmt_spots s rest)
unfolding stmt_spots hidden hidden-the_row-Stmt-1 shape-the_row-Stmt-1
spots-While rest c s = refl

pub spots-DoWhile : (rest : List Spot) (c : Expr) (s : Stmt) → stmt_spots (stmt.Loop DoWhile c s) rest ≡ stmt_spots s (spots c rest)
unfolding stmt_spots hidden hidden-the_row-Stmt-1 shape-the_row-Stmt-1
spots-DoWhile rest c s = refl

pub spots-For : (rest : List Spot) (start : List Stmt) (test step : Option Expr) (s : Stmt) →
    stmt_spots (stmt.For start test step s) rest ≡ list_spots start (optional_spots test (stmt_spots s (optional_spots step rest)))
unfolding stmt_spots hidden hidden-the_row-Stmt-0 shape-the_row-Stmt-0 hidden-the_row-Stmt-1 shape-the_row-Stmt-1
spots-For rest start test step s = spots_row start (optional_spots test (stmt_spots s (optional_spots step rest)))

pub spots-Return : (rest : List Spot) (e : Option Expr) → stmt_spots (stmt.Return e) rest ≡ optional_spots e rest
unfolding stmt_spots
spots-Return rest e = refl

-- the counts of all forms
pub ruleset stmt_node_rules = (nodes-Block, nodes-Variable, nodes-Empty, nodes-Break, nodes-Continue, nodes-Expression, nodes-If, nodes-Loop, nodes-For, nodes-Return)

-- the places of all forms
pub ruleset stmt_spot_rules = (spots-Block, spots-Variable, spots-Expression, spots-If, spots-While, spots-DoWhile, spots-For, spots-Return)

-- the counts of all initializers
pub ruleset initializer_rules = (nodes-Absent, nodes-Bare, nodes-Braced, nodes-List, nodes-Text, nodes-Zeros, nodes-Mutex)
