-- The nodes of a tree stand in order in its source. A part stands from one place, a byte offset, to another: what is called in it is called from
-- the one on, and before the other. What stands behind it stands from there on. Of the nodes only calls are asked for their places, by which call
-- sites are numbered; types aren't asked, since nothing is called in them.
use Rattle.std.specs.Prelude.{◌≡◌, ◌<◌, ◌≤◌, ℕ, List, [], ◌∷◌, Option, Some, None}
use Rattle.c_tree.specs.declared.declarations.Decl.{Decl}
use Rattle.c_tree.specs.declared.declarations.Init as init
use Rattle.c_tree.specs.declared.declarations.Init.{Init, Row_of-Init, end_of-Init, more_of-Init}
use Rattle.c_tree.specs.declared.declarations.InitDeclarator.{InitDeclarator}
use Rattle.c_tree.specs.declared.expressions.Expr as expr
use Rattle.c_tree.specs.declared.expressions.Expr.{Expr, Row_of-Expr, end_of-Expr, more_of-Expr}
use Rattle.c_tree.specs.declared.statements.BlockItem as item
use Rattle.c_tree.specs.declared.statements.BlockItem.{BlockItem}
use Rattle.c_tree.specs.declared.statements.External.TheVariants as external
use Rattle.c_tree.specs.declared.statements.External.{External}
use Rattle.c_tree.specs.declared.statements.ForStart.TheVariants as start
use Rattle.c_tree.specs.declared.statements.ForStart.{ForStart}
use Rattle.c_tree.specs.declared.statements.Stmt as statement
use Rattle.c_tree.specs.declared.statements.Stmt.{Stmt, Row_of-BlockItem, end_of-BlockItem, more_of-BlockItem, Row_of-Stmt, end_of-Stmt, more_of-Stmt, Held-Stmt-If-3}
use Rattle.c_tree.specs.declared.statements.Tree.{Tree}

-- one part behind the other
abbrev pub Then : (first second : ℕ → ℕ → Type 0) → ℕ → ℕ → Type 0
Then first second from to = (middle : ℕ) × first from middle × second middle to

-- a part behind the first token of the whole
abbrev pub Behind : (part : ℕ → ℕ → Type 0) → ℕ → ℕ → Type 0
Behind part from to = (begin : ℕ) × (from < begin) × part begin to

-- An expression begins at `from`, and a call there is the call of what begins there.
unfoldable mutual
  pub ExprStands : Expr → ℕ → ℕ → Type 0
  ExprStands (expr.Parenthesised' _ _ (more_of-Expr e end_of-Expr)) from to = Behind (ExprStands e) from to
  ExprStands (expr.Index' _ _ (more_of-Expr a end_of-Expr) _ (more_of-Expr i end_of-Expr)) from to = Then (ExprStands a) (ExprStands i) from to
  ExprStands (expr.Call' place _ (more_of-Expr f end_of-Expr) _ arguments) from to = (place ≡ from) × Then (ExprStands f) (ExprsStand arguments) from to
  ExprStands (expr.Access' _ _ (more_of-Expr e end_of-Expr) _ _) from to = ExprStands e from to
  ExprStands (expr.Step' _ _ (more_of-Expr e end_of-Expr) _) from to = ExprStands e from to
  ExprStands (expr.Unary' _ _ _ (more_of-Expr e end_of-Expr)) from to = Behind (ExprStands e) from to
  ExprStands (expr.Cast' _ _ _ _ (more_of-Expr e end_of-Expr)) from to = Behind (ExprStands e) from to
  ExprStands (expr.Binary' _ _ (more_of-Expr a end_of-Expr) _ _ _ (more_of-Expr b end_of-Expr)) from to = Then (ExprStands a) (ExprStands b) from to
  ExprStands (expr.Conditional' _ _ (more_of-Expr a end_of-Expr) _ (more_of-Expr b end_of-Expr) _ (more_of-Expr c end_of-Expr)) from to =
      Then (ExprStands a) (Then (ExprStands b) (ExprStands c)) from to
  ExprStands (expr.Assignment' _ _ (more_of-Expr a end_of-Expr) _ _ _ (more_of-Expr b end_of-Expr)) from to =
      Then (ExprStands a) (ExprStands b) from to
  ExprStands _ from to = from < to

  pub ExprsStand : {n : _} → Row_of-Expr n → ℕ → ℕ → Type 0
  ExprsStand end_of-Expr from to = from ≤ to
  ExprsStand (more_of-Expr e es) from to = Then (ExprStands e) (ExprsStand es) from to

abbrev pub OptionalStands : Option Expr → ℕ → ℕ → Type 0
OptionalStands None from to = from ≤ to
OptionalStands (Some e) from to = ExprStands e from to

unfoldable mutual
  pub InitStands : Init → ℕ → ℕ → Type 0
  InitStands (init.Value e) from to = ExprStands e from to
  InitStands (init.List' _ _ inits) from to = Behind (InitsStand inits) from to

  pub InitsStand : {n : _} → Row_of-Init n → ℕ → ℕ → Type 0
  InitsStand end_of-Init from to = from ≤ to
  InitsStand (more_of-Init i is) from to = Then (InitStands i) (InitsStand is) from to

-- an initializer behind its declarator
abbrev pub InitialStands : Option Init → ℕ → ℕ → Type 0
InitialStands None from to = from ≤ to
InitialStands (Some i) from to = Behind (InitStands i) from to

abbrev pub DeclaratorsStand : List InitDeclarator → ℕ → ℕ → Type 0
DeclaratorsStand [] from to = from ≤ to
DeclaratorsStand (d ∷ ds) from to = Then (InitialStands d.init) (DeclaratorsStand ds) from to

unfoldable pub DeclStands : Decl → ℕ → ℕ → Type 0
DeclStands d from to = DeclaratorsStand d.declarators from to

abbrev pub StartStands : ForStart → ℕ → ℕ → Type 0
StartStands (start.Declaration d) from to = DeclStands d from to
StartStands (start.Expression e) from to = OptionalStands e from to

unfoldable mutual
  pub StmtStands : Stmt → ℕ → ℕ → Type 0
  StmtStands (statement.Block' _ _ items) from to = Behind (ItemsStand items) from to
  StmtStands (statement.Expression _ e) from to = OptionalStands e from to
  StmtStands (statement.If' _ c _ (more_of-Stmt s end_of-Stmt) other) from to = Behind (Then (ExprStands c) (Then (StmtStands s) (ElseStands other))) from to
  StmtStands (statement.While' _ c _ (more_of-Stmt s end_of-Stmt)) from to = Behind (Then (ExprStands c) (StmtStands s)) from to
  StmtStands (statement.DoWhile' _ _ (more_of-Stmt s end_of-Stmt) c) from to = Behind (Then (StmtStands s) (ExprStands c)) from to
  StmtStands (statement.For' _ first c next _ (more_of-Stmt s end_of-Stmt)) from to =
      Behind (Then (StartStands first) (Then (OptionalStands c) (Then (OptionalStands next) (StmtStands s)))) from to
  StmtStands (statement.Return _ e) from to = Behind (OptionalStands e) from to
  StmtStands _ from to = from ≤ to

  pub ElseStands : Held-Stmt-If-3 → ℕ → ℕ → Type 0
  ElseStands statement.None' from to = from ≤ to
  ElseStands (statement.Some' _ (more_of-Stmt s end_of-Stmt)) from to = StmtStands s from to

  pub ItemStands : BlockItem → ℕ → ℕ → Type 0
  ItemStands (item.Declaration d) from to = DeclStands d from to
  ItemStands (item.Statement' _ (more_of-Stmt s end_of-Stmt)) from to = StmtStands s from to

  pub ItemsStand : {n : _} → Row_of-BlockItem n → ℕ → ℕ → Type 0
  ItemsStand end_of-BlockItem from to = from ≤ to
  ItemsStand (more_of-BlockItem i is) from to = Then (ItemStands i) (ItemsStand is) from to

-- the same of a list, as a body holds it
abbrev pub ListStands : List BlockItem → ℕ → ℕ → Type 0
ListStands [] from to = from ≤ to
ListStands (i ∷ is) from to = Then (ItemStands i) (ListStands is) from to

-- What is declared outside functions calls nothing.
abbrev pub ExternalStands : External → Type 0
ExternalStands (external.Declaration d) = Unit {0}
ExternalStands (external.Function f) = (from : ℕ) × (to : ℕ) × ListStands f.body from to

abbrev pub ExternalsStand : List External → Type 0
ExternalsStand [] = Unit {0}
ExternalsStand (e ∷ es) = ExternalStands e × ExternalsStand es

unfoldable pub StandsInOrder : Tree → Type 0
StandsInOrder t = ExternalsStand t.externals
