-- How deep trees are: the longest path of nodes (this project's own rule). What is a node adds one to the deepest of what stands
-- inside it; what is none passes on the deepest of its own.
use Rattle.std.specs.Prelude.{ℕ, ◌+◌, ◌-◌, ◌^◌, max, min, List, [], ◌∷◌, map, Option, Some, None}
use Rattle.c_tree.specs.declared.declarations.Decl.{Decl}
use Rattle.c_tree.specs.declared.declarations.FunctionDefinition.{FunctionDefinition}
use Rattle.c_tree.specs.declared.declarations.Init as init
use Rattle.c_tree.specs.declared.declarations.Init.{Init, Row_of-Init, end_of-Init, more_of-Init}
use Rattle.c_tree.specs.declared.declarations.InitDeclarator.{InitDeclarator}
use Rattle.c_tree.specs.declared.expressions.Declarator as declarator
use Rattle.c_tree.specs.declared.expressions.Declarator.{Declarator, Row_of-Declarator, end_of-Declarator, more_of-Declarator, Held-Declarator-Array-2}
use Rattle.c_tree.specs.declared.expressions.Enumerator.{Enumerator}
use Rattle.c_tree.specs.declared.expressions.Member.{Member}
use Rattle.c_tree.specs.declared.expressions.Param.{Param}
use Rattle.c_tree.specs.declared.expressions.TypeName.{TypeName}
use Rattle.c_tree.specs.declared.expressions.Expr as expr
use Rattle.c_tree.specs.declared.expressions.Expr.{Expr, Row_of-Expr, end_of-Expr, more_of-Expr, Row_of-TypeName, end_of-TypeName, more_of-TypeName}
use Rattle.c_tree.specs.declared.expressions.Parameters as params
use Rattle.c_tree.specs.declared.expressions.Parameters.{Parameters, Row_of-Param, end_of-Param, more_of-Param}
use Rattle.c_tree.specs.declared.expressions.Spec as spec
use Rattle.c_tree.specs.declared.expressions.Spec.{Spec, Row_of-Spec, end_of-Spec, more_of-Spec, Row_of-Member, end_of-Member, more_of-Member, Row_of-Enumerator, end_of-Enumerator, more_of-Enumerator}
use Rattle.c_tree.specs.declared.statements.BlockItem as item
use Rattle.c_tree.specs.declared.statements.BlockItem.{BlockItem}
use Rattle.c_tree.specs.declared.statements.External.TheVariants as external
use Rattle.c_tree.specs.declared.statements.External.{External}
use Rattle.c_tree.specs.declared.statements.ForStart.TheVariants as start
use Rattle.c_tree.specs.declared.statements.ForStart.{ForStart}
use Rattle.c_tree.specs.declared.statements.Stmt as statement
use Rattle.c_tree.specs.declared.statements.Stmt.{Stmt, Row_of-BlockItem, end_of-BlockItem, more_of-BlockItem, Row_of-Stmt, end_of-Stmt, more_of-Stmt, Held-Stmt-If-3}
use Rattle.c_tree.specs.declared.statements.Tree.{Tree}

-- one node, round what is this deep
abbrev pub node : ℕ → ℕ
node inside = inside + 1

-- the greatest, and 0 where there is none
abbrev pub deepest : List ℕ → ℕ
deepest [] = 0
deepest (n ∷ ns) = max n (deepest ns)

-- as a 32-bit number that stays at its last value
unfoldable pub saturated : ℕ → ℕ
saturated n = min n (2 ^ 32 - 1)

-- Expressions and what leads back to them. Nodes are: every primary, parentheses, index, call, member access, operator application
-- (comma, assignment, `?:` and both forms of `sizeof` included), cast, and the parts of a declarator. No nodes are: specifiers,
-- type names, members, enumerators, parameters, attributes and a declared name.
unfoldable mutual
  pub expr_depth : Expr → ℕ
  expr_depth (expr.Parenthesised' _ _ (more_of-Expr e end_of-Expr)) = node (expr_depth e)
  expr_depth (expr.Index' _ _ (more_of-Expr a end_of-Expr) _ (more_of-Expr i end_of-Expr)) = node (max (expr_depth a) (expr_depth i))
  expr_depth (expr.Call' _ _ (more_of-Expr f end_of-Expr) _ arguments) = node (max (expr_depth f) (exprs_depth arguments))
  expr_depth (expr.Access' _ _ (more_of-Expr e end_of-Expr) _ _) = node (expr_depth e)
  expr_depth (expr.Step' _ _ (more_of-Expr e end_of-Expr) _) = node (expr_depth e)
  expr_depth (expr.Unary' _ _ _ (more_of-Expr e end_of-Expr)) = node (expr_depth e)
  expr_depth (expr.SizeofType' _ _ (more_of-TypeName _ _ specs _ (more_of-Declarator d end_of-Declarator) end_of-TypeName)) = node (max (specs_depth specs) (declarator_depth d))
  expr_depth (expr.Cast' _ _ (more_of-TypeName _ _ specs _ (more_of-Declarator d end_of-Declarator) end_of-TypeName) _ (more_of-Expr e end_of-Expr)) =
      node (max (max (specs_depth specs) (declarator_depth d)) (expr_depth e))
  expr_depth (expr.Binary' _ _ (more_of-Expr a end_of-Expr) _ _ _ (more_of-Expr b end_of-Expr)) = node (max (expr_depth a) (expr_depth b))
  expr_depth (expr.Conditional' _ _ (more_of-Expr a end_of-Expr) _ (more_of-Expr b end_of-Expr) _ (more_of-Expr c end_of-Expr)) =
      node (max (expr_depth a) (max (expr_depth b) (expr_depth c)))
  expr_depth (expr.Assignment' _ _ (more_of-Expr a end_of-Expr) _ _ _ (more_of-Expr b end_of-Expr)) = node (max (expr_depth a) (expr_depth b))
  expr_depth _ = node 0

  pub exprs_depth : {n : _} → Row_of-Expr n → ℕ
  exprs_depth end_of-Expr = 0
  exprs_depth (more_of-Expr e es) = max (expr_depth e) (exprs_depth es)

  pub spec_depth : Spec → ℕ
  spec_depth (spec.Struct' _ _ _ members) = members_depth members
  spec_depth (spec.Enum' _ _ _ enumerators) = enumerators_depth enumerators
  spec_depth _ = 0

  pub specs_depth : {n : _} → Row_of-Spec n → ℕ
  specs_depth end_of-Spec = 0
  specs_depth (more_of-Spec s ss) = max (spec_depth s) (specs_depth ss)

  pub members_depth : {n : _} → Row_of-Member n → ℕ
  members_depth end_of-Member = 0
  members_depth (more_of-Member _ _ specs _ ds ms) = max (max (specs_depth specs) (declarators_depth ds)) (members_depth ms)

  pub enumerators_depth : {n : _} → Row_of-Enumerator n → ℕ
  enumerators_depth end_of-Enumerator = 0
  enumerators_depth (more_of-Enumerator _ value es) = max (written_depth value) (enumerators_depth es)

  -- of an array's size or an enumerator's value, where it is written
  pub written_depth : Held-Declarator-Array-2 → ℕ
  written_depth declarator.None' = 0
  written_depth (declarator.Some' _ (more_of-Expr e end_of-Expr)) = expr_depth e

  -- a `*` contains what follows it in the declarator; brackets and a parameter list contain what stands before them
  pub declarator_depth : Declarator → ℕ
  declarator_depth (declarator.Pointer' _ _ _ (more_of-Declarator d end_of-Declarator)) = node (declarator_depth d)
  declarator_depth (declarator.Parenthesised' _ _ (more_of-Declarator d end_of-Declarator)) = node (declarator_depth d)
  declarator_depth (declarator.Array' _ (more_of-Declarator d end_of-Declarator) _ size) = node (max (declarator_depth d) (written_depth size))
  declarator_depth (declarator.Function' _ (more_of-Declarator d end_of-Declarator) _ ps _) = node (max (declarator_depth d) (parameters_depth ps))
  declarator_depth _ = 0

  pub declarators_depth : {n : _} → Row_of-Declarator n → ℕ
  declarators_depth end_of-Declarator = 0
  declarators_depth (more_of-Declarator d ds) = max (declarator_depth d) (declarators_depth ds)

  pub parameters_depth : Parameters → ℕ
  parameters_depth (params.List' _ ps) = params_depth ps
  parameters_depth _ = 0

  pub params_depth : {n : _} → Row_of-Param n → ℕ
  params_depth end_of-Param = 0
  params_depth (more_of-Param _ _ specs _ (more_of-Declarator d end_of-Declarator) ps) = max (max (specs_depth specs) (declarator_depth d)) (params_depth ps)

-- the same of the parts that are no nodes, each by itself
abbrev pub optional_depth : Option Expr → ℕ
optional_depth None = 0
optional_depth (Some e) = expr_depth e

abbrev pub type_name_depth : TypeName → ℕ
type_name_depth t = max (deepest (map spec_depth t.specs)) (declarator_depth t.declarator)

abbrev pub member_depth : Member → ℕ
member_depth m = max (deepest (map spec_depth m.specs)) (deepest (map declarator_depth m.declarators))

abbrev pub enumerator_depth : Enumerator → ℕ
enumerator_depth e = optional_depth e.value

abbrev pub param_depth : Param → ℕ
param_depth p = max (deepest (map spec_depth p.specs)) (declarator_depth p.declarator)

-- An initializer in braces is a node.
unfoldable mutual
  pub init_depth : Init → ℕ
  init_depth (init.Value e) = expr_depth e
  init_depth (init.List' _ _ inits) = node (inits_depth inits)

  pub inits_depth : {n : _} → Row_of-Init n → ℕ
  inits_depth end_of-Init = 0
  inits_depth (more_of-Init i is) = max (init_depth i) (inits_depth is)

abbrev pub initial_depth : Option Init → ℕ
initial_depth None = 0
initial_depth (Some i) = init_depth i

abbrev pub init_declarator_depth : InitDeclarator → ℕ
init_declarator_depth i = max (declarator_depth i.declarator) (initial_depth i.init)

-- A declaration is a node.
unfoldable pub declaration_depth : Decl → ℕ
declaration_depth d = node (max (deepest (map spec_depth d.specs)) (deepest (map init_declarator_depth d.declarators)))

abbrev pub start_depth : ForStart → ℕ
start_depth (start.Declaration d) = declaration_depth d
start_depth (start.Expression e) = optional_depth e

-- Each statement is a node; a block is the same node as the statement that it is.
unfoldable mutual
  pub statement_depth : Stmt → ℕ
  statement_depth (statement.Block' _ _ items) = node (items_depth items)
  statement_depth (statement.Expression _ e) = node (optional_depth e)
  statement_depth (statement.If' _ c _ (more_of-Stmt s end_of-Stmt) other) = node (max (expr_depth c) (max (statement_depth s) (else_depth other)))
  statement_depth (statement.While' _ c _ (more_of-Stmt s end_of-Stmt)) = node (max (expr_depth c) (statement_depth s))
  statement_depth (statement.DoWhile' _ _ (more_of-Stmt s end_of-Stmt) c) = node (max (statement_depth s) (expr_depth c))
  statement_depth (statement.For' _ first c next _ (more_of-Stmt s end_of-Stmt)) =
      node (max (max (start_depth first) (max (optional_depth c) (optional_depth next))) (statement_depth s))
  statement_depth (statement.Return _ e) = node (optional_depth e)
  statement_depth _ = node 0

  pub else_depth : Held-Stmt-If-3 → ℕ
  else_depth statement.None' = 0
  else_depth (statement.Some' _ (more_of-Stmt s end_of-Stmt)) = statement_depth s

  pub item_depth : BlockItem → ℕ
  item_depth (item.Declaration d) = declaration_depth d
  item_depth (item.Statement' _ (more_of-Stmt s end_of-Stmt)) = statement_depth s

  pub items_depth : {n : _} → Row_of-BlockItem n → ℕ
  items_depth end_of-BlockItem = 0
  items_depth (more_of-BlockItem i is) = max (item_depth i) (items_depth is)

abbrev pub optional_statement_depth : Option Stmt → ℕ
optional_statement_depth None = 0
optional_statement_depth (Some s) = statement_depth s

-- A function definition is a node, and its body is another inside it.
unfoldable pub definition_depth : FunctionDefinition → ℕ
definition_depth f =
    node (max (max (deepest (map spec_depth f.specs)) (declarator_depth f.declarator)) (node (deepest (map item_depth f.body))))

abbrev pub external_depth : External → ℕ
external_depth (external.Declaration d) = declaration_depth d
external_depth (external.Function f) = definition_depth f

unfoldable pub tree_depth : Tree → ℕ
tree_depth t = deepest (map external_depth t.externals)
