-- Statements (C17 6.8).
use Rattle.std.specs.Prelude.{ℕ, Bool, true, false, not, List, [], ◌∷◌, ◌++◌, Option, Some, None}
use Rattle.eff_types.specs.Types.{is_void}
use Rattle.eff_types.specs.declared.types.CType.{CType}
use Rattle.c_tree.specs.declared.expressions.Expr as tree
use Rattle.c_tree.specs.declared.statements.BlockItem as item
use Rattle.c_tree.specs.declared.statements.BlockItem.{BlockItem}
use Rattle.c_tree.specs.declared.statements.ForStart.{ForStart}
use Rattle.c_tree.specs.declared.statements.ForStart.TheVariants as start
use Rattle.c_tree.specs.declared.statements.Stmt as written
use Rattle.c_tree.specs.declared.statements.Stmt.{Row_of-BlockItem, end_of-BlockItem, more_of-BlockItem, Row_of-Stmt, end_of-Stmt, more_of-Stmt, Held-Stmt-If-3}
use Rattle.core_unit.specs.Shapes.{is_scalar}
use Rattle.core_unit.specs.declared.body.LoopKind.TheVariants.{While, DoWhile}
use Rattle.core_unit.specs.declared.body.Stmt.{Stmt}
use Rattle.core_unit.specs.declared.body.Stmt.TheVariants as stmt
use Rattle.core_unit.specs.declared.expressions.Expr.{Expr}
use Rattle.type_rules.specs.Conversions.{converted}
use Rattle.type_rules.specs.Declarations.{block_declaration}
use Rattle.type_rules.specs.declared.found.Found.{Found}
use Rattle.type_rules.specs.Operands.{operand}
use Rattle.type_rules.specs.Reading.{Rule, gives, refused, seen, scoped, where_written, ◌>>=◌, ◌>>◌}
use Rattle.type_rules.specs.Recursion.{expression}

-- an expression that is evaluated, and whose value is let go (C17 6.8.3)
unfoldable pub evaluated : tree.Expr → Rule Expr
evaluated e = do
  o ← operand (expression e)
  gives o.node

-- a condition (C17 6.8.4.1 and 6.8.5): a number or a pointer
unfoldable pub condition : tree.Expr → Rule Expr
condition e = do
  o ← operand (expression e)
  refused (not (is_scalar o.kind)) 3 o.place
  gives o.node

abbrev pub expression_or_nothing : Option Expr → Stmt
expression_or_nothing (Some e) = stmt.Expression e
expression_or_nothing None = stmt.Empty

unfoldable pub expression_statement : Option (tree.Expr) → Rule Stmt
expression_statement e = do
  node ← where_written e evaluated
  gives (expression_or_nothing node)

unfoldable pub block : Rule (List Stmt) → Rule Stmt
block items = do
  inner ← scoped items
  gives (stmt.Block inner)

-- `if` (C17 6.8.4.1)
unfoldable pub selection_of : Expr → Rule Stmt → Rule (List Stmt) → Rule Stmt
selection_of test then_read else_read = do
  s ← then_read
  other ← else_read
  gives (stmt.If test s other)

unfoldable pub selection : tree.Expr → Rule Stmt → Rule (List Stmt) → Rule Stmt
selection c then_read else_read = do
  test ← condition c
  selection_of test then_read else_read

-- `while` and `do` (C17 6.8.5), whose parts are read in their order
unfoldable pub while_loop : tree.Expr → Rule Stmt → Rule Stmt
while_loop c body = do
  test ← condition c
  s ← body
  gives (stmt.Loop While test s)

unfoldable pub do_loop : tree.Expr → Rule Stmt → Rule Stmt
do_loop c body = do
  s ← body
  test ← condition c
  gives (stmt.Loop DoWhile test s)

-- `for` (C17 6.8.5.3): its start, its condition, what ends each turn, and its body, in a scope of its own
abbrev pub started : Option Expr → List Stmt
started (Some e) = stmt.Expression e ∷ []
started None = []

abbrev pub for_start : ForStart → Rule (List Stmt)
for_start (start.Declaration d) = block_declaration d
for_start (start.Expression e) = do
  node ← where_written e evaluated
  gives (started node)

unfoldable pub for_turns : List Stmt → Option (tree.Expr) → Option (tree.Expr) → Rule Stmt → Rule Stmt
for_turns first c next body = do
  test ← where_written c condition
  turn ← where_written next evaluated
  s ← body
  gives (stmt.For first test turn s)

unfoldable pub for_loop : ForStart → Option (tree.Expr) → Option (tree.Expr) → Rule Stmt → Rule Stmt
for_loop begin c next body = scoped (do
  first ← for_start begin
  for_turns first c next body)

-- `return` (C17 6.8.6.4): with a value that converts to the type of the result, and without one where that is `void`
abbrev pub returned_value : CType → Rule Found → Rule Stmt
returned_value result read = do
  o ← operand read
  refused (is_void result) 3 o.place
  v ← converted result o
  gives (stmt.Return (Some v.node))

abbrev pub returned_nothing : ℕ → CType → Rule Stmt
returned_nothing place result = do
  refused (not (is_void result)) 3 place
  gives (stmt.Return None)

abbrev pub returned_as : ℕ → CType → Option (tree.Expr) → Rule Stmt
returned_as place result (Some e) = returned_value result (expression e)
returned_as place result None = returned_nothing place result

unfoldable pub returned : ℕ → Option (tree.Expr) → Rule Stmt
returned place e = do
  s ← seen
  returned_as place s.result e

-- what stands in a block, behind what was read of it
unfoldable pub with_items : List Stmt → Rule (List Stmt) → (List Stmt → Rule (List Stmt)) → Rule (List Stmt)
with_items before read rest = do
  some ← read
  rest (before ++ some)

abbrev pub alone : Rule Stmt → Rule (List Stmt)
alone read = do
  s ← read
  gives (s ∷ [])

-- `break` and `continue` stand inside a loop (C17 6.8.6), which the grammar asks already
abbrev pub jump : Bool → ℕ → Stmt → Rule Stmt
jump looped place s = do
  refused (not looped) 3 place
  gives s

-- `looped`: inside a loop
unfoldable mutual
  pub statement : Bool → written.Stmt → Rule Stmt
  statement looped (written.Block' place _ items) = block (items_behind looped [] items)
  statement looped (written.Expression place e) = expression_statement e
  statement looped (written.If' place c _ (more_of-Stmt s end_of-Stmt) other) = selection c (statement looped s) (otherwise looped other)
  statement looped (written.While' place c _ (more_of-Stmt s end_of-Stmt)) = while_loop c (statement true s)
  statement looped (written.DoWhile' place _ (more_of-Stmt s end_of-Stmt) c) = do_loop c (statement true s)
  statement looped (written.For' place begin c next _ (more_of-Stmt s end_of-Stmt)) = for_loop begin c next (statement true s)
  statement looped (written.Break place) = jump looped place stmt.Break
  statement looped (written.Continue place) = jump looped place stmt.Continue
  statement looped (written.Return place e) = returned place e

  -- at most one statement behind `else`
  pub otherwise : Bool → Held-Stmt-If-3 → Rule (List Stmt)
  otherwise looped written.None' = gives []
  otherwise looped (written.Some' _ (more_of-Stmt s end_of-Stmt)) = alone (statement looped s)

  pub block_item : Bool → BlockItem → Rule (List Stmt)
  block_item looped (item.Declaration d) = block_declaration d
  block_item looped (item.Statement' _ (more_of-Stmt s end_of-Stmt)) = alone (statement looped s)

  pub items_behind : {n : _} → Bool → List Stmt → Row_of-BlockItem n → Rule (List Stmt)
  items_behind looped before end_of-BlockItem = gives before
  items_behind looped before (more_of-BlockItem i is) = with_items before (block_item looped i) (λ all. items_behind looped all is)

unfoldable pub list_behind : List Stmt → List BlockItem → Rule (List Stmt)
list_behind before [] = gives before
list_behind before (i ∷ is) = with_items before (block_item false i) (λ all. list_behind all is)

-- what stands in a function's outermost block, which has the scope of its parameters
unfoldable pub block_items : List BlockItem → Rule (List Stmt)
block_items items = list_behind [] items
