-- What remains of the rules of statements once their parts are read.
use Rattle.std.specs.Prelude.{Bool, List, [], ◌++◌, Option, Some, None}
use Rattle.c_tree.specs.declared.expressions.Expr as tree
use Rattle.c_tree.specs.declared.statements.BlockItem.{BlockItem}
use Rattle.c_tree.specs.declared.statements.External.{External}
use Rattle.c_tree.specs.declared.statements.ForStart.{ForStart}
use Rattle.c_tree.specs.declared.statements.Stmt.{Stmt as Written}
use Rattle.core_unit.specs.declared.body.Stmt.{Stmt}
use Rattle.type_recursion.specs.Lists.{in_order}
use Rattle.type_rules.specs.Reading.{Rule, gives, where_written, enter, ◌>>=◌, ◌>>◌}
use Rattle.type_rules.specs.Statements.{alone, block_item, condition, evaluated, for_start, statement}
use Rattle.type_rules.specs.Units.{external_read}
use Rattle.type_statements.specs.declared.loops.ForHead.{ForHead}

-- one item more of a block, behind those before it
unfoldable pub one_item : Bool → BlockItem → List Stmt → Rule (List Stmt)
one_item looped i before = do
  some ← block_item looped i
  gives (before ++ some)

-- what stands in a block, inside a loop or not
unfoldable pub item_list : Bool → List BlockItem → Rule (List Stmt)
item_list looped items = in_order (one_item looped) items []

-- at most one statement behind `else`
unfoldable pub otherwise : Bool → Option Written → Rule (List Stmt)
otherwise looped None = gives []
otherwise looped (Some s) = alone (statement looped s)

-- what a `for` reads before its body, in a scope that it opens
unfoldable pub for_head : ForStart → Option (tree.Expr) → Option (tree.Expr) → Rule ForHead
for_head begin c next = do
  enter
  first ← for_start begin
  test ← where_written c condition
  turn ← where_written next evaluated
  gives (record { first = first; test = test; turn = turn })

-- one external declaration more
unfoldable pub one_external : External → Unit {0} → Rule (Unit {0})
one_external e before = external_read e
