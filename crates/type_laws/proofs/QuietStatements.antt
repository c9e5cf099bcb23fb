-- Statements add no level but where a conversion is warned of, each by the rule of its form.
use Rattle.std.proofs.Common.{ℕ, Bool, true, false, List, [], ◌∷◌, Option, Some, None}
use Rattle.std.specs.Prelude.{not, ◌++◌}
use denote.Hole.Carrier.{hidden}
use Rattle.eff_types.specs.Types.{is_void}
use Rattle.eff_types.specs.declared.types.CType.{CType}
use Rattle.c_tree.specs.declared.expressions.Expr as tree
use Rattle.c_tree.specs.declared.statements.BlockItem as item
use Rattle.c_tree.specs.declared.statements.BlockItem.{BlockItem}
use Rattle.c_tree.specs.declared.statements.ForStart.{ForStart}
use Rattle.c_tree.specs.declared.statements.ForStart.TheVariants as start
use Rattle.c_tree.specs.declared.statements.Stmt as written
use Rattle.c_tree.specs.declared.statements.Stmt.{Row_of-BlockItem, end_of-BlockItem, more_of-BlockItem, end_of-Stmt, more_of-Stmt, Held-Stmt-If-3}
use Rattle.core_unit.specs.Levels.{Keeps, OptionalKeeps, StmtKeeps, StmtsKeep}
use Rattle.core_unit.specs.Shapes.{is_scalar}
use Rattle.core_unit.specs.declared.body.LoopKind.{LoopKind}
use Rattle.core_unit.specs.declared.body.LoopKind.TheVariants.{While, DoWhile}
use Rattle.core_unit.specs.declared.body.Stmt.{Stmt}
use Rattle.core_unit.specs.declared.body.Stmt.TheBlock.{hidden-the_row-Stmt-0, shape-the_row-Stmt-0, hidden-the_row-Stmt-1, shape-the_row-Stmt-1}
use Rattle.core_unit.specs.declared.body.Stmt.TheVariants as stmt
use Rattle.core_unit.specs.declared.expressions.Expr.{Expr}
use Rattle.core_unit.specs.declared.tables.FunctionInfo.{FunctionInfo}
use Rattle.type_rules.specs.Conversions.{converted}
use Rattle.type_rules.specs.Operands.{operand}
use Rattle.type_rules.specs.Reading.{Read, and_then, where_written, scoped}
use Rattle.type_rules.specs.Recursion.{expression}
use Rattle.type_rules.specs.Seen.{Seen}
use Rattle.type_rules.specs.Statements.{evaluated, condition, expression_or_nothing, expression_statement, block, selection_of, selection, while_loop, do_loop, started, for_start, for_turns, for_loop, returned_as, returned, with_items, alone, jump, statement, otherwise, block_item, items_behind, list_behind, block_items}
use Rattle.type_laws.proofs.Each.{Each, each_joined}
use Rattle.type_laws.proofs.Quiet.{Always, Quiet, Quietly, then_quiet, gives_quiet, refused_quiet, anyway, under_quiet, scoped_quiet}
use Rattle.type_laws.proofs.QuietConversions.{converted_quiet}
use Rattle.type_laws.proofs.QuietDeclarations.{QuietStmts, block_declaration_quiet}
use Rattle.type_laws.proofs.QuietOperands.{operand_quiet}
use Rattle.type_laws.proofs.QuietTrees.{expression_quiet}

abbrev pub QuietStmt : Stmt → List FunctionInfo → Type 0
QuietStmt x u = StmtKeeps x

abbrev QuietExpr : Expr → List FunctionInfo → Type 0
QuietExpr e u = Keeps e

abbrev QuietOptional : Option Expr → List FunctionInfo → Type 0
QuietOptional e u = OptionalKeeps e

rows_keep : (ss : List Stmt) → Each StmtKeeps ss → StmtsKeep (hidden-the_row-Stmt-0 ss)
unfolding StmtKeeps hidden hidden-the_row-Stmt-0 shape-the_row-Stmt-0
rows_keep [] h = tt
rows_keep (x ∷ xs) h = (h.0, rows_keep xs h.1)

keeps-Block : (ss : List Stmt) → Each StmtKeeps ss → StmtKeeps (stmt.Block ss)
unfolding StmtKeeps hidden hidden-the_row-Stmt-0 shape-the_row-Stmt-0
keeps-Block ss h = rows_keep ss h

keeps-If : (c : Expr) (x : Stmt) (other : List Stmt) → Keeps c → StmtKeeps x → Each StmtKeeps other → StmtKeeps (stmt.If c x other)
unfolding StmtKeeps hidden hidden-the_row-Stmt-0 shape-the_row-Stmt-0 hidden-the_row-Stmt-1 shape-the_row-Stmt-1
keeps-If c x other p q h = (p, q, rows_keep other h)

keeps-Loop : (kind : LoopKind) (c : Expr) (x : Stmt) → Keeps c → StmtKeeps x → StmtKeeps (stmt.Loop kind c x)
unfolding StmtKeeps hidden hidden-the_row-Stmt-0 shape-the_row-Stmt-0 hidden-the_row-Stmt-1 shape-the_row-Stmt-1
keeps-Loop kind c x p q = (p, q)

keeps-For : (first : List Stmt) (test step : Option Expr) (x : Stmt) → Each StmtKeeps first → OptionalKeeps test → OptionalKeeps step → StmtKeeps x
    → StmtKeeps (stmt.For first test step x)
unfolding StmtKeeps hidden hidden-the_row-Stmt-0 shape-the_row-Stmt-0 hidden-the_row-Stmt-1 shape-the_row-Stmt-1
keeps-For first test step x a b c d = (rows_keep first a, b, c, d)

evaluated_quiet : (e : tree.Expr) → Quietly QuietExpr (evaluated e)
unfolding evaluated
evaluated_quiet e s =
    then_quiet s (operand (expression e) s) _ (operand_quiet Always s (expression e) (expression_quiet e)) (λ o t.
    gives_quiet t o.node (λ u ends p. p.1.node.keeps))

condition_quiet : (e : tree.Expr) → Quietly QuietExpr (condition e)
unfolding condition
condition_quiet e s =
    then_quiet s (operand (expression e) s) _ (operand_quiet Always s (expression e) (expression_quiet e)) (λ o t.
    refused_quiet t (not (is_scalar o.kind)) 3 o.place _ (λ scalar.
    gives_quiet t o.node (λ u ends p. p.1.node.keeps)))

written_quiet : (e : Option (tree.Expr)) (rule : tree.Expr → Seen → Read Expr) → ((x : tree.Expr) → Quietly QuietExpr (rule x)) → Quietly QuietOptional (where_written e rule)
written_quiet None rule keeps s = gives_quiet s None (λ u ends p. tt)
written_quiet (Some x) rule keeps s = then_quiet s (rule x s) _ (keeps x s) (λ b t. gives_quiet t (Some b) (λ u ends p. p.1))

nothing_keeps : (e : Option Expr) → OptionalKeeps e → StmtKeeps (expression_or_nothing e)
unfolding StmtKeeps
nothing_keeps (Some e) h = h
nothing_keeps None h = tt

expression_statement_quiet : (e : Option (tree.Expr)) → Quietly QuietStmt (expression_statement e)
unfolding expression_statement
expression_statement_quiet e s =
    then_quiet s (where_written e evaluated s) _ (written_quiet e evaluated evaluated_quiet s) (λ node t.
    gives_quiet t (expression_or_nothing node) (λ u ends p. nothing_keeps node p.1))

block_quiet : (items : Seen → Read (List Stmt)) → Quietly QuietStmts items → Quietly QuietStmt (block items)
unfolding block
block_quiet items keeps s =
    then_quiet s (scoped items s) _ (scoped_quiet QuietStmts items keeps s) (λ inner t. gives_quiet t (stmt.Block inner) (λ u ends p. keeps-Block inner p.1))

selection_quiet : (c : tree.Expr) (then_read : Seen → Read Stmt) (else_read : Seen → Read (List Stmt)) → Quietly QuietStmt then_read → Quietly QuietStmts else_read
    → Quietly QuietStmt (selection c then_read else_read)
unfolding selection selection_of
selection_quiet c then_read else_read first second s =
    then_quiet s (condition c s) _ (condition_quiet c s) (λ test t.
    then_quiet t (then_read t) _ (anyway t _ (first t)) (λ x v.
    then_quiet v (else_read v) _ (anyway v _ (second v)) (λ other w.
    gives_quiet w (stmt.If test x other) (λ u ends p. keeps-If test x other p.0.0.1 p.0.1 p.1))))

while_quiet : (c : tree.Expr) (body : Seen → Read Stmt) → Quietly QuietStmt body → Quietly QuietStmt (while_loop c body)
unfolding while_loop
while_quiet c body keeps s =
    then_quiet s (condition c s) _ (condition_quiet c s) (λ test t.
    then_quiet t (body t) _ (anyway t _ (keeps t)) (λ x v.
    gives_quiet v (stmt.Loop While test x) (λ u ends p. keeps-Loop While test x p.0.1 p.1)))

do_quiet : (c : tree.Expr) (body : Seen → Read Stmt) → Quietly QuietStmt body → Quietly QuietStmt (do_loop c body)
unfolding do_loop
do_quiet c body keeps s =
    then_quiet s (body s) _ (keeps s) (λ x t.
    then_quiet t (condition c t) _ (anyway t _ (condition_quiet c t)) (λ test v.
    gives_quiet v (stmt.Loop DoWhile test x) (λ u ends p. keeps-Loop DoWhile test x p.1 p.0.1)))

started_keeps : (e : Option Expr) → OptionalKeeps e → Each StmtKeeps (started e)
unfolding StmtKeeps
started_keeps (Some e) h = (h, tt)
started_keeps None h = tt

for_start_quiet : (begin : ForStart) → Quietly QuietStmts (for_start begin)
for_start_quiet (start.Declaration d) s = block_declaration_quiet d s
for_start_quiet (start.Expression e) s =
    then_quiet s (where_written e evaluated s) _ (written_quiet e evaluated evaluated_quiet s) (λ node t.
    gives_quiet t (started node) (λ u ends p. started_keeps node p.1))

for_turns_quiet : (first : List Stmt) (c next : Option (tree.Expr)) (body : Seen → Read Stmt) → Quietly QuietStmt body → (s : Seen)
    → Quiet (QuietStmts first) QuietStmt s (for_turns first c next body s)
unfolding for_turns
for_turns_quiet first c next body keeps s =
    then_quiet s (where_written c condition s) _ (anyway s _ (written_quiet c condition condition_quiet s)) (λ test t.
    then_quiet t (where_written next evaluated t) _ (anyway t _ (written_quiet next evaluated evaluated_quiet t)) (λ turn v.
    then_quiet v (body v) _ (anyway v _ (keeps v)) (λ x w.
    gives_quiet w (stmt.For first test turn x) (λ u ends p. keeps-For first test turn x p.0.0.0 p.0.0.1 p.0.1 p.1))))

for_quiet : (begin : ForStart) (c next : Option (tree.Expr)) (body : Seen → Read Stmt) → Quietly QuietStmt body → Quietly QuietStmt (for_loop begin c next body)
unfolding for_loop
for_quiet begin c next body keeps =
    scoped_quiet QuietStmt _ (λ s.
    then_quiet s (for_start begin s) _ (for_start_quiet begin s) (λ first t.
    under_quiet _ t _ (λ u p. p.1) (for_turns_quiet first c next body keeps t)))

return_keeps : (e : Option Expr) → OptionalKeeps e → StmtKeeps (stmt.Return e)
unfolding StmtKeeps
return_keeps e h = h

returned_as_quiet : (place : ℕ) (result : CType) (e : Option (tree.Expr)) → Quietly QuietStmt (returned_as place result e)
returned_as_quiet place result (Some e) s =
    then_quiet s (operand (expression e) s) _ (operand_quiet Always s (expression e) (expression_quiet e)) (λ o t.
    refused_quiet t (is_void result) 3 o.place _ (λ void.
    then_quiet t (converted result o t) _ (converted_quiet _ t result o (λ u p. p.1)) (λ v w.
    gives_quiet w (stmt.Return (Some v.node)) (λ u ends p. return_keeps (Some v.node) p.1.node.keeps))))
returned_as_quiet place result None s =
    refused_quiet s (not (is_void result)) 3 place _ (λ void. gives_quiet s (stmt.Return None) (λ u ends p. return_keeps None tt))

returned_quiet : (place : ℕ) (e : Option (tree.Expr)) → Quietly QuietStmt (returned place e)
unfolding returned and_then
returned_quiet place e s = returned_as_quiet place s.result e s

with_items_quiet : (before : List Stmt) (read : Seen → Read (List Stmt)) (rest : List Stmt → Seen → Read (List Stmt)) → Quietly QuietStmts read
    → ((all : List Stmt) (t : Seen) → Quiet (QuietStmts all) QuietStmts t (rest all t)) → (s : Seen) → Quiet (QuietStmts before) QuietStmts s (with_items before read rest s)
unfolding with_items
with_items_quiet before read rest keeps rest_keeps s =
    then_quiet s (read s) _ (anyway s _ (keeps s)) (λ some t.
    under_quiet _ t _ (λ u p. each_joined StmtKeeps before some p.0 p.1) (rest_keeps (before ++ some) t))

alone_quiet : (read : Seen → Read Stmt) → Quietly QuietStmt read → Quietly QuietStmts (alone read)
alone_quiet read keeps s = then_quiet s (read s) _ (keeps s) (λ x t. gives_quiet t (x ∷ []) (λ u ends p. (p.1, tt)))

jump_quiet : (looped : Bool) (place : ℕ) (x : Stmt) → StmtKeeps x → Quietly QuietStmt (jump looped place x)
jump_quiet looped place x h s = refused_quiet s (not looped) 3 place _ (λ inside. gives_quiet s x (λ u ends p. h))

break_keeps : StmtKeeps stmt.Break × StmtKeeps stmt.Continue
unfolding StmtKeeps
break_keeps = (tt, tt)

mutual
  unfolding statement and_then

  pub statement_quiet : (x : written.Stmt) (looped : Bool) → Quietly QuietStmt (statement looped x)
  statement_quiet (written.Block' place _ items) looped = block_quiet (items_behind looped [] items) (λ s. under_quiet Always s _ (λ u p. tt) (items_quiet items looped [] s))
  statement_quiet (written.Expression place e) looped = expression_statement_quiet e
  statement_quiet (written.If' place c _ (more_of-Stmt x end_of-Stmt) other) looped =
      selection_quiet c (statement looped x) (otherwise looped other) (statement_quiet x looped) (otherwise_quiet other looped)
  statement_quiet (written.While' place c _ (more_of-Stmt x end_of-Stmt)) looped = while_quiet c (statement true x) (statement_quiet x true)
  statement_quiet (written.DoWhile' place _ (more_of-Stmt x end_of-Stmt) c) looped = do_quiet c (statement true x) (statement_quiet x true)
  statement_quiet (written.For' place begin c next _ (more_of-Stmt x end_of-Stmt)) looped = for_quiet begin c next (statement true x) (statement_quiet x true)
  statement_quiet (written.Break place) looped = jump_quiet looped place stmt.Break break_keeps.0
  statement_quiet (written.Continue place) looped = jump_quiet looped place stmt.Continue break_keeps.1
  statement_quiet (written.Return place e) looped = returned_quiet place e

  otherwise_quiet : (other : Held-Stmt-If-3) (looped : Bool) → Quietly QuietStmts (otherwise looped other)
  otherwise_quiet written.None' looped s = gives_quiet s [] (λ u ends p. tt)
  otherwise_quiet (written.Some' _ (more_of-Stmt x end_of-Stmt)) looped s = alone_quiet (statement looped x) (statement_quiet x looped) s

  pub item_quiet : (i : BlockItem) (looped : Bool) → Quietly QuietStmts (block_item looped i)
  item_quiet (item.Declaration d) looped s = block_declaration_quiet d s
  item_quiet (item.Statement' _ (more_of-Stmt x end_of-Stmt)) looped s = alone_quiet (statement looped x) (statement_quiet x looped) s

  items_quiet : {n : _} (is : Row_of-BlockItem n) (looped : Bool) (before : List Stmt) (s : Seen) → Quiet (QuietStmts before) QuietStmts s (items_behind looped before is s)
  items_quiet end_of-BlockItem looped before s = gives_quiet s before (λ u ends p. p)
  items_quiet (more_of-BlockItem i is) looped before s =
      with_items_quiet before (block_item looped i) (λ all. items_behind looped all is) (item_quiet i looped) (λ all t. items_quiet is looped all t) s

list_quiet : (is : List BlockItem) (before : List Stmt) (s : Seen) → Quiet (QuietStmts before) QuietStmts s (list_behind before is s)
unfolding list_behind
list_quiet [] before s = gives_quiet s before (λ u ends p. p)
list_quiet (i ∷ is) before s = with_items_quiet before (block_item false i) (λ all. list_behind all is) (item_quiet i false) (λ all t. list_quiet is all t) s

-- what stands in a function's outermost block
pub block_items_quiet : (items : List BlockItem) → Quietly QuietStmts (block_items items)
unfolding block_items
block_items_quiet items s = under_quiet Always s _ (λ u p. tt) (list_quiet items [] s)
