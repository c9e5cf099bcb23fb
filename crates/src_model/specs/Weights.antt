-- At most so many quiet steps come before the next event: eight times the measure of a tree, and one for each other task. What follows an event
-- isn't counted by the task that makes it, so a loop counts its parts once.
use Rattle.std.specs.Prelude.{ℕ, ◌+◌, ◌*◌, List, [], ◌∷◌, Option, Some, None}
use Rattle.core_unit.specs.Stores.{stores, Stored, Value as StoredValue}
use Rattle.core_unit.specs.declared.body.Stmt as stmt
use Rattle.core_unit.specs.declared.body.Stmt.{Stmt, Row_of-Stmt, end_of-Stmt, more_of-Stmt}
use Rattle.core_unit.specs.declared.expressions.Expr as expr
use Rattle.core_unit.specs.declared.expressions.Expr.{Expr, Row_of-Expr, end_of-Expr, more_of-Expr, Row_of-Place, end_of-Place, more_of-Place}
use Rattle.core_unit.specs.declared.expressions.Place as place
use Rattle.core_unit.specs.declared.expressions.Place.{Place}
use Rattle.src_model.specs.Tasks.{Part, Value, Address, Also, Pick, Branch, Fill, Loop, While, DoWhile, For, Task, Now, Do, Decide, Again, Fall, Stop, Fail, Halting, Finished}

-- The measure of a tree: one for each form in it, one more for each argument of a call and each variable, and one for each word that an initializer
-- stores. It isn't the count of nodes by which code is limited.
unfoldable mutual
  pub place_measure : Place → ℕ
  place_measure (place.Variable at storage t) = 1
  place_measure (place.Text at words) = 1
  place_measure (place.Indirection' _ (more_of-Expr e end_of-Expr) t) = 1 + measure e
  place_measure (place.Arrow' _ (more_of-Expr e end_of-Expr) structure) = 1 + measure e
  place_measure (place.Element' _ (more_of-Expr a end_of-Expr) _ (more_of-Expr b end_of-Expr) side words t) = 1 + measure a + measure b
  place_measure (place.Member' _ (more_of-Place p end_of-Place) offset t) = 1 + place_measure p

  pub measure : Expr → ℕ
  measure (expr.TargetFunction' _ (more_of-Expr e end_of-Expr)) = 1 + measure e
  measure (expr.FunctionPointer' _ (more_of-Expr e end_of-Expr)) = 1 + measure e
  measure (expr.ArrayPointer' _ (more_of-Place p end_of-Place)) = 1 + place_measure p
  measure (expr.AddressOf' _ (more_of-Place p end_of-Place)) = 1 + place_measure p
  measure (expr.Load' _ (more_of-Place p end_of-Place)) = 1 + place_measure p
  measure (expr.Assign' _ (more_of-Place p end_of-Place) _ (more_of-Expr e end_of-Expr)) = 1 + place_measure p + measure e
  measure (expr.Compound' _ (more_of-Place p end_of-Place) how _ (more_of-Expr e end_of-Expr)) = 1 + place_measure p + measure e
  measure (expr.Step' _ (more_of-Place p end_of-Place) how which) = 1 + place_measure p
  measure (expr.Unary' operator _ (more_of-Expr e end_of-Expr)) = 1 + measure e
  measure (expr.Binary' operator _ (more_of-Expr a end_of-Expr) _ (more_of-Expr b end_of-Expr)) = 1 + measure a + measure b
  measure (expr.Logical' operator _ (more_of-Expr a end_of-Expr) _ (more_of-Expr b end_of-Expr)) = 1 + measure a + measure b
  measure (expr.Conditional' _ (more_of-Expr c end_of-Expr) _ (more_of-Expr a end_of-Expr) _ (more_of-Expr b end_of-Expr)) = 1 + measure c + measure a + measure b
  measure (expr.Comma' _ (more_of-Expr a end_of-Expr) _ (more_of-Expr b end_of-Expr)) = 1 + measure a + measure b
  measure (expr.Call' at site _ (more_of-Expr c end_of-Expr) _ es) = 1 + measure c + measures es
  measure (expr.Convert' why t _ (more_of-Expr e end_of-Expr)) = 1 + measure e
  measure (expr.Discard' _ (more_of-Expr e end_of-Expr)) = 1 + measure e
  measure (expr.Number sign bits) = 1
  measure expr.Null = 1
  measure (expr.Sizeof words) = 1
  measure (expr.Function function t) = 1
  measure (expr.LibraryFunction row) = 1

  pub measures : {n : _} → Row_of-Expr n → ℕ
  measures end_of-Expr = 0
  measures (more_of-Expr e es) = 1 + measure e + measures es

abbrev pub optional_measure : Option Expr → ℕ
optional_measure None = 0
optional_measure (Some e) = measure e

-- of the words that an initializer stores
abbrev pub stored_measure : List Stored → ℕ
stored_measure [] = 1
stored_measure (StoredValue e ∷ stored) = 1 + measure e + stored_measure stored
stored_measure (_ ∷ stored) = 1 + stored_measure stored

unfoldable mutual
  pub statement_measure : Stmt → ℕ
  statement_measure (stmt.Block' _ items) = 1 + statement_measures items
  statement_measure (stmt.Variable v) = 1 + stored_measure (stores v.initializer)
  statement_measure stmt.Empty = 1
  statement_measure (stmt.Expression e) = 1 + measure e
  statement_measure (stmt.If' c _ (more_of-Stmt item end_of-Stmt) _ other) = 1 + measure c + statement_measure item + statement_measures other
  statement_measure (stmt.Loop' kind c _ (more_of-Stmt body end_of-Stmt)) = 1 + measure c + statement_measure body
  statement_measure (stmt.For' _ start test step _ (more_of-Stmt body end_of-Stmt)) =
      1 + statement_measures start + optional_measure test + optional_measure step + statement_measure body
  statement_measure stmt.Break = 1
  statement_measure stmt.Continue = 1
  statement_measure (stmt.Return e) = 1 + optional_measure e

  pub statement_measures : {n : _} → Row_of-Stmt n → ℕ
  statement_measures end_of-Stmt = 0
  statement_measures (more_of-Stmt item items) = statement_measure item + statement_measures items

abbrev pub part_weight : Part → ℕ
part_weight (Value e) = 8 * measure e
part_weight (Address p) = 8 * place_measure p
part_weight (Also operator e) = 2 + 8 * measure e
part_weight (Pick a b) = 1 + 8 * (measure a + measure b)
part_weight (Branch item other) = 1 + 8 * (statement_measure item + statement_measures other)
part_weight (Fill offset stored) = 8 * stored_measure stored
part_weight _ = 1

-- the end of the body of a loop, before its next turn begins
abbrev pub again_weight : Loop → ℕ
again_weight (While c body) = 2
again_weight (DoWhile c body) = 3 + 8 * measure c
again_weight (For test step body) = 2 + 8 * optional_measure step

abbrev pub decide_weight : Loop → ℕ
decide_weight (While c body) = 3 + 8 * statement_measure body
decide_weight (DoWhile c body) = 2
decide_weight (For test step body) = 3 + 8 * (statement_measure body + optional_measure step)

abbrev pub task_weight : Task → ℕ
task_weight (Now part) = part_weight part
task_weight (Do item) = 8 * statement_measure item
task_weight (Decide loop) = decide_weight loop
task_weight (Again loop) = again_weight loop
task_weight (Fall result) = 2
task_weight (Stop function) = 2
task_weight (Fail kind) = 0
task_weight (Halting finish) = 0
task_weight (Finished finish) = 0
task_weight _ = 1

abbrev pub weight : List Task → ℕ
weight [] = 0
weight (task ∷ k) = task_weight task + weight k
