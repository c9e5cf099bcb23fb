-- How far the declarations of block variables store in a frame.
use Rattle.std.specs.Prelude.{ℕ, ◌+◌, max, List, [], ◌∷◌, length}
use Rattle.core_unit.specs.Stores.{stores}
use Rattle.core_unit.specs.declared.body.Initializer.{Initializer}
use Rattle.core_unit.specs.declared.body.Stmt as stmt
use Rattle.core_unit.specs.declared.body.Stmt.{Stmt, Row_of-Stmt, end_of-Stmt, more_of-Stmt}
use Rattle.core_unit.specs.declared.expressions.Storage.{Storage}
use Rattle.core_unit.specs.declared.expressions.Storage.TheVariants.{Automatic}

-- the offset behind the last word that a declaration stores
abbrev pub variable_end : Storage → Initializer → ℕ
variable_end (Automatic offset) initializer = offset + length (stores initializer)
variable_end _ initializer = 0

unfoldable mutual
  pub statement_end : Stmt → ℕ
  statement_end (stmt.Block' _ items) = statements_end items
  statement_end (stmt.Variable v) = variable_end v.storage v.initializer
  statement_end (stmt.If' e _ (more_of-Stmt item end_of-Stmt) _ other) = max (statement_end item) (statements_end other)
  statement_end (stmt.Loop' kind e _ (more_of-Stmt body end_of-Stmt)) = statement_end body
  statement_end (stmt.For' _ start test step _ (more_of-Stmt body end_of-Stmt)) = max (statements_end start) (statement_end body)
  statement_end _ = 0

  pub statements_end : {n : _} → Row_of-Stmt n → ℕ
  statements_end end_of-Stmt = 0
  statements_end (more_of-Stmt item items) = max (statement_end item) (statements_end items)

-- the same of a list
abbrev pub list_end : List Stmt → ℕ
list_end [] = 0
list_end (item ∷ items) = max (statement_end item) (list_end items)
