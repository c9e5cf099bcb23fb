-- How many instructions the code of a tree has.
use Rattle.std.specs.Prelude.{ℕ, ◌+◌, Bool, true, false, List, [], ◌∷◌, length, Option, Some, None}
use Rattle.core_unit.specs.Places.{callee, Callee, Named, Row, Through}
use Rattle.core_unit.specs.declared.body.Body.{Body}
use Rattle.core_unit.specs.declared.body.Initializer as init
use Rattle.core_unit.specs.declared.body.Initializer.{Initializer, Row_of-Initializer, end_of-Initializer, more_of-Initializer}
use Rattle.core_unit.specs.declared.body.LoopKind.{LoopKind}
use Rattle.core_unit.specs.declared.body.LoopKind.TheVariants as loop_kind
use Rattle.core_unit.specs.declared.body.Stmt as stmt
use Rattle.core_unit.specs.declared.body.Stmt.{Stmt, Row_of-Stmt, end_of-Stmt, more_of-Stmt}
use Rattle.core_unit.specs.declared.expressions.Expr as expr
use Rattle.core_unit.specs.declared.expressions.Expr.{Expr, Row_of-Expr, end_of-Expr, more_of-Expr, end_of-Place, more_of-Place}
use Rattle.core_unit.specs.declared.expressions.Place as place
use Rattle.core_unit.specs.declared.expressions.Place.{Place}
use Rattle.core_unit.specs.declared.expressions.Storage.{Storage}
use Rattle.core_unit.specs.declared.expressions.Storage.TheVariants.{Automatic}
use Rattle.core_unit.specs.declared.tables.FunctionInfo.{FunctionInfo}

-- of a call, by those of its callee and of its arguments
abbrev pub call_size : Callee → (called arguments : ℕ) → ℕ
call_size (Named function) called arguments = arguments + 2
call_size (Row row) called arguments = arguments + 2
call_size (Through signature) called arguments = called + arguments + 4

unfoldable mutual
  pub place_size : Place → ℕ
  place_size (place.Variable at storage t) = 1
  place_size (place.Text at words) = 1
  place_size (place.Indirection' _ (more_of-Expr e end_of-Expr) t) = size e
  place_size (place.Arrow' _ (more_of-Expr e end_of-Expr) structure) = size e
  place_size (place.Element' _ (more_of-Expr a end_of-Expr) _ (more_of-Expr b end_of-Expr) side words t) = size a + size b + 2
  place_size (place.Member' _ (more_of-Place p end_of-Place) offset t) = place_size p + 1

  pub size : Expr → ℕ
  size (expr.Number sign bits) = 1
  size expr.Null = 1
  size (expr.Sizeof words) = 1
  size (expr.Function function t) = 1
  size (expr.LibraryFunction row) = 1
  size (expr.TargetFunction' _ (more_of-Expr e end_of-Expr)) = size e
  size (expr.FunctionPointer' _ (more_of-Expr e end_of-Expr)) = size e
  size (expr.ArrayPointer' _ (more_of-Place p end_of-Place)) = place_size p
  size (expr.AddressOf' _ (more_of-Place p end_of-Place)) = place_size p
  size (expr.Load' _ (more_of-Place p end_of-Place)) = place_size p + 1
  size (expr.Assign' _ (more_of-Place p end_of-Place) _ (more_of-Expr e end_of-Expr)) = place_size p + size e + 2
  size (expr.Compound' _ (more_of-Place p end_of-Place) how _ (more_of-Expr e end_of-Expr)) = place_size p + size e + 5
  size (expr.Step' _ (more_of-Place p end_of-Place) how which) = place_size p + 5
  size (expr.Unary' operator _ (more_of-Expr e end_of-Expr)) = size e + 1
  size (expr.Binary' operator _ (more_of-Expr a end_of-Expr) _ (more_of-Expr b end_of-Expr)) = size a + size b + 2
  size (expr.Logical' operator _ (more_of-Expr a end_of-Expr) _ (more_of-Expr b end_of-Expr)) = size a + size b + 2
  size (expr.Conditional' _ (more_of-Expr c end_of-Expr) _ (more_of-Expr a end_of-Expr) _ (more_of-Expr b end_of-Expr)) = size c + size a + size b + 2
  size (expr.Comma' _ (more_of-Expr a end_of-Expr) _ (more_of-Expr b end_of-Expr)) = size a + size b
  size (expr.Call' at site _ (more_of-Expr e end_of-Expr) _ es) = call_size (callee e) (size e) (row_size es)
  size (expr.Convert' why t _ (more_of-Expr e end_of-Expr)) = size e
  size (expr.Discard' _ (more_of-Expr e end_of-Expr)) = size e

  -- of arguments, each of which is held
  pub row_size : {n : _} → Row_of-Expr n → ℕ
  row_size end_of-Expr = 0
  row_size (more_of-Expr e es) = size e + 1 + row_size es

-- the same of a list
abbrev pub arguments_size : List Expr → ℕ
arguments_size [] = 0
arguments_size (e ∷ es) = size e + 1 + arguments_size es

unfoldable mutual
  pub initializer_size : Initializer → ℕ
  initializer_size (init.Absent words) = 1
  initializer_size (init.Value _ e) = size e + 1
  initializer_size (init.List' _ inits zeros) = initializers_size inits + 1
  initializer_size (init.Text bytes zeros) = 2
  initializer_size (init.Zeros words) = 1
  initializer_size init.Mutex = 1

  pub initializers_size : {n : _} → Row_of-Initializer n → ℕ
  initializers_size end_of-Initializer = 0
  initializers_size (more_of-Initializer i is) = initializer_size i + initializers_size is

-- the same of a list
abbrev pub listed_size : List Initializer → ℕ
listed_size [] = 0
listed_size (i ∷ is) = initializer_size i + listed_size is

abbrev pub variable_size : Storage → Initializer → ℕ
variable_size (Automatic offset) initializer = initializer_size initializer
variable_size _ initializer = 0

-- of what stands behind the condition of `if`
abbrev pub branches_size : {n : _} → (item : ℕ) → Row_of-Stmt n → (other : ℕ) → ℕ
branches_size item end_of-Stmt other = item + 1
branches_size item (more_of-Stmt s ss) other = item + other + 2

-- the same of a list
abbrev pub listed_branches_size : (others : List Stmt) → (item other : ℕ) → ℕ
listed_branches_size [] item other = item + 1
listed_branches_size (s ∷ ss) item other = item + other + 2

abbrev pub loop_size : LoopKind → (test body : ℕ) → ℕ
loop_size loop_kind.While test body = test + body + 3
loop_size loop_kind.DoWhile test body = test + body + 2

abbrev pub return_size : Option Expr → ℕ
return_size None = 2
return_size (Some e) = size e + 1

abbrev pub test_size : Option Expr → ℕ
test_size None = 0
test_size (Some e) = size e + 1

abbrev pub optional_size : Option Expr → ℕ
optional_size None = 0
optional_size (Some e) = size e

unfoldable mutual
  pub statement_size : Stmt → ℕ
  statement_size (stmt.Block' _ items) = statements_size items
  statement_size (stmt.Variable v) = variable_size v.storage v.initializer
  statement_size stmt.Empty = 0
  statement_size (stmt.Expression e) = size e
  statement_size (stmt.If' e _ (more_of-Stmt item end_of-Stmt) _ other) = size e + branches_size (statement_size item) other (statements_size other)
  statement_size (stmt.Loop' loop_kind.While e _ (more_of-Stmt body end_of-Stmt)) = size e + statement_size body + 3
  statement_size (stmt.Loop' loop_kind.DoWhile e _ (more_of-Stmt body end_of-Stmt)) = size e + statement_size body + 2
  statement_size (stmt.For' _ start test step _ (more_of-Stmt body end_of-Stmt)) =
      statements_size start + test_size test + statement_size body + optional_size step + 2
  statement_size stmt.Break = 1
  statement_size stmt.Continue = 1
  statement_size (stmt.Return (Some e)) = size e + 1
  statement_size (stmt.Return None) = 2

  pub statements_size : {n : _} → Row_of-Stmt n → ℕ
  statements_size end_of-Stmt = 0
  statements_size (more_of-Stmt item items) = statement_size item + statements_size items

-- the same of a list
abbrev pub list_size : List Stmt → ℕ
list_size [] = 0
list_size (item ∷ items) = statement_size item + list_size items

abbrev pub meets_size : Bool → ℕ
meets_size true = 1
meets_size false = 0

abbrev pub body_size : FunctionInfo → Body → ℕ
body_size f body = meets_size f.kind.effects.no_block_inference + length f.kind.params + 1 + list_size body.items + 2

-- of a function; none where it isn't defined
abbrev pub function_size : FunctionInfo → ℕ
function_size f = defined f.body
  where
    defined : Option Body → ℕ
    defined None = 0
    defined (Some body) = body_size f body

-- of all functions
abbrev pub unit_size : List FunctionInfo → ℕ
unit_size [] = 0
unit_size (f ∷ fs) = function_size f + unit_size fs
