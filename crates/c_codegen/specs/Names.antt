-- The functions that a unit names, in order. What stands under `sizeof` is in no tree, and a library function has no number among them.
use Rattle.std.specs.Prelude.{ℕ, List, [], ◌∷◌, ◌++◌, flat_map, Option, Some, None}
use Rattle.core_unit.specs.declared.body.Body.{Body}
use Rattle.core_unit.specs.declared.body.Initializer as init
use Rattle.core_unit.specs.declared.body.Initializer.{Initializer, Row_of-Initializer, end_of-Initializer, more_of-Initializer}
use Rattle.core_unit.specs.declared.body.Stmt as stmt
use Rattle.core_unit.specs.declared.body.Stmt.{Stmt, Row_of-Stmt, end_of-Stmt, more_of-Stmt}
use Rattle.core_unit.specs.declared.expressions.Expr as expr
use Rattle.core_unit.specs.declared.expressions.Expr.{Expr, Row_of-Expr, end_of-Expr, more_of-Expr, end_of-Place, more_of-Place}
use Rattle.core_unit.specs.declared.expressions.Place as place
use Rattle.core_unit.specs.declared.expressions.Place.{Place}
use Rattle.core_unit.specs.declared.tables.FunctionInfo.{FunctionInfo}
use Rattle.core_unit.specs.declared.tables.UnitParts.{UnitParts}
use Rattle.core_unit.specs.declared.words.Word.{Word}
use Rattle.core_unit.specs.declared.words.Word.TheVariants.{FunctionPointer}
use Rattle.mcode.specs.Words.{unpacked}

unfoldable mutual
  pub place_names : Place → List ℕ
  place_names (place.Variable at storage t) = []
  place_names (place.Text at words) = []
  place_names (place.Indirection' _ (more_of-Expr e end_of-Expr) t) = names e
  place_names (place.Arrow' _ (more_of-Expr e end_of-Expr) structure) = names e
  place_names (place.Element' _ (more_of-Expr a end_of-Expr) _ (more_of-Expr b end_of-Expr) side words t) = names a ++ names b
  place_names (place.Member' _ (more_of-Place o end_of-Place) offset t) = place_names o

  pub names : Expr → List ℕ
  names (expr.Number sign bits) = []
  names expr.Null = []
  names (expr.Sizeof words) = []
  names (expr.Function function t) = function ∷ []
  names (expr.LibraryFunction row) = []
  names (expr.TargetFunction' _ (more_of-Expr e end_of-Expr)) = names e
  names (expr.FunctionPointer' _ (more_of-Expr e end_of-Expr)) = names e
  names (expr.ArrayPointer' _ (more_of-Place o end_of-Place)) = place_names o
  names (expr.AddressOf' _ (more_of-Place o end_of-Place)) = place_names o
  names (expr.Load' _ (more_of-Place o end_of-Place)) = place_names o
  names (expr.Assign' _ (more_of-Place o end_of-Place) _ (more_of-Expr e end_of-Expr)) = place_names o ++ names e
  names (expr.Compound' _ (more_of-Place o end_of-Place) how _ (more_of-Expr e end_of-Expr)) = place_names o ++ names e
  names (expr.Step' _ (more_of-Place o end_of-Place) how which) = place_names o
  names (expr.Unary' operator _ (more_of-Expr e end_of-Expr)) = names e
  names (expr.Binary' operator _ (more_of-Expr a end_of-Expr) _ (more_of-Expr b end_of-Expr)) = names a ++ names b
  names (expr.Logical' operator _ (more_of-Expr a end_of-Expr) _ (more_of-Expr b end_of-Expr)) = names a ++ names b
  names (expr.Conditional' _ (more_of-Expr d end_of-Expr) _ (more_of-Expr a end_of-Expr) _ (more_of-Expr b end_of-Expr)) = names d ++ (names a ++ names b)
  names (expr.Comma' _ (more_of-Expr a end_of-Expr) _ (more_of-Expr b end_of-Expr)) = names a ++ names b
  names (expr.Call' at site _ (more_of-Expr e end_of-Expr) _ es) = names e ++ all_names es
  names (expr.Convert' why t _ (more_of-Expr e end_of-Expr)) = names e
  names (expr.Discard' _ (more_of-Expr e end_of-Expr)) = names e

  pub all_names : {n : _} → Row_of-Expr n → List ℕ
  all_names end_of-Expr = []
  all_names (more_of-Expr e es) = names e ++ all_names es

abbrev pub optional_names : Option Expr → List ℕ
optional_names None = []
optional_names (Some e) = names e

unfoldable mutual
  pub initializer_names : Initializer → List ℕ
  initializer_names (init.Absent words) = []
  initializer_names (init.Value round e) = names e
  initializer_names (init.List' _ inits zeros) = initializers_names inits
  initializer_names (init.Text bytes zeros) = []
  initializer_names (init.Zeros words) = []
  initializer_names init.Mutex = []

  pub initializers_names : {n : _} → Row_of-Initializer n → List ℕ
  initializers_names end_of-Initializer = []
  initializers_names (more_of-Initializer i is) = initializer_names i ++ initializers_names is

unfoldable mutual
  pub statement_names : Stmt → List ℕ
  statement_names (stmt.Block' _ items) = statements_names items
  statement_names (stmt.Variable v) = initializer_names v.initializer
  statement_names stmt.Empty = []
  statement_names (stmt.Expression e) = names e
  statement_names (stmt.If' e _ (more_of-Stmt item end_of-Stmt) _ other) = names e ++ (statement_names item ++ statements_names other)
  statement_names (stmt.Loop' kind e _ (more_of-Stmt body end_of-Stmt)) = names e ++ statement_names body
  statement_names (stmt.For' _ start test step _ (more_of-Stmt body end_of-Stmt)) =
      statements_names start ++ (optional_names test ++ (optional_names step ++ statement_names body))
  statement_names stmt.Break = []
  statement_names stmt.Continue = []
  statement_names (stmt.Return e) = optional_names e

  pub statements_names : {n : _} → Row_of-Stmt n → List ℕ
  statements_names end_of-Stmt = []
  statements_names (more_of-Stmt item items) = statement_names item ++ statements_names items

-- of a definition
abbrev pub body_names : Option Body → List ℕ
body_names None = []
body_names (Some body) = flat_map statement_names body.items

abbrev pub function_names : FunctionInfo → List ℕ
function_names f = body_names f.body

-- the function that a word points to
abbrev pub pointed : Option Word → List ℕ
pointed (Some (FunctionPointer function level)) = function ∷ []
pointed _ = []

abbrev pub word_names : ℕ → List ℕ
word_names raw = pointed (unpacked raw)

-- The functions that a unit uses: those that are named in its definitions, and those that its objects point to at first.
unfoldable pub used_functions : UnitParts → List ℕ
used_functions u = flat_map function_names u.functions ++ (flat_map word_names u.static_words ++ flat_map word_names u.thread_words)
