-- The nodes of a function definition, by which code is limited (this project's own rule). One node each are: a definition; a parameter; a
-- statement, the body's block among them; a declared block variable; an initializer, braces round one being one more; the application of an
-- operator, a cast, a call, an index, a member; another primary; an implicit conversion of a value to another type; `sizeof` with its operand.
-- The load of a scalar object is none.
use Rattle.std.specs.Prelude.{ℕ, ◌+◌, List, [], ◌∷◌, Option, Some, None, length}
use Rattle.eff_types.specs.declared.types.CType.{CType, Char, Int}
use Rattle.core_unit.specs.Typing.{place_type}
use Rattle.core_unit.specs.declared.body.Body.{Body}
use Rattle.core_unit.specs.declared.body.Braces.TheVariants.{Bare, Braced}
use Rattle.core_unit.specs.declared.body.Initializer as init
use Rattle.core_unit.specs.declared.body.Initializer.{Initializer, Row_of-Initializer, end_of-Initializer, more_of-Initializer}
use Rattle.core_unit.specs.declared.body.Stmt as stmt
use Rattle.core_unit.specs.declared.body.Stmt.{Stmt, Row_of-Stmt, end_of-Stmt, more_of-Stmt}
use Rattle.core_unit.specs.declared.expressions.Expr as expr
use Rattle.core_unit.specs.declared.expressions.Expr.{Expr, Row_of-Expr, end_of-Expr, more_of-Expr, Row_of-Place, end_of-Place, more_of-Place}
use Rattle.core_unit.specs.declared.expressions.Place as place
use Rattle.core_unit.specs.declared.expressions.Place.{Place}
use Rattle.core_unit.specs.declared.operators.Sign.{Sign}
use Rattle.core_unit.specs.declared.operators.Sign.TheVariants.{Signed, Unsigned as Without}
use Rattle.core_unit.specs.declared.operators.Update.{Update}
use Rattle.core_unit.specs.declared.operators.Update.TheVariants.{Arithmetic, Forward, Backward}
use Rattle.core_unit.specs.declared.tables.FunctionInfo.{FunctionInfo}

-- The conversions of a compound assignment: of the old value to the type of the operation, and of the new one to that of the place
-- (C17 6.5.16.2). A `char` becomes an `int` before an `unsigned int`.
abbrev pub conversions : CType → Sign → ℕ
conversions Char Signed = 2
conversions Char Without = 3
conversions Int Without = 2
conversions _ _ = 0

abbrev pub update_nodes : CType → Update → ℕ
update_nodes t (Arithmetic operator sign) = conversions t sign
update_nodes t (Forward words) = 0
update_nodes t (Backward words) = 0

unfoldable mutual
  pub place_nodes : Place → ℕ
  place_nodes (place.Variable at storage t) = 1
  place_nodes (place.Text at words) = 1
  place_nodes (place.Indirection' _ (more_of-Expr e end_of-Expr) t) = 1 + nodes e
  place_nodes (place.Arrow' _ (more_of-Expr e end_of-Expr) k) = nodes e
  place_nodes (place.Element' _ (more_of-Expr a end_of-Expr) _ (more_of-Expr b end_of-Expr) side words t) = 1 + nodes a + nodes b
  place_nodes (place.Member' _ (more_of-Place p end_of-Place) offset t) = 1 + place_nodes p

  pub nodes : Expr → ℕ
  nodes (expr.Number sign bits) = 1
  nodes expr.Null = 1
  nodes (expr.Sizeof words) = 1
  nodes (expr.Function f t) = 1
  nodes (expr.LibraryFunction row) = 1
  nodes (expr.TargetFunction' _ (more_of-Expr e end_of-Expr)) = 1 + nodes e
  nodes (expr.FunctionPointer' _ (more_of-Expr e end_of-Expr)) = 1 + nodes e
  nodes (expr.ArrayPointer' _ (more_of-Place p end_of-Place)) = 1 + place_nodes p
  nodes (expr.AddressOf' _ (more_of-Place p end_of-Place)) = 1 + place_nodes p
  nodes (expr.Load' _ (more_of-Place p end_of-Place)) = place_nodes p
  nodes (expr.Assign' _ (more_of-Place p end_of-Place) _ (more_of-Expr e end_of-Expr)) = 1 + place_nodes p + nodes e
  nodes (expr.Compound' _ (more_of-Place p end_of-Place) update _ (more_of-Expr e end_of-Expr)) =
      1 + update_nodes (place_type p) update + place_nodes p + nodes e
  nodes (expr.Step' _ (more_of-Place p end_of-Place) update value) = 1 + place_nodes p
  nodes (expr.Unary' operator _ (more_of-Expr e end_of-Expr)) = 1 + nodes e
  nodes (expr.Binary' operator _ (more_of-Expr a end_of-Expr) _ (more_of-Expr b end_of-Expr)) = 1 + nodes a + nodes b
  nodes (expr.Logical' operator _ (more_of-Expr a end_of-Expr) _ (more_of-Expr b end_of-Expr)) = 1 + nodes a + nodes b
  nodes (expr.Conditional' _ (more_of-Expr c end_of-Expr) _ (more_of-Expr a end_of-Expr) _ (more_of-Expr b end_of-Expr)) = 1 + nodes c + nodes a + nodes b
  nodes (expr.Comma' _ (more_of-Expr a end_of-Expr) _ (more_of-Expr b end_of-Expr)) = 1 + nodes a + nodes b
  nodes (expr.Call' at site _ (more_of-Expr c end_of-Expr) _ arguments) = 1 + nodes c + all_nodes arguments
  nodes (expr.Convert' cause t _ (more_of-Expr e end_of-Expr)) = 1 + nodes e
  nodes (expr.Discard' _ (more_of-Expr e end_of-Expr)) = 1 + nodes e

  pub all_nodes : {n : _} → Row_of-Expr n → ℕ
  all_nodes end_of-Expr = 0
  all_nodes (more_of-Expr e es) = nodes e + all_nodes es

-- the same of a list
abbrev pub arguments_nodes : List Expr → ℕ
arguments_nodes [] = 0
arguments_nodes (e ∷ es) = nodes e + arguments_nodes es

abbrev pub optional_nodes : Option Expr → ℕ
optional_nodes None = 0
optional_nodes (Some e) = nodes e

unfoldable mutual
  pub initializer_nodes : Initializer → ℕ
  initializer_nodes (init.Absent words) = 0
  initializer_nodes (init.Value Bare e) = 1 + nodes e
  initializer_nodes (init.Value Braced e) = 2 + nodes e
  initializer_nodes (init.List' _ inits zeros) = 1 + initializers_nodes inits
  -- the initializer and the string
  initializer_nodes (init.Text bytes zeros) = 2
  -- the braces, the initializer in them and the number
  initializer_nodes (init.Zeros words) = 3
  -- the initializer and the name
  initializer_nodes init.Mutex = 2

  pub initializers_nodes : {n : _} → Row_of-Initializer n → ℕ
  initializers_nodes end_of-Initializer = 0
  initializers_nodes (more_of-Initializer i is) = initializer_nodes i + initializers_nodes is

-- the same of a list
abbrev pub listed_nodes : List Initializer → ℕ
listed_nodes [] = 0
listed_nodes (i ∷ is) = initializer_nodes i + listed_nodes is

unfoldable mutual
  pub stmt_nodes : Stmt → ℕ
  stmt_nodes (stmt.Block' _ items) = 1 + stmts_nodes items
  stmt_nodes (stmt.Variable v) = 1 + initializer_nodes v.initializer
  stmt_nodes stmt.Empty = 1
  stmt_nodes (stmt.Expression e) = 1 + nodes e
  stmt_nodes (stmt.If' c _ (more_of-Stmt s end_of-Stmt) _ other) = 1 + nodes c + stmt_nodes s + stmts_nodes other
  stmt_nodes (stmt.Loop' kind c _ (more_of-Stmt s end_of-Stmt)) = 1 + nodes c + stmt_nodes s
  stmt_nodes (stmt.For' _ start test step _ (more_of-Stmt s end_of-Stmt)) = 1 + start_nodes start + optional_nodes test + optional_nodes step + stmt_nodes s
  stmt_nodes stmt.Break = 1
  stmt_nodes stmt.Continue = 1
  stmt_nodes (stmt.Return e) = 1 + optional_nodes e

  pub stmts_nodes : {n : _} → Row_of-Stmt n → ℕ
  stmts_nodes end_of-Stmt = 0
  stmts_nodes (more_of-Stmt s ss) = stmt_nodes s + stmts_nodes ss

  -- An expression that begins a `for` is no statement.
  pub start_nodes : {n : _} → Row_of-Stmt n → ℕ
  start_nodes end_of-Stmt = 0
  start_nodes (more_of-Stmt (stmt.Expression e) ss) = nodes e + start_nodes ss
  start_nodes (more_of-Stmt s ss) = stmt_nodes s + start_nodes ss

abbrev pub list_nodes : List Stmt → ℕ
list_nodes [] = 0
list_nodes (s ∷ ss) = stmt_nodes s + list_nodes ss

abbrev pub begun_nodes : List Stmt → ℕ
begun_nodes [] = 0
begun_nodes (stmt.Expression e ∷ ss) = nodes e + begun_nodes ss
begun_nodes (s ∷ ss) = stmt_nodes s + begun_nodes ss

-- of a definition: itself, its parameters, the block of its body, and what stands in it
abbrev pub definition_nodes : ℕ → Body → ℕ
definition_nodes parameters body = 2 + parameters + list_nodes body.items

-- of a function, if it is defined
abbrev pub function_nodes : FunctionInfo → ℕ
function_nodes f = defined f.body
  where
    defined : Option Body → ℕ
    defined None = 0
    defined (Some body) = definition_nodes (length f.kind.params) body

-- of all definitions of a unit
abbrev pub unit_nodes : List FunctionInfo → ℕ
unit_nodes [] = 0
unit_nodes (f ∷ fs) = function_nodes f + unit_nodes fs
