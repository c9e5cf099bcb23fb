-- The places of a body at which something can be warned of or called: calls, uses of thread-local variables, and declarations of static and
-- thread-local block variables (Clang's manual 'Function Effect Analysis'), in order of evaluation and in order of place.
use Rattle.std.specs.Prelude.{ℕ, nat_lt, if◌then◌else◌, List, [], ◌∷◌, Option, Some, None}
use Rattle.eff_types.specs.declared.types.FnType.{FnType}
use Rattle.core_unit.specs.Typing.{type_of}
use Rattle.core_unit.specs.Shapes.{callee_of}
use Rattle.core_unit.specs.declared.body.Body.{Body}
use Rattle.core_unit.specs.declared.body.Initializer as init
use Rattle.core_unit.specs.declared.body.Initializer.{Initializer, Row_of-Initializer, end_of-Initializer, more_of-Initializer}
use Rattle.core_unit.specs.declared.body.LoopKind.TheVariants.{While, DoWhile}
use Rattle.core_unit.specs.declared.body.Stmt as stmt
use Rattle.core_unit.specs.declared.body.Stmt.{Stmt, Row_of-Stmt, end_of-Stmt, more_of-Stmt}
use Rattle.core_unit.specs.declared.expressions.Expr as expr
use Rattle.core_unit.specs.declared.expressions.Expr.{Expr, Row_of-Expr, end_of-Expr, more_of-Expr, Row_of-Place, end_of-Place, more_of-Place}
use Rattle.core_unit.specs.declared.expressions.Place as place
use Rattle.core_unit.specs.declared.expressions.Place.{Place}
use Rattle.core_unit.specs.declared.expressions.Storage.{Storage}
use Rattle.core_unit.specs.declared.expressions.Storage.TheVariants.{Automatic, ThreadLocal}

-- what a call calls: a function of the unit by its number, a library function by its row, or what a value tells, by its function type
pub data Callee : Type 0 where
  Named : ℕ → Callee
  Row : ℕ → Callee
  Through : Option FnType → Callee

-- What stands at a place of a body and can be warned of, or is a call site.
pub data Spot : Type 0 where
  Calls : (place site : ℕ) → Callee → Spot
  -- of a thread-local variable, by its name
  Uses : (place : ℕ) → Spot
  -- of a static or thread-local block variable
  Declares : (place : ℕ) → Spot

abbrev pub spot_place : Spot → ℕ
spot_place (Calls at site callee) = at
spot_place (Uses at) = at
spot_place (Declares at) = at

abbrev pub callee : Expr → Callee
callee (expr.Function f t) = Named f
callee (expr.LibraryFunction row) = Row row
callee e = Through (callee_of (type_of e))

abbrev pub used : Storage → ℕ → List Spot → List Spot
used (ThreadLocal offset) at rest = Uses at ∷ rest
used _ at rest = rest

abbrev pub declared : Storage → ℕ → List Spot → List Spot
declared (Automatic offset) at rest = rest
declared _ at rest = Declares at ∷ rest

-- In order of evaluation, before those of what follows. A call comes behind its callee and its arguments.
unfoldable mutual
  pub place_spots : Place → List Spot → List Spot
  place_spots (place.Variable at storage t) rest = used storage at rest
  place_spots (place.Text at words) rest = rest
  place_spots (place.Indirection' _ (more_of-Expr e end_of-Expr) t) rest = spots e rest
  place_spots (place.Arrow' _ (more_of-Expr e end_of-Expr) k) rest = spots e rest
  place_spots (place.Element' _ (more_of-Expr a end_of-Expr) _ (more_of-Expr b end_of-Expr) side words t) rest = spots a (spots b rest)
  place_spots (place.Member' _ (more_of-Place p end_of-Place) offset t) rest = place_spots p rest

  pub spots : Expr → List Spot → List Spot
  spots (expr.TargetFunction' _ (more_of-Expr e end_of-Expr)) rest = spots e rest
  spots (expr.FunctionPointer' _ (more_of-Expr e end_of-Expr)) rest = spots e rest
  spots (expr.ArrayPointer' _ (more_of-Place p end_of-Place)) rest = place_spots p rest
  spots (expr.AddressOf' _ (more_of-Place p end_of-Place)) rest = place_spots p rest
  spots (expr.Load' _ (more_of-Place p end_of-Place)) rest = place_spots p rest
  spots (expr.Assign' _ (more_of-Place p end_of-Place) _ (more_of-Expr e end_of-Expr)) rest = place_spots p (spots e rest)
  spots (expr.Compound' _ (more_of-Place p end_of-Place) update _ (more_of-Expr e end_of-Expr)) rest = place_spots p (spots e rest)
  spots (expr.Step' _ (more_of-Place p end_of-Place) update value) rest = place_spots p rest
  spots (expr.Unary' operator _ (more_of-Expr e end_of-Expr)) rest = spots e rest
  spots (expr.Binary' operator _ (more_of-Expr a end_of-Expr) _ (more_of-Expr b end_of-Expr)) rest = spots a (spots b rest)
  spots (expr.Logical' operator _ (more_of-Expr a end_of-Expr) _ (more_of-Expr b end_of-Expr)) rest = spots a (spots b rest)
  spots (expr.Conditional' _ (more_of-Expr c end_of-Expr) _ (more_of-Expr a end_of-Expr) _ (more_of-Expr b end_of-Expr)) rest = spots c (spots a (spots b rest))
  spots (expr.Comma' _ (more_of-Expr a end_of-Expr) _ (more_of-Expr b end_of-Expr)) rest = spots a (spots b rest)
  spots (expr.Call' at site _ (more_of-Expr c end_of-Expr) _ arguments) rest = spots c (all_spots arguments (Calls at site (callee c) ∷ rest))
  spots (expr.Convert' cause t _ (more_of-Expr e end_of-Expr)) rest = spots e rest
  spots (expr.Discard' _ (more_of-Expr e end_of-Expr)) rest = spots e rest
  spots (expr.Number sign bits) rest = rest
  spots expr.Null rest = rest
  spots (expr.Sizeof words) rest = rest
  spots (expr.Function f t) rest = rest
  spots (expr.LibraryFunction row) rest = rest

  pub all_spots : {n : _} → Row_of-Expr n → List Spot → List Spot
  all_spots end_of-Expr rest = rest
  all_spots (more_of-Expr e es) rest = spots e (all_spots es rest)

-- the same of a list
abbrev pub arguments_spots : List Expr → List Spot → List Spot
arguments_spots [] rest = rest
arguments_spots (e ∷ es) rest = spots e (arguments_spots es rest)

abbrev pub optional_spots : Option Expr → List Spot → List Spot
optional_spots None rest = rest
optional_spots (Some e) rest = spots e rest

unfoldable mutual
  pub initializer_spots : Initializer → List Spot → List Spot
  initializer_spots (init.Value _ e) rest = spots e rest
  initializer_spots (init.List' _ inits zeros) rest = initializers_spots inits rest
  initializer_spots (init.Absent words) rest = rest
  initializer_spots (init.Text bytes zeros) rest = rest
  initializer_spots (init.Zeros words) rest = rest
  initializer_spots init.Mutex rest = rest

  pub initializers_spots : {n : _} → Row_of-Initializer n → List Spot → List Spot
  initializers_spots end_of-Initializer rest = rest
  initializers_spots (more_of-Initializer i is) rest = initializer_spots i (initializers_spots is rest)

unfoldable mutual
  pub stmt_spots : Stmt → List Spot → List Spot
  stmt_spots (stmt.Block' _ items) rest = stmts_spots items rest
  stmt_spots (stmt.Variable v) rest = declared v.storage v.place (initializer_spots v.initializer rest)
  stmt_spots (stmt.Expression e) rest = spots e rest
  stmt_spots (stmt.If' c _ (more_of-Stmt s end_of-Stmt) _ other) rest = spots c (stmt_spots s (stmts_spots other rest))
  stmt_spots (stmt.Loop' While c _ (more_of-Stmt s end_of-Stmt)) rest = spots c (stmt_spots s rest)
  stmt_spots (stmt.Loop' DoWhile c _ (more_of-Stmt s end_of-Stmt)) rest = stmt_spots s (spots c rest)
  stmt_spots (stmt.For' _ start test step _ (more_of-Stmt s end_of-Stmt)) rest =
      stmts_spots start (optional_spots test (stmt_spots s (optional_spots step rest)))
  stmt_spots (stmt.Return e) rest = optional_spots e rest
  stmt_spots stmt.Empty rest = rest
  stmt_spots stmt.Break rest = rest
  stmt_spots stmt.Continue rest = rest

  pub stmts_spots : {n : _} → Row_of-Stmt n → List Spot → List Spot
  stmts_spots end_of-Stmt rest = rest
  stmts_spots (more_of-Stmt s ss) rest = stmt_spots s (stmts_spots ss rest)

abbrev pub list_spots : List Stmt → List Spot → List Spot
list_spots [] rest = rest
list_spots (s ∷ ss) rest = stmt_spots s (list_spots ss rest)

abbrev pub body_spots : Body → List Spot
body_spots body = list_spots body.items []

-- Into spots in order of place: before the first whose place isn't smaller.
abbrev pub placed : Spot → List Spot → List Spot
placed spot [] = spot ∷ []
placed spot (s ∷ ss) = if nat_lt (spot_place s) (spot_place spot) then s ∷ placed spot ss else spot ∷ s ∷ ss

abbrev pub in_order : List Spot → List Spot
in_order [] = []
in_order (spot ∷ rest) = placed spot (in_order rest)

-- The places of a body in order of place. Where several stand at one place, the inner one is evaluated first and stands first: of
-- `f()()` the call of `f`, of a call through a thread-local pointer the use of the pointer.
unfoldable pub places : Body → List Spot
places body = in_order (body_spots body)
