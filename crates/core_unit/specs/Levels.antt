-- A unit adds no level where it isn't warned: no conversion does, and no initial word (Clang's manual 'Function Effect Analysis').
use Rattle.std.specs.Prelude.{◌≡◌, ℕ, List, Option, Some, None, slice_get, All}
use Rattle.eff_types.specs.Effects.{added}
use Rattle.eff_types.specs.Laws.{IsAtMost}
use Rattle.eff_types.specs.Types.{target_effects}
use Rattle.eff_types.specs.declared.levels.Level.{Level}
use Rattle.eff_types.specs.declared.types.CType.{CType}
use Rattle.core_unit.specs.Typing.{type_of}
use Rattle.core_unit.specs.Words.{PacksTo}
use Rattle.core_unit.specs.declared.body.Body.{Body}
use Rattle.core_unit.specs.declared.body.Initializer as init
use Rattle.core_unit.specs.declared.body.Initializer.{Initializer, Row_of-Initializer, end_of-Initializer, more_of-Initializer}
use Rattle.core_unit.specs.declared.body.Stmt as stmt
use Rattle.core_unit.specs.declared.body.Stmt.{Stmt, Row_of-Stmt, end_of-Stmt, more_of-Stmt}
use Rattle.core_unit.specs.declared.expressions.Expr as expr
use Rattle.core_unit.specs.declared.expressions.Expr.{Expr, Row_of-Expr, end_of-Expr, more_of-Expr, Row_of-Place, end_of-Place, more_of-Place}
use Rattle.core_unit.specs.declared.expressions.Place as place
use Rattle.core_unit.specs.declared.expressions.Place.{Place}
use Rattle.core_unit.specs.declared.operators.Cause.{Cause}
use Rattle.core_unit.specs.declared.operators.Cause.TheVariants as cause
use Rattle.core_unit.specs.declared.tables.FunctionInfo.{FunctionInfo}
use Rattle.core_unit.specs.declared.tables.UnitParts.{UnitParts}
use Rattle.core_unit.specs.declared.words.Word.TheVariants as word

-- A conversion promises of a function no more than is known of it. A null pointer keeps every promise.
abbrev pub KeepsLevel : Cause → CType → CType → Type 0
KeepsLevel cause.Null from to = Unit {0}
KeepsLevel _ from to = added (target_effects from) (target_effects to) ≡ None

-- All conversions in a place or an expression do.
unfoldable mutual
  pub PlaceKeeps : Place → Type 0
  PlaceKeeps (place.Indirection' _ (more_of-Expr e end_of-Expr) t) = Keeps e
  PlaceKeeps (place.Arrow' _ (more_of-Expr e end_of-Expr) k) = Keeps e
  PlaceKeeps (place.Element' _ (more_of-Expr a end_of-Expr) _ (more_of-Expr b end_of-Expr) side words t) = Keeps a × Keeps b
  PlaceKeeps (place.Member' _ (more_of-Place p end_of-Place) offset t) = PlaceKeeps p
  PlaceKeeps _ = Unit {0}

  pub Keeps : Expr → Type 0
  Keeps (expr.TargetFunction' _ (more_of-Expr e end_of-Expr)) = Keeps e
  Keeps (expr.FunctionPointer' _ (more_of-Expr e end_of-Expr)) = Keeps e
  Keeps (expr.ArrayPointer' _ (more_of-Place p end_of-Place)) = PlaceKeeps p
  Keeps (expr.AddressOf' _ (more_of-Place p end_of-Place)) = PlaceKeeps p
  Keeps (expr.Load' _ (more_of-Place p end_of-Place)) = PlaceKeeps p
  Keeps (expr.Assign' _ (more_of-Place p end_of-Place) _ (more_of-Expr e end_of-Expr)) = PlaceKeeps p × Keeps e
  Keeps (expr.Compound' _ (more_of-Place p end_of-Place) update _ (more_of-Expr e end_of-Expr)) = PlaceKeeps p × Keeps e
  Keeps (expr.Step' _ (more_of-Place p end_of-Place) update value) = PlaceKeeps p
  Keeps (expr.Unary' operator _ (more_of-Expr e end_of-Expr)) = Keeps e
  Keeps (expr.Binary' operator _ (more_of-Expr a end_of-Expr) _ (more_of-Expr b end_of-Expr)) = Keeps a × Keeps b
  Keeps (expr.Logical' operator _ (more_of-Expr a end_of-Expr) _ (more_of-Expr b end_of-Expr)) = Keeps a × Keeps b
  Keeps (expr.Conditional' _ (more_of-Expr c end_of-Expr) _ (more_of-Expr a end_of-Expr) _ (more_of-Expr b end_of-Expr)) = Keeps c × Keeps a × Keeps b
  Keeps (expr.Comma' _ (more_of-Expr a end_of-Expr) _ (more_of-Expr b end_of-Expr)) = Keeps a × Keeps b
  Keeps (expr.Call' at site _ (more_of-Expr c end_of-Expr) _ arguments) = Keeps c × AllKeep arguments
  Keeps (expr.Convert' why t _ (more_of-Expr e end_of-Expr)) = Keeps e × KeepsLevel why (type_of e) t
  Keeps (expr.Discard' _ (more_of-Expr e end_of-Expr)) = Keeps e
  Keeps (expr.Number sign bits) = Unit {0}
  Keeps expr.Null = Unit {0}
  Keeps (expr.Sizeof words) = Unit {0}
  Keeps (expr.Function f t) = Unit {0}
  Keeps (expr.LibraryFunction row) = Unit {0}

  pub AllKeep : {n : _} → Row_of-Expr n → Type 0
  AllKeep end_of-Expr = Unit {0}
  AllKeep (more_of-Expr e es) = Keeps e × AllKeep es

abbrev pub OptionalKeeps : Option Expr → Type 0
OptionalKeeps None = Unit {0}
OptionalKeeps (Some e) = Keeps e

unfoldable mutual
  pub InitializerKeeps : Initializer → Type 0
  InitializerKeeps (init.Value _ e) = Keeps e
  InitializerKeeps (init.List' _ inits zeros) = InitializersKeep inits
  InitializerKeeps _ = Unit {0}

  pub InitializersKeep : {n : _} → Row_of-Initializer n → Type 0
  InitializersKeep end_of-Initializer = Unit {0}
  InitializersKeep (more_of-Initializer i is) = InitializerKeeps i × InitializersKeep is

unfoldable mutual
  pub StmtKeeps : Stmt → Type 0
  StmtKeeps (stmt.Block' _ items) = StmtsKeep items
  StmtKeeps (stmt.Variable v) = InitializerKeeps v.initializer
  StmtKeeps (stmt.Expression e) = Keeps e
  StmtKeeps (stmt.If' c _ (more_of-Stmt s end_of-Stmt) _ other) = Keeps c × StmtKeeps s × StmtsKeep other
  StmtKeeps (stmt.Loop' kind c _ (more_of-Stmt s end_of-Stmt)) = Keeps c × StmtKeeps s
  StmtKeeps (stmt.For' _ start test step _ (more_of-Stmt s end_of-Stmt)) =
      StmtsKeep start × OptionalKeeps test × OptionalKeeps step × StmtKeeps s
  StmtKeeps (stmt.Return e) = OptionalKeeps e
  StmtKeeps stmt.Empty = Unit {0}
  StmtKeeps stmt.Break = Unit {0}
  StmtKeeps stmt.Continue = Unit {0}

  pub StmtsKeep : {n : _} → Row_of-Stmt n → Type 0
  StmtsKeep end_of-Stmt = Unit {0}
  StmtsKeep (more_of-Stmt s ss) = StmtKeeps s × StmtsKeep ss

abbrev pub BodyKeeps : Option Body → Type 0
BodyKeeps None = Unit {0}
BodyKeeps (Some body) = All StmtKeeps body.items

-- A function is known, and has at least this level.
pub record HasLevel (functions : List FunctionInfo) (function : ℕ) (level : Level) : Type 0 where
  pub info : FunctionInfo
  pub known : slice_get functions function ≡ Some info
  pub above : IsAtMost level info.kind.effects.level

-- An initial word promises of a function no more than the function does.
abbrev pub IsLevelKept : List FunctionInfo → ℕ → Type 0
IsLevelKept functions raw = (function : ℕ) (level : Level) → PacksTo (word.FunctionPointer function level) raw → HasLevel functions function level

-- No level is added in the unit. An initializer of file scope leaves no node, so the initial words are asked.
pub record AddsNoLevel (u : UnitParts) : Type 0 where
  pub bodies : All (λ f. BodyKeeps f.body) u.functions
  pub statics : All (IsLevelKept u.functions) u.static_words
  pub thread_locals : All (IsLevelKept u.functions) u.thread_words
