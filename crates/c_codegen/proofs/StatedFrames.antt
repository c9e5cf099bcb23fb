-- How far the declarations of a statement store in a frame, from its parts: one equation a form. In a unit it is not far.
use Rattle.std.proofs.Common.{◌≡◌, refl, ap, subst, ℕ, zero, suc, ◌+◌, ◌^◌, ◌<◌, ◌≤◌, max, Bool, true, false, List, [], ◌∷◌, length, Option, Some, arith, get_or}
use Rattle.std.proofs.Math.Nat.{max-le}
use denote.Hole.Carrier.{hidden}
use Rattle.core_unit.specs.Shapes.{is_unsized}
use Rattle.core_unit.specs.Typed.{Tables, IsInitializer, IsKept, IsObject, IsTypedStmt, AreTypedStmts, ListIsTyped}
use Rattle.core_unit.specs.Units.{IsFunction, IsDefinition, IsBody, tables_of}
use Rattle.core_unit.specs.declared.body.Body.{Body}
use Rattle.core_unit.specs.declared.body.Initializer.{Initializer}
use Rattle.core_unit.specs.declared.body.LocalVariable.{LocalVariable}
use Rattle.core_unit.specs.declared.body.LoopKind.{LoopKind}
use Rattle.core_unit.specs.declared.body.Stmt as stmt
use Rattle.core_unit.specs.declared.body.Stmt.{Stmt, Row_of-Stmt, end_of-Stmt, more_of-Stmt}
use Rattle.core_unit.specs.declared.body.Stmt.TheBlock.{hidden-the_row-Stmt-0, shape-the_row-Stmt-0, hidden-the_row-Stmt-1, shape-the_row-Stmt-1}
use Rattle.core_unit.specs.declared.body.Stmt.TheVariants as form
use Rattle.core_unit.specs.declared.expressions.Expr.{Expr}
use Rattle.core_unit.specs.declared.expressions.Storage.{Storage}
use Rattle.core_unit.specs.declared.expressions.Storage.TheVariants.{Automatic, Static, ThreadLocal}
use Rattle.core_unit.specs.declared.tables.FunctionInfo.{FunctionInfo}
use Rattle.core_unit.specs.declared.tables.UnitParts.{UnitParts}
use Rattle.eff_types.specs.declared.types.CType.{CType}
use Rattle.c_codegen.specs.Frames.{variable_end, statement_end, statements_end, list_end}
use Rattle.c_codegen.proofs.GoodFunctions.{stores_low, kept_words, object_low}

end_row : (items : List Stmt) → statements_end (hidden-the_row-Stmt-0 items) ≡ list_end items
unfolding statement_end hidden hidden-the_row-Stmt-0 shape-the_row-Stmt-0 hidden-the_row-Stmt-1 shape-the_row-Stmt-1
end_row [] = refl
end_row (item ∷ items) = ap (λ n. max (statement_end item) n) (end_row items)

pub end-Block : (items : List Stmt) → statement_end (form.Block items) ≡ list_end items
unfolding statement_end hidden hidden-the_row-Stmt-0 shape-the_row-Stmt-0 hidden-the_row-Stmt-1 shape-the_row-Stmt-1
end-Block items = end_row items

pub end-Variable : (v : LocalVariable) → statement_end (form.Variable v) ≡ variable_end v.storage v.initializer
unfolding statement_end hidden hidden-the_row-Stmt-0 shape-the_row-Stmt-0 hidden-the_row-Stmt-1 shape-the_row-Stmt-1
end-Variable v = refl

pub end-If : (e : Expr) (item : Stmt) (other : List Stmt) → statement_end (form.If e item other) ≡ max (statement_end item) (list_end other)
unfolding statement_end hidden hidden-the_row-Stmt-0 shape-the_row-Stmt-0 hidden-the_row-Stmt-1 shape-the_row-Stmt-1
end-If e item other = ap (λ n. max (statement_end item) n) (end_row other)

pub end-Loop : (kind : LoopKind) (e : Expr) (body : Stmt) → statement_end (form.Loop kind e body) ≡ statement_end body
unfolding statement_end hidden hidden-the_row-Stmt-0 shape-the_row-Stmt-0 hidden-the_row-Stmt-1 shape-the_row-Stmt-1
end-Loop kind e body = refl

pub end-For : (start : List Stmt) (test step : Option Expr) (body : Stmt) → statement_end (form.For start test step body) ≡ max (list_end start) (statement_end body)
unfolding statement_end hidden hidden-the_row-Stmt-0 shape-the_row-Stmt-0 hidden-the_row-Stmt-1 shape-the_row-Stmt-1
end-For start test step body = ap (λ n. max n (statement_end body)) (end_row start)

pub ruleset end_rules = (end-Block, end-Variable, end-If, end-Loop, end-For)

-- one of a list goes no further than all
pub end_within : (items : List Stmt) (n : ℕ) (item : Stmt) → n < length items → item ≡ get_or items n item → statement_end item ≤ list_end items
end_within [] n item low is = absurd (omega (arith, low))
end_within (x ∷ items) zero item low is = let same : statement_end item ≡ statement_end x = ap statement_end is in omega (arith, same)
end_within (x ∷ items) (suc n) item low is = let rest = end_within items n item (omega (arith, low)) is in omega (arith, rest)

-- In a function of a unit.

module _ (t : Tables) (low : (offset words : ℕ) → IsObject t.frame offset words → offset + words ≤ 2 ^ 20) where
  variable_low : (storage : Storage) (kind : CType) (x : Initializer) → IsKept t storage kind → IsInitializer t kind x → variable_end storage x ≤ 2 ^ 20
  variable_low (Automatic offset) kind x kept h =
      let fits = low offset kept.words kept.there in
      let few = stores_low t kind x kept.words h (kept_words t.structures kind kept.words kept.long (is_unsized kind) refl) (omega (arith, fits)) in
      omega (arith, fits, few)
  variable_low (Static address) kind x kept h = omega arith
  variable_low (ThreadLocal offset) kind x kept h = omega arith

  mutual
    unfolding statement_end IsTypedStmt

    statement_low : (item : Stmt) (r : CType) (looped : Bool) → IsTypedStmt t r looped item → statement_end item ≤ 2 ^ 20
    statement_low (stmt.Block' _ items) r looped h = all_low items r looped h
    statement_low (stmt.Variable v) r looped h = variable_low v.storage v.kind v.initializer h.0 h.1
    statement_low stmt.Empty r looped h = omega arith
    statement_low (stmt.Expression e) r looped h = omega arith
    statement_low (stmt.If' e _ (more_of-Stmt item end_of-Stmt) _ other) r looped h = max-le (statement_low item r looped h.1) (all_low other r looped h.2)
    statement_low (stmt.Loop' kind e _ (more_of-Stmt body end_of-Stmt)) r looped h = statement_low body r true h.1
    statement_low (stmt.For' _ start test step _ (more_of-Stmt body end_of-Stmt)) r looped h = max-le (all_low start r false h.0) (statement_low body r true h.4)
    statement_low stmt.Break r looped h = omega arith
    statement_low stmt.Continue r looped h = omega arith
    statement_low (stmt.Return e) r looped h = omega arith

    all_low : {n : _} (items : Row_of-Stmt n) (r : CType) (looped : Bool) → AreTypedStmts t r looped items → statements_end items ≤ 2 ^ 20
    all_low end_of-Stmt r looped h = omega arith
    all_low (more_of-Stmt item items) r looped h = max-le (statement_low item r looped h.0) (all_low items r looped h.1)

  list_low : (items : List Stmt) (r : CType) (looped : Bool) → ListIsTyped t r looped items → list_end items ≤ 2 ^ 20
  list_low [] r looped h = omega arith
  list_low (item ∷ items) r looped h = max-le (statement_low item r looped h.0) (list_low items r looped h.1)

definition_low : (u : UnitParts) (f : FunctionInfo) (body : Body) → IsDefinition u f body → list_end body.items ≤ 2 ^ 20
definition_low u f body h =
    let t = tables_of u f body in
    list_low t (λ offset words o. object_low f.frame_words t.frame offset words h.frame (let small = h.small in omega (arith, small)) o) body.items f.kind.result false h.typed

-- The frame of a defined function is short, and it has few parameters.
pub body_low : (u : UnitParts) (f : FunctionInfo) (body : Body) → IsFunction u f → f.body ≡ Some body → list_end body.items ≤ 2 ^ 20
body_low u f body h is =
    let typed : IsBody u f (Some body) = subst (IsBody u f) is h.body in definition_low u f body typed
