-- The code of a typed tree has at most eight instructions a node.
use Rattle.std.proofs.Common.{◌≡◌, refl, ℕ, suc, ◌+◌, ◌*◌, ◌≤◌, Bool, true, false, List, [], ◌∷◌, Option, Some, None, arith}
use Rattle.core_unit.specs.Nodes.{nodes, place_nodes, all_nodes, optional_nodes, initializer_nodes, initializers_nodes, stmt_nodes, stmts_nodes, start_nodes, list_nodes, function_nodes, unit_nodes}
use Rattle.core_unit.specs.Places.{callee, Callee, Named, Row, Through}
use Rattle.core_unit.specs.Shapes.{is_scalar}
use Rattle.core_unit.specs.Typed.{Tables, IsTyped, IsTypedPlace, AreTyped, IsInitializer, AreInitializers, IsTypedStmt, AreTypedStmts, ListIsTyped, IsCondition, IsEvaluated, IsOptional, is_arrow, is_absent}
use Rattle.core_unit.specs.Typing.{type_of, place_type}
use Rattle.core_unit.specs.Units.{IsUnit, IsFunction, IsBody, tables_of}
use Rattle.core_unit.specs.declared.body.Body.{Body}
use Rattle.core_unit.specs.declared.body.Braces.TheVariants.{Bare, Braced}
use Rattle.core_unit.specs.declared.body.Initializer as init
use Rattle.core_unit.specs.declared.body.Initializer.{Initializer, Row_of-Initializer, end_of-Initializer, more_of-Initializer}
use Rattle.core_unit.specs.declared.body.LoopKind.TheVariants as loop_kind
use Rattle.core_unit.specs.declared.body.Stmt as stmt
use Rattle.core_unit.specs.declared.body.Stmt.{Stmt, Row_of-Stmt, end_of-Stmt, more_of-Stmt}
use Rattle.core_unit.specs.declared.expressions.Expr as expr
use Rattle.core_unit.specs.declared.expressions.Expr.{Expr, Row_of-Expr, end_of-Expr, more_of-Expr, end_of-Place, more_of-Place}
use Rattle.core_unit.specs.declared.expressions.Place as place
use Rattle.core_unit.specs.declared.expressions.Place.{Place}
use Rattle.core_unit.specs.declared.expressions.Storage.{Storage}
use Rattle.core_unit.specs.declared.expressions.Storage.TheVariants.{Automatic, Static, ThreadLocal}
use Rattle.core_unit.specs.declared.tables.FunctionInfo.{FunctionInfo}
use Rattle.core_unit.specs.declared.tables.UnitParts.{UnitParts}
use Rattle.eff_types.specs.declared.types.CType.{CType}
use Rattle.std.specs.Prelude.{All}
use Rattle.c_codegen.specs.Sizes.{call_size, size, place_size, row_size, initializer_size, initializers_size, variable_size, branches_size, test_size, optional_size, statement_size, statements_size, list_size, meets_size, function_size, unit_size}
use Rattle.c_codegen.proofs.Good.{CalleeFact, callee_fact, called_arguments}

-- a scalar object is none that `->` stands behind
no_arrow : (o : Place) → is_scalar (place_type o) ≡ true → is_arrow o ≡ false
unfolding type_of
no_arrow (place.Variable at storage v) h = refl
no_arrow (place.Text at words) h = refl
no_arrow (place.Indirection' _ e v) h = refl
no_arrow (place.Arrow' _ e structure) h = let clash : ⊥ = cc in absurd clash
no_arrow (place.Element' _ a _ b side words v) h = refl
no_arrow (place.Member' _ o offset v) h = refl

call_bound : (called : Callee) (n c m k : ℕ) (typed : Type 0) → CalleeFact called typed → (typed → n + 6 ≤ 8 * c) → m ≤ 8 * k → call_size called n m + 6 ≤ 8 * (1 + c + k)
call_bound (Named function) n c m k typed h low few = omega (arith, few)
call_bound (Row row) n c m k typed h low few = omega (arith, few)
call_bound (Through signature) n c m k typed h low few = omega (arith, few, low h)

module _ (t : Tables) where
  mutual
    unfolding nodes size IsTyped type_of

    place_bound : (o : Place) → IsTypedPlace t o → place_size o + 6 ≤ 8 * place_nodes o
    place_bound (place.Variable at storage v) h = omega arith
    place_bound (place.Text at words) h = omega arith
    place_bound (place.Indirection' _ (more_of-Expr e end_of-Expr) v) h = omega (arith, value_bound e h.0)
    place_bound (place.Arrow' _ (more_of-Expr e end_of-Expr) structure) h = value_bound e h.0
    place_bound (place.Element' _ (more_of-Expr a end_of-Expr) _ (more_of-Expr b end_of-Expr) side words v) h = omega (arith, value_bound a h.0, value_bound b h.1)
    place_bound (place.Member' _ (more_of-Place o end_of-Place) offset v) h = omega (arith, place_bound o h.0)

    object_bound : (o : Place) → IsTypedPlace t o → is_arrow o ≡ false → place_size o + 7 ≤ 8 * place_nodes o
    object_bound (place.Variable at storage v) h f = omega arith
    object_bound (place.Text at words) h f = omega arith
    object_bound (place.Indirection' _ (more_of-Expr e end_of-Expr) v) h f = omega (arith, value_bound e h.0)
    object_bound (place.Arrow' _ (more_of-Expr e end_of-Expr) structure) h f = let clash : ⊥ = cc in absurd clash
    object_bound (place.Element' _ (more_of-Expr a end_of-Expr) _ (more_of-Expr b end_of-Expr) side words v) h f = omega (arith, value_bound a h.0, value_bound b h.1)
    object_bound (place.Member' _ (more_of-Place o end_of-Place) offset v) h f = omega (arith, place_bound o h.0)

    pub value_bound : (e : Expr) → IsTyped t e → size e + 6 ≤ 8 * nodes e
    value_bound (expr.Number sign bits) h = omega arith
    value_bound expr.Null h = omega arith
    value_bound (expr.Sizeof words) h = omega arith
    value_bound (expr.Function function v) h = omega arith
    value_bound (expr.LibraryFunction row) h = absurd h
    value_bound (expr.TargetFunction' _ (more_of-Expr e end_of-Expr)) h = omega (arith, value_bound e h.0)
    value_bound (expr.FunctionPointer' _ (more_of-Expr e end_of-Expr)) h = omega (arith, value_bound e h.0)
    value_bound (expr.ArrayPointer' _ (more_of-Place o end_of-Place)) h = omega (arith, place_bound o h.0)
    value_bound (expr.AddressOf' _ (more_of-Place o end_of-Place)) h = omega (arith, place_bound o h.0)
    value_bound (expr.Load' _ (more_of-Place o end_of-Place)) h = omega (arith, object_bound o h.0 (no_arrow o h.1))
    value_bound (expr.Assign' _ (more_of-Place o end_of-Place) _ (more_of-Expr e end_of-Expr)) h = omega (arith, place_bound o h.0, value_bound e h.2)
    value_bound (expr.Compound' _ (more_of-Place o end_of-Place) how _ (more_of-Expr e end_of-Expr)) h = omega (arith, place_bound o h.0, value_bound e h.1)
    value_bound (expr.Step' _ (more_of-Place o end_of-Place) how which) h = omega (arith, place_bound o h.0)
    value_bound (expr.Unary' operator _ (more_of-Expr e end_of-Expr)) h = omega (arith, value_bound e h.0)
    value_bound (expr.Binary' operator _ (more_of-Expr a end_of-Expr) _ (more_of-Expr b end_of-Expr)) h = omega (arith, value_bound a h.0, value_bound b h.1)
    value_bound (expr.Logical' operator _ (more_of-Expr a end_of-Expr) _ (more_of-Expr b end_of-Expr)) h = omega (arith, value_bound a h.0, value_bound b h.1)
    value_bound (expr.Conditional' _ (more_of-Expr c end_of-Expr) _ (more_of-Expr a end_of-Expr) _ (more_of-Expr b end_of-Expr)) h =
        omega (arith, value_bound c h.0, value_bound a h.2, value_bound b h.3)
    value_bound (expr.Comma' _ (more_of-Expr a end_of-Expr) _ (more_of-Expr b end_of-Expr)) h = omega (arith, value_bound a h.0, value_bound b h.1)
    value_bound (expr.Call' at site _ (more_of-Expr e end_of-Expr) _ es) h =
        let params = called_arguments t es _ h.1 in
        call_bound (callee e) (size e) (nodes e) (row_size es) (all_nodes es) (IsTyped t e) (callee_fact e (IsTyped t e) h.0) (λ typed. value_bound e typed) (arguments_bound es params.0 params.1)
    value_bound (expr.Convert' why v _ (more_of-Expr e end_of-Expr)) h = omega (arith, value_bound e h.0)
    value_bound (expr.Discard' _ (more_of-Expr e end_of-Expr)) h = omega (arith, value_bound e h.0)

    arguments_bound : {n : _} (es : Row_of-Expr n) (params : List CType) → AreTyped t es params → row_size es ≤ 8 * all_nodes es
    arguments_bound end_of-Expr params h = omega arith
    arguments_bound (more_of-Expr e es) (v ∷ params) h = omega (arith, value_bound e h.0, arguments_bound es params h.2)
    arguments_bound (more_of-Expr e es) [] h = absurd h

  optional_bound : (P : Expr → Type 0) → ((e : Expr) → P e → IsTyped t e) → (e : Option Expr) → IsOptional P e → (optional_size e ≤ 8 * optional_nodes e) × (test_size e ≤ 8 * optional_nodes e)
  optional_bound P typed None h = (omega arith, omega arith)
  optional_bound P typed (Some e) h = let low = value_bound e (typed e h) in (omega (arith, low), omega (arith, low))

  mutual
    unfolding initializer_nodes initializer_size IsInitializer

    initializer_bound : (v : CType) (x : Initializer) → IsInitializer t v x → initializer_size x ≤ 8 * initializer_nodes x + 1
    initializer_bound v (init.Absent count) h = omega arith
    initializer_bound v (init.Value Bare e) h = omega (arith, value_bound e h.0)
    initializer_bound v (init.Value Braced e) h = omega (arith, value_bound e h.0)
    initializer_bound v (init.List' s inits zeros) h = omega (arith, initializers_bound _ inits h.2)
    initializer_bound v (init.Text bytes zeros) h = omega arith
    initializer_bound v (init.Zeros count) h = omega arith
    initializer_bound v init.Mutex h = omega arith

    present_bound : (v : CType) (x : Initializer) → IsInitializer t v x → is_absent x ≡ false → initializer_size x ≤ 8 * initializer_nodes x
    present_bound v (init.Absent count) h f = let clash : ⊥ = cc in absurd clash
    present_bound v (init.Value Bare e) h f = omega (arith, value_bound e h.0)
    present_bound v (init.Value Braced e) h f = omega (arith, value_bound e h.0)
    present_bound v (init.List' s inits zeros) h f = omega (arith, initializers_bound _ inits h.2)
    present_bound v (init.Text bytes zeros) h f = omega arith
    present_bound v (init.Zeros count) h f = omega arith
    present_bound v init.Mutex h f = omega arith

    initializers_bound : {n : _} (vs : List CType) (xs : Row_of-Initializer n) → AreInitializers t vs xs → initializers_size xs ≤ 8 * initializers_nodes xs
    initializers_bound vs end_of-Initializer h = omega arith
    initializers_bound (v ∷ vs) (more_of-Initializer x xs) h = omega (arith, present_bound v x h.0 h.1, initializers_bound vs xs h.2)
    initializers_bound [] (more_of-Initializer x xs) h = absurd h

  variable_bound : (storage : Storage) (v : CType) (x : Initializer) → IsInitializer t v x → variable_size storage x ≤ 8 * initializer_nodes x + 1
  variable_bound (Automatic offset) v x h = initializer_bound v x h
  variable_bound (Static address) v x h = omega arith
  variable_bound (ThreadLocal offset) v x h = omega arith

  branches_bound : {n : _} (item other : ℕ) (others : Row_of-Stmt n) → branches_size item others other ≤ item + other + 2
  branches_bound item other end_of-Stmt = omega arith
  branches_bound item other (more_of-Stmt s ss) = omega arith

  mutual
    unfolding stmt_nodes statement_size IsTypedStmt

    pub statement_bound : (item : Stmt) (r : CType) (looped : Bool) → IsTypedStmt t r looped item → statement_size item ≤ 8 * stmt_nodes item
    statement_bound (stmt.Block' _ items) r looped h = omega (arith, all_bound items r looped h)
    statement_bound (stmt.Variable v) r looped h = omega (arith, variable_bound v.storage v.kind v.initializer h.1)
    statement_bound stmt.Empty r looped h = omega arith
    statement_bound (stmt.Expression e) r looped h = omega (arith, value_bound e h.0)
    statement_bound (stmt.If' e _ (more_of-Stmt item end_of-Stmt) _ other) r looped h =
        omega (arith, value_bound e h.0.0, statement_bound item r looped h.1, all_bound other r looped h.2, branches_bound (statement_size item) (statements_size other) other)
    statement_bound (stmt.Loop' loop_kind.While e _ (more_of-Stmt body end_of-Stmt)) r looped h = omega (arith, value_bound e h.0.0, statement_bound body r true h.1)
    statement_bound (stmt.Loop' loop_kind.DoWhile e _ (more_of-Stmt body end_of-Stmt)) r looped h = omega (arith, value_bound e h.0.0, statement_bound body r true h.1)
    statement_bound (stmt.For' _ start test step _ (more_of-Stmt body end_of-Stmt)) r looped h =
        let tests = optional_bound (IsCondition t) (λ e x. x.0) test h.2 in
        let steps = optional_bound (IsEvaluated t) (λ e x. x.0) step h.3 in
        omega (arith, start_bound start r false h.0, tests.1, steps.0, statement_bound body r true h.4)
    statement_bound stmt.Break r looped h = omega arith
    statement_bound stmt.Continue r looped h = omega arith
    statement_bound (stmt.Return (Some e)) r looped h = omega (arith, value_bound e h.0)
    statement_bound (stmt.Return None) r looped h = omega arith

    all_bound : {n : _} (items : Row_of-Stmt n) (r : CType) (looped : Bool) → AreTypedStmts t r looped items → statements_size items ≤ 8 * stmts_nodes items
    all_bound end_of-Stmt r looped h = omega arith
    all_bound (more_of-Stmt item items) r looped h = omega (arith, statement_bound item r looped h.0, all_bound items r looped h.1)

    start_bound : {n : _} (items : Row_of-Stmt n) (r : CType) (looped : Bool) → AreTypedStmts t r looped items → statements_size items ≤ 8 * start_nodes items
    start_bound end_of-Stmt r looped h = omega arith
    start_bound (more_of-Stmt (stmt.Expression e) items) r looped h = omega (arith, value_bound e h.0.0, start_bound items r looped h.1)
    start_bound (more_of-Stmt (stmt.Block' s xs) items) r looped h = omega (arith, statement_bound (stmt.Block' s xs) r looped h.0, start_bound items r looped h.1)
    start_bound (more_of-Stmt (stmt.Variable v) items) r looped h = omega (arith, statement_bound (stmt.Variable v) r looped h.0, start_bound items r looped h.1)
    start_bound (more_of-Stmt stmt.Empty items) r looped h = omega (arith, start_bound items r looped h.1)
    start_bound (more_of-Stmt (stmt.If' e s x q y) items) r looped h = omega (arith, statement_bound (stmt.If' e s x q y) r looped h.0, start_bound items r looped h.1)
    start_bound (more_of-Stmt (stmt.Loop' k e s x) items) r looped h = omega (arith, statement_bound (stmt.Loop' k e s x) r looped h.0, start_bound items r looped h.1)
    start_bound (more_of-Stmt (stmt.For' s x test step q y) items) r looped h = omega (arith, statement_bound (stmt.For' s x test step q y) r looped h.0, start_bound items r looped h.1)
    start_bound (more_of-Stmt stmt.Break items) r looped h = omega (arith, start_bound items r looped h.1)
    start_bound (more_of-Stmt stmt.Continue items) r looped h = omega (arith, start_bound items r looped h.1)
    start_bound (more_of-Stmt (stmt.Return e) items) r looped h = omega (arith, statement_bound (stmt.Return e) r looped h.0, start_bound items r looped h.1)

  list_bound : (items : List Stmt) (r : CType) (looped : Bool) → ListIsTyped t r looped items → list_size items ≤ 8 * list_nodes items
  list_bound [] r looped h = omega arith
  list_bound (item ∷ items) r looped h = omega (arith, statement_bound item r looped h.0, list_bound items r looped h.1)

meets_bound : (b : Bool) → meets_size b ≤ 1
meets_bound true = omega arith
meets_bound false = omega arith

function_bound : (u : UnitParts) (f : FunctionInfo) → IsFunction u f → function_size f ≤ 8 * function_nodes f
function_bound u f h = by f.body h.body
  where
    by : (body : Option Body) → IsBody u f body → function_size (record f { body = body }) ≤ 8 * function_nodes (record f { body = body })
    by None h = omega arith
    by (Some body) h = omega (arith, list_bound (tables_of u f body) body.items f.kind.result false h.typed, meets_bound f.kind.effects.no_block_inference)

functions_bound : (u : UnitParts) (fs : List FunctionInfo) → All (IsFunction u) fs → unit_size fs ≤ 8 * unit_nodes fs
functions_bound u [] h = omega arith
functions_bound u (f ∷ fs) h =
    omega (arith, function_bound u f (h 0 f (omega arith)), functions_bound u fs (λ k d low. h (suc k) d (omega (arith, low))))

-- At most eight instructions a node.
pub unit_bound : (u : UnitParts) → IsUnit u → unit_size u.functions ≤ 8 * unit_nodes u.functions
unit_bound u lawful = functions_bound u u.functions lawful.functions
