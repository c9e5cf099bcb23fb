-- Statements are typed where their parts are, and their automatic variables are those of their parts: one lemma a form.
use Rattle.std.proofs.Common.{◌≡◌, ◌≤◌, Bool, true, false, refl, sym, ap, subst, List, [], ◌∷◌, ◌++◌, length, Option, arith, inl, inr}
use Rattle.std.specs.Prelude.{◌⊎◌}
use denote.Hole.Carrier.{hidden}
use Rattle.eff_types.specs.declared.types.CType.{CType}
use Rattle.core_unit.specs.Layout.{automatics, all_automatics, list_automatics}
use Rattle.core_unit.specs.Typed.{Tables, IsTypedStmt, AreTypedStmts, ListIsTyped, IsCondition, IsEvaluated, IsOptional, IsReturn, IsAtMostOne, IsStart, AreVariables, is_variable}
use Rattle.core_unit.specs.declared.body.LoopKind.{LoopKind}
use Rattle.core_unit.specs.declared.body.Stmt as form
use Rattle.core_unit.specs.declared.body.Stmt.{Stmt}
use Rattle.core_unit.specs.declared.body.Stmt.TheBlock.{hidden-the_row-Stmt-0, shape-the_row-Stmt-0, hidden-the_row-Stmt-1, shape-the_row-Stmt-1}
use Rattle.core_unit.specs.declared.body.Stmt.TheVariants as stmt
use Rattle.core_unit.specs.declared.expressions.Expr.{Expr}
use Rattle.core_unit.specs.declared.tables.StructInfo.{StructInfo}
use Rattle.type_laws.proofs.Each.{Each}

typed_row : (u : Tables) (r : CType) (looped : Bool) (ss : List Stmt) → ListIsTyped u r looped ss → AreTypedStmts u r looped (hidden-the_row-Stmt-0 ss)
unfolding IsTypedStmt hidden hidden-the_row-Stmt-0 shape-the_row-Stmt-0
typed_row u r looped [] h = tt
typed_row u r looped (s ∷ ss) h = (h.0, typed_row u r looped ss h.1)

autos_row : (structures : List StructInfo) (ss : List Stmt) → all_automatics structures (hidden-the_row-Stmt-0 ss) ≡ list_automatics structures ss
unfolding automatics hidden hidden-the_row-Stmt-0 shape-the_row-Stmt-0
autos_row structures [] = refl
autos_row structures (s ∷ ss) = ap (λ rest. automatics structures s ++ rest) (autos_row structures ss)

pub typed-Block : (u : Tables) (r : CType) (looped : Bool) (ss : List Stmt) → ListIsTyped u r looped ss → IsTypedStmt u r looped (stmt.Block ss)
unfolding IsTypedStmt hidden hidden-the_row-Stmt-0 shape-the_row-Stmt-0
typed-Block u r looped ss h = typed_row u r looped ss h

pub autos-Block : (structures : List StructInfo) (ss : List Stmt) → automatics structures (stmt.Block ss) ≡ list_automatics structures ss
unfolding automatics hidden hidden-the_row-Stmt-0 shape-the_row-Stmt-0
autos-Block structures ss = autos_row structures ss

one_at_most : (ss : List Stmt) → length ss ≤ 1 → IsAtMostOne (hidden-the_row-Stmt-0 ss)
unfolding hidden hidden-the_row-Stmt-0 shape-the_row-Stmt-0
one_at_most [] few = tt
one_at_most (s ∷ []) few = tt
one_at_most (s ∷ t ∷ ss) few = absurd (omega arith)

pub typed-If : (u : Tables) (r : CType) (looped : Bool) (c : Expr) (s : Stmt) (other : List Stmt) → IsCondition u c → IsTypedStmt u r looped s → ListIsTyped u r looped other
    → length other ≤ 1 → IsTypedStmt u r looped (stmt.If c s other)
unfolding IsTypedStmt hidden hidden-the_row-Stmt-0 shape-the_row-Stmt-0 hidden-the_row-Stmt-1 shape-the_row-Stmt-1
typed-If u r looped c s other p q h few = (p, q, typed_row u r looped other h, one_at_most other few)

pub autos-If : (structures : List StructInfo) (c : Expr) (s : Stmt) (other : List Stmt)
    → automatics structures (stmt.If c s other) ≡ automatics structures s ++ list_automatics structures other
unfolding automatics hidden hidden-the_row-Stmt-0 shape-the_row-Stmt-0 hidden-the_row-Stmt-1 shape-the_row-Stmt-1
autos-If structures c s other = ap (λ rest. automatics structures s ++ rest) (autos_row structures other)

pub typed-Loop : (u : Tables) (r : CType) (looped : Bool) (kind : LoopKind) (c : Expr) (s : Stmt) → IsCondition u c → IsTypedStmt u r true s → IsTypedStmt u r looped (stmt.Loop kind c s)
unfolding IsTypedStmt hidden hidden-the_row-Stmt-0 shape-the_row-Stmt-0 hidden-the_row-Stmt-1 shape-the_row-Stmt-1
typed-Loop u r looped kind c s p q = (p, q)

pub autos-Loop : (structures : List StructInfo) (kind : LoopKind) (c : Expr) (s : Stmt) → automatics structures (stmt.Loop kind c s) ≡ automatics structures s
unfolding automatics hidden hidden-the_row-Stmt-0 shape-the_row-Stmt-0 hidden-the_row-Stmt-1 shape-the_row-Stmt-1
autos-Loop structures kind c s = refl

-- what a `for` begins with
abbrev pub StartsWith : List Stmt → Type 0
StartsWith ss = Each (λ x. is_variable x ≡ true) ss ⊎ ((e : Expr) × (ss ≡ stmt.Expression e ∷ []))

variables_row : (ss : List Stmt) → Each (λ x. is_variable x ≡ true) ss → AreVariables (hidden-the_row-Stmt-0 ss)
unfolding AreVariables hidden hidden-the_row-Stmt-0 shape-the_row-Stmt-0
variables_row [] each = tt
variables_row (s ∷ ss) each = (each.0, variables_row ss each.1)

variables_start : (ss : List Stmt) → Each (λ x. is_variable x ≡ true) ss → IsStart (hidden-the_row-Stmt-0 ss)
unfolding AreVariables hidden hidden-the_row-Stmt-0 shape-the_row-Stmt-0
variables_start [] each = tt
variables_start (form.Variable v ∷ ss) each = (refl, variables_row ss each.1)
variables_start (form.Block' _ items ∷ ss) each = let clash : false ≡ true = each.0 in absurd (cc)
variables_start (form.Empty ∷ ss) each = let clash : false ≡ true = each.0 in absurd (cc)
variables_start (form.Expression e ∷ ss) each = let clash : false ≡ true = each.0 in absurd (cc)
variables_start (form.If' c _ s _ other ∷ ss) each = let clash : false ≡ true = each.0 in absurd (cc)
variables_start (form.Loop' kind c _ s ∷ ss) each = let clash : false ≡ true = each.0 in absurd (cc)
variables_start (form.For' _ start test step _ s ∷ ss) each = let clash : false ≡ true = each.0 in absurd (cc)
variables_start (form.Break ∷ ss) each = let clash : false ≡ true = each.0 in absurd (cc)
variables_start (form.Continue ∷ ss) each = let clash : false ≡ true = each.0 in absurd (cc)
variables_start (form.Return e ∷ ss) each = let clash : false ≡ true = each.0 in absurd (cc)

one_expression : (e : Expr) → IsStart (hidden-the_row-Stmt-0 (stmt.Expression e ∷ []))
unfolding hidden hidden-the_row-Stmt-0 shape-the_row-Stmt-0
one_expression e = tt

start_row : (ss : List Stmt) → StartsWith ss → IsStart (hidden-the_row-Stmt-0 ss)
start_row ss (inl each) = variables_start ss each
start_row ss (inr h) = subst (λ xs. IsStart (hidden-the_row-Stmt-0 xs)) (sym h.1) (one_expression h.0)

pub typed-For : (u : Tables) (r : CType) (looped : Bool) (start : List Stmt) (test step : Option Expr) (s : Stmt) → ListIsTyped u r false start → StartsWith start
    → IsOptional (IsCondition u) test → IsOptional (IsEvaluated u) step → IsTypedStmt u r true s → IsTypedStmt u r looped (stmt.For start test step s)
unfolding IsTypedStmt hidden hidden-the_row-Stmt-0 shape-the_row-Stmt-0 hidden-the_row-Stmt-1 shape-the_row-Stmt-1
typed-For u r looped start test step s a b c d e = (typed_row u r false start a, start_row start b, c, d, e)

pub autos-For : (structures : List StructInfo) (start : List Stmt) (test step : Option Expr) (s : Stmt)
    → automatics structures (stmt.For start test step s) ≡ list_automatics structures start ++ automatics structures s
unfolding automatics hidden hidden-the_row-Stmt-0 shape-the_row-Stmt-0 hidden-the_row-Stmt-1 shape-the_row-Stmt-1
autos-For structures start test step s = ap (λ first. first ++ automatics structures s) (autos_row structures start)

-- statements without parts
pub typed-Expression : (u : Tables) (r : CType) (looped : Bool) (e : Expr) → IsEvaluated u e → IsTypedStmt u r looped (stmt.Expression e)
unfolding IsTypedStmt
typed-Expression u r looped e h = h

pub typed-Empty : (u : Tables) (r : CType) (looped : Bool) → IsTypedStmt u r looped stmt.Empty
unfolding IsTypedStmt
typed-Empty u r looped = tt

pub typed-Break : (u : Tables) (r : CType) (looped : Bool) → looped ≡ true → IsTypedStmt u r looped stmt.Break
unfolding IsTypedStmt
typed-Break u r looped h = h

pub typed-Continue : (u : Tables) (r : CType) (looped : Bool) → looped ≡ true → IsTypedStmt u r looped stmt.Continue
unfolding IsTypedStmt
typed-Continue u r looped h = h

pub typed-Return : (u : Tables) (r : CType) (looped : Bool) (e : Option Expr) → IsReturn u r e → IsTypedStmt u r looped (stmt.Return e)
unfolding IsTypedStmt
typed-Return u r looped e h = h

pub no_autos : (structures : List StructInfo) (e : Option Expr) (x : Expr) → (automatics structures (stmt.Return e) ≡ []) × (automatics structures (stmt.Expression x) ≡ [])
    × (automatics structures stmt.Empty ≡ []) × (automatics structures stmt.Break ≡ []) × (automatics structures stmt.Continue ≡ [])
unfolding automatics
no_autos structures e x = (refl, refl, refl, refl, refl)
