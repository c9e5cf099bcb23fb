-- What is appended for statements, as their parts are appended.
use Rattle.std.proofs.Common.{◌≡◌, refl, sym, ap, ◌∙◌, subst, ℕ, zero, suc, ◌+◌, ◌^◌, ◌<◌, ◌≤◌, ◌==◌, true, false, List, [], ◌∷◌, ◌++◌, length, take, Option, Some, None, arith, get_or}
use Rattle.std.proofs.Math.Dec.{eqb-suc-zero}
use Rattle.std.proofs.lemmas.List.{take_more, take_all}
use Rattle.std.proofs.lemmas.Result.{on_ok_weaker}
use Rattle.std.specs.Prelude.{Result, OnOk}
use denote.Hole.Carrier.{hidden}
use Rattle.core_unit.specs.Layout.{told}
use Rattle.core_unit.specs.declared.body.LocalVariable.{LocalVariable}
use Rattle.core_unit.specs.declared.body.LoopKind.{LoopKind}
use Rattle.core_unit.specs.declared.body.LoopKind.TheVariants as loop_kind
use Rattle.core_unit.specs.declared.body.Stmt.{Stmt}
use Rattle.core_unit.specs.declared.body.Stmt.TheBlock.{hidden-the_row-Stmt-0, shape-the_row-Stmt-0, hidden-the_row-Stmt-1, shape-the_row-Stmt-1}
use Rattle.core_unit.specs.declared.body.Stmt.TheVariants as form
use Rattle.core_unit.specs.declared.expressions.Expr.{Expr}
use Rattle.core_unit.specs.declared.tables.UnitParts.{UnitParts}
use Rattle.mcode.specs.declared.code.Instruction.TheVariants as i
use Rattle.c_codegen.specs.declared.draft.Draft.{Draft}
use Rattle.c_codegen.specs.Emits.{here, EmitsOne, EmitsValue, EmitsStatement, EmitsStatements, EmitsTest, EmitsOptional}
use Rattle.mcode.specs.Machine.{Program}
use Rattle.c_codegen.specs.Lies.{Stands, AllStand, ListStands}
use Rattle.c_codegen.specs.Sizes.{size, statement_size, statements_size, list_size, test_size, optional_size, listed_branches_size}
use Rattle.c_codegen.proofs.Emitted.{emits_then, emits_as}
use Rattle.c_codegen.proofs.EmittedStatements.{emits-Empty, emits-Expression, emits-Break, emits-Continue, emits-Return, emits-ReturnNothing, emits-Block, emits-If, emits-IfElse, emits-While, emits-DoWhile, emits-For, emits_no_test, emits_test, emits_no_step, emits_step, emits_no_statements, emits_statement, list_size_more}
use Rattle.c_codegen.proofs.StatedFrames.{end_within}
use Rattle.c_codegen.proofs.StatedRanks.{rank_within}

pub ruleset return_emissions = (emits-Return, emits-ReturnNothing)

-- the parts of a `for`
pub ruleset part_emissions = (emits_no_test, emits_test, emits_no_step, emits_step)

-- An `if`, by whether something stands behind `else`.

pub stated-If : (u : UnitParts) (d0 d1 d2 d3 : Draft) (e : Expr) (item : Stmt) (other : List Stmt) (out back at n : ℕ) → (length other == 0) ≡ true → at ≡ here d1 → n ≡ told (statement_size item) →
    here d1 + (statement_size item + 1) ≤ 2 ^ 21 → EmitsValue u d0 d1 e → EmitsOne d1 d2 (i.GoIfZero (at + n + 1)) → EmitsStatement u d2 d3 item out back →
    EmitsStatement u d0 d3 (form.If e item other) out back
stated-If u d0 d1 d2 d3 e item [] out back at n none here_is long room p0 p1 p2 = emits-If u d0 d1 d2 d3 e item out back (at + n + 1) p0 p1 (omega (arith, here_is, long, room)) p2
stated-If u d0 d1 d2 d3 e item (first ∷ others) out back at n none here_is long room p0 p1 p2 =
    let some : (length (first ∷ others) == 0) ≡ false = eqb-suc-zero (length others) in let clash : ⊥ = cc in absurd clash

pub stated-IfElse : (u : UnitParts) (d0 d1 d2 d3 d4 d5 : Draft) (e : Expr) (item : Stmt) (other : List Stmt) (out back at n m : ℕ) → (length other == 0) ≡ false → at ≡ here d1 →
    n ≡ told (statement_size item) → m ≡ told (list_size other) → here d1 + (statement_size item + list_size other + 2) ≤ 2 ^ 21 → EmitsValue u d0 d1 e →
    EmitsOne d1 d2 (i.GoIfZero (at + n + 1 + 1)) → EmitsStatement u d2 d3 item out back → EmitsOne d3 d4 (i.GoTo (at + n + 1 + 1 + m)) → EmitsStatements u d4 d5 other out back →
    EmitsStatement u d0 d5 (form.If e item other) out back
stated-IfElse u d0 d1 d2 d3 d4 d5 e item [] out back at n m some here_is long rest room p0 p1 p2 p3 p4 = let clash : ⊥ = cc in absurd clash
stated-IfElse u d0 d1 d2 d3 d4 d5 e item (first ∷ others) out back at n m some here_is long rest room p0 p1 p2 p3 p4 =
    emits-IfElse u d0 d1 d2 d3 d4 d5 e item first others out back (at + n + 1 + 1) (at + n + 1 + 1 + m) p0 p1 (omega (arith, here_is, long, room)) p2 p3 (omega (arith, here_is, long, rest, room)) p4

pub one_branch : (other : List Stmt) (item rest : ℕ) → (length other == 0) ≡ true → listed_branches_size other item rest ≡ item + 1
one_branch [] item rest none = refl
one_branch (first ∷ others) item rest none = let some : (length (first ∷ others) == 0) ≡ false = eqb-suc-zero (length others) in let clash : ⊥ = cc in absurd clash

pub two_branches : (other : List Stmt) (item rest : ℕ) → (length other == 0) ≡ false → listed_branches_size other item rest ≡ item + rest + 2
two_branches [] item rest some = let clash : ⊥ = cc in absurd clash
two_branches (first ∷ others) item rest some = refl

-- at least what stands behind the condition and a jump
pub first_branch : (other : List Stmt) (item rest : ℕ) → item + 1 ≤ listed_branches_size other item rest
first_branch [] item rest = omega arith
first_branch (first ∷ others) item rest = omega arith

pub ruleset branch_emissions = (stated-If, stated-IfElse, one_branch, two_branches, first_branch)

-- Loops. Where the jumps of what stands round them go is nothing to them.

pub stated-While : (u : UnitParts) (d0 d1 d2 d3 d4 d5 : Draft) (e : Expr) (body : Stmt) (out back top n m : ℕ) → top ≡ here d0 → n ≡ told (size e) → m ≡ told (statement_size body) →
    here d0 + (size e + statement_size body + 3) ≤ 2 ^ 21 → EmitsOne d0 d1 i.CheckHalt → EmitsValue u d1 d2 e → EmitsOne d2 d3 (i.GoIfZero (top + n + m + 2 + 1)) →
    EmitsStatement u d3 d4 body (top + n + m + 2 + 1) (top + n + m + 2) → EmitsOne d4 d5 (i.GoTo top) → EmitsStatement u d0 d5 (form.Loop loop_kind.While e body) out back
stated-While u d0 d1 d2 d3 d4 d5 e body out back top n m there long rest room p0 p1 p2 p3 p4 =
    emits-While u d0 d1 d2 d3 d4 d5 e body out back (top + n + m + 2 + 1) (top + n + m + 2) top p0 p1 p2 (omega (arith, there, long, rest, room)) p3 (omega (arith, there, long, rest, room)) p4 there

pub stated-DoWhile : (u : UnitParts) (d0 d1 d2 d3 d4 : Draft) (e : Expr) (body : Stmt) (out back top n m : ℕ) → top ≡ here d0 → n ≡ told (statement_size body) → m ≡ told (size e) →
    here d0 + (size e + statement_size body + 2) ≤ 2 ^ 21 → EmitsOne d0 d1 i.CheckHalt → EmitsStatement u d1 d2 body (top + n + 1 + m + 1) (top + n + 1) → EmitsValue u d2 d3 e →
    EmitsOne d3 d4 (i.GoIfNotZero top) → EmitsStatement u d0 d4 (form.Loop loop_kind.DoWhile e body) out back
stated-DoWhile u d0 d1 d2 d3 d4 e body out back top n m there long rest room p0 p1 p2 p3 =
    emits-DoWhile u d0 d1 d2 d3 d4 e body out back (top + n + 1 + m + 1) (top + n + 1) top p0 p1 (omega (arith, there, long, rest, room)) (omega (arith, there, long, rest, room)) p2 p3 there

pub stated-For : (u : UnitParts) (d0 d1 d2 d3 d4 d5 : Draft) (test step : Option Expr) (body : Stmt) (out back top n m k : ℕ) → top ≡ here d0 → n ≡ told (test_size test) →
    m ≡ told (statement_size body) → k ≡ told (optional_size step) → here d0 + (test_size test + statement_size body + optional_size step + 2) ≤ 2 ^ 21 → EmitsOne d0 d1 i.CheckHalt →
    EmitsTest u d1 d2 test (top + n + m + 1 + k + 1) → EmitsStatement u d2 d3 body (top + n + m + 1 + k + 1) (top + n + m + 1) → EmitsOptional u d3 d4 step → EmitsOne d4 d5 (i.GoTo top) →
    EmitsStatement u d0 d5 (form.For [] test step body) out back
stated-For u d0 d1 d2 d3 d4 d5 test step body out back top n m k there tests rest steps room p0 p1 p2 p3 p4 =
    emits-For u d0 d0 d1 d2 d3 d4 d5 [] test step body out back (top + n + m + 1 + k + 1) (top + n + m + 1) top (emits_no_statements u d0 d0 out back refl) p0 p1
    (omega (arith, there, tests, rest, steps, room)) p2 (omega (arith, there, tests, rest, steps, room)) p3 p4 there

pub ruleset loop_emissions = (stated-While, stated-DoWhile, stated-For)

-- Statements, one after another.

pub statements_start : (u : UnitParts) (d : Draft) (out back : ℕ) → EmitsStatements u d d [] out back × (here d ≡ here d + list_size [])
statements_start u d out back = (emits_no_statements u d d out back refl, omega arith)

one_more : (items : List Stmt) (n : ℕ) (item : Stmt) → n < length items → item ≡ get_or items n item → take (n + 1) items ≡ take n items ++ item ∷ []
one_more items n item low is = take_more items n item low ∙ ap (λ x. take n items ++ x ∷ []) (sym is)

pub statements_next : (u : UnitParts) (d0 d1 d2 : Draft) (items : List Stmt) (n : ℕ) (item : Stmt) (out back : ℕ) → n < length items → item ≡ get_or items n item →
    EmitsStatements u d0 d1 (take n items) out back × (here d1 ≡ here d0 + list_size (take n items)) → EmitsStatement u d1 d2 item out back → here d2 ≡ here d1 + statement_size item →
    EmitsStatements u d0 d2 (take (n + 1) items) out back × (here d2 ≡ here d0 + list_size (take (n + 1) items))
statements_next u d0 d1 d2 items n item out back low is so_far code long = (
  subst (λ l. EmitsStatements u d0 d2 l out back) (sym (one_more items n item low is)) (emits_statement u d0 d1 d2 (take n items) item out back so_far.0 code),
  omega (arith, so_far.1, long, list_size_more (take n items) item, ap list_size (one_more items n item low is)),
)

pub statements_room : (items : List Stmt) (n : ℕ) (item : Stmt) → n < length items → item ≡ get_or items n item → list_size (take n items) + statement_size item ≤ list_size items
statements_room [] n item low is = absurd (omega (arith, low))
statements_room (x ∷ items) zero item low is = let same : statement_size item ≡ statement_size x = ap statement_size is in omega (arith, same)
statements_room (x ∷ items) (suc n) item low is = let rest = statements_room items n item (omega (arith, low)) is in omega (arith, rest)

pub statements_end : (u : UnitParts) (d0 d1 : Draft) (items : List Stmt) (n : ℕ) (out back : ℕ) → length items ≤ n →
    EmitsStatements u d0 d1 (take n items) out back × (here d1 ≡ here d0 + list_size (take n items)) → EmitsStatements u d0 d1 items out back × (here d1 ≡ here d0 + list_size items)
statements_end u d0 d1 items n out back past so_far = subst (λ l. EmitsStatements u d0 d1 l out back × (here d1 ≡ here d0 + list_size l)) (take_all n items past) so_far

pub ruleset list_emissions = (statements_room, end_within, rank_within, statements_end)

-- A statement whose code is that of a part, or whose form takes the jumps itself.

pub return_anywhere : (u : UnitParts) (d0 d1 : Draft) (value : Option Expr) (out back : ℕ) → EmitsStatement u d0 d1 (form.Return value) 0 0 → EmitsStatement u d0 d1 (form.Return value) out back
unfolding Stands EmitsStatement
return_anywhere u d0 d1 (Some e) out back p = p
return_anywhere u d0 d1 None out back p = p

pub variable_anywhere : (u : UnitParts) (d0 d1 : Draft) (v : LocalVariable) (out back : ℕ) → EmitsStatement u d0 d1 (form.Variable v) 0 0 → EmitsStatement u d0 d1 (form.Variable v) out back
unfolding Stands EmitsStatement
variable_anywhere u d0 d1 v out back p = p

pub loop_anywhere : (u : UnitParts) (d0 d1 : Draft) (kind : LoopKind) (e : Expr) (body : Stmt) (out back : ℕ) → EmitsStatement u d0 d1 (form.Loop kind e body) 0 0 →
    EmitsStatement u d0 d1 (form.Loop kind e body) out back
unfolding Stands EmitsStatement hidden hidden-the_row-Stmt-0 shape-the_row-Stmt-0 hidden-the_row-Stmt-1 shape-the_row-Stmt-1
loop_anywhere u d0 d1 loop_kind.While e body out back p = p
loop_anywhere u d0 d1 loop_kind.DoWhile e body out back p = p

row_stands : (u : UnitParts) (c : Program) (items : List Stmt) (out back from to : ℕ) → ListStands u c items out back from to → AllStand u c (hidden-the_row-Stmt-0 items) out back from to
unfolding statement_size Stands hidden hidden-the_row-Stmt-0 shape-the_row-Stmt-0 hidden-the_row-Stmt-1 shape-the_row-Stmt-1
row_stands u c [] out back from to l = l
row_stands u c (item ∷ items) out back from to l = (l.0, l.1, row_stands u c items out back l.0 to l.2)

row_size : (items : List Stmt) → statements_size (hidden-the_row-Stmt-0 items) ≡ list_size items
unfolding statement_size hidden hidden-the_row-Stmt-0 shape-the_row-Stmt-0 hidden-the_row-Stmt-1 shape-the_row-Stmt-1
row_size [] = refl
row_size (item ∷ items) = ap (λ n. statement_size item + n) (row_size items)

-- `for (start; test; step) body` is the start and then `for (; test; step) body`
pub for_behind : (u : UnitParts) (d0 d1 d2 : Draft) (start : List Stmt) (test step : Option Expr) (body : Stmt) (out back : ℕ) → EmitsStatements u d0 d1 start out back →
    EmitsStatement u d1 d2 (form.For [] test step body) 0 0 → EmitsStatement u d0 d2 (form.For start test step body) out back
unfolding statement_size Stands EmitsStatement EmitsStatements hidden hidden-the_row-Stmt-0 shape-the_row-Stmt-0 hidden-the_row-Stmt-1 shape-the_row-Stmt-1
for_behind u d0 d1 d2 start test step body out back p0 p1 =
    emits_as d0 d2 _ _ _ _ (emits_then d0 d1 d2 _ _ _ _ p0 p1) (omega (arith, row_size start))
    (λ c q. (
      q.1.0,
      q.1.1,
      q.1.2,
      subst (λ n. AllStand u c (hidden-the_row-Stmt-0 start) out back (here d0) n) q.1.3 (row_stands u c start out back (here d0) (here d1) q.0),
      q.1.4,
    ))

module _ {E : Type 0} (r : Result (Prim.Unit {0}) E) (u : UnitParts) (d0 d1 : Draft) (s : Stmt) (out back : ℕ) where
  -- the code of one statement is another's
  ends_as : (t : Stmt) → s ≡ t → {P : Type 0} → (P → EmitsStatement u d0 d1 t out back) → OnOk r P → OnOk r (EmitsStatement u d0 d1 s out back)
  ends_as t is f h = on_ok_weaker r (λ p. subst (λ x. EmitsStatement u d0 d1 x out back) (sym is) (f p)) h

  pub ends_Block : (items : List Stmt) → s ≡ form.Block items → OnOk r (EmitsStatements u d0 d1 items out back) → OnOk r (EmitsStatement u d0 d1 s out back)
  ends_Block items is h = ends_as (form.Block items) is (λ p. emits-Block u d0 d1 items out back p) h

  pub ends_Variable : (v : LocalVariable) → s ≡ form.Variable v → OnOk r (EmitsStatement u d0 d1 (form.Variable v) 0 0) → OnOk r (EmitsStatement u d0 d1 s out back)
  ends_Variable v is h = ends_as (form.Variable v) is (λ p. variable_anywhere u d0 d1 v out back p) h

  pub ends_Expression : (e : Expr) → s ≡ form.Expression e → OnOk r (EmitsValue u d0 d1 e) → OnOk r (EmitsStatement u d0 d1 s out back)
  ends_Expression e is h = ends_as (form.Expression e) is (λ p. emits-Expression u d0 d1 e out back p) h

  pub ends_If : (e : Expr) (item : Stmt) (other : List Stmt) → s ≡ form.If e item other → OnOk r (EmitsStatement u d0 d1 (form.If e item other) out back) → OnOk r (EmitsStatement u d0 d1 s out back)
  ends_If e item other is h = ends_as (form.If e item other) is (λ p. p) h

  pub ends_Loop : (kind : LoopKind) (e : Expr) (body : Stmt) → s ≡ form.Loop kind e body → OnOk r (EmitsStatement u d0 d1 (form.Loop kind e body) 0 0) → OnOk r (EmitsStatement u d0 d1 s out back)
  ends_Loop kind e body is h = ends_as (form.Loop kind e body) is (λ p. loop_anywhere u d0 d1 kind e body out back p) h

  pub ends_For : (d : Draft) (start : List Stmt) (test step : Option Expr) (body : Stmt) → s ≡ form.For start test step body → EmitsStatements u d0 d start out back →
      OnOk r (EmitsStatement u d d1 (form.For [] test step body) 0 0) → OnOk r (EmitsStatement u d0 d1 s out back)
  ends_For d start test step body is p0 h = ends_as (form.For start test step body) is (λ p. for_behind u d0 d d1 start test step body out back p0 p) h

  pub ends_Break : s ≡ form.Break → OnOk r (EmitsOne d0 d1 (i.GoTo out)) → OnOk r (EmitsStatement u d0 d1 s out back)
  ends_Break is h = ends_as form.Break is (λ p. emits-Break u d0 d1 out back p) h

  pub ends_Continue : s ≡ form.Continue → OnOk r (EmitsOne d0 d1 (i.GoTo back)) → OnOk r (EmitsStatement u d0 d1 s out back)
  ends_Continue is h = ends_as form.Continue is (λ p. emits-Continue u d0 d1 out back p) h

  pub ends_Return : (value : Option Expr) → s ≡ form.Return value → OnOk r (EmitsStatement u d0 d1 (form.Return value) 0 0) → OnOk r (EmitsStatement u d0 d1 s out back)
  ends_Return value is h = ends_as (form.Return value) is (λ p. return_anywhere u d0 d1 value out back p) h

pub ruleset statement_emissions = (emits-Empty, ends_Block, ends_Variable, ends_Expression, ends_If, ends_Loop, ends_For, ends_Break, ends_Continue, ends_Return)
