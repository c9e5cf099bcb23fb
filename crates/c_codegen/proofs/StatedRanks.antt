-- A measure of statements that is greater than those of their parts.
use Rattle.std.proofs.Common.{◌≡◌, refl, ap, ℕ, zero, suc, ◌+◌, ◌<◌, ◌≤◌, List, [], ◌∷◌, length, Option, arith, get_or}
use denote.Hole.Carrier.{hidden}
use Rattle.core_unit.specs.declared.body.LoopKind.{LoopKind}
use Rattle.core_unit.specs.declared.body.Stmt as stmt
use Rattle.core_unit.specs.declared.body.Stmt.{Stmt, Row_of-Stmt, end_of-Stmt, more_of-Stmt}
use Rattle.core_unit.specs.declared.body.Stmt.TheBlock.{hidden-the_row-Stmt-0, shape-the_row-Stmt-0, hidden-the_row-Stmt-1, shape-the_row-Stmt-1}
use Rattle.core_unit.specs.declared.body.Stmt.TheVariants as form
use Rattle.core_unit.specs.declared.expressions.Expr.{Expr}

unfoldable mutual
  pub rank : Stmt → ℕ
  rank (stmt.Block' _ items) = ranks items + 3
  rank (stmt.If' e _ (more_of-Stmt item end_of-Stmt) _ other) = rank item + ranks other + 3
  rank (stmt.Loop' kind e _ (more_of-Stmt body end_of-Stmt)) = rank body + 3
  rank (stmt.For' _ start test step _ (more_of-Stmt body end_of-Stmt)) = ranks start + rank body + 3
  rank _ = 0

  pub ranks : {n : _} → Row_of-Stmt n → ℕ
  ranks end_of-Stmt = 0
  ranks (more_of-Stmt item items) = rank item + ranks items

-- the same of a list
abbrev pub list_rank : List Stmt → ℕ
list_rank [] = 0
list_rank (item ∷ items) = rank item + list_rank items

rank_row : (items : List Stmt) → ranks (hidden-the_row-Stmt-0 items) ≡ list_rank items
unfolding rank hidden hidden-the_row-Stmt-0 shape-the_row-Stmt-0 hidden-the_row-Stmt-1 shape-the_row-Stmt-1
rank_row [] = refl
rank_row (item ∷ items) = ap (λ n. rank item + n) (rank_row items)

pub rank-Block : (items : List Stmt) → rank (form.Block items) ≡ list_rank items + 3
unfolding rank hidden hidden-the_row-Stmt-0 shape-the_row-Stmt-0 hidden-the_row-Stmt-1 shape-the_row-Stmt-1
rank-Block items = ap (λ n. n + 3) (rank_row items)

pub rank-If : (e : Expr) (item : Stmt) (other : List Stmt) → rank (form.If e item other) ≡ rank item + list_rank other + 3
unfolding rank hidden hidden-the_row-Stmt-0 shape-the_row-Stmt-0 hidden-the_row-Stmt-1 shape-the_row-Stmt-1
rank-If e item other = ap (λ n. rank item + n + 3) (rank_row other)

pub rank-Loop : (kind : LoopKind) (e : Expr) (body : Stmt) → rank (form.Loop kind e body) ≡ rank body + 3
unfolding rank hidden hidden-the_row-Stmt-0 shape-the_row-Stmt-0 hidden-the_row-Stmt-1 shape-the_row-Stmt-1
rank-Loop kind e body = refl

pub rank-For : (start : List Stmt) (test step : Option Expr) (body : Stmt) → rank (form.For start test step body) ≡ list_rank start + rank body + 3
unfolding rank hidden hidden-the_row-Stmt-0 shape-the_row-Stmt-0 hidden-the_row-Stmt-1 shape-the_row-Stmt-1
rank-For start test step body = ap (λ n. n + rank body + 3) (rank_row start)

pub ruleset rank_rules = (rank-Block, rank-If, rank-Loop, rank-For)

-- one of a list has no higher one than all
pub rank_within : (items : List Stmt) (n : ℕ) (item : Stmt) → n < length items → item ≡ get_or items n item → rank item ≤ list_rank items
rank_within [] n item low is = absurd (omega (arith, low))
rank_within (x ∷ items) zero item low is = let same : rank item ≡ rank x = ap rank is in omega (arith, same)
rank_within (x ∷ items) (suc n) item low is = let rest = rank_within items n item (omega (arith, low)) is in omega (arith, rest)
