-- A measure of expressions and places that is greater than those of their parts.
use Rattle.std.proofs.Common.{◌≡◌, refl, ap, ℕ, zero, suc, ◌+◌, ◌<◌, ◌≤◌, List, [], ◌∷◌, length, arith, get_or}
use denote.Hole.Carrier.{hidden}
use Rattle.core_unit.specs.declared.expressions.Expr as expr
use Rattle.core_unit.specs.declared.expressions.Expr.{Expr, Row_of-Expr, end_of-Expr, more_of-Expr, end_of-Place, more_of-Place}
use Rattle.core_unit.specs.declared.expressions.Expr.TheBlock.{hidden-the_row-Expr-0, shape-the_row-Expr-0, hidden-the_row-Place-1, shape-the_row-Place-1, hidden-the_row-Expr-2, shape-the_row-Expr-2}
use Rattle.core_unit.specs.declared.expressions.Expr.TheVariants as form
use Rattle.core_unit.specs.declared.expressions.Place as place
use Rattle.core_unit.specs.declared.expressions.Place.{Place}
use Rattle.core_unit.specs.declared.expressions.Place.TheVariants as place_form
use Rattle.core_unit.specs.declared.operators.BinaryOperator.{BinaryOperator}
use Rattle.core_unit.specs.declared.operators.Cause.{Cause}
use Rattle.core_unit.specs.declared.operators.LogicalOperator.{LogicalOperator}
use Rattle.core_unit.specs.declared.operators.PointerSide.{PointerSide}
use Rattle.core_unit.specs.declared.operators.StepValue.{StepValue}
use Rattle.core_unit.specs.declared.operators.UnaryOperator.{UnaryOperator}
use Rattle.core_unit.specs.declared.operators.Update.{Update}
use Rattle.eff_types.specs.declared.types.CType.{CType}

unfoldable mutual
  pub place_rank : Place → ℕ
  place_rank (place.Indirection' _ (more_of-Expr e end_of-Expr) t) = rank e + 2
  place_rank (place.Arrow' _ (more_of-Expr e end_of-Expr) structure) = rank e + 2
  place_rank (place.Element' _ (more_of-Expr a end_of-Expr) _ (more_of-Expr b end_of-Expr) side words t) = rank a + rank b + 2
  place_rank (place.Member' _ (more_of-Place o end_of-Place) offset t) = place_rank o + 2
  place_rank _ = 0

  pub rank : Expr → ℕ
  rank (expr.TargetFunction' _ (more_of-Expr e end_of-Expr)) = rank e + 2
  rank (expr.FunctionPointer' _ (more_of-Expr e end_of-Expr)) = rank e + 2
  rank (expr.ArrayPointer' _ (more_of-Place o end_of-Place)) = place_rank o + 2
  rank (expr.AddressOf' _ (more_of-Place o end_of-Place)) = place_rank o + 2
  rank (expr.Load' _ (more_of-Place o end_of-Place)) = place_rank o + 2
  rank (expr.Assign' _ (more_of-Place o end_of-Place) _ (more_of-Expr e end_of-Expr)) = place_rank o + rank e + 2
  rank (expr.Compound' _ (more_of-Place o end_of-Place) how _ (more_of-Expr e end_of-Expr)) = place_rank o + rank e + 2
  rank (expr.Step' _ (more_of-Place o end_of-Place) how which) = place_rank o + 2
  rank (expr.Unary' operator _ (more_of-Expr e end_of-Expr)) = rank e + 2
  rank (expr.Binary' operator _ (more_of-Expr a end_of-Expr) _ (more_of-Expr b end_of-Expr)) = rank a + rank b + 2
  rank (expr.Logical' operator _ (more_of-Expr a end_of-Expr) _ (more_of-Expr b end_of-Expr)) = rank a + rank b + 2
  rank (expr.Conditional' _ (more_of-Expr d end_of-Expr) _ (more_of-Expr a end_of-Expr) _ (more_of-Expr b end_of-Expr)) = rank d + rank a + rank b + 2
  rank (expr.Comma' _ (more_of-Expr a end_of-Expr) _ (more_of-Expr b end_of-Expr)) = rank a + rank b + 2
  rank (expr.Call' at site _ (more_of-Expr e end_of-Expr) _ es) = rank e + ranks es + 3
  rank (expr.Convert' why t _ (more_of-Expr e end_of-Expr)) = rank e + 2
  rank (expr.Discard' _ (more_of-Expr e end_of-Expr)) = rank e + 2
  rank _ = 0

  pub ranks : {n : _} → Row_of-Expr n → ℕ
  ranks end_of-Expr = 0
  ranks (more_of-Expr e es) = rank e + ranks es

-- the same of a list
abbrev pub list_rank : List Expr → ℕ
list_rank [] = 0
list_rank (e ∷ es) = rank e + list_rank es

rank_row : (es : List Expr) → ranks (hidden-the_row-Expr-2 es) ≡ list_rank es
unfolding rank hidden hidden-the_row-Expr-0 shape-the_row-Expr-0 hidden-the_row-Place-1 shape-the_row-Place-1 hidden-the_row-Expr-2 shape-the_row-Expr-2
rank_row [] = refl
rank_row (e ∷ es) = ap (λ n. rank e + n) (rank_row es)

pub rank-Indirection : (e : Expr) (t : CType) → place_rank (place_form.Indirection e t) ≡ rank e + 2
unfolding rank hidden hidden-the_row-Expr-0 shape-the_row-Expr-0 hidden-the_row-Place-1 shape-the_row-Place-1 hidden-the_row-Expr-2 shape-the_row-Expr-2
rank-Indirection e t = refl

pub rank-Arrow : (e : Expr) (structure : ℕ) → place_rank (place_form.Arrow e structure) ≡ rank e + 2
unfolding rank hidden hidden-the_row-Expr-0 shape-the_row-Expr-0 hidden-the_row-Place-1 shape-the_row-Place-1 hidden-the_row-Expr-2 shape-the_row-Expr-2
rank-Arrow e structure = refl

pub rank-Element : (a b : Expr) (side : PointerSide) (words : ℕ) (t : CType) → place_rank (place_form.Element a b side words t) ≡ rank a + rank b + 2
unfolding rank hidden hidden-the_row-Expr-0 shape-the_row-Expr-0 hidden-the_row-Place-1 shape-the_row-Place-1 hidden-the_row-Expr-2 shape-the_row-Expr-2
rank-Element a b side words t = refl

pub rank-Member : (o : Place) (offset : ℕ) (t : CType) → place_rank (place_form.Member o offset t) ≡ place_rank o + 2
unfolding rank hidden hidden-the_row-Expr-0 shape-the_row-Expr-0 hidden-the_row-Place-1 shape-the_row-Place-1 hidden-the_row-Expr-2 shape-the_row-Expr-2
rank-Member o offset t = refl

pub rank-TargetFunction : (e : Expr) → rank (form.TargetFunction e) ≡ rank e + 2
unfolding rank hidden hidden-the_row-Expr-0 shape-the_row-Expr-0 hidden-the_row-Place-1 shape-the_row-Place-1 hidden-the_row-Expr-2 shape-the_row-Expr-2
rank-TargetFunction e = refl

pub rank-FunctionPointer : (e : Expr) → rank (form.FunctionPointer e) ≡ rank e + 2
unfolding rank hidden hidden-the_row-Expr-0 shape-the_row-Expr-0 hidden-the_row-Place-1 shape-the_row-Place-1 hidden-the_row-Expr-2 shape-the_row-Expr-2
rank-FunctionPointer e = refl

pub rank-ArrayPointer : (o : Place) → rank (form.ArrayPointer o) ≡ place_rank o + 2
unfolding rank hidden hidden-the_row-Expr-0 shape-the_row-Expr-0 hidden-the_row-Place-1 shape-the_row-Place-1 hidden-the_row-Expr-2 shape-the_row-Expr-2
rank-ArrayPointer o = refl

pub rank-AddressOf : (o : Place) → rank (form.AddressOf o) ≡ place_rank o + 2
unfolding rank hidden hidden-the_row-Expr-0 shape-the_row-Expr-0 hidden-the_row-Place-1 shape-the_row-Place-1 hidden-the_row-Expr-2 shape-the_row-Expr-2
rank-AddressOf o = refl

pub rank-Load : (o : Place) → rank (form.Load o) ≡ place_rank o + 2
unfolding rank hidden hidden-the_row-Expr-0 shape-the_row-Expr-0 hidden-the_row-Place-1 shape-the_row-Place-1 hidden-the_row-Expr-2 shape-the_row-Expr-2
rank-Load o = refl

pub rank-Assign : (o : Place) (e : Expr) → rank (form.Assign o e) ≡ place_rank o + rank e + 2
unfolding rank hidden hidden-the_row-Expr-0 shape-the_row-Expr-0 hidden-the_row-Place-1 shape-the_row-Place-1 hidden-the_row-Expr-2 shape-the_row-Expr-2
rank-Assign o e = refl

pub rank-Compound : (o : Place) (how : Update) (e : Expr) → rank (form.Compound o how e) ≡ place_rank o + rank e + 2
unfolding rank hidden hidden-the_row-Expr-0 shape-the_row-Expr-0 hidden-the_row-Place-1 shape-the_row-Place-1 hidden-the_row-Expr-2 shape-the_row-Expr-2
rank-Compound o how e = refl

pub rank-Step : (o : Place) (how : Update) (which : StepValue) → rank (form.Step o how which) ≡ place_rank o + 2
unfolding rank hidden hidden-the_row-Expr-0 shape-the_row-Expr-0 hidden-the_row-Place-1 shape-the_row-Place-1 hidden-the_row-Expr-2 shape-the_row-Expr-2
rank-Step o how which = refl

pub rank-Unary : (operator : UnaryOperator) (e : Expr) → rank (form.Unary operator e) ≡ rank e + 2
unfolding rank hidden hidden-the_row-Expr-0 shape-the_row-Expr-0 hidden-the_row-Place-1 shape-the_row-Place-1 hidden-the_row-Expr-2 shape-the_row-Expr-2
rank-Unary operator e = refl

pub rank-Binary : (operator : BinaryOperator) (a b : Expr) → rank (form.Binary operator a b) ≡ rank a + rank b + 2
unfolding rank hidden hidden-the_row-Expr-0 shape-the_row-Expr-0 hidden-the_row-Place-1 shape-the_row-Place-1 hidden-the_row-Expr-2 shape-the_row-Expr-2
rank-Binary operator a b = refl

pub rank-Logical : (operator : LogicalOperator) (a b : Expr) → rank (form.Logical operator a b) ≡ rank a + rank b + 2
unfolding rank hidden hidden-the_row-Expr-0 shape-the_row-Expr-0 hidden-the_row-Place-1 shape-the_row-Place-1 hidden-the_row-Expr-2 shape-the_row-Expr-2
rank-Logical operator a b = refl

pub rank-Conditional : (d a b : Expr) → rank (form.Conditional d a b) ≡ rank d + rank a + rank b + 2
unfolding rank hidden hidden-the_row-Expr-0 shape-the_row-Expr-0 hidden-the_row-Place-1 shape-the_row-Place-1 hidden-the_row-Expr-2 shape-the_row-Expr-2
rank-Conditional d a b = refl

pub rank-Comma : (a b : Expr) → rank (form.Comma a b) ≡ rank a + rank b + 2
unfolding rank hidden hidden-the_row-Expr-0 shape-the_row-Expr-0 hidden-the_row-Place-1 shape-the_row-Place-1 hidden-the_row-Expr-2 shape-the_row-Expr-2
rank-Comma a b = refl

pub rank-Call : (at site : ℕ) (e : Expr) (es : List Expr) → rank (form.Call at site e es) ≡ rank e + list_rank es + 3
unfolding rank hidden hidden-the_row-Expr-0 shape-the_row-Expr-0 hidden-the_row-Place-1 shape-the_row-Place-1 hidden-the_row-Expr-2 shape-the_row-Expr-2
rank-Call at site e es = ap (λ n. rank e + n + 3) (rank_row es)

pub rank-Convert : (why : Cause) (t : CType) (e : Expr) → rank (form.Convert why t e) ≡ rank e + 2
unfolding rank hidden hidden-the_row-Expr-0 shape-the_row-Expr-0 hidden-the_row-Place-1 shape-the_row-Place-1 hidden-the_row-Expr-2 shape-the_row-Expr-2
rank-Convert why t e = refl

pub rank-Discard : (e : Expr) → rank (form.Discard e) ≡ rank e + 2
unfolding rank hidden hidden-the_row-Expr-0 shape-the_row-Expr-0 hidden-the_row-Place-1 shape-the_row-Place-1 hidden-the_row-Expr-2 shape-the_row-Expr-2
rank-Discard e = refl

pub ruleset place_rank_rules = (rank-Indirection, rank-Arrow, rank-Element, rank-Member)

pub ruleset rank_rules = (rank-TargetFunction, rank-FunctionPointer, rank-ArrayPointer, rank-AddressOf, rank-Load, rank-Assign, rank-Compound, rank-Step, rank-Unary, rank-Binary, rank-Logical, rank-Conditional, rank-Comma, rank-Call, rank-Convert, rank-Discard)

-- one of a list has no higher one than all
pub rank_within : (es : List Expr) (n : ℕ) (e : Expr) → n < length es → e ≡ get_or es n e → rank e ≤ list_rank es
rank_within [] n e low is = absurd (omega (arith, low))
rank_within (x ∷ es) zero e low is = let same : rank e ≡ rank x = ap rank is in omega (arith, same)
rank_within (x ∷ es) (suc n) e low is = let rest = rank_within es n e (omega (arith, low)) is in omega (arith, rest)
