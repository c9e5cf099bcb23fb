-- Operators on values add no level.
use Rattle.std.proofs.Common.{◌≡◌, ℕ, refl, subst, List, Option, Some, None}
use Rattle.std.specs.Prelude.{not, ◌&&◌}
use Rattle.eff_types.specs.Types.{is_number, is_void}
use Rattle.eff_types.specs.declared.types.CType.{CType, Int}
use Rattle.c_tree.specs.declared.expressions.BinaryOperator.{BinaryOperator}
use Rattle.c_tree.specs.declared.expressions.BinaryOperator.TheVariants as written
use Rattle.core_unit.specs.Shapes.{is_scalar, target_of, number_type, sign_of}
use Rattle.core_unit.specs.Typing.{unary_type}
use Rattle.core_unit.specs.declared.expressions.Expr.TheVariants as expr
use Rattle.core_unit.specs.declared.operators.ArithmeticOperator.{ArithmeticOperator}
use Rattle.core_unit.specs.declared.operators.ArithmeticOperator.TheVariants as arithmetic
use Rattle.core_unit.specs.declared.operators.BinaryOperator.TheVariants as binary
use Rattle.core_unit.specs.declared.operators.Comparands.{Comparands}
use Rattle.core_unit.specs.declared.operators.Comparands.TheVariants as comparands
use Rattle.core_unit.specs.declared.operators.ComparisonOperator.{ComparisonOperator}
use Rattle.core_unit.specs.declared.operators.ComparisonOperator.TheVariants as comparison
use Rattle.core_unit.specs.declared.operators.LogicalOperator.{LogicalOperator}
use Rattle.core_unit.specs.declared.operators.LogicalOperator.TheVariants as logical
use Rattle.core_unit.specs.declared.operators.PointerSide.TheVariants.{Left, Right}
use Rattle.core_unit.specs.declared.operators.Sign.{Sign}
use Rattle.core_unit.specs.declared.operators.UnaryOperator.{UnaryOperator}
use Rattle.core_unit.specs.declared.operators.UnaryOperator.TheVariants as unary
use Rattle.core_unit.specs.declared.tables.FunctionInfo.{FunctionInfo}
use Rattle.type_rules.specs.Operands.{found_value, promoted, in_sign, common_sign, operand}
use Rattle.type_rules.specs.Operators.{pair_of, stride, arithmetic_on, shift_on, calculated, added_as, subtracted_as, compared, numbers_compared, ordered_as, pointers_of, brought, pointer_in_common, alike_outside, pointers_compared, pointers_equated, equality_on, logical_on, comma_on, operation_on, operation, sign_operation, negation, chosen_type, chosen_as, numbers_chosen, chosen, alternatives, choice}
use Rattle.type_rules.specs.Reading.{Read, Good, and_then}
use Rattle.type_rules.specs.Seen.{Seen}
use Rattle.type_rules.specs.Types.{is_incomplete}
use Rattle.type_rules.specs.declared.found.Found.{Found}
use Rattle.type_rules.specs.declared.found.Operand.{Operand}
use Rattle.type_rules.specs.declared.found.Pair.{Pair}
use Rattle.type_rules.specs.declared.found.Pair.TheVariants.{Numbers, PointerFirst, PointerSecond, Pointers, Others}
use Rattle.type_laws.proofs.Quiet.{Always, Anything, Quiet, Quietly, then_quiet, gives_quiet, fails_quiet, refused_quiet, either_quiet}
use Rattle.type_laws.proofs.QuietConversions.{QuietOperand}
use Rattle.type_laws.proofs.QuietNodes.{Used, node-Unary, node-Binary, node-Logical, node-Conditional, node-Comma}
use Rattle.type_laws.proofs.QuietOperands.{QuietFound, operand_quiet, promoted_quiet, in_sign_quiet, BothSuit, brought_quiet, common_suits, chosen_suits}

pub stride_quiet : (pre : List FunctionInfo → Type 0) (s : Seen) (place : ℕ) (t : CType) → Quiet pre Anything s (stride place t s)
unfolding stride and_then
stride_quiet pre s place t =
    refused_quiet s (is_void (target_of t)) 3 place _ (λ solid.
    refused_quiet s (is_incomplete s.structures (target_of t)) 10 place _ (λ complete.
    gives_quiet s _ (λ u ends p. tt)))

module _ (pre : List FunctionInfo → Type 0) (s : Seen) (a b : Operand) (qa : (u : List FunctionInfo) → pre u → QuietOperand a u)
    (qb : (u : List FunctionInfo) → pre u → QuietOperand b u) where
  calculated_quiet : (place : ℕ) (operator : ArithmeticOperator) (sign : Sign) → Quiet pre QuietFound s (Good (calculated place operator sign a b) s)
  calculated_quiet place operator sign = gives_quiet s (calculated place operator sign a b) (λ u ends p.
      node-Binary u (binary.Arithmetic operator sign) (number_type sign) (number_type sign) (in_sign sign a).node (in_sign sign b).node
      (in_sign_quiet sign a (qa u p).node) (in_sign_quiet sign b (qb u p).node))

  arithmetic_quiet : (place : ℕ) (operator : ArithmeticOperator) → Quiet pre QuietFound s (arithmetic_on place operator a b s)
  unfolding arithmetic_on
  arithmetic_quiet place operator =
      refused_quiet s (not (is_number a.kind && is_number b.kind)) 3 place _ (λ e. calculated_quiet place operator (common_sign a b))

  shift_quiet : (place : ℕ) (operator : ArithmeticOperator) → Quiet pre QuietFound s (shift_on place operator a b s)
  unfolding shift_on
  shift_quiet place operator =
      refused_quiet s (not (is_number a.kind && is_number b.kind)) 3 place _ (λ e.
      gives_quiet s (found_value place (number_type (sign_of a.kind)) _) (λ u ends p.
      node-Binary u (binary.Arithmetic operator (sign_of a.kind)) (promoted a).kind (promoted b).kind (promoted a).node (promoted b).node
      (promoted_quiet a (qa u p).node) (promoted_quiet b (qb u p).node)))

  added_quiet : (place : ℕ) (pair : Pair) → Quiet pre QuietFound s (added_as place a b pair s)
  added_quiet place Numbers = calculated_quiet place arithmetic.Add (common_sign a b)
  added_quiet place PointerFirst =
      then_quiet s (stride place a.kind s) _ (stride_quiet pre s place a.kind) (λ words t.
      gives_quiet t (found_value place a.kind _) (λ u ends p.
      node-Binary u (binary.PointerPlus Left words) a.kind (promoted b).kind a.node (promoted b).node (qa u p.0).node (promoted_quiet b (qb u p.0).node)))
  added_quiet place PointerSecond =
      then_quiet s (stride place b.kind s) _ (stride_quiet pre s place b.kind) (λ words t.
      gives_quiet t (found_value place b.kind _) (λ u ends p.
      node-Binary u (binary.PointerPlus Right words) (promoted a).kind b.kind (promoted a).node b.node (promoted_quiet a (qa u p.0).node) (qb u p.0).node))
  added_quiet place Pointers = fails_quiet s 3 place
  added_quiet place Others = fails_quiet s 3 place

  subtracted_quiet : (place : ℕ) (pair : Pair) → Quiet pre QuietFound s (subtracted_as place a b pair s)
  subtracted_quiet place Numbers = calculated_quiet place arithmetic.Subtract (common_sign a b)
  subtracted_quiet place PointerFirst =
      then_quiet s (stride place a.kind s) _ (stride_quiet pre s place a.kind) (λ words t.
      gives_quiet t (found_value place a.kind _) (λ u ends p.
      node-Binary u (binary.PointerMinus words) a.kind (promoted b).kind a.node (promoted b).node (qa u p.0).node (promoted_quiet b (qb u p.0).node)))
  subtracted_quiet place Pointers =
      then_quiet s (stride place a.kind s) _ (stride_quiet pre s place a.kind) (λ words t.
      gives_quiet t (found_value place Int _) (λ u ends p.
      node-Binary u (binary.Difference words) a.kind b.kind a.node b.node (qa u p.0).node (qb u p.0).node))
  subtracted_quiet place PointerSecond = fails_quiet s 3 place
  subtracted_quiet place Others = fails_quiet s 3 place

  compared_quiet : (place : ℕ) (operator : ComparisonOperator) (what : Comparands) → Quiet pre QuietFound s (Good (compared place operator what a b) s)
  compared_quiet place operator what = gives_quiet s (compared place operator what a b) (λ u ends p.
      node-Binary u (binary.Compare operator what) a.kind b.kind a.node b.node (qa u p).node (qb u p).node)

  numbers_quiet : (place : ℕ) (operator : ComparisonOperator) (sign : Sign) → Quiet pre QuietFound s (Good (numbers_compared place operator sign a b) s)
  numbers_quiet place operator sign = gives_quiet s (numbers_compared place operator sign a b) (λ u ends p.
      node-Binary u (binary.Compare operator (comparands.Numbers sign)) (number_type sign) (number_type sign) (in_sign sign a).node (in_sign sign b).node
      (in_sign_quiet sign a (qa u p).node) (in_sign_quiet sign b (qb u p).node))

  ordered_quiet : (place : ℕ) (operator : ComparisonOperator) (pair : Pair) → Quiet pre QuietFound s (ordered_as place operator a b pair s)
  ordered_quiet place operator Numbers = numbers_quiet place operator (common_sign a b)
  ordered_quiet place operator Pointers = compared_quiet place operator comparands.DataPointers
  ordered_quiet place operator PointerFirst = fails_quiet s 3 place
  ordered_quiet place operator PointerSecond = fails_quiet s 3 place
  ordered_quiet place operator Others = fails_quiet s 3 place

  suited : (o : Option CType) → pointer_in_common a b ≡ o → (u : List FunctionInfo) → pre u → BothSuit a b o
  suited o e u p = subst (BothSuit a b) e (common_suits a b (qa u p).node.is (qb u p).node.is)

  equated_quiet : (place : ℕ) (operator : ComparisonOperator) (o : Option CType) → pointer_in_common a b ≡ o
      → Quiet pre QuietFound s (pointers_equated place operator a b o s)
  equated_quiet place operator (Some t) e = gives_quiet s (pointers_compared place operator t a b) (λ u ends p.
      let suits = suited (Some t) e u p in
      node-Binary u (binary.Compare operator (pointers_of t)) t t (brought t a).node (brought t b).node
      (brought_quiet t a (qa u p).node suits.0) (brought_quiet t b (qb u p).node suits.1))
  equated_quiet place operator None e =
      refused_quiet s (not (alike_outside a.kind b.kind)) 3 place _ (λ alike. compared_quiet place operator comparands.FunctionPointers)

  equality_quiet : (place : ℕ) (operator : ComparisonOperator) → Quiet pre QuietFound s (equality_on place operator a b s)
  unfolding equality_on
  equality_quiet place operator =
      either_quiet s (is_number a.kind && is_number b.kind) _ _ (λ e. numbers_quiet place operator (common_sign a b))
      (λ e. equated_quiet place operator (pointer_in_common a b) refl)

  logical_quiet : (place : ℕ) (operator : LogicalOperator) → Quiet pre QuietFound s (logical_on place operator a b s)
  unfolding logical_on
  logical_quiet place operator =
      refused_quiet s (not (is_scalar a.kind && is_scalar b.kind)) 3 place _ (λ e.
      gives_quiet s (found_value place Int _) (λ u ends p.
      node-Logical u operator (promoted a).node (promoted b).node (promoted_quiet a (qa u p).node).keeps (promoted_quiet b (qb u p).node).keeps))

  comma_quiet : (place : ℕ) → Quiet pre QuietFound s (Good (comma_on place a b) s)
  comma_quiet place = gives_quiet s (comma_on place a b) (λ u ends p. node-Comma u b.kind a.node b.node (qa u p).node.keeps (qb u p).node)

  operation_on_quiet : (place : ℕ) (operator : BinaryOperator) → Quiet pre QuietFound s (operation_on place operator a b s)
  operation_on_quiet place written.Comma = comma_quiet place
  operation_on_quiet place written.LogicalOr = logical_quiet place logical.Or
  operation_on_quiet place written.LogicalAnd = logical_quiet place logical.And
  operation_on_quiet place written.Or = arithmetic_quiet place arithmetic.Or
  operation_on_quiet place written.ExclusiveOr = arithmetic_quiet place arithmetic.ExclusiveOr
  operation_on_quiet place written.And = arithmetic_quiet place arithmetic.And
  operation_on_quiet place written.Equal = equality_quiet place comparison.Equal
  operation_on_quiet place written.NotEqual = equality_quiet place comparison.NotEqual
  operation_on_quiet place written.Less = ordered_quiet place comparison.Less (pair_of a.kind b.kind)
  operation_on_quiet place written.Greater = ordered_quiet place comparison.Greater (pair_of a.kind b.kind)
  operation_on_quiet place written.LessOrEqual = ordered_quiet place comparison.LessOrEqual (pair_of a.kind b.kind)
  operation_on_quiet place written.GreaterOrEqual = ordered_quiet place comparison.GreaterOrEqual (pair_of a.kind b.kind)
  operation_on_quiet place written.LeftShift = shift_quiet place arithmetic.LeftShift
  operation_on_quiet place written.RightShift = shift_quiet place arithmetic.RightShift
  operation_on_quiet place written.Add = added_quiet place (pair_of a.kind b.kind)
  operation_on_quiet place written.Subtract = subtracted_quiet place (pair_of a.kind b.kind)
  operation_on_quiet place written.Multiply = arithmetic_quiet place arithmetic.Multiply
  operation_on_quiet place written.Divide = arithmetic_quiet place arithmetic.Divide
  operation_on_quiet place written.Remainder = arithmetic_quiet place arithmetic.Remainder

pub operation_quiet : (place : ℕ) (operator : BinaryOperator) (left right : Seen → Read Found) → Quietly QuietFound left → Quietly QuietFound right
    → Quietly QuietFound (operation place operator left right)
unfolding operation
operation_quiet place operator left right first second s =
    then_quiet s (operand left s) _ (operand_quiet Always s left first) (λ a t.
    then_quiet t (operand right t) _ (operand_quiet _ t right second) (λ b v.
    operation_on_quiet _ v a b (λ u p. p.0.1) (λ u p. p.1) place operator))

pub sign_operation_quiet : (place : ℕ) (operator : Sign → UnaryOperator) (expression : Seen → Read Found) → ((sign : Sign) → unary_type (operator sign) ≡ number_type sign)
    → Quietly QuietFound expression → Quietly QuietFound (sign_operation place operator expression)
unfolding sign_operation
sign_operation_quiet place operator expression is keeps s =
    then_quiet s (operand expression s) _ (operand_quiet Always s expression keeps) (λ o t.
    refused_quiet t (not (is_number o.kind)) 3 place _ (λ e.
    gives_quiet t (found_value place (number_type (sign_of o.kind)) _) (λ u ends p.
    subst (λ k. Used u k (expr.Unary (operator (sign_of o.kind)) (promoted o).node)) (is (sign_of o.kind)) (node-Unary u (operator (sign_of o.kind)) (promoted o).node (promoted_quiet o p.1.node).keeps))))

pub negation_quiet : (place : ℕ) (expression : Seen → Read Found) → Quietly QuietFound expression → Quietly QuietFound (negation place expression)
unfolding negation
negation_quiet place expression keeps s =
    then_quiet s (operand expression s) _ (operand_quiet Always s expression keeps) (λ o t.
    refused_quiet t (not (is_scalar o.kind)) 3 place _ (λ e.
    gives_quiet t (found_value place Int _) (λ u ends p. node-Unary u unary.Not (promoted o).node (promoted_quiet o p.1.node).keeps)))

module _ (pre : List FunctionInfo → Type 0) (s : Seen) (place : ℕ) (test a b : Operand) (qt : (u : List FunctionInfo) → pre u → QuietOperand test u)
    (qa : (u : List FunctionInfo) → pre u → QuietOperand a u) (qb : (u : List FunctionInfo) → pre u → QuietOperand b u) where
  chosen_as_quiet : (o : Option CType) → chosen_type a b ≡ o → Quiet pre QuietFound s (chosen_as place test a b o s)
  chosen_as_quiet (Some t) e = gives_quiet s (found_value place t _) (λ u ends p.
      let suits = subst (BothSuit a b) e (chosen_suits a b (qa u p).node.is (qb u p).node.is) in
      node-Conditional u t test.node (brought t a).node (brought t b).node (qt u p).node.keeps (brought_quiet t a (qa u p).node suits.0) (brought_quiet t b (qb u p).node suits.1).keeps)
  chosen_as_quiet None e = fails_quiet s 3 place

  numbers_chosen_quiet : (sign : Sign) → Quiet pre QuietFound s (Good (numbers_chosen place test sign a b) s)
  numbers_chosen_quiet sign = gives_quiet s (numbers_chosen place test sign a b) (λ u ends p.
      node-Conditional u (number_type sign) test.node (in_sign sign a).node (in_sign sign b).node (qt u p).node.keeps (in_sign_quiet sign a (qa u p).node) (in_sign_quiet sign b (qb u p).node).keeps)

  chosen_quiet : Quiet pre QuietFound s (chosen place test a b s)
  unfolding chosen
  chosen_quiet =
      refused_quiet s (not (is_scalar test.kind)) 3 place _ (λ scalar.
      either_quiet s (is_number a.kind && is_number b.kind) _ _ (λ e. numbers_chosen_quiet (common_sign a b)) (λ e. chosen_as_quiet (chosen_type a b) refl))

alternatives_quiet : (pre : List FunctionInfo → Type 0) (s : Seen) (place : ℕ) (test : Operand) (then_read else_read : Seen → Read Found)
    → ((u : List FunctionInfo) → pre u → QuietOperand test u) → Quietly QuietFound then_read → Quietly QuietFound else_read
    → Quiet pre QuietFound s (alternatives place test then_read else_read s)
unfolding alternatives
alternatives_quiet pre s place test then_read else_read qt first second =
    then_quiet s (operand then_read s) _ (operand_quiet pre s then_read first) (λ a t.
    then_quiet t (operand else_read t) _ (operand_quiet _ t else_read second) (λ b v.
    chosen_quiet _ v place test a b (λ u p. qt u p.0.0) (λ u p. p.0.1) (λ u p. p.1)))

pub choice_quiet : (place : ℕ) (condition then_read else_read : Seen → Read Found) → Quietly QuietFound condition → Quietly QuietFound then_read
    → Quietly QuietFound else_read → Quietly QuietFound (choice place condition then_read else_read)
unfolding choice
choice_quiet place condition then_read else_read asked first second s =
    then_quiet s (operand condition s) _ (operand_quiet Always s condition asked) (λ test t.
    alternatives_quiet _ t place test then_read else_read (λ u p. p.1) first second)
