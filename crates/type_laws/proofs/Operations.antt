-- Operators on values keep what was seen, and make typed nodes.
use Rattle.std.proofs.Common.{◌≡◌, ℕ, Bool, true, false, refl, sym, ◌∙◌, ap, subst, Option, Some, None}
use Rattle.std.specs.Prelude.{not, ◌&&◌, if◌then◌else◌}
use Rattle.eff_types.specs.Types.{is_number, is_pointer, is_data_pointer, is_function_pointer, same, same_outside}
use Rattle.eff_types.specs.declared.types.CType.{CType}
use Rattle.eff_types.proofs.Sameness.{same-eq}
use Rattle.eff_types.proofs.TypeLaws.{same_outside-refl}
use Rattle.c_tree.specs.declared.expressions.BinaryOperator.{BinaryOperator}
use Rattle.c_tree.specs.declared.expressions.BinaryOperator.TheVariants as written
use Rattle.core_unit.specs.Shapes.{is_scalar, is_promoted, number_type, sign_of}
use Rattle.core_unit.specs.Typed.{Tables, IsTyped, IsOperandPair, IsMoved, PointsOver, IsCompared, is_equality, is_shift, is_asked, is_value}
use Rattle.core_unit.specs.Typing.{type_of}
use Rattle.core_unit.proofs.Equations.{type_of-Binary, type_of-Logical, type_of-Comma}
use Rattle.core_unit.specs.declared.expressions.Expr.{Expr}
use Rattle.core_unit.specs.declared.expressions.Expr.TheVariants as expr
use Rattle.core_unit.specs.declared.operators.ArithmeticOperator.{ArithmeticOperator}
use Rattle.core_unit.specs.declared.operators.ArithmeticOperator.TheVariants as arithmetic
use Rattle.core_unit.specs.declared.operators.BinaryOperator.TheVariants as binary
use Rattle.core_unit.specs.declared.operators.Comparands.{Comparands}
use Rattle.core_unit.specs.declared.operators.Comparands.TheVariants as comparands
use Rattle.core_unit.specs.declared.operators.ComparisonOperator.{ComparisonOperator}
use Rattle.core_unit.specs.declared.operators.ComparisonOperator.TheVariants as comparison
use Rattle.core_unit.specs.declared.operators.LogicalOperator.{LogicalOperator}
use Rattle.core_unit.specs.declared.operators.LogicalOperator.TheVariants as logical
use Rattle.core_unit.specs.declared.operators.PointerSide.TheVariants.{Left, Right}
use Rattle.core_unit.specs.declared.operators.Sign.{Sign}
use Rattle.core_unit.specs.declared.operators.Sign.TheVariants.{Signed, Unsigned as Without}
use Rattle.type_rules.specs.Operands.{found_value, promoted, in_sign, common_sign}
use Rattle.type_rules.specs.Operators.{pair_of, arithmetic_on, shift_on, calculated, stride, added_as, subtracted_as, compared, numbers_compared, ordered_as, pointers_of, brought, pointer_in_common, alike_outside, pointers_equated, equality_on, logical_on, comma_on, operation_on}
use Rattle.type_rules.specs.declared.found.Pair.{Pair}
use Rattle.type_rules.specs.declared.found.Pair.TheVariants.{Numbers, PointerFirst, PointerSecond, Pointers, Others}
use Rattle.type_rules.specs.Reading.{Good, and_then}
use Rattle.type_rules.specs.Seen.{Seen}
use Rattle.type_rules.specs.declared.found.Operand.{Operand}
use Rattle.type_laws.proofs.Common.{CommonTold, common_told, brought_is, brought_typed}
use Rattle.type_laws.proofs.Fits.{other_is_data}
use Rattle.type_laws.proofs.Formed.{IsFormed, Stay, formed_stays}
use Rattle.type_laws.proofs.Numbers.{promoted_kind, promoted_is, promoted_typed, promoted_asked, in_sign_is, in_sign_typed}
use Rattle.type_laws.proofs.Operands.{IsFound, IsTypedFound, IsOperand, IsTypedOperand}
use Rattle.type_laws.proofs.Pairs.{PairTold, pair_told}
use Rattle.type_laws.proofs.Strides.{IsStride, stride_keeps}
use Rattle.type_laws.proofs.Triples.{Triple, Lawful, Leads, then_keeps, gives_keeps, refused_keeps, fails_keeps}
use Rattle.type_laws.proofs.Typed as typed
use Rattle.type_laws.proofs.Types.{and_left, and_right, not_refused, number_is_number, number_is_result, given_of_result, value_of_result, promoted_sign, is_given}

pub formed_number : (s : Seen) (sign : Sign) → IsFormed s.structures (number_type sign)
unfolding IsFormed
formed_number s Signed = tt
formed_number s Without = tt

pub first_of : (a b c : Bool) → (a && b && c) ≡ true → a ≡ true
first_of true b c e = refl
first_of false b c e = absurd (cc)

pub second_of : (a b c : Bool) → (a && b && c) ≡ true → b ≡ true
second_of a true c e = refl
second_of true false c e = absurd (cc)
second_of false false c e = absurd (cc)

pub third_of : (a b c : Bool) → (a && b && c) ≡ true → c ≡ true
third_of a b true e = refl
third_of true true false e = e
third_of true false false e = e
third_of false b false e = e

-- a node that is found
pub node_keeps : (pre : Tables → Type 0) (s : Seen) (place : ℕ) (kind : CType) (e : Expr) → Lawful s → IsFormed s.structures kind → type_of e ≡ kind
    → is_given kind ≡ true → ((u : Tables) → Leads s u → pre u → IsTyped u e) → Triple pre IsFound (IsTypedFound false) s (Good (found_value place kind e) s)
node_keeps pre s place kind e lawful formed is given is_typed =
    gives_keeps s (found_value place kind e) lawful (formed, (is, given)) (λ u leads knows p. is_typed u leads p)

pub number_keeps : (pre : Tables → Type 0) (s : Seen) (place : ℕ) (sign : Sign) (e : Expr) → Lawful s → type_of e ≡ number_type sign
    → ((u : Tables) → Leads s u → pre u → IsTyped u e) → Triple pre IsFound (IsTypedFound false) s (Good (found_value place (number_type sign) e) s)
number_keeps pre s place sign e lawful is is_typed =
    node_keeps pre s place (number_type sign) e lawful (formed_number s sign) is
    (given_of_result (number_type sign) (number_is_result (number_type sign) (number_is_number sign))) is_typed

module _ (pre : Tables → Type 0) (s : Seen) (lawful : Lawful s) (a b : Operand) (a_known : IsOperand a s) (b_known : IsOperand b s)
    (a_typed : (u : Tables) → pre u → IsTypedOperand a u) (b_typed : (u : Tables) → pre u → IsTypedOperand b u) where
  calculated_keeps : (place : ℕ) (operator : ArithmeticOperator) → is_shift operator ≡ false → is_number a.kind ≡ true → is_number b.kind ≡ true
      → Triple pre IsFound (IsTypedFound false) s (Good (calculated place operator (common_sign a b) a b) s)
  calculated_keeps place operator shift x y =
      let sign = common_sign a b in
      number_keeps pre s place sign (expr.Binary (binary.Arithmetic operator sign) (in_sign sign a).node (in_sign sign b).node) lawful
      (type_of-Binary (binary.Arithmetic operator sign) (in_sign sign a).node (in_sign sign b).node) (λ u leads p.
      typed.typed-Binary u (binary.Arithmetic operator sign) (in_sign sign a).node (in_sign sign b).node
      (in_sign_typed u sign a a_known.1 x (a_typed u p)) (in_sign_typed u sign b b_known.1 y (b_typed u p))
      (subst (λ shifts. IsOperandPair shifts sign (type_of (in_sign sign a).node) (type_of (in_sign sign b).node)) (sym shift)
      (in_sign_is sign a a_known.1, in_sign_is sign b b_known.1)))

  pub arithmetic_keeps : (place : ℕ) (operator : ArithmeticOperator) → is_shift operator ≡ false
      → Triple pre IsFound (IsTypedFound false) s (arithmetic_on place operator a b s)
  unfolding arithmetic_on and_then
  arithmetic_keeps place operator shift =
      refused_keeps s (not (is_number a.kind && is_number b.kind)) 3 place _ (λ e.
      let numbers = not_refused (is_number a.kind && is_number b.kind) e in
      calculated_keeps place operator shift (and_left (is_number a.kind) (is_number b.kind) numbers) (and_right (is_number a.kind) (is_number b.kind) numbers))

  pub shift_keeps : (place : ℕ) (operator : ArithmeticOperator) → is_shift operator ≡ true
      → Triple pre IsFound (IsTypedFound false) s (shift_on place operator a b s)
  unfolding shift_on and_then
  shift_keeps place operator shift =
      refused_keeps s (not (is_number a.kind && is_number b.kind)) 3 place _ (λ e.
      let numbers = not_refused (is_number a.kind && is_number b.kind) e in
      let x = and_left (is_number a.kind) (is_number b.kind) numbers in
      let y = and_right (is_number a.kind) (is_number b.kind) numbers in
      let sign = sign_of a.kind in
      number_keeps pre s place sign (expr.Binary (binary.Arithmetic operator sign) (promoted a).node (promoted b).node) lawful
      (type_of-Binary (binary.Arithmetic operator sign) (promoted a).node (promoted b).node) (λ u leads p.
      typed.typed-Binary u (binary.Arithmetic operator sign) (promoted a).node (promoted b).node
      (promoted_typed u a a_known.1 (a_typed u p)) (promoted_typed u b b_known.1 (b_typed u p))
      (subst (λ shifts. IsOperandPair shifts sign (type_of (promoted a).node) (type_of (promoted b).node)) (sym shift)
      (promoted_kind a a_known.1 ∙ promoted_is a x, ap is_promoted (promoted_kind b b_known.1 ∙ promoted_is b y) ∙ promoted_sign (sign_of b.kind)))))

  moved_first : (words : ℕ) (u : Tables) → IsStride a.kind words u → is_number b.kind ≡ true
      → IsMoved u.structures (type_of a.node) (type_of (promoted b).node) words
  moved_first words u stride y = (
    subst (λ t. PointsOver u.structures t words) (sym a_known.1) stride,
    ap is_promoted (promoted_kind b b_known.1 ∙ promoted_is b y) ∙ promoted_sign (sign_of b.kind),
  )

  moved_second : (words : ℕ) (u : Tables) → IsStride b.kind words u → is_number a.kind ≡ true
      → IsMoved u.structures (type_of b.node) (type_of (promoted a).node) words
  moved_second words u stride x = (
    subst (λ t. PointsOver u.structures t words) (sym b_known.1) stride,
    ap is_promoted (promoted_kind a a_known.1 ∙ promoted_is a x) ∙ promoted_sign (sign_of a.kind),
  )

  -- an operand's type, later on
  left_formed : (t : Seen) → Stay s.structures t.structures → IsFormed t.structures a.kind
  left_formed t stay = formed_stays s.structures t.structures a.kind stay lawful.open_are_empty a_known.0

  right_formed : (t : Seen) → Stay s.structures t.structures → IsFormed t.structures b.kind
  right_formed t stay = formed_stays s.structures t.structures b.kind stay lawful.open_are_empty b_known.0

  pub added_keeps : (place : ℕ) (pair : Pair) → PairTold a.kind b.kind pair → Triple pre IsFound (IsTypedFound false) s (added_as place a b pair s)
  unfolding and_then
  added_keeps place Numbers told =
      calculated_keeps place arithmetic.Add refl (and_left (is_number a.kind) (is_number b.kind) told) (and_right (is_number a.kind) (is_number b.kind) told)
  added_keeps place PointerFirst told =
      then_keeps s (stride place a.kind s) _ (stride_keeps pre s place a.kind lawful a_known.0 (and_left (is_data_pointer a.kind) (is_number b.kind) told)) (λ words t lawful' stay known.
      node_keeps _ t place a.kind (expr.Binary (binary.PointerPlus Left words) a.node (promoted b).node) lawful' (left_formed t stay)
      (type_of-Binary (binary.PointerPlus Left words) a.node (promoted b).node ∙ a_known.1) (given_of_result a.kind a_known.2) (λ u leads p.
      typed.typed-Binary u (binary.PointerPlus Left words) a.node (promoted b).node (a_typed u p.0) (promoted_typed u b b_known.1 (b_typed u p.0))
      (moved_first words u p.1 (and_right (is_data_pointer a.kind) (is_number b.kind) told))))
  added_keeps place PointerSecond told =
      then_keeps s (stride place b.kind s) _ (stride_keeps pre s place b.kind lawful b_known.0 (and_right (is_number a.kind) (is_data_pointer b.kind) told)) (λ words t lawful' stay known.
      node_keeps _ t place b.kind (expr.Binary (binary.PointerPlus Right words) (promoted a).node b.node) lawful' (right_formed t stay)
      (type_of-Binary (binary.PointerPlus Right words) (promoted a).node b.node ∙ b_known.1) (given_of_result b.kind b_known.2) (λ u leads p.
      typed.typed-Binary u (binary.PointerPlus Right words) (promoted a).node b.node (promoted_typed u a a_known.1 (a_typed u p.0)) (b_typed u p.0)
      (moved_second words u p.1 (and_left (is_number a.kind) (is_data_pointer b.kind) told))))
  added_keeps place Pointers told = fails_keeps s 3 place
  added_keeps place Others told = fails_keeps s 3 place

  pub subtracted_keeps : (place : ℕ) (pair : Pair) → PairTold a.kind b.kind pair → Triple pre IsFound (IsTypedFound false) s (subtracted_as place a b pair s)
  unfolding and_then
  subtracted_keeps place Numbers told =
      calculated_keeps place arithmetic.Subtract refl (and_left (is_number a.kind) (is_number b.kind) told) (and_right (is_number a.kind) (is_number b.kind) told)
  subtracted_keeps place PointerFirst told =
      then_keeps s (stride place a.kind s) _ (stride_keeps pre s place a.kind lawful a_known.0 (and_left (is_data_pointer a.kind) (is_number b.kind) told)) (λ words t lawful' stay known.
      node_keeps _ t place a.kind (expr.Binary (binary.PointerMinus words) a.node (promoted b).node) lawful' (left_formed t stay)
      (type_of-Binary (binary.PointerMinus words) a.node (promoted b).node ∙ a_known.1) (given_of_result a.kind a_known.2) (λ u leads p.
      typed.typed-Binary u (binary.PointerMinus words) a.node (promoted b).node (a_typed u p.0) (promoted_typed u b b_known.1 (b_typed u p.0))
      (moved_first words u p.1 (and_right (is_data_pointer a.kind) (is_number b.kind) told))))
  subtracted_keeps place Pointers told =
      then_keeps s (stride place a.kind s) _ (stride_keeps pre s place a.kind lawful a_known.0 (and_left (is_data_pointer a.kind) (same a.kind b.kind) told)) (λ words t lawful' stay known.
      number_keeps _ t place Signed (expr.Binary (binary.Difference words) a.node b.node) lawful' (type_of-Binary (binary.Difference words) a.node b.node) (λ u leads p.
      typed.typed-Binary u (binary.Difference words) a.node b.node (a_typed u p.0) (b_typed u p.0) (
        subst (λ t. PointsOver u.structures t words) (sym a_known.1) p.1,
        a_known.1 ∙ same-eq a.kind b.kind (and_right (is_data_pointer a.kind) (same a.kind b.kind) told) ∙ sym b_known.1,
      )))
  subtracted_keeps place PointerSecond told = fails_keeps s 3 place
  subtracted_keeps place Others told = fails_keeps s 3 place

  -- a comparison of operands as they stand
  compared_keeps : (place : ℕ) (operator : ComparisonOperator) (what : Comparands) (x y : Operand)
      → ((u : Tables) → Leads s u → pre u → IsTypedOperand x u) → ((u : Tables) → Leads s u → pre u → IsTypedOperand y u)
      → IsCompared operator what (type_of x.node) (type_of y.node) → Triple pre IsFound (IsTypedFound false) s (Good (compared place operator what x y) s)
  compared_keeps place operator what x y x_typed y_typed fits =
      number_keeps pre s place Signed (expr.Binary (binary.Compare operator what) x.node y.node) lawful (type_of-Binary (binary.Compare operator what) x.node y.node) (λ u leads p.
      typed.typed-Binary u (binary.Compare operator what) x.node y.node (x_typed u leads p) (y_typed u leads p) fits)

  numbers_keep : (place : ℕ) (operator : ComparisonOperator) → is_number a.kind ≡ true → is_number b.kind ≡ true
      → Triple pre IsFound (IsTypedFound false) s (Good (numbers_compared place operator (common_sign a b) a b) s)
  numbers_keep place operator x y =
      let sign = common_sign a b in
      compared_keeps place operator (comparands.Numbers sign) (in_sign sign a) (in_sign sign b)
      (λ u leads p. in_sign_typed u sign a a_known.1 x (a_typed u p)) (λ u leads p. in_sign_typed u sign b b_known.1 y (b_typed u p))
      (in_sign_is sign a a_known.1, in_sign_is sign b b_known.1)

  pub ordered_keeps : (place : ℕ) (operator : ComparisonOperator) (pair : Pair) → PairTold a.kind b.kind pair
      → Triple pre IsFound (IsTypedFound false) s (ordered_as place operator a b pair s)
  ordered_keeps place operator Numbers told =
      numbers_keep place operator (and_left (is_number a.kind) (is_number b.kind) told) (and_right (is_number a.kind) (is_number b.kind) told)
  ordered_keeps place operator Pointers told =
      compared_keeps place operator comparands.DataPointers a b (λ u leads p. a_typed u p) (λ u leads p. b_typed u p) (
        ap is_data_pointer a_known.1 ∙ and_left (is_data_pointer a.kind) (same a.kind b.kind) told,
        a_known.1 ∙ same-eq a.kind b.kind (and_right (is_data_pointer a.kind) (same a.kind b.kind) told) ∙ sym b_known.1,
      )
  ordered_keeps place operator PointerFirst told = fails_keeps s 3 place
  ordered_keeps place operator PointerSecond told = fails_keeps s 3 place
  ordered_keeps place operator Others told = fails_keeps s 3 place

  -- two operands of one pointer type
  pointers_fit : (operator : ComparisonOperator) (t : CType) (function : Bool) → is_function_pointer t ≡ function → is_equality operator ≡ true → is_pointer t ≡ true
      → IsCompared operator (if function then comparands.FunctionPointers else comparands.DataPointers) t t
  pointers_fit operator t true e equality pointer = (equality, e, e, same_outside-refl t)
  pointers_fit operator t false e equality pointer = (other_is_data t pointer e, refl)

  brought_keeps : (place : ℕ) (operator : ComparisonOperator) (found : Option CType) → is_equality operator ≡ true → CommonTold s a b found
      → Triple pre IsFound (IsTypedFound false) s (pointers_equated place operator a b found s)
  unfolding and_then
  brought_keeps place operator (Some t) equality told =
      compared_keeps place operator (pointers_of t) (brought t a) (brought t b)
      (λ u leads p. brought_typed s u t a leads told.formed a_known.1 told.left (a_typed u p))
      (λ u leads p. brought_typed s u t b leads told.formed b_known.1 told.right (b_typed u p))
      (subst (λ x. IsCompared operator (pointers_of t) x (type_of (brought t b).node)) (sym (brought_is t a a_known.1))
      (subst (λ y. IsCompared operator (pointers_of t) t y) (sym (brought_is t b b_known.1))
      (pointers_fit operator t (is_function_pointer t) refl equality told.pointer)))
  brought_keeps place operator None equality told =
      refused_keeps s (not (alike_outside a.kind b.kind)) 3 place _ (λ e.
      compared_keeps place operator comparands.FunctionPointers a b (λ u leads p. a_typed u p) (λ u leads p. b_typed u p)
      (subst (λ x. IsCompared operator comparands.FunctionPointers x (type_of b.node)) (sym a_known.1)
      (subst (λ y. IsCompared operator comparands.FunctionPointers a.kind y) (sym b_known.1)
      (alike_fits operator equality (not_refused (alike_outside a.kind b.kind) e)))))
    where
      alike_fits : (operator : ComparisonOperator) → is_equality operator ≡ true → alike_outside a.kind b.kind ≡ true
          → IsCompared operator comparands.FunctionPointers a.kind b.kind
      alike_fits operator equality e = (
        equality,
        first_of (is_function_pointer a.kind) (is_function_pointer b.kind) (same_outside a.kind b.kind) e,
        second_of (is_function_pointer a.kind) (is_function_pointer b.kind) (same_outside a.kind b.kind) e,
        third_of (is_function_pointer a.kind) (is_function_pointer b.kind) (same_outside a.kind b.kind) e,
      )

  equal_keeps : (place : ℕ) (operator : ComparisonOperator) (numbers : Bool) → is_number a.kind && is_number b.kind ≡ numbers → is_equality operator ≡ true
      → Triple pre IsFound (IsTypedFound false) s
      ((if numbers then (λ (t : Seen). Good (numbers_compared place operator (common_sign a b) a b) t) else pointers_equated place operator a b (pointer_in_common a b)) s)
  equal_keeps place operator true e equality =
      numbers_keep place operator (and_left (is_number a.kind) (is_number b.kind) e) (and_right (is_number a.kind) (is_number b.kind) e)
  equal_keeps place operator false e equality = brought_keeps place operator (pointer_in_common a b) equality (common_told s a b a_known b_known)

  pub equality_keeps : (place : ℕ) (operator : ComparisonOperator) → is_equality operator ≡ true
      → Triple pre IsFound (IsTypedFound false) s (equality_on place operator a b s)
  unfolding equality_on
  equality_keeps place operator equality = equal_keeps place operator (is_number a.kind && is_number b.kind) refl equality

  pub logical_keeps : (place : ℕ) (operator : LogicalOperator) → Triple pre IsFound (IsTypedFound false) s (logical_on place operator a b s)
  unfolding logical_on and_then
  logical_keeps place operator =
      refused_keeps s (not (is_scalar a.kind && is_scalar b.kind)) 3 place _ (λ e.
      let scalars = not_refused (is_scalar a.kind && is_scalar b.kind) e in
      number_keeps pre s place Signed (expr.Logical operator (promoted a).node (promoted b).node) lawful (type_of-Logical operator (promoted a).node (promoted b).node) (λ u leads p.
      typed.typed-Logical u operator (promoted a).node (promoted b).node (promoted_typed u a a_known.1 (a_typed u p)) (promoted_typed u b b_known.1 (b_typed u p))
      (ap is_asked (promoted_kind a a_known.1) ∙ promoted_asked a (and_left (is_scalar a.kind) (is_scalar b.kind) scalars))
      (ap is_asked (promoted_kind b b_known.1) ∙ promoted_asked b (and_right (is_scalar a.kind) (is_scalar b.kind) scalars))))

  pub comma_keeps : (place : ℕ) → Triple pre IsFound (IsTypedFound false) s (Good (comma_on place a b) s)
  comma_keeps place =
      node_keeps pre s place b.kind (expr.Comma a.node b.node) lawful b_known.0 (type_of-Comma a.node b.node ∙ b_known.1) (given_of_result b.kind b_known.2) (λ u leads p.
      typed.typed-Comma u a.node b.node (a_typed u p) (b_typed u p) (ap is_value a_known.1 ∙ value_of_result a.kind a_known.2)
      (ap is_value b_known.1 ∙ value_of_result b.kind b_known.2))

  pub on_keeps : (place : ℕ) (operator : BinaryOperator) → Triple pre IsFound (IsTypedFound false) s (operation_on place operator a b s)
  on_keeps place written.Comma = comma_keeps place
  on_keeps place written.LogicalOr = logical_keeps place logical.Or
  on_keeps place written.LogicalAnd = logical_keeps place logical.And
  on_keeps place written.Or = arithmetic_keeps place arithmetic.Or refl
  on_keeps place written.ExclusiveOr = arithmetic_keeps place arithmetic.ExclusiveOr refl
  on_keeps place written.And = arithmetic_keeps place arithmetic.And refl
  on_keeps place written.Equal = equality_keeps place comparison.Equal refl
  on_keeps place written.NotEqual = equality_keeps place comparison.NotEqual refl
  on_keeps place written.Less = ordered_keeps place comparison.Less (pair_of a.kind b.kind) (pair_told a.kind b.kind)
  on_keeps place written.Greater = ordered_keeps place comparison.Greater (pair_of a.kind b.kind) (pair_told a.kind b.kind)
  on_keeps place written.LessOrEqual = ordered_keeps place comparison.LessOrEqual (pair_of a.kind b.kind) (pair_told a.kind b.kind)
  on_keeps place written.GreaterOrEqual = ordered_keeps place comparison.GreaterOrEqual (pair_of a.kind b.kind) (pair_told a.kind b.kind)
  on_keeps place written.LeftShift = shift_keeps place arithmetic.LeftShift refl
  on_keeps place written.RightShift = shift_keeps place arithmetic.RightShift refl
  on_keeps place written.Add = added_keeps place (pair_of a.kind b.kind) (pair_told a.kind b.kind)
  on_keeps place written.Subtract = subtracted_keeps place (pair_of a.kind b.kind) (pair_told a.kind b.kind)
  on_keeps place written.Multiply = arithmetic_keeps place arithmetic.Multiply refl
  on_keeps place written.Divide = arithmetic_keeps place arithmetic.Divide refl
  on_keeps place written.Remainder = arithmetic_keeps place arithmetic.Remainder refl
