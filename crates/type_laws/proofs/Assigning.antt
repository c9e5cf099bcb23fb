-- Assignments and steps keep what was seen, and make typed nodes.
use Rattle.std.proofs.Common.{◌≡◌, ℕ, Bool, true, false, refl, sym, ◌∙◌, ap, subst, Some, None}
use Rattle.std.specs.Prelude.{not, ◌&&◌, ◌||◌, if◌then◌else◌}
use Rattle.eff_types.specs.Types.{is_number, is_void, is_pointer, is_data_pointer}
use Rattle.eff_types.specs.declared.types.CType.{CType}
use Rattle.c_tree.specs.declared.expressions.AssignmentOperator.{AssignmentOperator}
use Rattle.c_tree.specs.declared.expressions.AssignmentOperator.TheVariants as written
use Rattle.core_unit.specs.Shapes.{is_scalar, is_promoted, sign_of, target_of}
use Rattle.core_unit.specs.Typed.{Tables, IsTypedPlace, IsUpdate, IsUpdatePair, IsStep, IsMoved, PointsOver, is_shift, is_step, common}
use Rattle.core_unit.specs.Typing.{type_of, place_type}
use Rattle.core_unit.proofs.Equations.{type_of-Assign, type_of-Compound, type_of-Step}
use Rattle.core_unit.specs.declared.expressions.Expr.TheVariants as expr
use Rattle.core_unit.specs.declared.expressions.Place.{Place}
use Rattle.core_unit.specs.declared.operators.ArithmeticOperator.{ArithmeticOperator}
use Rattle.core_unit.specs.declared.operators.ArithmeticOperator.TheVariants as arithmetic
use Rattle.core_unit.specs.declared.operators.Sign.{Sign}
use Rattle.core_unit.specs.declared.operators.Sign.TheVariants.{Signed, Unsigned as Without}
use Rattle.core_unit.specs.declared.operators.StepValue.{StepValue}
use Rattle.core_unit.specs.declared.operators.StepValue.TheVariants.{Prefix, Postfix}
use Rattle.core_unit.specs.declared.operators.Update.{Update}
use Rattle.core_unit.specs.declared.operators.Update.TheVariants as update
use Rattle.type_rules.specs.Assignments.{plain_assignment, number_update, pointer_update, compound_assignment, assigned_by, assignment, update_sign, update_operand, moved_pointer, moved_by, is_moved, is_pointer_first, is_additive, stride_of, is_stepped, step_update, stepped_as, step}
use Rattle.type_rules.specs.Conversions.{converted}
use Rattle.type_rules.specs.Operands.{operand, found_value, promoted, in_sign, lvalue, lvalue_in, is_whole}
use Rattle.type_rules.specs.Operators.{pair_of, stride}
use Rattle.type_rules.specs.declared.found.Pair.{Pair}
use Rattle.type_rules.specs.declared.found.Pair.TheVariants.{Numbers, PointerFirst, PointerSecond, Pointers, Others}
use Rattle.type_rules.specs.Reading.{Read, Good, Bad, and_then, refused}
use Rattle.type_rules.specs.Seen.{Seen}
use Rattle.type_rules.specs.Types.{is_result}
use Rattle.type_rules.specs.declared.found.Form.{Form}
use Rattle.type_rules.specs.declared.found.Form.TheVariants.{Lvalue, Value}
use Rattle.type_rules.specs.declared.found.Found.{Found}
use Rattle.type_rules.specs.declared.found.Operand.{Operand}
use Rattle.type_laws.proofs.Converted.{converted_keeps}
use Rattle.type_laws.proofs.Fits.{data_is_pointer}
use Rattle.type_laws.proofs.Formed.{IsFormed, Stay, OpenAreEmpty, formed_stays, stay_twice}
use Rattle.type_laws.proofs.Numbers.{promoted_kind, promoted_is, promoted_typed, in_sign_is, in_sign_typed}
use Rattle.type_laws.proofs.Operands.{IsFound, IsTypedFound, FormIsKnown, FormIsTyped, IsOperand, IsTypedOperand, operand_keeps}
use Rattle.type_laws.proofs.Operations.{node_keeps}
use Rattle.type_laws.proofs.Pairs.{PairTold, pair_told}
use Rattle.type_laws.proofs.Strides.{IsStride, stride_keeps}
use Rattle.type_laws.proofs.Triples.{Triple, Keeps, Always, Lawful, then_keeps, gives_keeps, refused_keeps, fails_keeps, anyway}
use Rattle.type_laws.proofs.Typed as typed
use Rattle.type_laws.proofs.Types.{and_left, and_right, not_refused, number_is_result, given_of_result, result_of_scalar, promoted_sign, or_right}

-- a place of a type, which is designated
abbrev pub IsPlace : CType → Place → Seen → Type 0
IsPlace kind p s = place_type p ≡ kind

abbrev pub IsTypedAt : Place → Tables → Type 0
IsTypedAt p u = IsTypedPlace u p

in_lvalue : (pre : Tables → Type 0) (s : Seen) (at : ℕ) (kind : CType) (form : Form) → Lawful s → FormIsKnown kind form
    → ((u : Tables) → pre u → FormIsTyped false u form) → Triple pre (IsPlace kind) IsTypedAt s (lvalue_in at form s)
in_lvalue pre s at kind (Lvalue p) lawful known is_typed = gives_keeps s p lawful known.0 (λ u leads knows q. is_typed u q)
in_lvalue pre s at kind (Value e) lawful known is_typed = fails_keeps s 6 at

pub lvalue_keeps : (pre : Tables → Type 0) (s : Seen) (f : Found) → Lawful s → FormIsKnown f.kind f.form → ((u : Tables) → pre u → IsTypedFound false f u)
    → Triple pre (IsPlace f.kind) IsTypedAt s (lvalue f s)
unfolding lvalue
lvalue_keeps pre s f lawful known is_typed = in_lvalue pre s f.place f.kind f.form lawful known is_typed

-- an operation on an old value
pair_fits : (operator : ArithmeticOperator) (shift : Bool) → is_shift operator ≡ shift → (t : CType) (o : Operand) → is_number t ≡ true → is_number o.kind ≡ true
    → type_of o.node ≡ o.kind
    → IsUpdatePair shift (if shift then sign_of t else common (sign_of t) (sign_of o.kind)) t
    (type_of (if shift then promoted o else in_sign (if shift then sign_of t else common (sign_of t) (sign_of o.kind)) o).node)
pair_fits operator true e t o n m is = (refl, ap is_promoted (promoted_kind o is ∙ promoted_is o m) ∙ promoted_sign (sign_of o.kind))
pair_fits operator false e t o n m is = (common_twice (sign_of t) (sign_of o.kind), in_sign_is (common (sign_of t) (sign_of o.kind)) o is)
  where
    common_twice : (a b : Sign) → common a (common a b) ≡ common a b
    common_twice Signed b = refl
    common_twice Without b = refl

operand_typed : (u : Tables) (shift : Bool) (sign : Sign) (o : Operand) → type_of o.node ≡ o.kind → is_number o.kind ≡ true → IsTypedOperand o u
    → IsTypedOperand (if shift then promoted o else in_sign sign o) u
operand_typed u true sign o is m h = promoted_typed u o is h
operand_typed u false sign o is m h = in_sign_typed u sign o is m h

-- what ends in a refusal
never_keeps : {A B : Type 0} {K : B → Seen → Type 0} {P : B → Tables → Type 0} (pre : Tables → Type 0) (t : Seen) (r : Read A) (number : A → Seen → ℕ) (place : ℕ)
    → Triple pre K P t (and_then r (λ a v. Bad (number a v) place))
unfolding and_then
never_keeps pre t (Good a v) number place = record { holds = tt }
never_keeps pre t (Bad n p) number place = record { holds = tt }

module _ (pre : Tables → Type 0) (s : Seen) (lawful : Lawful s) (left : Found) (o : Operand) (left_known : IsFound left s) (o_known : IsOperand o s)
    (left_typed : (u : Tables) → pre u → IsTypedFound false left u) (o_typed : (u : Tables) → pre u → IsTypedOperand o u) where
  plain_keeps : (place : ℕ) → Triple pre IsFound (IsTypedFound false) s (plain_assignment place left o s)
  unfolding plain_assignment and_then
  plain_keeps place =
      refused_keeps s (not (is_scalar left.kind)) 3 left.place _ (λ e.
      let scalar = not_refused (is_scalar left.kind) e in
      then_keeps s (lvalue left s) _ (lvalue_keeps pre s left lawful left_known.1 left_typed) (λ p t t_lawful t_stay is.
      then_keeps t (converted left.kind o t) _
      (converted_keeps _ t left.kind o t_lawful (formed_stays s.structures t.structures left.kind t_stay lawful.open_are_empty left_known.0)
      (formed_stays s.structures t.structures o.kind t_stay lawful.open_are_empty o_known.0, o_known.1, o_known.2) (λ u q. o_typed u q.0)) (λ v w w_lawful w_stay v_known.
      node_keeps _ w place left.kind (expr.Assign p v.node) w_lawful (subst (λ k. IsFormed w.structures k) v_known.1 v_known.0.0)
      (type_of-Assign p v.node ∙ is) (given_of_result left.kind (result_of_scalar left.kind scalar)) (λ u leads q.
      typed.typed-Assign u p v.node q.0.1 (ap is_scalar is ∙ scalar) q.1 (v_known.0.1 ∙ v_known.1 ∙ sym is)))))

  number_update_keeps : (place : ℕ) (operator : ArithmeticOperator) → is_number left.kind ≡ true → is_number o.kind ≡ true
      → Triple pre IsFound (IsTypedFound false) s (number_update place operator left o s)
  unfolding number_update and_then
  number_update_keeps place operator n m =
      then_keeps s (lvalue left s) _ (lvalue_keeps pre s left lawful left_known.1 left_typed) (λ p t t_lawful t_stay is.
      let sign = update_sign operator left.kind o.kind in
      let with_it = update_operand operator sign o in
      node_keeps _ t place left.kind (expr.Compound p (update.Arithmetic operator sign) with_it.node) t_lawful
      (formed_stays s.structures t.structures left.kind t_stay lawful.open_are_empty left_known.0)
      (type_of-Compound p (update.Arithmetic operator sign) with_it.node ∙ is) (given_of_result left.kind (number_is_result left.kind n)) (λ u leads q.
      typed.typed-Compound u p (update.Arithmetic operator sign) with_it.node q.1
      (operand_typed u (is_shift operator) sign o o_known.1 m (o_typed u q.0)) (
        ap is_number is ∙ n,
        subst (λ k. IsUpdatePair (is_shift operator) sign k (type_of with_it.node)) (sym is) (pair_fits operator (is_shift operator) refl left.kind o n m o_known.1),
      )))

  -- a pointer moves by a number
  moved_keeps : (operator : ArithmeticOperator) (p : Place) (words : ℕ) (u : Tables) → place_type p ≡ left.kind → IsStride left.kind words u
      → is_number o.kind ≡ true → is_additive operator ≡ true
      → IsUpdate u.structures (moved_by operator words) (place_type p) (type_of (promoted o).node)
  moved_keeps operator p words u is stride m additive = of operator additive
    where
      moved : IsMoved u.structures (place_type p) (type_of (promoted o).node) words
      moved = (
        subst (λ k. PointsOver u.structures k words) (sym is) stride,
        ap is_promoted (promoted_kind o o_known.1 ∙ promoted_is o m) ∙ promoted_sign (sign_of o.kind),
      )

      of : (operator : ArithmeticOperator) → is_additive operator ≡ true → IsUpdate u.structures (moved_by operator words) (place_type p) (type_of (promoted o).node)
      of arithmetic.Add e = moved
      of arithmetic.Subtract e = moved
      of operator e = absurd (cc)

  first_additive : (operator : ArithmeticOperator) (t v : CType) → is_moved (moved_pointer operator t v PointerFirst) ≡ true → is_additive operator ≡ true
  first_additive operator t v e = of (is_additive operator) e
    where
      of : (b : Bool) → is_moved (if b then Some t else None) ≡ true → b ≡ true
      of true e = refl
      of false e = e

  first_moved : (operator : ArithmeticOperator) (t v : CType) → is_additive operator ≡ true → moved_pointer operator t v PointerFirst ≡ Some t
  first_moved operator t v e = ap (λ b. if b then Some t else None) e

  pointer_first_keeps : (place : ℕ) (operator : ArithmeticOperator) (pair : Pair) → PairTold left.kind o.kind pair
      → is_moved (moved_pointer operator left.kind o.kind pair) ≡ true
      → (p : Place) (t : Seen) → Lawful t → Stay s.structures t.structures → IsPlace left.kind p t
      → Triple (λ u. pre u × IsTypedAt p u) IsFound (IsTypedFound false) t
      (and_then (stride_of left.place (moved_pointer operator left.kind o.kind pair) t) (λ words v.
      and_then (refused (not (is_pointer_first pair)) 11 left.place v) (λ _ w.
      Good (found_value place left.kind (expr.Compound p (moved_by operator words) (promoted o).node)) w)))
  unfolding and_then
  pointer_first_keeps place operator PointerFirst told moved p t t_lawful t_stay is =
      let additive = first_additive operator left.kind o.kind moved in
      let data_pointer = and_left (is_data_pointer left.kind) (is_number o.kind) told in
      let m = and_right (is_data_pointer left.kind) (is_number o.kind) told in
      let formed = formed_stays s.structures t.structures left.kind t_stay lawful.open_are_empty left_known.0 in
      subst (λ x. Triple (λ u. pre u × IsTypedAt p u) IsFound (IsTypedFound false) t (and_then (stride_of left.place x t) (λ words w.
      Good (found_value place left.kind (expr.Compound p (moved_by operator words) (promoted o).node)) w))) (sym (first_moved operator left.kind o.kind additive))
      (then_keeps t (stride left.place left.kind t) _ (stride_keeps _ t left.place left.kind t_lawful formed data_pointer) (λ words v v_lawful v_stay known.
      node_keeps _ v place left.kind (expr.Compound p (moved_by operator words) (promoted o).node) v_lawful
      (formed_stays t.structures v.structures left.kind v_stay t_lawful.open_are_empty formed)
      (type_of-Compound p (moved_by operator words) (promoted o).node ∙ is) (given_of_result left.kind (data_result left.kind data_pointer)) (λ u leads q.
      typed.typed-Compound u p (moved_by operator words) (promoted o).node q.0.1 (promoted_typed u o o_known.1 (o_typed u q.0.0))
      (moved_keeps operator p words u is q.1 m additive))))
    where
      data_result : (t : CType) → is_data_pointer t ≡ true → is_result t ≡ true
      data_result t e = or_right (is_void t) (is_scalar t) (or_right (is_number t) (is_pointer t) (data_is_pointer t e))
  pointer_first_keeps place operator PointerSecond told moved p t t_lawful t_stay is = never_keeps _ t _ (λ words v. 11) left.place
  pointer_first_keeps place operator Pointers told moved p t t_lawful t_stay is = never_keeps _ t _ (λ words v. 11) left.place
  pointer_first_keeps place operator Numbers told moved p t t_lawful t_stay is = fails_keeps t 3 left.place
  pointer_first_keeps place operator Others told moved p t t_lawful t_stay is = fails_keeps t 3 left.place

  pointer_update_keeps : (place : ℕ) (operator : ArithmeticOperator) → Triple pre IsFound (IsTypedFound false) s (pointer_update place operator left o s)
  unfolding pointer_update and_then
  pointer_update_keeps place operator =
      refused_keeps s (not (is_moved (moved_pointer operator left.kind o.kind (pair_of left.kind o.kind)))) 3 left.place _ (λ e.
      let moved = not_refused (is_moved (moved_pointer operator left.kind o.kind (pair_of left.kind o.kind))) e in
      then_keeps s (lvalue left s) _ (lvalue_keeps pre s left lawful left_known.1 left_typed) (λ p t t_lawful t_stay is.
      pointer_first_keeps place operator (pair_of left.kind o.kind) (pair_told left.kind o.kind) moved p t t_lawful t_stay is))

  compound_of : (place : ℕ) (operator : ArithmeticOperator) (numbers : Bool) → is_number left.kind && is_number o.kind ≡ numbers
      → Triple pre IsFound (IsTypedFound false) s ((if numbers then number_update place operator left o else pointer_update place operator left o) s)
  compound_of place operator true e =
      number_update_keeps place operator (and_left (is_number left.kind) (is_number o.kind) e) (and_right (is_number left.kind) (is_number o.kind) e)
  compound_of place operator false e = pointer_update_keeps place operator

  compound_keeps : (place : ℕ) (operator : ArithmeticOperator) → Triple pre IsFound (IsTypedFound false) s (compound_assignment place operator left o s)
  unfolding compound_assignment
  compound_keeps place operator = compound_of place operator (is_number left.kind && is_number o.kind) refl

  pub assigned_keeps : (place : ℕ) (operator : AssignmentOperator) → Triple pre IsFound (IsTypedFound false) s (assigned_by place operator left o s)
  assigned_keeps place written.Plain = plain_keeps place
  assigned_keeps place written.Multiply = compound_keeps place arithmetic.Multiply
  assigned_keeps place written.Divide = compound_keeps place arithmetic.Divide
  assigned_keeps place written.Remainder = compound_keeps place arithmetic.Remainder
  assigned_keeps place written.Add = compound_keeps place arithmetic.Add
  assigned_keeps place written.Subtract = compound_keeps place arithmetic.Subtract
  assigned_keeps place written.LeftShift = compound_keeps place arithmetic.LeftShift
  assigned_keeps place written.RightShift = compound_keeps place arithmetic.RightShift
  assigned_keeps place written.And = compound_keeps place arithmetic.And
  assigned_keeps place written.ExclusiveOr = compound_keeps place arithmetic.ExclusiveOr
  assigned_keeps place written.Or = compound_keeps place arithmetic.Or

found_stays : (f : Found) (s t : Seen) → Stay s.structures t.structures → OpenAreEmpty s.structures → IsFound f s → IsFound f t
found_stays f s t stay empty known = (formed_stays s.structures t.structures f.kind stay empty known.0, known.1)

pub assignment_keeps : (place : ℕ) (operator : AssignmentOperator) (left_read right_read : Seen → Read Found)
    → Keeps Always IsFound (IsTypedFound false) left_read → Keeps Always IsFound (IsTypedFound false) right_read
    → Keeps Always IsFound (IsTypedFound false) (assignment place operator left_read right_read)
unfolding assignment and_then
assignment_keeps place operator left_read right_read left_keeps right_keeps s lawful =
    then_keeps s (left_read s) _ (left_keeps s lawful) (λ left t t_lawful t_stay left_known.
    refused_keeps t (is_whole left.kind) 3 left.place _ (λ whole.
    then_keeps t (operand right_read t) _ (anyway t _ (operand_keeps Always right_read right_keeps t t_lawful)) (λ o v v_lawful v_stay o_known.
    assigned_keeps _ v v_lawful left o (found_stays left t v v_stay t_lawful.open_are_empty left_known) o_known (λ u p. p.0.1) (λ u p. p.1) place operator)))

-- a number or a pointer is stepped
module _ (pre : Tables → Type 0) (s : Seen) (lawful : Lawful s) where
  step_of : (place : ℕ) (operator : ArithmeticOperator) (t : CType) (number : Bool) → is_number t ≡ number → is_step operator ≡ true → is_stepped t ≡ true → IsFormed s.structures t
      → Triple pre (λ how v. Unit {0}) (λ how u. IsStep u.structures how t) s
      ((if◌then◌else◌ {A = Seen → Read Update} number (λ v. Good (update.Arithmetic operator (sign_of t)) v) (λ v. and_then (stride place t v) (λ words w. Good (moved_by operator words) w))) s)
  unfolding and_then
  step_of place operator t true e steps stepped formed = gives_keeps s (update.Arithmetic operator (sign_of t)) lawful tt (λ u leads knows p. (steps, e, refl))
  step_of place operator t false e steps stepped formed =
      then_keeps s (stride place t s) _ (stride_keeps pre s place t lawful formed (pointed (is_number t) (is_data_pointer t) (not (is_void (target_of t))) e stepped)) (λ words v v_lawful v_stay known.
      gives_keeps v (moved_by operator words) v_lawful tt (λ u leads knows p. fits operator u words steps p.1))
    where
      pointed : (n d w : Bool) → n ≡ false → n || (d && w) ≡ true → d ≡ true
      pointed true d w p q = absurd (cc)
      pointed false true w p q = refl
      pointed false false w p q = q

      fits : (operator : ArithmeticOperator) (u : Tables) (words : ℕ) → is_step operator ≡ true → IsStride t words u → IsStep u.structures (moved_by operator words) t
      fits arithmetic.Add u words e stride = stride
      fits arithmetic.Subtract u words e stride = stride
      fits operator u words e stride = absurd (cc)

  step_keeps : (place : ℕ) (operator : ArithmeticOperator) (t : CType) → is_step operator ≡ true → is_stepped t ≡ true → IsFormed s.structures t
      → Triple pre (λ how v. Unit {0}) (λ how u. IsStep u.structures how t) s (step_update place operator t s)
  unfolding step_update
  step_keeps place operator t steps stepped formed = step_of place operator t (is_number t) refl steps stepped formed

stepped_result : (t : CType) → is_stepped t ≡ true → is_result t ≡ true
stepped_result t e = of (is_number t) refl
  where
    data_of : (n d w : Bool) → n ≡ false → n || (d && w) ≡ true → d ≡ true
    data_of true d w p q = absurd (cc)
    data_of false true w p q = refl
    data_of false false w p q = q

    of : (number : Bool) → is_number t ≡ number → is_result t ≡ true
    of true n = number_is_result t n
    of false n =
        or_right (is_void t) (is_scalar t) (or_right (is_number t) (is_pointer t)
        (data_is_pointer t (data_of (is_number t) (is_data_pointer t) (not (is_void (target_of t))) n e)))

stepped_keeps : (pre : Tables → Type 0) (s : Seen) (place : ℕ) (operator : ArithmeticOperator) (value : StepValue) (f : Found) → Lawful s → IsFound f s
    → ((u : Tables) → pre u → IsTypedFound false f u) → is_step operator ≡ true → is_stepped f.kind ≡ true
    → Triple pre IsFound (IsTypedFound false) s (stepped_as place operator value f s)
unfolding and_then
stepped_keeps pre s place operator Prefix f lawful known is_typed steps stepped =
    then_keeps s (step_update place operator f.kind s) _ (step_keeps pre s lawful place operator f.kind steps stepped known.0) (λ how t t_lawful t_stay k.
    then_keeps t (lvalue f t) _ (lvalue_keeps _ t f t_lawful known.1 (λ u p. is_typed u p.0)) (λ p v v_lawful v_stay is.
    node_keeps _ v place f.kind (expr.Step p how Prefix) v_lawful
    (formed_stays s.structures v.structures f.kind (stay_twice _ _ _ t_stay v_stay) lawful.open_are_empty known.0)
    (type_of-Step p how Prefix ∙ is) (given_of_result f.kind (stepped_result f.kind stepped)) (λ u leads q.
    typed.typed-Step u p how Prefix q.1 (subst (λ k. IsStep u.structures how k) (sym is) q.0.1))))
stepped_keeps pre s place operator Postfix f lawful known is_typed steps stepped =
    then_keeps s (lvalue f s) _ (lvalue_keeps pre s f lawful known.1 is_typed) (λ p t t_lawful t_stay is.
    then_keeps t (step_update place operator f.kind t) _
    (step_keeps _ t t_lawful place operator f.kind steps stepped (formed_stays s.structures t.structures f.kind t_stay lawful.open_are_empty known.0)) (λ how v v_lawful v_stay k.
    node_keeps _ v place f.kind (expr.Step p how Postfix) v_lawful
    (formed_stays s.structures v.structures f.kind (stay_twice _ _ _ t_stay v_stay) lawful.open_are_empty known.0)
    (type_of-Step p how Postfix ∙ is) (given_of_result f.kind (stepped_result f.kind stepped)) (λ u leads q.
    typed.typed-Step u p how Postfix q.0.1 (subst (λ k. IsStep u.structures how k) (sym is) q.1))))

pub steps_keep : (place : ℕ) (operator : ArithmeticOperator) (value : StepValue) (expression : Seen → Read Found) → is_step operator ≡ true
    → Keeps Always IsFound (IsTypedFound false) expression → Keeps Always IsFound (IsTypedFound false) (step place operator value expression)
unfolding step and_then
steps_keep place operator value expression steps keeps s lawful =
    then_keeps s (expression s) _ (keeps s lawful) (λ f t t_lawful t_stay known.
    refused_keeps t (is_whole f.kind) 3 f.place _ (λ whole.
    refused_keeps t (not (is_stepped f.kind)) 3 place _ (λ e.
    stepped_keeps _ t place operator value f t_lawful known (λ u p. p.1) steps (not_refused (is_stepped f.kind) e))))
