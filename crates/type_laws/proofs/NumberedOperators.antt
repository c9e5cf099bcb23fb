-- Operands and operators: the spots of a node are those of its operands, one behind the other, and no call site is taken once these were read.
use Rattle.std.proofs.Common.{◌≡◌, ℕ, Bool, true, false, refl, sym, ◌∙◌, ap, subst, List, [], ◌++◌, Option, Some, None, append_assoc}
use Rattle.std.specs.Prelude.{not, ◌&&◌, if◌then◌else◌, Result, Ok, Err}
use Rattle.eff_types.specs.Conversion.{conversion}
use Rattle.eff_types.specs.Types.{is_number, is_void, is_function, same}
use Rattle.eff_types.specs.declared.conversions.Conversion.{Conversion}
use Rattle.eff_types.specs.declared.conversions.Conversion.TheVariants as as_a
use Rattle.eff_types.specs.declared.conversions.Mismatch.{Mismatch}
use Rattle.eff_types.specs.declared.conversions.Mismatch.TheVariants as mismatch
use Rattle.eff_types.specs.declared.types.CType.{CType, Int}
use Rattle.c_tree.specs.declared.expressions.BinaryOperator.{BinaryOperator}
use Rattle.c_tree.specs.declared.expressions.BinaryOperator.TheVariants as written
use Rattle.core_unit.proofs.Equations.{spots-ArrayPointer, spots-Load, spots-FunctionPointer, spots-Unary, spots-Binary, spots-Logical, spots-Conditional, spots-Comma, spots-Convert}
use Rattle.core_unit.specs.Layout.{words_of}
use Rattle.core_unit.specs.Places.{Spot, spots, place_spots}
use Rattle.core_unit.specs.Shapes.{target_of, pointer_to, is_array, element_of, is_scalar, number_type, sign_of}
use Rattle.core_unit.specs.declared.expressions.Expr.{Expr}
use Rattle.core_unit.specs.declared.expressions.Expr.TheVariants as expr
use Rattle.core_unit.specs.declared.expressions.Place.{Place}
use Rattle.core_unit.specs.declared.operators.ArithmeticOperator.{ArithmeticOperator}
use Rattle.core_unit.specs.declared.operators.ArithmeticOperator.TheVariants as arithmetic
use Rattle.core_unit.specs.declared.operators.BinaryOperator.{BinaryOperator as TypedOperator}
use Rattle.core_unit.specs.declared.operators.BinaryOperator.TheVariants as binary
use Rattle.core_unit.specs.declared.operators.Cause.{Cause}
use Rattle.core_unit.specs.declared.operators.Cause.TheVariants as cause
use Rattle.core_unit.specs.declared.operators.Comparands.{Comparands}
use Rattle.core_unit.specs.declared.operators.Comparands.TheVariants as comparands
use Rattle.core_unit.specs.declared.operators.ComparisonOperator.{ComparisonOperator}
use Rattle.core_unit.specs.declared.operators.ComparisonOperator.TheVariants as comparison
use Rattle.core_unit.specs.declared.operators.LogicalOperator.{LogicalOperator}
use Rattle.core_unit.specs.declared.operators.LogicalOperator.TheVariants as logical
use Rattle.core_unit.specs.declared.operators.PointerSide.TheVariants.{Left, Right}
use Rattle.core_unit.specs.declared.operators.Sign.{Sign}
use Rattle.core_unit.specs.declared.operators.UnaryOperator.{UnaryOperator}
use Rattle.core_unit.specs.declared.operators.UnaryOperator.TheVariants as unary
use Rattle.type_rules.specs.Constants.{is_null_constant}
use Rattle.type_rules.specs.Conversions.{null_cause, converted_as, converted_by, converted}
use Rattle.type_rules.specs.Operands.{operand_of, found_value, value_in, as_value, is_whole, operand, turned, is_char, promoted, common_sign, in_sign}
use Rattle.type_rules.specs.Operators.{pair_of, stride, calculated, arithmetic_on, shift_on, added_as, subtracted_as, compared, numbers_compared, ordered_as, pointers_of, brought, pointer_in_common, alike_outside, pointers_equated, equality_on, logical_on, comma_on, operation_on, operation, sign_operation, negation, chosen_type, chosen_as, numbers_chosen, chosen_of, chosen, alternatives, choice}
use Rattle.type_rules.specs.Reading.{Read, Good, and_then}
use Rattle.type_rules.specs.Seen.{Seen}
use Rattle.type_rules.specs.Types.{is_incomplete}
use Rattle.type_rules.specs.declared.found.Form.{Form}
use Rattle.type_rules.specs.declared.found.Form.TheVariants.{Lvalue, Value}
use Rattle.type_rules.specs.declared.found.Found.{Found}
use Rattle.type_rules.specs.declared.found.Operand.{Operand}
use Rattle.type_rules.specs.declared.found.Pair.{Pair}
use Rattle.type_rules.specs.declared.found.Pair.TheVariants.{Numbers, PointerFirst, PointerSecond, Pointers, Others}
use Rattle.type_laws.proofs.Numbered.{Reads, IsIdle, then_reads, gives_reads, fails_reads, refused_reads, form_spots, found_spots, operand_spots, value_found, moved}
use Rattle.type_laws.proofs.Progress.{Progress, progress}
use Rattle.type_laws.proofs.SpotsJoined.{spots_join}

-- the value of what is found
object_spots : (place : ℕ) (kind : CType) (p : Place) (array : Bool)
    → operand_spots (if array then operand_of place (pointer_to (element_of kind)) (expr.ArrayPointer p) else operand_of place kind (expr.Load p)) ≡ place_spots p []
object_spots place kind p true = spots-ArrayPointer [] p
object_spots place kind p false = spots-Load [] p

pub value_spots : (place : ℕ) (kind : CType) (e : Expr) (function : Bool)
    → operand_spots (if function then operand_of place (pointer_to kind) (expr.FunctionPointer e) else operand_of place kind e) ≡ spots e []
value_spots place kind e true = spots-FunctionPointer [] e
value_spots place kind e false = refl

in_spots : (place : ℕ) (kind : CType) (form : Form) → operand_spots (value_in place kind form) ≡ form_spots form
in_spots place kind (Lvalue p) = object_spots place kind p (is_array kind)
in_spots place kind (Value e) = value_spots place kind e (is_function kind)

pub as_value_spots : (f : Found) → operand_spots (as_value f) ≡ found_spots f
unfolding as_value
as_value_spots f = in_spots f.place f.kind f.form

pub operand_reads : (P : List Spot → Progress → Type 0) (rule : Seen → Read Found) (s : Seen) → Reads found_spots P (rule s)
    → Reads operand_spots P (operand rule s)
unfolding operand and_then
operand_reads P rule s h =
    then_reads (rule s) _ h (λ f t p.
    refused_reads t (is_whole f.kind) 3 f.place _ (λ e.
    gives_reads t (as_value f) (subst (λ xs. P xs (progress t)) (sym (as_value_spots f)) p)))

-- operands in other types
pub turned_spots : (why : Cause) (to : CType) (o : Operand) → operand_spots (turned why to o) ≡ operand_spots o
turned_spots why to o = spots-Convert [] why to o.node

pub promoted_spots : (o : Operand) → operand_spots (promoted o) ≡ operand_spots o
unfolding promoted
promoted_spots o = of (is_char o.kind)
  where
    of : (test : Bool) → operand_spots (if test then turned cause.Implicit Int o else o) ≡ operand_spots o
    of true = turned_spots cause.Implicit Int o
    of false = refl

pub in_sign_spots : (sign : Sign) (o : Operand) → operand_spots (in_sign sign o) ≡ operand_spots o
unfolding in_sign
in_sign_spots sign o = of (same (promoted o).kind (number_type sign))
  where
    of : (test : Bool) → operand_spots (if test then promoted o else turned cause.Implicit (number_type sign) (promoted o)) ≡ operand_spots o
    of true = promoted_spots o
    of false = turned_spots cause.Implicit (number_type sign) (promoted o) ∙ promoted_spots o

brought_spots : (to : CType) (o : Operand) → operand_spots (brought to o) ≡ operand_spots o
brought_spots to o = of (same o.kind to)
  where
    of : (test : Bool) → operand_spots (if test then o else turned (null_cause cause.Implicit o.kind to) to o) ≡ operand_spots o
    of true = refl
    of false = turned_spots (null_cause cause.Implicit o.kind to) to o

-- A conversion leaves the spots of its operand, and takes no call site.
abbrev pub IsSame : List Spot → Progress → List Spot → Progress → Type 0
IsSame xs n ys m = (ys ≡ xs) × (m ≡ n)

turned_reads : (why : Cause) (to : CType) (o : Operand) (s : Seen) → Reads operand_spots (IsSame (operand_spots o) (progress s)) (Good (turned why to o) s)
turned_reads why to o s = record { holds = (turned_spots why to o, refl) }

as_reads : (why : Cause) (to : CType) (o : Operand) (s : Seen) (how : Conversion) → Reads operand_spots (IsSame (operand_spots o) (progress s)) (converted_as why to o how s)
unfolding and_then
as_reads cause.Cast to o s as_a.Same = turned_reads cause.Cast to o s
as_reads why to o s as_a.Same = record { holds = (refl, refl) }
as_reads why to o s as_a.Number = turned_reads why to o s
as_reads why to o s as_a.Pointer = turned_reads why to o s
as_reads why to o s as_a.Null = turned_reads (null_cause why o.kind to) to o s
as_reads why to o s (as_a.Effects None) = turned_reads why to o s
as_reads why to o s (as_a.Effects (Some level)) = record { holds = (turned_spots why to o, refl) }

pub by_reads : (why : Cause) (at : ℕ) (to : CType) (o : Operand) (s : Seen) (r : Result Conversion Mismatch)
    → Reads operand_spots (IsSame (operand_spots o) (progress s)) (converted_by why at to o r s)
by_reads why at to o s (Ok how) = as_reads why to o s how
by_reads why at to o s (Err mismatch.Mismatch) = record { holds = tt }
by_reads why at to o s (Err mismatch.LeftOut) = record { holds = tt }

pub converted_reads : (to : CType) (o : Operand) (s : Seen) → Reads operand_spots (IsSame (operand_spots o) (progress s)) (converted to o s)
unfolding converted
converted_reads to o s = by_reads cause.Implicit o.place to o s (conversion o.kind to (is_null_constant o) false)

pub stride_idle : (place : ℕ) (pointer : CType) (s : Seen) → IsIdle (progress s) (stride place pointer s)
unfolding stride and_then
stride_idle place pointer s =
    refused_reads s (is_void (target_of pointer)) 3 place _ (λ solid.
    refused_reads s (is_incomplete s.structures (target_of pointer)) 10 place _ (λ complete.
    gives_reads s (words_of s.structures (target_of pointer)) refl))

-- the spots of two operands, one behind the other
pub two_spots : (e f : Expr) (xs ys : List Spot) → spots e [] ≡ xs → spots f [] ≡ ys → spots e (spots f []) ≡ xs ++ ys
two_spots e f xs ys p q = spots_join e (spots f []) ∙ (ap (λ zs. zs ++ spots f []) p ∙ ap (λ zs. xs ++ zs) q)

module _ (P : List Spot → Progress → Type 0) (a b : Operand) where
  abbrev Here : Seen → Type 0
  Here s = P (operand_spots a ++ operand_spots b) (progress s)

  binary_found : (s : Seen) (place : ℕ) (kind : CType) (operator : TypedOperator) (x y : Operand) → operand_spots x ≡ operand_spots a → operand_spots y ≡ operand_spots b → Here s
      → Reads found_spots P (Good (found_value place kind (expr.Binary operator x.node y.node)) s)
  binary_found s place kind operator x y left right p =
      value_found s place kind (expr.Binary operator x.node y.node) (operand_spots a ++ operand_spots b)
      (spots-Binary [] operator x.node y.node ∙ two_spots x.node y.node (operand_spots a) (operand_spots b) left right) p

  calculated_reads : (s : Seen) (place : ℕ) (operator : ArithmeticOperator) (sign : Sign) → Here s → Reads found_spots P (Good (calculated place operator sign a b) s)
  calculated_reads s place operator sign p =
      binary_found s place (number_type sign) (binary.Arithmetic operator sign) (in_sign sign a) (in_sign sign b) (in_sign_spots sign a) (in_sign_spots sign b) p

  arithmetic_reads : (s : Seen) (place : ℕ) (operator : ArithmeticOperator) → Here s → Reads found_spots P (arithmetic_on place operator a b s)
  unfolding arithmetic_on and_then
  arithmetic_reads s place operator p =
      refused_reads s (not (is_number a.kind && is_number b.kind)) 3 place _ (λ e. calculated_reads s place operator (common_sign a b) p)

  shift_reads : (s : Seen) (place : ℕ) (operator : ArithmeticOperator) → Here s → Reads found_spots P (shift_on place operator a b s)
  unfolding shift_on and_then
  shift_reads s place operator p =
      refused_reads s (not (is_number a.kind && is_number b.kind)) 3 place _ (λ e.
      binary_found s place (number_type (sign_of a.kind)) (binary.Arithmetic operator (sign_of a.kind)) (promoted a) (promoted b) (promoted_spots a) (promoted_spots b) p)

  here_moved : (s t : Seen) → (progress t) ≡ (progress s) → Here s → Here t
  here_moved s t e p = moved P (operand_spots a ++ operand_spots b) (progress s) (progress t) e p

  added_reads : (s : Seen) (place : ℕ) (pair : Pair) → Here s → Reads found_spots P (added_as place a b pair s)
  unfolding and_then
  added_reads s place Numbers p = calculated_reads s place arithmetic.Add (common_sign a b) p
  added_reads s place PointerFirst p =
      then_reads (stride place a.kind s) _ (stride_idle place a.kind s) (λ words t e.
      binary_found t place a.kind (binary.PointerPlus Left words) a (promoted b) refl (promoted_spots b) (here_moved s t e p))
  added_reads s place PointerSecond p =
      then_reads (stride place b.kind s) _ (stride_idle place b.kind s) (λ words t e.
      binary_found t place b.kind (binary.PointerPlus Right words) (promoted a) b (promoted_spots a) refl (here_moved s t e p))
  added_reads s place Pointers p = fails_reads 3 place
  added_reads s place Others p = fails_reads 3 place

  subtracted_reads : (s : Seen) (place : ℕ) (pair : Pair) → Here s → Reads found_spots P (subtracted_as place a b pair s)
  unfolding and_then
  subtracted_reads s place Numbers p = calculated_reads s place arithmetic.Subtract (common_sign a b) p
  subtracted_reads s place PointerFirst p =
      then_reads (stride place a.kind s) _ (stride_idle place a.kind s) (λ words t e.
      binary_found t place a.kind (binary.PointerMinus words) a (promoted b) refl (promoted_spots b) (here_moved s t e p))
  subtracted_reads s place Pointers p =
      then_reads (stride place a.kind s) _ (stride_idle place a.kind s) (λ words t e.
      binary_found t place Int (binary.Difference words) a b refl refl (here_moved s t e p))
  subtracted_reads s place PointerSecond p = fails_reads 3 place
  subtracted_reads s place Others p = fails_reads 3 place

  compared_reads : (s : Seen) (place : ℕ) (operator : ComparisonOperator) (what : Comparands) (x y : Operand) → operand_spots x ≡ operand_spots a → operand_spots y ≡ operand_spots b
      → Here s → Reads found_spots P (Good (compared place operator what x y) s)
  compared_reads s place operator what x y left right p = binary_found s place Int (binary.Compare operator what) x y left right p

  numbers_reads : (s : Seen) (place : ℕ) (operator : ComparisonOperator) (sign : Sign) → Here s → Reads found_spots P (Good (numbers_compared place operator sign a b) s)
  numbers_reads s place operator sign p =
      compared_reads s place operator (comparands.Numbers sign) (in_sign sign a) (in_sign sign b) (in_sign_spots sign a) (in_sign_spots sign b) p

  ordered_reads : (s : Seen) (place : ℕ) (operator : ComparisonOperator) (pair : Pair) → Here s → Reads found_spots P (ordered_as place operator a b pair s)
  ordered_reads s place operator Numbers p = numbers_reads s place operator (common_sign a b) p
  ordered_reads s place operator Pointers p = compared_reads s place operator comparands.DataPointers a b refl refl p
  ordered_reads s place operator PointerFirst p = fails_reads 3 place
  ordered_reads s place operator PointerSecond p = fails_reads 3 place
  ordered_reads s place operator Others p = fails_reads 3 place

  pointers_reads : (s : Seen) (place : ℕ) (operator : ComparisonOperator) (in_common : Option CType) → Here s → Reads found_spots P (pointers_equated place operator a b in_common s)
  unfolding and_then
  pointers_reads s place operator (Some t) p = compared_reads s place operator (pointers_of t) (brought t a) (brought t b) (brought_spots t a) (brought_spots t b) p
  pointers_reads s place operator None p =
      refused_reads s (not (alike_outside a.kind b.kind)) 3 place _ (λ e. compared_reads s place operator comparands.FunctionPointers a b refl refl p)

  equality_reads : (s : Seen) (place : ℕ) (operator : ComparisonOperator) → Here s → Reads found_spots P (equality_on place operator a b s)
  unfolding equality_on
  equality_reads s place operator p = of (is_number a.kind && is_number b.kind)
    where
      of : (numbers : Bool) → Reads found_spots P ((if numbers then (λ (t : Seen). Good (numbers_compared place operator (common_sign a b) a b) t)
          else pointers_equated place operator a b (pointer_in_common a b)) s)
      of true = numbers_reads s place operator (common_sign a b) p
      of false = pointers_reads s place operator (pointer_in_common a b) p

  logical_reads : (s : Seen) (place : ℕ) (operator : LogicalOperator) → Here s → Reads found_spots P (logical_on place operator a b s)
  unfolding logical_on and_then
  logical_reads s place operator p =
      refused_reads s (not (is_scalar a.kind && is_scalar b.kind)) 3 place _ (λ e.
      value_found s place Int (expr.Logical operator (promoted a).node (promoted b).node) (operand_spots a ++ operand_spots b)
      (spots-Logical [] operator (promoted a).node (promoted b).node
      ∙ two_spots (promoted a).node (promoted b).node (operand_spots a) (operand_spots b) (promoted_spots a) (promoted_spots b)) p)

  comma_reads : (s : Seen) (place : ℕ) → Here s → Reads found_spots P (Good (comma_on place a b) s)
  comma_reads s place p =
      value_found s place b.kind (expr.Comma a.node b.node) (operand_spots a ++ operand_spots b)
      (spots-Comma [] a.node b.node ∙ two_spots a.node b.node (operand_spots a) (operand_spots b) refl refl) p

  on_reads : (s : Seen) (place : ℕ) (operator : BinaryOperator) → Here s → Reads found_spots P (operation_on place operator a b s)
  on_reads s place written.Comma p = comma_reads s place p
  on_reads s place written.LogicalOr p = logical_reads s place logical.Or p
  on_reads s place written.LogicalAnd p = logical_reads s place logical.And p
  on_reads s place written.Or p = arithmetic_reads s place arithmetic.Or p
  on_reads s place written.ExclusiveOr p = arithmetic_reads s place arithmetic.ExclusiveOr p
  on_reads s place written.And p = arithmetic_reads s place arithmetic.And p
  on_reads s place written.Equal p = equality_reads s place comparison.Equal p
  on_reads s place written.NotEqual p = equality_reads s place comparison.NotEqual p
  on_reads s place written.Less p = ordered_reads s place comparison.Less (pair_of a.kind b.kind) p
  on_reads s place written.Greater p = ordered_reads s place comparison.Greater (pair_of a.kind b.kind) p
  on_reads s place written.LessOrEqual p = ordered_reads s place comparison.LessOrEqual (pair_of a.kind b.kind) p
  on_reads s place written.GreaterOrEqual p = ordered_reads s place comparison.GreaterOrEqual (pair_of a.kind b.kind) p
  on_reads s place written.LeftShift p = shift_reads s place arithmetic.LeftShift p
  on_reads s place written.RightShift p = shift_reads s place arithmetic.RightShift p
  on_reads s place written.Add p = added_reads s place (pair_of a.kind b.kind) p
  on_reads s place written.Subtract p = subtracted_reads s place (pair_of a.kind b.kind) p
  on_reads s place written.Multiply p = arithmetic_reads s place arithmetic.Multiply p
  on_reads s place written.Divide p = arithmetic_reads s place arithmetic.Divide p
  on_reads s place written.Remainder p = arithmetic_reads s place arithmetic.Remainder p

  -- of three operands
  conditional_found : (s : Seen) (place : ℕ) (kind : CType) (test x y : Operand) (zs : List Spot) → operand_spots x ≡ operand_spots a → operand_spots y ≡ operand_spots b
      → operand_spots test ≡ zs → P ((zs ++ operand_spots a) ++ operand_spots b) (progress s)
      → Reads found_spots P (Good (found_value place kind (expr.Conditional test.node x.node y.node)) s)
  conditional_found s place kind test x y zs left right first p =
      value_found s place kind (expr.Conditional test.node x.node y.node) ((zs ++ operand_spots a) ++ operand_spots b)
      (spots-Conditional [] test.node x.node y.node ∙ (spots_join test.node (spots x.node (spots y.node []))
      ∙ (ap (λ ws. ws ++ spots x.node (spots y.node [])) first ∙ (ap (λ ws. zs ++ ws) (two_spots x.node y.node (operand_spots a) (operand_spots b) left right)
      ∙ sym (append_assoc zs (operand_spots a) (operand_spots b)))))) p

  as_chosen : (s : Seen) (place : ℕ) (test : Operand) (found : Option CType) → P ((operand_spots test ++ operand_spots a) ++ operand_spots b) (progress s)
      → Reads found_spots P (chosen_as place test a b found s)
  as_chosen s place test (Some t) p = conditional_found s place t test (brought t a) (brought t b) (operand_spots test) (brought_spots t a) (brought_spots t b) refl p
  as_chosen s place test None p = fails_reads 3 place

  chosen_reads : (s : Seen) (place : ℕ) (test : Operand) → P ((operand_spots test ++ operand_spots a) ++ operand_spots b) (progress s)
      → Reads found_spots P (chosen_of place test a b s)
  chosen_reads s place test p = of (is_number a.kind && is_number b.kind)
    where
      of : (numbers : Bool) → Reads found_spots P ((if numbers then (λ (t : Seen). Good (numbers_chosen place test (common_sign a b) a b) t)
          else chosen_as place test a b (chosen_type a b)) s)
      of true =
          let sign = common_sign a b in
          conditional_found s place (number_type sign) test (in_sign sign a) (in_sign sign b) (operand_spots test) (in_sign_spots sign a) (in_sign_spots sign b) refl p
      of false = as_chosen s place test (chosen_type a b) p

-- a rule that is read from some state on, whatever was seen
abbrev pub ReadsFrom : {A : Type 0} → (A → List Spot) → (Progress → List Spot → Progress → Type 0) → (Seen → Read A) → Type 0
ReadsFrom f Q rule = (s : Seen) → Reads f (Q (progress s)) (rule s)

module _ (P : List Spot → Progress → Type 0) (Q : Progress → List Spot → Progress → Type 0) (R : List Spot → Progress → Type 0) (joined : (xs ys : List Spot) (m l : Progress) → P xs m → Q m ys l → R (xs ++ ys) l) where
  pub operations_read : (place : ℕ) (operator : BinaryOperator) (left right : Seen → Read Found) (s : Seen) → Reads found_spots P (left s) → ReadsFrom found_spots Q right
      → Reads found_spots R (operation place operator left right s)
  unfolding operation and_then
  operations_read place operator left right s p q =
      then_reads (operand left s) _ (operand_reads P left s p) (λ a t x.
      then_reads (operand right t) _ (operand_reads (Q (progress t)) right t (q t)) (λ b v y.
      on_reads R a b v place operator (joined (operand_spots a) (operand_spots b) (progress t) (progress v) x y)))

module _ (P : List Spot → Progress → Type 0) (Q : Progress → List Spot → Progress → Type 0) (R : List Spot → Progress → Type 0) (Q' : Progress → List Spot → Progress → Type 0) (R' : List Spot → Progress → Type 0)
    (joined : (xs ys : List Spot) (m l : Progress) → P xs m → Q m ys l → R (xs ++ ys) l) (more : (xs ys : List Spot) (m l : Progress) → R xs m → Q' m ys l → R' (xs ++ ys) l) where
  pub choices_read : (place : ℕ) (condition then_read else_read : Seen → Read Found) (s : Seen) → Reads found_spots P (condition s) → ReadsFrom found_spots Q then_read
      → ReadsFrom found_spots Q' else_read → Reads found_spots R' (choice place condition then_read else_read s)
  unfolding choice alternatives chosen and_then
  choices_read place condition then_read else_read s p q r =
      then_reads (operand condition s) _ (operand_reads P condition s p) (λ test t x.
      then_reads (operand then_read t) _ (operand_reads (Q (progress t)) then_read t (q t)) (λ a v y.
      then_reads (operand else_read v) _ (operand_reads (Q' (progress v)) else_read v (r v)) (λ b w z.
      refused_reads w (not (is_scalar test.kind)) 3 place _ (λ e.
      chosen_reads R' a b w place test
      (more (operand_spots test ++ operand_spots a) (operand_spots b) (progress v) (progress w) (joined (operand_spots test) (operand_spots a) (progress t) (progress v) x y) z)))))

module _ (P : List Spot → Progress → Type 0) where
  unary_found : (s : Seen) (place : ℕ) (kind : CType) (operator : UnaryOperator) (o : Operand) → P (operand_spots o) (progress s)
      → Reads found_spots P (Good (found_value place kind (expr.Unary operator (promoted o).node)) s)
  unary_found s place kind operator o p =
      value_found s place kind (expr.Unary operator (promoted o).node) (operand_spots o) (spots-Unary [] operator (promoted o).node ∙ promoted_spots o) p

  pub signs_read : (place : ℕ) (operator : Sign → UnaryOperator) (expression : Seen → Read Found) (s : Seen) → Reads found_spots P (expression s)
      → Reads found_spots P (sign_operation place operator expression s)
  unfolding sign_operation and_then
  signs_read place operator expression s p =
      then_reads (operand expression s) _ (operand_reads P expression s p) (λ o t x.
      refused_reads t (not (is_number o.kind)) 3 place _ (λ e.
      unary_found t place (number_type (sign_of o.kind)) (operator (sign_of o.kind)) o x))

  pub negation_reads : (place : ℕ) (expression : Seen → Read Found) (s : Seen) → Reads found_spots P (expression s) → Reads found_spots P (negation place expression s)
  unfolding negation and_then
  negation_reads place expression s p =
      then_reads (operand expression s) _ (operand_reads P expression s p) (λ o t x.
      refused_reads t (not (is_scalar o.kind)) 3 place _ (λ e. unary_found t place Int unary.Not o x))
