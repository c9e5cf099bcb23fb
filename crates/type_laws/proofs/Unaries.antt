-- Operators before one operand, `,` aside, and `?:`.
use Rattle.std.proofs.Common.{◌≡◌, ℕ, Bool, true, false, refl, sym, ◌∙◌, ap, Option, Some, None}
use Rattle.std.specs.Prelude.{not, ◌&&◌, ◌||◌, if◌then◌else◌}
use Rattle.eff_types.specs.Types.{is_number, is_void, is_pointer, points_to, is_function_pointer, is_void_pointer, same, same_outside, without_outer_effects}
use Rattle.eff_types.specs.declared.types.CType.{CType, Void, Char, Int, Unsigned, Mutex, Struct, Pointer', Array', Function', end_of-CType, more_of-CType}
use Rattle.eff_types.proofs.TypeLaws.{same_outside-refl, same_outside-sym, same_outside-trans}
use Rattle.core_unit.specs.Shapes.{is_scalar, number_type, sign_of}
use Rattle.core_unit.specs.Typed.{Tables, IsUnary, is_asked, is_value, is_conversion, are_numbers, are_function_pointers, are_data_pointers}
use Rattle.core_unit.specs.Typing.{type_of}
use Rattle.core_unit.proofs.Equations.{type_of-Unary, type_of-Conditional}
use Rattle.core_unit.specs.declared.expressions.Expr.{Expr}
use Rattle.core_unit.specs.declared.expressions.Expr.TheVariants as expr
use Rattle.core_unit.specs.declared.operators.Cause.TheVariants as cause
use Rattle.core_unit.specs.declared.operators.Sign.{Sign}
use Rattle.core_unit.specs.declared.operators.Sign.TheVariants.{Signed, Unsigned as Without}
use Rattle.core_unit.specs.declared.operators.UnaryOperator.{UnaryOperator}
use Rattle.core_unit.specs.declared.operators.UnaryOperator.TheVariants as unary
use Rattle.type_rules.specs.Operands.{operand, promoted, in_sign, common_sign}
use Rattle.type_rules.specs.Operators.{brought, pointer_in_common, alike_outside, sign_operation, negation, shared_pointer, chosen_type, chosen_as, numbers_chosen, chosen_of, chosen, alternatives, choice}
use Rattle.type_rules.specs.Reading.{Read, Good, and_then}
use Rattle.type_rules.specs.Seen.{Seen}
use Rattle.type_rules.specs.Types.{is_result}
use Rattle.type_rules.specs.declared.found.Found.{Found}
use Rattle.type_rules.specs.declared.found.Operand.{Operand}
use Rattle.type_laws.proofs.Common.{CommonTold, common_told, brought_is, brought_typed, Suits, suits_itself}
use Rattle.type_laws.proofs.Fits.{second_fits, function_pointer_is_pointer}
use Rattle.type_laws.proofs.Formed.{IsFormed, Stay, OpenAreEmpty, formed_stays}
use Rattle.type_laws.proofs.Numbers.{promoted_kind, promoted_is, promoted_typed, promoted_asked, in_sign_is, in_sign_typed}
use Rattle.type_laws.proofs.Operands.{IsFound, IsTypedFound, IsOperand, IsTypedOperand, operand_keeps}
use Rattle.type_laws.proofs.Operations.{node_keeps, number_keeps, first_of, second_of, third_of}
use Rattle.type_laws.proofs.Triples.{Triple, Keeps, Always, Lawful, then_keeps, refused_keeps, fails_keeps, anyway}
use Rattle.type_laws.proofs.Typed as typed
use Rattle.type_laws.proofs.Types.{and_left, and_right, not_refused, given_of_result, value_of_result, or_right}

-- an operator whose operand has its sign
abbrev pub HasSign : (Sign → UnaryOperator) → Type 0
HasSign operator = (sign : Sign) (t : CType) → t ≡ number_type sign → (IsUnary (operator sign) t) × ((e : Expr) → type_of (expr.Unary (operator sign) e) ≡ number_type sign)

pub plus_has_sign : HasSign unary.Plus
plus_has_sign sign t is = (is, λ e. type_of-Unary (unary.Plus sign) e)

pub minus_has_sign : HasSign unary.Minus
minus_has_sign sign t is = (is, λ e. type_of-Unary (unary.Minus sign) e)

pub complement_has_sign : HasSign unary.Complement
complement_has_sign sign t is = (is, λ e. type_of-Unary (unary.Complement sign) e)

pub sign_keeps : (place : ℕ) (operator : Sign → UnaryOperator) (expression : Seen → Read Found) → HasSign operator → Keeps Always IsFound (IsTypedFound false) expression
    → Keeps Always IsFound (IsTypedFound false) (sign_operation place operator expression)
unfolding sign_operation and_then
sign_keeps place operator expression has keeps s lawful =
    then_keeps s (operand expression s) _ (operand_keeps Always expression keeps s lawful) (λ o t lawful' stay known.
    refused_keeps t (not (is_number o.kind)) 3 place _ (λ e.
    let number = not_refused (is_number o.kind) e in
    let is = promoted_kind o known.1 ∙ promoted_is o number in
    let fits = has (sign_of o.kind) (type_of (promoted o).node) is in
    number_keeps _ t place (sign_of o.kind) (expr.Unary (operator (sign_of o.kind)) (promoted o).node) lawful' (fits.1 (promoted o).node) (λ u leads p.
    typed.typed-Unary u (operator (sign_of o.kind)) (promoted o).node (promoted_typed u o known.1 p.1) fits.0)))

pub negation_keeps : (place : ℕ) (expression : Seen → Read Found) → Keeps Always IsFound (IsTypedFound false) expression
    → Keeps Always IsFound (IsTypedFound false) (negation place expression)
unfolding negation and_then
negation_keeps place expression keeps s lawful =
    then_keeps s (operand expression s) _ (operand_keeps Always expression keeps s lawful) (λ o t lawful' stay known.
    refused_keeps t (not (is_scalar o.kind)) 3 place _ (λ e.
    let scalar = not_refused (is_scalar o.kind) e in
    number_keeps _ t place Signed (expr.Unary unary.Not (promoted o).node) lawful' (type_of-Unary unary.Not (promoted o).node) (λ u leads p.
    typed.typed-Unary u unary.Not (promoted o).node (promoted_typed u o known.1 p.1) (ap is_asked (promoted_kind o known.1) ∙ promoted_asked o scalar))))

-- a pointer to a function that both of two lead to
shared_formed : (s : Seen) (t u : CType) → IsFormed s.structures t → IsFormed s.structures (shared_pointer t u)
unfolding IsFormed
shared_formed s (Pointer' p (more_of-CType (Function' q (more_of-CType r end_of-CType) z params effects) end_of-CType)) u f = f
shared_formed s (Pointer' p (more_of-CType t end_of-CType)) u f = f
shared_formed s t u f = f

shared_outside : (t u : CType) → is_function_pointer t ≡ true → same_outside t (shared_pointer t u) ≡ true
unfolding points_to same without_outer_effects
shared_outside (Pointer' p (more_of-CType (Function' q result z params effects) end_of-CType)) u f =
    same_outside-refl (Pointer' p (more_of-CType (Function' q result z params effects) end_of-CType))
shared_outside (Pointer' p (more_of-CType t end_of-CType)) u f = absurd (cc)
shared_outside t u f = absurd (cc)

shared_is_pointer : (t u : CType) → is_function_pointer t ≡ true → is_function_pointer (shared_pointer t u) ≡ true
unfolding points_to
shared_is_pointer (Pointer' p (more_of-CType (Function' q result z params effects) end_of-CType)) u f = refl
shared_is_pointer (Pointer' p (more_of-CType t end_of-CType)) u f = absurd (cc)
shared_is_pointer t u f = absurd (cc)

function_is_no_number : (t : CType) → is_function_pointer t ≡ true → is_number t ≡ false
unfolding points_to
function_is_no_number (Pointer' _ t) e = refl
function_is_no_number Void e = refl
function_is_no_number Mutex e = refl
function_is_no_number (Struct k) e = refl
function_is_no_number (Array' _ t n) e = refl
function_is_no_number (Function' _ _ _ _ _) e = refl
function_is_no_number Char e = absurd (cc)
function_is_no_number Int e = absurd (cc)
function_is_no_number Unsigned e = absurd (cc)

function_is_not_void : (t : CType) → is_function_pointer t ≡ true → is_void_pointer t ≡ false
unfolding points_to
function_is_not_void (Pointer' _ (more_of-CType (Function' _ _ _ _ _) end_of-CType)) e = refl
function_is_not_void (Pointer' _ (more_of-CType t end_of-CType)) e = absurd (cc)
function_is_not_void Void e = refl
function_is_not_void Char e = refl
function_is_not_void Int e = refl
function_is_not_void Unsigned e = refl
function_is_not_void Mutex e = refl
function_is_not_void (Struct k) e = refl
function_is_not_void (Array' _ t n) e = refl
function_is_not_void (Function' _ _ _ _ _) e = refl

-- a pointer to a function takes the type of another one that is equal up to outer effects
function_suits : (t : CType) (o : Operand) → is_function_pointer o.kind ≡ true → is_function_pointer t ≡ true → same_outside o.kind t ≡ true → Suits t o
function_suits t o from to alike other = of (is_number o.kind || (is_void_pointer o.kind && is_function_pointer t)) refl
  where
    no : (n v f : Bool) → n ≡ false → v ≡ false → n || (v && f) ≡ false
    no true v f p q = p
    no false true f p q = absurd (cc)
    no false false f p q = refl

    three : (a b c : Bool) → a ≡ true → b ≡ true → c ≡ true → (a && b && c) ≡ true
    three true true true p q r = refl
    three false b c p q r = absurd (cc)
    three a false c p q r = absurd (cc)
    three a b false p q r = absurd (cc)

    of : (test : Bool) → is_number o.kind || (is_void_pointer o.kind && is_function_pointer t) ≡ test
        → is_conversion (if test then cause.Null else cause.Implicit) o.kind t ≡ true
    of true e =
        let never = no (is_number o.kind) (is_void_pointer o.kind) (is_function_pointer t) (function_is_no_number o.kind from) (function_is_not_void o.kind from) in
        absurd (cc)
    of false e =
        second_fits (are_numbers o.kind t) (are_function_pointers o.kind t) (are_data_pointers o.kind t && (is_void_pointer o.kind || is_void_pointer t)) (same o.kind t)
        (three (is_function_pointer o.kind) (is_function_pointer t) (same_outside o.kind t) from to alike) other

pub record IsChosen (s : Seen) (a b : Operand) (t : CType) : Type 0 where
  pub formed : IsFormed s.structures t
  pub result : is_result t ≡ true
  pub left : Suits t a
  pub right : Suits t b

abbrev pub ChosenTold : Seen → Operand → Operand → Option CType → Type 0
ChosenTold s a b (Some t) = IsChosen s a b t
ChosenTold s a b None = Unit {0}

void_is : (t : CType) → is_void t ≡ true → t ≡ Void
void_is Void e = refl
void_is Char e = absurd (cc)
void_is Int e = absurd (cc)
void_is Unsigned e = absurd (cc)
void_is Mutex e = absurd (cc)
void_is (Struct k) e = absurd (cc)
void_is (Pointer' _ t) e = absurd (cc)
void_is (Array' _ t n) e = absurd (cc)
void_is (Function' _ _ _ _ _) e = absurd (cc)

formed_void : (s : Seen) → IsFormed s.structures Void
unfolding IsFormed
formed_void s = tt

pointer_result : (t : CType) → is_pointer t ≡ true → is_result t ≡ true
pointer_result t e = or_right (is_void t) (is_scalar t) (or_right (is_number t) (is_pointer t) e)

in_common_chosen : (s : Seen) (a b : Operand) (found : Option CType) → CommonTold s a b found → ChosenTold s a b found
in_common_chosen s a b None told = tt
in_common_chosen s a b (Some t) told = record { formed = told.formed; result = pointer_result t told.pointer; left = told.left; right = told.right }

module _ (s : Seen) (a b : Operand) (a_known : IsOperand a s) (b_known : IsOperand b s) where
  chosen_lines : (v w : Bool) (rest : Option CType) → is_void a.kind && is_void b.kind ≡ v → alike_outside a.kind b.kind ≡ w → ChosenTold s a b rest
      → ChosenTold s a b (if v then Some Void else if w then Some (shared_pointer a.kind b.kind) else rest)
  chosen_lines true w rest e f told = record {
    formed = formed_void s;
    result = refl;
    left = suits_itself Void a (void_is a.kind (and_left (is_void a.kind) (is_void b.kind) e));
    right = suits_itself Void b (void_is b.kind (and_right (is_void a.kind) (is_void b.kind) e));
  }
  chosen_lines false true rest e f told =
      let x = first_of (is_function_pointer a.kind) (is_function_pointer b.kind) (same_outside a.kind b.kind) f in
      let y = second_of (is_function_pointer a.kind) (is_function_pointer b.kind) (same_outside a.kind b.kind) f in
      let alike = third_of (is_function_pointer a.kind) (is_function_pointer b.kind) (same_outside a.kind b.kind) f in
      let t = shared_pointer a.kind b.kind in record {
        formed = shared_formed s a.kind b.kind a_known.0;
        result = pointer_result t (function_pointer_is_pointer t (shared_is_pointer a.kind b.kind x));
        left = function_suits t a x (shared_is_pointer a.kind b.kind x) (shared_outside a.kind b.kind x);
        right =
            function_suits t b y (shared_is_pointer a.kind b.kind x)
            (same_outside-trans b.kind a.kind t (same_outside-sym a.kind b.kind alike) (shared_outside a.kind b.kind x));
      }
  chosen_lines false false rest e f told = told

  chosen_told : ChosenTold s a b (chosen_type a b)
  unfolding chosen_type
  chosen_told =
      chosen_lines (is_void a.kind && is_void b.kind) (alike_outside a.kind b.kind) (pointer_in_common a b) refl refl
      (in_common_chosen s a b (pointer_in_common a b) (common_told s a b a_known b_known))

pub operand_stays : (o : Operand) (s t : Seen) → Stay s.structures t.structures → OpenAreEmpty s.structures → IsOperand o s → IsOperand o t
operand_stays o s t stay empty known = (formed_stays s.structures t.structures o.kind stay empty known.0, known.1, known.2)

module _ (pre : Tables → Type 0) (s : Seen) (lawful : Lawful s) (test a b : Operand) (test_known : type_of test.node ≡ test.kind) (a_known : IsOperand a s)
    (b_known : IsOperand b s) (test_typed : (u : Tables) → pre u → IsTypedOperand test u) (a_typed : (u : Tables) → pre u → IsTypedOperand a u)
    (b_typed : (u : Tables) → pre u → IsTypedOperand b u) (test_scalar : is_scalar test.kind ≡ true) where
  as_chosen : (place : ℕ) (found : Option CType) → ChosenTold s a b found → Triple pre IsFound (IsTypedFound false) s (chosen_as place test a b found s)
  as_chosen place (Some t) told =
      let x = brought_is t a a_known.1 in
      let y = brought_is t b b_known.1 in
      node_keeps pre s place t (expr.Conditional test.node (brought t a).node (brought t b).node) lawful told.formed
      (type_of-Conditional test.node (brought t a).node (brought t b).node ∙ x) (given_of_result t told.result) (λ u leads p.
      typed.typed-Conditional u test.node (brought t a).node (brought t b).node (test_typed u p) (ap is_scalar test_known ∙ test_scalar)
      (brought_typed s u t a leads told.formed a_known.1 told.left (a_typed u p)) (brought_typed s u t b leads told.formed b_known.1 told.right (b_typed u p))
      (x ∙ sym y) (ap is_value x ∙ value_of_result t told.result))
  as_chosen place None told = fails_keeps s 3 place

  numbers_chosen_keep : (place : ℕ) → is_number a.kind ≡ true → is_number b.kind ≡ true
      → Triple pre IsFound (IsTypedFound false) s (Good (numbers_chosen place test (common_sign a b) a b) s)
  numbers_chosen_keep place n m =
      let sign = common_sign a b in
      let x = in_sign_is sign a a_known.1 in
      let y = in_sign_is sign b b_known.1 in
      number_keeps pre s place sign (expr.Conditional test.node (in_sign sign a).node (in_sign sign b).node) lawful
      (type_of-Conditional test.node (in_sign sign a).node (in_sign sign b).node ∙ x) (λ u leads p.
      typed.typed-Conditional u test.node (in_sign sign a).node (in_sign sign b).node (test_typed u p) (ap is_scalar test_known ∙ test_scalar)
      (in_sign_typed u sign a a_known.1 n (a_typed u p)) (in_sign_typed u sign b b_known.1 m (b_typed u p))
      (x ∙ sym y) (ap is_value x ∙ number_value sign))
    where
      number_value : (sign : Sign) → is_value (number_type sign) ≡ true
      number_value Signed = refl
      number_value Without = refl

  of_keeps : (place : ℕ) (numbers : Bool) → is_number a.kind && is_number b.kind ≡ numbers
      → Triple pre IsFound (IsTypedFound false) s
      ((if numbers then (λ (t : Seen). Good (numbers_chosen place test (common_sign a b) a b) t) else chosen_as place test a b (chosen_type a b)) s)
  of_keeps place true e = numbers_chosen_keep place (and_left (is_number a.kind) (is_number b.kind) e) (and_right (is_number a.kind) (is_number b.kind) e)
  of_keeps place false e = as_chosen place (chosen_type a b) (chosen_told s a b a_known b_known)

  pub chosen_keeps : (place : ℕ) → Triple pre IsFound (IsTypedFound false) s (chosen_of place test a b s)
  chosen_keeps place = of_keeps place (is_number a.kind && is_number b.kind) refl

pub choice_keeps : (place : ℕ) (condition then_read else_read : Seen → Read Found) → Keeps Always IsFound (IsTypedFound false) condition
    → Keeps Always IsFound (IsTypedFound false) then_read → Keeps Always IsFound (IsTypedFound false) else_read
    → Keeps Always IsFound (IsTypedFound false) (choice place condition then_read else_read)
unfolding choice alternatives chosen and_then
choice_keeps place condition then_read else_read c_keeps a_keeps b_keeps s lawful =
    then_keeps s (operand condition s) _ (operand_keeps Always condition c_keeps s lawful) (λ test t t_lawful t_stay test_known.
    then_keeps t (operand then_read t) _ (anyway t _ (operand_keeps Always then_read a_keeps t t_lawful)) (λ a v v_lawful v_stay a_known.
    then_keeps v (operand else_read v) _ (anyway v _ (operand_keeps Always else_read b_keeps v v_lawful)) (λ b w w_lawful w_stay b_known.
    refused_keeps w (not (is_scalar test.kind)) 3 place _ (λ e.
    chosen_keeps _ w w_lawful test a b test_known.1 (operand_stays a v w w_stay v_lawful.open_are_empty a_known) b_known
    (λ u p. p.0.0.1) (λ u p. p.0.1) (λ u p. p.1) (not_refused (is_scalar test.kind) e) place))))
