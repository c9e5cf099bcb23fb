-- `*`, `[]`, `.`, `->`, `&` and `sizeof` keep what was seen, and make typed nodes.
use Rattle.std.proofs.Common.{◌≡◌, ℕ, Bool, true, false, refl, sym, ◌∙◌, ap, subst}
use Rattle.std.specs.Prelude.{not, ◌&&◌, ◌||◌, if◌then◌else◌}
use denote.Hole.Carrier.{hidden}
use Rattle.eff_types.specs.Types.{is_number, is_void, is_function, points_to, is_data_pointer, is_function_pointer}
use Rattle.eff_types.specs.declared.types.CType.{CType, Void, Char, Int, Unsigned, Mutex, Struct, Pointer', Array', Function', end_of-CType, more_of-CType}
use Rattle.core_unit.specs.Shapes.{is_promoted, is_object_pointer, sign_of, target_of, pointer_to}
use Rattle.core_unit.specs.Typed.{Tables, IsTypedPlace, PointsOver, is_arrow}
use Rattle.core_unit.specs.Typing.{place_type}
use Rattle.core_unit.proofs.Equations.{type_of-TargetFunction, type_of-AddressOf, type_of-FunctionPointer, place_type-Indirection, place_type-Element}
use Rattle.core_unit.specs.declared.expressions.Expr.{Expr}
use Rattle.core_unit.specs.declared.expressions.Expr.TheBlock.{hidden-the_row-Expr-0, shape-the_row-Expr-0, hidden-the_row-Place-1, shape-the_row-Place-1, hidden-the_row-Expr-2, shape-the_row-Expr-2}
use Rattle.core_unit.specs.declared.expressions.Expr.TheVariants as expr
use Rattle.core_unit.specs.declared.expressions.Place.{Place}
use Rattle.core_unit.specs.declared.expressions.Place.TheVariants as object
use Rattle.core_unit.specs.declared.operators.PointerSide.{PointerSide}
use Rattle.core_unit.specs.declared.operators.PointerSide.TheVariants.{Left, Right}
use Rattle.type_rules.specs.Access.{indirection, element_as, element, address_of, address}
use Rattle.type_rules.specs.Operands.{operand, found_value, found_object, promoted}
use Rattle.type_rules.specs.Operators.{pair_of, stride}
use Rattle.type_rules.specs.declared.found.Pair.{Pair}
use Rattle.type_rules.specs.declared.found.Pair.TheVariants.{Numbers, PointerFirst, PointerSecond, Pointers, Others}
use Rattle.type_rules.specs.Reading.{Read, Good, and_then}
use Rattle.type_rules.specs.Seen.{Seen}
use Rattle.type_rules.specs.Types.{is_result}
use Rattle.type_rules.specs.declared.found.Form.{Form}
use Rattle.type_rules.specs.declared.found.Form.TheVariants.{Lvalue, Value}
use Rattle.type_rules.specs.declared.found.Found.{Found}
use Rattle.type_rules.specs.declared.found.Operand.{Operand}
use Rattle.type_laws.proofs.Formed.{IsFormed, formed_stays}
use Rattle.type_laws.proofs.Numbers.{promoted_kind, promoted_is, promoted_typed}
use Rattle.type_laws.proofs.Operands.{IsFound, IsTypedFound, FormIsKnown, FormIsTyped, IsOperand, IsTypedOperand, operand_keeps, formed_pointer}
use Rattle.type_laws.proofs.Operations.{node_keeps}
use Rattle.type_laws.proofs.Pairs.{PairTold, pair_told}
use Rattle.type_laws.proofs.Strides.{stride_keeps, formed_target}
use Rattle.type_laws.proofs.Triples.{Triple, Keeps, Always, Lawful, Leads, then_keeps, gives_keeps, refused_keeps, fails_keeps, anyway}
use Rattle.type_laws.proofs.Typed as typed
use Rattle.type_laws.proofs.Types.{is_object, and_left, and_right, not_refused, promoted_sign, or_right}
use Rattle.type_laws.proofs.Unaries.{operand_stays}

-- an object that is found
pub object_keeps : (pre : Tables → Type 0) (s : Seen) (place : ℕ) (kind : CType) (p : Place) → Lawful s → IsFormed s.structures kind → place_type p ≡ kind
    → is_object kind ≡ true → is_arrow p ≡ false → ((u : Tables) → Leads s u → pre u → IsTypedPlace u p)
    → Triple pre IsFound (IsTypedFound false) s (Good (found_object place kind p) s)
object_keeps pre s place kind p lawful formed is solid arrow is_typed =
    gives_keeps s (found_object place kind p) lawful (formed, (is, solid, arrow)) (λ u leads knows q. is_typed u leads q)

object_of_target : (t : CType) → is_object_pointer t ≡ true → is_object (target_of t) ≡ true
unfolding points_to
object_of_target (Pointer' _ (more_of-CType t end_of-CType)) e = swapped (is_function t) (is_void t) e
  where
    swapped : (a b : Bool) → not a && not b ≡ true → not b && not a ≡ true
    swapped true b e = absurd (cc)
    swapped false true e = e
    swapped false false e = refl
object_of_target Void e = absurd (cc)
object_of_target Char e = absurd (cc)
object_of_target Int e = absurd (cc)
object_of_target Unsigned e = absurd (cc)
object_of_target Mutex e = absurd (cc)
object_of_target (Struct k) e = absurd (cc)
object_of_target (Array' _ t n) e = absurd (cc)
object_of_target (Function' _ _ _ _ _) e = absurd (cc)

function_of_target : (t : CType) → is_function_pointer t ≡ true → is_function (target_of t) ≡ true
unfolding points_to
function_of_target (Pointer' _ (more_of-CType t end_of-CType)) e = e
function_of_target Void e = absurd (cc)
function_of_target Char e = absurd (cc)
function_of_target Int e = absurd (cc)
function_of_target Unsigned e = absurd (cc)
function_of_target Mutex e = absurd (cc)
function_of_target (Struct k) e = absurd (cc)
function_of_target (Array' _ t n) e = absurd (cc)
function_of_target (Function' _ _ _ _ _) e = absurd (cc)

not_arrow : (e : Expr) (t : CType) → is_arrow (object.Indirection e t) ≡ false
unfolding hidden hidden-the_row-Expr-0 shape-the_row-Expr-0 hidden-the_row-Place-1 shape-the_row-Place-1 hidden-the_row-Expr-2 shape-the_row-Expr-2
not_arrow e t = refl

pub element_not_arrow : (a b : Expr) (side : PointerSide) (words : ℕ) (t : CType) → is_arrow (object.Element a b side words t) ≡ false
unfolding hidden hidden-the_row-Expr-0 shape-the_row-Expr-0 hidden-the_row-Place-1 shape-the_row-Place-1 hidden-the_row-Expr-2 shape-the_row-Expr-2
element_not_arrow a b side words t = refl

pub member_not_arrow : (p : Place) (offset : ℕ) (t : CType) → is_arrow (object.Member p offset t) ≡ false
unfolding hidden hidden-the_row-Expr-0 shape-the_row-Expr-0 hidden-the_row-Place-1 shape-the_row-Place-1 hidden-the_row-Expr-2 shape-the_row-Expr-2
member_not_arrow p offset t = refl

module _ (pre : Tables → Type 0) (s : Seen) (lawful : Lawful s) (o : Operand) (o_known : IsOperand o s) (o_typed : (u : Tables) → pre u → IsTypedOperand o u) where
  pointed_keeps : (place : ℕ) (function : Bool) → is_function_pointer o.kind ≡ function → is_object_pointer o.kind || is_function_pointer o.kind ≡ true
      → Triple pre IsFound (IsTypedFound false) s
      (Good (if function then found_value place (target_of o.kind) (expr.TargetFunction o.node)
      else found_object place (target_of o.kind) (object.Indirection o.node (target_of o.kind))) s)
  pointed_keeps place true e pointer =
      node_keeps pre s place (target_of o.kind) (expr.TargetFunction o.node) lawful (formed_target s.structures o.kind o_known.0)
      (type_of-TargetFunction o.node ∙ ap target_of o_known.1) (or_right (is_result (target_of o.kind)) (is_function (target_of o.kind)) (function_of_target o.kind e)) (λ u leads p.
      typed.typed-TargetFunction u o.node (o_typed u p) (ap is_function_pointer o_known.1 ∙ e))
  pointed_keeps place false e pointer =
      let to_object = the_other (is_object_pointer o.kind) (is_function_pointer o.kind) pointer e in
      object_keeps pre s place (target_of o.kind) (object.Indirection o.node (target_of o.kind)) lawful (formed_target s.structures o.kind o_known.0)
      (place_type-Indirection o.node (target_of o.kind)) (object_of_target o.kind to_object) (not_arrow o.node (target_of o.kind)) (λ u leads p.
      typed.typed-Indirection u o.node (target_of o.kind) (o_typed u p) (ap is_object_pointer o_known.1 ∙ to_object) (ap target_of (sym o_known.1)))
    where
      the_other : (a b : Bool) → a || b ≡ true → b ≡ false → a ≡ true
      the_other true b p q = refl
      the_other false b p q = sym q ∙ p

pub indirection_keeps : (place : ℕ) (expression : Seen → Read Found) → Keeps Always IsFound (IsTypedFound false) expression
    → Keeps Always IsFound (IsTypedFound false) (indirection place expression)
unfolding indirection and_then
indirection_keeps place expression keeps s lawful =
    then_keeps s (operand expression s) _ (operand_keeps Always expression keeps s lawful) (λ o t t_lawful t_stay known.
    refused_keeps t (not (is_object_pointer o.kind || is_function_pointer o.kind)) 3 place _ (λ e.
    pointed_keeps _ t t_lawful o known (λ u p. p.1) place (is_function_pointer o.kind) refl (not_refused (is_object_pointer o.kind || is_function_pointer o.kind) e)))

-- an element
module _ (pre : Tables → Type 0) (s : Seen) (lawful : Lawful s) (a b : Operand) (a_known : IsOperand a s) (b_known : IsOperand b s)
    (a_typed : (u : Tables) → pre u → IsTypedOperand a u) (b_typed : (u : Tables) → pre u → IsTypedOperand b u) where
  element_of_keeps : (place : ℕ) (pair : Pair) → PairTold a.kind b.kind pair → Triple pre IsFound (IsTypedFound false) s (element_as place a b pair s)
  unfolding and_then
  element_of_keeps place PointerFirst told =
      let data_pointer = and_left (is_data_pointer a.kind) (is_number b.kind) told in
      let y = and_right (is_data_pointer a.kind) (is_number b.kind) told in
      then_keeps s (stride place a.kind s) _ (stride_keeps pre s place a.kind lawful a_known.0 data_pointer) (λ words t t_lawful t_stay solid.
      object_keeps _ t place (target_of a.kind) (object.Element a.node (promoted b).node Left words (target_of a.kind)) t_lawful
      (formed_target t.structures a.kind (formed_stays s.structures t.structures a.kind t_stay lawful.open_are_empty a_known.0))
      (place_type-Element a.node (promoted b).node Left words (target_of a.kind)) (object_of_target a.kind solid)
      (element_not_arrow a.node (promoted b).node Left words (target_of a.kind)) (λ u leads p.
      typed.typed-Element u a.node (promoted b).node Left words (target_of a.kind) (a_typed u p.0) (promoted_typed u b b_known.1 (b_typed u p.0))
      (subst (λ t. PointsOver u.structures t words) (sym a_known.1) p.1, ap is_promoted (promoted_kind b b_known.1 ∙ promoted_is b y) ∙ promoted_sign (sign_of b.kind))
      (ap target_of (sym a_known.1))))
  element_of_keeps place PointerSecond told =
      let data_pointer = and_right (is_number a.kind) (is_data_pointer b.kind) told in
      let x = and_left (is_number a.kind) (is_data_pointer b.kind) told in
      then_keeps s (stride place b.kind s) _ (stride_keeps pre s place b.kind lawful b_known.0 data_pointer) (λ words t t_lawful t_stay solid.
      object_keeps _ t place (target_of b.kind) (object.Element (promoted a).node b.node Right words (target_of b.kind)) t_lawful
      (formed_target t.structures b.kind (formed_stays s.structures t.structures b.kind t_stay lawful.open_are_empty b_known.0))
      (place_type-Element (promoted a).node b.node Right words (target_of b.kind)) (object_of_target b.kind solid)
      (element_not_arrow (promoted a).node b.node Right words (target_of b.kind)) (λ u leads p.
      typed.typed-Element u (promoted a).node b.node Right words (target_of b.kind) (promoted_typed u a a_known.1 (a_typed u p.0)) (b_typed u p.0)
      (subst (λ t. PointsOver u.structures t words) (sym b_known.1) p.1, ap is_promoted (promoted_kind a a_known.1 ∙ promoted_is a x) ∙ promoted_sign (sign_of a.kind))
      (ap target_of (sym b_known.1))))
  element_of_keeps place Numbers told = fails_keeps s 3 place
  element_of_keeps place Pointers told = fails_keeps s 3 place
  element_of_keeps place Others told = fails_keeps s 3 place

pub element_keeps : (place : ℕ) (array index : Seen → Read Found) → Keeps Always IsFound (IsTypedFound false) array
    → Keeps Always IsFound (IsTypedFound false) index → Keeps Always IsFound (IsTypedFound false) (element place array index)
unfolding element and_then
element_keeps place array index array_keeps index_keeps s lawful =
    then_keeps s (operand array s) _ (operand_keeps Always array array_keeps s lawful) (λ a t t_lawful t_stay a_known.
    then_keeps t (operand index t) _ (anyway t _ (operand_keeps Always index index_keeps t t_lawful)) (λ b v v_lawful v_stay b_known.
    element_of_keeps _ v v_lawful a b (operand_stays a t v v_stay t_lawful.open_are_empty a_known) b_known (λ u p. p.0.1) (λ u p. p.1) place
    (pair_of a.kind b.kind) (pair_told a.kind b.kind)))

-- an address
address_of_keeps : (pre : Tables → Type 0) (s : Seen) (place at : ℕ) (kind : CType) (form : Form) → Lawful s → IsFormed s.structures kind
    → FormIsKnown kind form → ((u : Tables) → pre u → FormIsTyped false u form) → Triple pre IsFound (IsTypedFound false) s (address_of place at kind form s)
unfolding and_then
address_of_keeps pre s place at kind (Lvalue p) lawful formed known is_typed =
    node_keeps pre s place (pointer_to kind) (expr.AddressOf p) lawful (formed_pointer s.structures kind formed) (type_of-AddressOf p ∙ ap pointer_to known.0) refl (λ u leads q.
    typed.typed-AddressOf u p (is_typed u q) known.2)
address_of_keeps pre s place at kind (Value e) lawful formed known is_typed =
    refused_keeps s (not (is_function kind)) 6 at _ (λ r.
    let function = not_refused (is_function kind) r in
    node_keeps pre s place (pointer_to kind) (expr.FunctionPointer e) lawful (formed_pointer s.structures kind formed) (type_of-FunctionPointer e ∙ ap pointer_to known.0) refl (λ u leads q.
    typed.typed-FunctionPointer u e (is_typed u q) (ap is_function known.0 ∙ function)))

pub address_keeps : (place : ℕ) (expression : Seen → Read Found) → Keeps Always IsFound (IsTypedFound false) expression
    → Keeps Always IsFound (IsTypedFound false) (address place expression)
unfolding address and_then
address_keeps place expression keeps s lawful =
    then_keeps s (expression s) _ (keeps s lawful) (λ f t t_lawful t_stay known.
    address_of_keeps _ t place f.place f.kind f.form t_lawful known.0 known.1 (λ u p. p.1))
