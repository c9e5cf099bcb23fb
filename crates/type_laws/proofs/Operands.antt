-- What is found of an expression is typed, and so is its value.
use Rattle.std.proofs.Common.{◌≡◌, ℕ, Bool, true, false, refl, ◌∙◌, ap, List}
use Rattle.std.specs.Prelude.{if◌then◌else◌}
use Rattle.eff_types.specs.Types.{is_function}
use Rattle.eff_types.specs.declared.types.CType.{CType, Array', end_of-CType, more_of-CType}
use Rattle.core_unit.specs.Shapes.{is_array, is_scalar, element_of, pointer_to}
use Rattle.core_unit.specs.Typed.{Tables, IsTyped, IsTypedPlace, IsCallee, is_arrow}
use Rattle.core_unit.specs.Typing.{type_of, place_type}
use Rattle.core_unit.proofs.Equations.{type_of-ArrayPointer, type_of-Load, type_of-FunctionPointer}
use Rattle.core_unit.specs.declared.expressions.Expr.{Expr}
use Rattle.core_unit.specs.declared.expressions.Expr.TheVariants as expr
use Rattle.core_unit.specs.declared.expressions.Place.{Place}
use Rattle.core_unit.specs.declared.tables.StructInfo.{StructInfo}
use Rattle.type_rules.specs.Operands.{operand_of, value_in, as_value, operand, is_whole}
use Rattle.type_rules.specs.Reading.{Read, and_then}
use Rattle.type_rules.specs.Seen.{Seen}
use Rattle.type_rules.specs.Types.{is_result}
use Rattle.type_rules.specs.declared.found.Found.{Found}
use Rattle.type_rules.specs.declared.found.Operand.{Operand}
use Rattle.type_rules.specs.declared.found.Form.{Form}
use Rattle.type_rules.specs.declared.found.Form.TheVariants.{Lvalue, Value}
use Rattle.type_laws.proofs.Formed.{IsFormed}
use Rattle.type_laws.proofs.Triples.{Keeps, then_keeps, gives_keeps, refused_keeps}
use Rattle.type_laws.proofs.Typed as typed
use Rattle.type_laws.proofs.Types.{is_object, is_given, scalar_of_object, result_of_scalar, or_not}

-- what a call calls may be a library function, and nothing else is one
abbrev pub IsTypedAs : Bool → Tables → Expr → Type 0
IsTypedAs true u e = IsCallee e (IsTyped u e)
IsTypedAs false u e = IsTyped u e

-- what is found: its type is that of its node
abbrev pub FormIsKnown : CType → Form → Type 0
FormIsKnown kind (Lvalue p) = (place_type p ≡ kind) × (is_object kind ≡ true) × (is_arrow p ≡ false)
FormIsKnown kind (Value e) = (type_of e ≡ kind) × (is_given kind ≡ true)

abbrev pub FormIsTyped : Bool → Tables → Form → Type 0
FormIsTyped called u (Lvalue p) = IsTypedPlace u p
FormIsTyped called u (Value e) = IsTypedAs called u e

abbrev pub IsFound : Found → Seen → Type 0
IsFound f s = IsFormed s.structures f.kind × FormIsKnown f.kind f.form

abbrev pub IsTypedFound : Bool → Found → Tables → Type 0
IsTypedFound called f u = FormIsTyped called u f.form

abbrev pub IsOperand : Operand → Seen → Type 0
IsOperand o s = IsFormed s.structures o.kind × (type_of o.node ≡ o.kind) × (is_result o.kind ≡ true)

abbrev pub IsTypedOperand : Operand → Tables → Type 0
IsTypedOperand o u = IsTyped u o.node

pub formed_element : (structures : List StructInfo) (t : CType) → IsFormed structures t → IsFormed structures (element_of t)
unfolding IsFormed
formed_element structures (Array' _ (more_of-CType t end_of-CType) n) f = f.0
formed_element structures t f = tt

pub formed_pointer : (structures : List StructInfo) (t : CType) → IsFormed structures t → IsFormed structures (pointer_to t)
unfolding IsFormed
formed_pointer structures t f = f

-- the value of an object
object_known : (s : Seen) (place : ℕ) (kind : CType) (p : Place) (array : Bool) → is_array kind ≡ array → IsFormed s.structures kind
    → place_type p ≡ kind → is_object kind ≡ true → is_whole kind ≡ false
    → IsOperand (if array then operand_of place (pointer_to (element_of kind)) (expr.ArrayPointer p) else operand_of place kind (expr.Load p)) s
object_known s place kind p true array formed is object whole =
    (formed_pointer _ _ (formed_element _ _ formed), type_of-ArrayPointer p ∙ ap (λ t. pointer_to (element_of t)) is, refl)
object_known s place kind p false array formed is object whole =
    (formed, type_of-Load p ∙ is, result_of_scalar kind (scalar_of_object kind object array whole))

object_typed : (u : Tables) (place : ℕ) (kind : CType) (p : Place) (array : Bool) → is_array kind ≡ array → place_type p ≡ kind → is_object kind ≡ true
    → is_whole kind ≡ false → IsTypedPlace u p
    → IsTypedOperand (if array then operand_of place (pointer_to (element_of kind)) (expr.ArrayPointer p) else operand_of place kind (expr.Load p)) u
object_typed u place kind p true array is object whole h = typed.typed-ArrayPointer u p h (ap is_array is ∙ array)
object_typed u place kind p false array is object whole h = typed.typed-Load u p h (ap is_scalar is ∙ scalar_of_object kind object array whole)

value_known : (s : Seen) (place : ℕ) (kind : CType) (e : Expr) (function : Bool) → is_function kind ≡ function → IsFormed s.structures kind
    → type_of e ≡ kind → is_given kind ≡ true
    → IsOperand (if function then operand_of place (pointer_to kind) (expr.FunctionPointer e) else operand_of place kind e) s
value_known s place kind e true function formed is given = (formed_pointer _ _ formed, type_of-FunctionPointer e ∙ ap pointer_to is, refl)
value_known s place kind e false function formed is given = (formed, is, or_not (is_result kind) (is_function kind) given function)

value_typed : (u : Tables) (place : ℕ) (kind : CType) (e : Expr) (function : Bool) → is_function kind ≡ function → type_of e ≡ kind → IsTyped u e
    → IsTypedOperand (if function then operand_of place (pointer_to kind) (expr.FunctionPointer e) else operand_of place kind e) u
value_typed u place kind e true function is h = typed.typed-FunctionPointer u e h (ap is_function is ∙ function)
value_typed u place kind e false function is h = h

in_known : (s : Seen) (place : ℕ) (kind : CType) (form : Form) → IsFormed s.structures kind → FormIsKnown kind form → is_whole kind ≡ false
    → IsOperand (value_in place kind form) s
in_known s place kind (Lvalue p) formed known whole = object_known s place kind p (is_array kind) refl formed known.0 known.1 whole
in_known s place kind (Value e) formed known whole = value_known s place kind e (is_function kind) refl formed known.0 known.1

in_typed : (u : Tables) (place : ℕ) (kind : CType) (form : Form) → FormIsKnown kind form → is_whole kind ≡ false → FormIsTyped false u form
    → IsTypedOperand (value_in place kind form) u
in_typed u place kind (Lvalue p) known whole h = object_typed u place kind p (is_array kind) refl known.0 known.1 whole h
in_typed u place kind (Value e) known whole h = value_typed u place kind e (is_function kind) refl known.0 h

pub value_is_known : (s : Seen) (f : Found) → IsFound f s → is_whole f.kind ≡ false → IsOperand (as_value f) s
unfolding as_value
value_is_known s f known whole = in_known s f.place f.kind f.form known.0 known.1 whole

pub value_is_typed : (s : Seen) (u : Tables) (f : Found) → IsFound f s → is_whole f.kind ≡ false → IsTypedFound false f u → IsTypedOperand (as_value f) u
unfolding as_value
value_is_typed s u f known whole h = in_typed u f.place f.kind f.form known.1 whole h

-- an expression that is used for its value
pub operand_keeps : (pre : Tables → Type 0) (expression : Seen → Read Found) → Keeps pre IsFound (IsTypedFound false) expression
    → Keeps pre IsOperand IsTypedOperand (operand expression)
unfolding operand and_then
operand_keeps pre expression keeps s lawful =
    then_keeps s (expression s) _ (keeps s lawful) (λ f t lawful' stay known.
    refused_keeps t (is_whole f.kind) 3 f.place _ (λ whole.
    gives_keeps t (as_value f) lawful' (value_is_known t f known whole) (λ u leads knows p. value_is_typed t u f known whole p.1)))
