-- A node is typed where its parts are and it fits them: one lemma a form, for proofs that make trees.
use Rattle.std.proofs.Common.{◌≡◌, ℕ, ◌<◌, ◌^◌, true, false, List, [], ◌∷◌, length}
use Rattle.std.specs.Prelude.{Option, Some, None}
use denote.Hole.Carrier.{hidden}
use Rattle.eff_types.specs.Types.{is_function_pointer, is_function}
use Rattle.eff_types.specs.declared.types.CType.{CType, Struct}
use Rattle.eff_types.specs.declared.types.FnType.{FnType}
use Rattle.core_unit.specs.Shapes.{is_array, is_scalar, is_object_pointer, target_of, pointer_to}
use Rattle.core_unit.specs.Structures.{IsWithin}
use Rattle.core_unit.specs.Typed.{Tables, IsObject, IsKept, IsNamed, IsMoved, other_side, IsMember, IsTyped, IsTypedPlace, AreTyped, IsCallee, IsCalled, IsUpdate, IsStep, IsUnary, IsBinary, is_asked, is_value, is_arrow, is_conversion}
use Rattle.core_unit.specs.Typing.{type_of, place_type, called_as, on_side}
use Rattle.core_unit.specs.declared.expressions.Expr.{Expr}
use Rattle.core_unit.specs.declared.expressions.Expr.TheBlock.{hidden-the_row-Expr-0, shape-the_row-Expr-0, hidden-the_row-Place-1, shape-the_row-Place-1, hidden-the_row-Expr-2, shape-the_row-Expr-2}
use Rattle.core_unit.specs.declared.expressions.Expr.TheVariants as expr
use Rattle.core_unit.specs.declared.expressions.Place.{Place}
use Rattle.core_unit.specs.declared.expressions.Place.TheVariants as place
use Rattle.core_unit.specs.declared.expressions.Storage.{Storage}
use Rattle.core_unit.specs.declared.operators.BinaryOperator.{BinaryOperator}
use Rattle.core_unit.specs.declared.operators.Cause.{Cause}
use Rattle.core_unit.specs.declared.operators.LogicalOperator.{LogicalOperator}
use Rattle.core_unit.specs.declared.operators.PointerSide.{PointerSide}
use Rattle.core_unit.specs.declared.operators.Sign.{Sign}
use Rattle.core_unit.specs.declared.operators.StepValue.{StepValue}
use Rattle.core_unit.specs.declared.operators.UnaryOperator.{UnaryOperator}
use Rattle.core_unit.specs.declared.operators.Update.{Update}

pub typed-Variable : (u : Tables) (at : ℕ) (storage : Storage) (t : CType) → IsKept u storage t → IsTypedPlace u (place.Variable at storage t)
unfolding IsTyped hidden hidden-the_row-Expr-0 shape-the_row-Expr-0 hidden-the_row-Place-1 shape-the_row-Place-1 hidden-the_row-Expr-2 shape-the_row-Expr-2
typed-Variable u at storage t k = k

pub typed-Text : (u : Tables) (at words : ℕ) → IsObject u.statics at words → IsTypedPlace u (place.Text at words)
unfolding IsTyped hidden hidden-the_row-Expr-0 shape-the_row-Expr-0 hidden-the_row-Place-1 shape-the_row-Place-1 hidden-the_row-Expr-2 shape-the_row-Expr-2
typed-Text u at words k = k

pub typed-Indirection : (u : Tables) (e : Expr) (t : CType) → IsTyped u e → is_object_pointer (type_of e) ≡ true → t ≡ target_of (type_of e) → IsTypedPlace u (place.Indirection e t)
unfolding IsTyped hidden hidden-the_row-Expr-0 shape-the_row-Expr-0 hidden-the_row-Place-1 shape-the_row-Place-1 hidden-the_row-Expr-2 shape-the_row-Expr-2
typed-Indirection u e t a b c = (a, b, c)

pub typed-Arrow : (u : Tables) (e : Expr) (k : ℕ) → IsTyped u e → type_of e ≡ pointer_to (Struct k) → IsTypedPlace u (place.Arrow e k)
unfolding IsTyped hidden hidden-the_row-Expr-0 shape-the_row-Expr-0 hidden-the_row-Place-1 shape-the_row-Place-1 hidden-the_row-Expr-2 shape-the_row-Expr-2
typed-Arrow u e k a b = (a, b)

pub typed-Element : (u : Tables) (a b : Expr) (side : PointerSide) (words : ℕ) (t : CType) → IsTyped u a → IsTyped u b → IsMoved u.structures (on_side side (type_of a) (type_of b)) (other_side side (type_of a) (type_of b)) words → t ≡ target_of (on_side side (type_of a) (type_of b)) → IsTypedPlace u (place.Element a b side words t)
unfolding IsTyped hidden hidden-the_row-Expr-0 shape-the_row-Expr-0 hidden-the_row-Place-1 shape-the_row-Place-1 hidden-the_row-Expr-2 shape-the_row-Expr-2
typed-Element u a b side words t p q r s = (p, q, r, s)

pub typed-Member : (u : Tables) (p : Place) (offset : ℕ) (t : CType) → IsTypedPlace u p → IsMember u.structures (place_type p) offset t → IsTypedPlace u (place.Member p offset t)
unfolding IsTyped hidden hidden-the_row-Expr-0 shape-the_row-Expr-0 hidden-the_row-Place-1 shape-the_row-Place-1 hidden-the_row-Expr-2 shape-the_row-Expr-2
typed-Member u p offset t a b = (a, b)

pub typed-Number : (u : Tables) (sign : Sign) (bits : ℕ) → bits < 2 ^ 32 → IsTyped u (expr.Number sign bits)
unfolding IsTyped hidden hidden-the_row-Expr-0 shape-the_row-Expr-0 hidden-the_row-Place-1 shape-the_row-Place-1 hidden-the_row-Expr-2 shape-the_row-Expr-2
typed-Number u sign bits a = a

pub typed-Sizeof : (u : Tables) (words : ℕ) → words < 2 ^ 32 → IsTyped u (expr.Sizeof words)
unfolding IsTyped hidden hidden-the_row-Expr-0 shape-the_row-Expr-0 hidden-the_row-Place-1 shape-the_row-Place-1 hidden-the_row-Expr-2 shape-the_row-Expr-2
typed-Sizeof u words a = a

pub typed-Function : (u : Tables) (f : ℕ) (t : CType) → IsNamed u.functions f t → IsTyped u (expr.Function f t)
unfolding IsTyped hidden hidden-the_row-Expr-0 shape-the_row-Expr-0 hidden-the_row-Place-1 shape-the_row-Place-1 hidden-the_row-Expr-2 shape-the_row-Expr-2
typed-Function u f t a = a

pub typed-TargetFunction : (u : Tables) (e : Expr) → IsTyped u e → is_function_pointer (type_of e) ≡ true → IsTyped u (expr.TargetFunction e)
unfolding IsTyped hidden hidden-the_row-Expr-0 shape-the_row-Expr-0 hidden-the_row-Place-1 shape-the_row-Place-1 hidden-the_row-Expr-2 shape-the_row-Expr-2
typed-TargetFunction u e a b = (a, b)

pub typed-FunctionPointer : (u : Tables) (e : Expr) → IsTyped u e → is_function (type_of e) ≡ true → IsTyped u (expr.FunctionPointer e)
unfolding IsTyped hidden hidden-the_row-Expr-0 shape-the_row-Expr-0 hidden-the_row-Place-1 shape-the_row-Place-1 hidden-the_row-Expr-2 shape-the_row-Expr-2
typed-FunctionPointer u e a b = (a, b)

pub typed-ArrayPointer : (u : Tables) (p : Place) → IsTypedPlace u p → is_array (place_type p) ≡ true → IsTyped u (expr.ArrayPointer p)
unfolding IsTyped hidden hidden-the_row-Expr-0 shape-the_row-Expr-0 hidden-the_row-Place-1 shape-the_row-Place-1 hidden-the_row-Expr-2 shape-the_row-Expr-2
typed-ArrayPointer u p a b = (a, b)

pub typed-AddressOf : (u : Tables) (p : Place) → IsTypedPlace u p → is_arrow p ≡ false → IsTyped u (expr.AddressOf p)
unfolding IsTyped hidden hidden-the_row-Expr-0 shape-the_row-Expr-0 hidden-the_row-Place-1 shape-the_row-Place-1 hidden-the_row-Expr-2 shape-the_row-Expr-2
typed-AddressOf u p a b = (a, b)

pub typed-Load : (u : Tables) (p : Place) → IsTypedPlace u p → is_scalar (place_type p) ≡ true → IsTyped u (expr.Load p)
unfolding IsTyped hidden hidden-the_row-Expr-0 shape-the_row-Expr-0 hidden-the_row-Place-1 shape-the_row-Place-1 hidden-the_row-Expr-2 shape-the_row-Expr-2
typed-Load u p a b = (a, b)

pub typed-Assign : (u : Tables) (p : Place) (e : Expr) → IsTypedPlace u p → is_scalar (place_type p) ≡ true → IsTyped u e → type_of e ≡ place_type p → IsTyped u (expr.Assign p e)
unfolding IsTyped hidden hidden-the_row-Expr-0 shape-the_row-Expr-0 hidden-the_row-Place-1 shape-the_row-Place-1 hidden-the_row-Expr-2 shape-the_row-Expr-2
typed-Assign u p e a b c d = (a, b, c, d)

pub typed-Compound : (u : Tables) (p : Place) (how : Update) (e : Expr) → IsTypedPlace u p → IsTyped u e → IsUpdate u.structures how (place_type p) (type_of e) → IsTyped u (expr.Compound p how e)
unfolding IsTyped hidden hidden-the_row-Expr-0 shape-the_row-Expr-0 hidden-the_row-Place-1 shape-the_row-Place-1 hidden-the_row-Expr-2 shape-the_row-Expr-2
typed-Compound u p how e a b c = (a, b, c)

pub typed-Step : (u : Tables) (p : Place) (how : Update) (value : StepValue) → IsTypedPlace u p → IsStep u.structures how (place_type p) → IsTyped u (expr.Step p how value)
unfolding IsTyped hidden hidden-the_row-Expr-0 shape-the_row-Expr-0 hidden-the_row-Place-1 shape-the_row-Place-1 hidden-the_row-Expr-2 shape-the_row-Expr-2
typed-Step u p how value a b = (a, b)

pub typed-Unary : (u : Tables) (operator : UnaryOperator) (e : Expr) → IsTyped u e → IsUnary operator (type_of e) → IsTyped u (expr.Unary operator e)
unfolding IsTyped hidden hidden-the_row-Expr-0 shape-the_row-Expr-0 hidden-the_row-Place-1 shape-the_row-Place-1 hidden-the_row-Expr-2 shape-the_row-Expr-2
typed-Unary u operator e a b = (a, b)

pub typed-Binary : (u : Tables) (operator : BinaryOperator) (a b : Expr) → IsTyped u a → IsTyped u b → IsBinary u.structures operator (type_of a) (type_of b) → IsTyped u (expr.Binary operator a b)
unfolding IsTyped hidden hidden-the_row-Expr-0 shape-the_row-Expr-0 hidden-the_row-Place-1 shape-the_row-Place-1 hidden-the_row-Expr-2 shape-the_row-Expr-2
typed-Binary u operator a b p q r = (p, q, r)

pub typed-Logical : (u : Tables) (operator : LogicalOperator) (a b : Expr) → IsTyped u a → IsTyped u b → is_asked (type_of a) ≡ true → is_asked (type_of b) ≡ true → IsTyped u (expr.Logical operator a b)
unfolding IsTyped hidden hidden-the_row-Expr-0 shape-the_row-Expr-0 hidden-the_row-Place-1 shape-the_row-Place-1 hidden-the_row-Expr-2 shape-the_row-Expr-2
typed-Logical u operator a b p q r s = (p, q, r, s)

pub typed-Conditional : (u : Tables) (c a b : Expr) → IsTyped u c → is_scalar (type_of c) ≡ true → IsTyped u a → IsTyped u b → type_of a ≡ type_of b → is_value (type_of a) ≡ true → IsTyped u (expr.Conditional c a b)
unfolding IsTyped hidden hidden-the_row-Expr-0 shape-the_row-Expr-0 hidden-the_row-Place-1 shape-the_row-Place-1 hidden-the_row-Expr-2 shape-the_row-Expr-2
typed-Conditional u c a b p q r s v w = (p, q, r, s, v, w)

pub typed-Comma : (u : Tables) (a b : Expr) → IsTyped u a → IsTyped u b → is_value (type_of a) ≡ true → is_value (type_of b) ≡ true → IsTyped u (expr.Comma a b)
unfolding IsTyped hidden hidden-the_row-Expr-0 shape-the_row-Expr-0 hidden-the_row-Place-1 shape-the_row-Place-1 hidden-the_row-Expr-2 shape-the_row-Expr-2
typed-Comma u a b p q r s = (p, q, r, s)

pub typed-Convert : (u : Tables) (why : Cause) (t : CType) (e : Expr) → IsTyped u e → IsWithin (length u.structures) t → is_conversion why (type_of e) t ≡ true → IsTyped u (expr.Convert why t e)
unfolding IsTyped hidden hidden-the_row-Expr-0 shape-the_row-Expr-0 hidden-the_row-Place-1 shape-the_row-Place-1 hidden-the_row-Expr-2 shape-the_row-Expr-2
typed-Convert u why t e a b c = (a, b, c)

pub typed-Discard : (u : Tables) (e : Expr) → IsTyped u e → is_value (type_of e) ≡ true → IsTyped u (expr.Discard e)
unfolding IsTyped hidden hidden-the_row-Expr-0 shape-the_row-Expr-0 hidden-the_row-Place-1 shape-the_row-Place-1 hidden-the_row-Expr-2 shape-the_row-Expr-2
typed-Discard u e a b = (a, b)

-- what is typed is no library function, so it is a callee as it is
pub callee_of_typed : (u : Tables) (e : Expr) → IsTyped u e → IsCallee e (IsTyped u e)
unfolding IsTyped hidden hidden-the_row-Expr-0 shape-the_row-Expr-0 hidden-the_row-Place-1 shape-the_row-Place-1 hidden-the_row-Expr-2 shape-the_row-Expr-2
callee_of_typed u (expr.LibraryFunction row) h = absurd h
callee_of_typed u e h = h

-- the arguments of a call, as a list
abbrev pub ListIsTyped : Tables → List Expr → List CType → Type 0
ListIsTyped u [] [] = Unit {0}
ListIsTyped u (e ∷ es) (t ∷ ts) = IsTyped u e × (type_of e ≡ t) × ListIsTyped u es ts
ListIsTyped u [] (t ∷ ts) = ⊥
ListIsTyped u (e ∷ es) [] = ⊥

row_typed : (u : Tables) (es : List Expr) (ts : List CType) → ListIsTyped u es ts → AreTyped u (hidden-the_row-Expr-2 es) ts
unfolding IsTyped hidden hidden-the_row-Expr-0 shape-the_row-Expr-0 hidden-the_row-Place-1 shape-the_row-Place-1 hidden-the_row-Expr-2 shape-the_row-Expr-2
row_typed u [] [] h = tt
row_typed u (e ∷ es) (t ∷ ts) h = (h.0, h.1, row_typed u es ts h.2)
row_typed u [] (t ∷ ts) h = h
row_typed u (e ∷ es) [] h = h

called_typed : (u : Tables) (es : List Expr) (f : Option FnType) → IsCalled f (ListIsTyped u es) → IsCalled f (AreTyped u (hidden-the_row-Expr-2 es))
called_typed u es (Some f) h = row_typed u es f.params h
called_typed u es None h = h

pub typed-Call : (u : Tables) (at site : ℕ) (c : Expr) (es : List Expr) → IsCallee c (IsTyped u c) → IsCalled (called_as c (type_of c)) (ListIsTyped u es)
    → IsTyped u (expr.Call at site c es)
unfolding IsTyped hidden hidden-the_row-Expr-0 shape-the_row-Expr-0 hidden-the_row-Place-1 shape-the_row-Place-1 hidden-the_row-Expr-2 shape-the_row-Expr-2
typed-Call u at site c es callee arguments = (callee, called_typed u es (called_as c (type_of c)) arguments)
