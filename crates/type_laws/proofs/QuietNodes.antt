-- A node adds no level where its parts don't, and a function in it is known at its level: one lemma a form.
use Rattle.std.proofs.Common.{◌≡◌, ℕ, sym, ◌∙◌, ap, subst, true, false, List, [], ◌∷◌, Some}
use Rattle.std.specs.Prelude.{◌⊎◌}
use denote.Hole.Carrier.{hidden}
use Rattle.eff_types.specs.Types.{own_effects, is_function}
use Rattle.eff_types.specs.declared.types.CType.{CType, Void, Int, Unsigned, Struct}
use Rattle.eff_types.specs.declared.types.CType.TheVariants as a_type
use Rattle.eff_types.specs.declared.types.FnType.{FnType}
use Rattle.core_unit.specs.Levels.{HasLevel, Keeps, PlaceKeeps, AllKeep, KeepsLevel}
use Rattle.core_unit.specs.Shapes.{is_scalar, target_of, pointer_to, element_of, array_of, number_type, result_of}
use Rattle.core_unit.specs.Typing.{type_of, place_type, called_as, binary_type, unary_type}
use Rattle.core_unit.specs.declared.expressions.Expr.{Expr, end_of-Expr, more_of-Expr}
use Rattle.core_unit.specs.declared.expressions.Expr.TheBlock.{hidden-the_row-Expr-0, shape-the_row-Expr-0, hidden-the_row-Place-1, shape-the_row-Place-1, hidden-the_row-Expr-2, shape-the_row-Expr-2}
use Rattle.core_unit.specs.declared.expressions.Expr.TheVariants as expr
use Rattle.core_unit.specs.declared.expressions.Place.{Place}
use Rattle.core_unit.specs.declared.expressions.Place.TheVariants as place
use Rattle.core_unit.specs.declared.expressions.Storage.{Storage}
use Rattle.core_unit.specs.declared.operators.BinaryOperator.{BinaryOperator}
use Rattle.core_unit.specs.declared.operators.Cause.{Cause}
use Rattle.core_unit.specs.declared.operators.Cause.TheVariants as cause
use Rattle.core_unit.specs.declared.operators.LogicalOperator.{LogicalOperator}
use Rattle.core_unit.specs.declared.operators.PointerSide.{PointerSide}
use Rattle.core_unit.specs.declared.operators.Sign.{Sign}
use Rattle.core_unit.specs.declared.operators.StepValue.{StepValue}
use Rattle.core_unit.specs.declared.operators.UnaryOperator.{UnaryOperator}
use Rattle.core_unit.specs.declared.operators.Update.{Update}
use Rattle.core_unit.specs.declared.tables.FunctionInfo.{FunctionInfo}
use Rattle.core_unit.proofs.Equations.{type_of-Number, type_of-Null, type_of-Sizeof, type_of-Function, type_of-LibraryFunction, type_of-TargetFunction, type_of-FunctionPointer, type_of-ArrayPointer, type_of-AddressOf, type_of-Load, type_of-Assign, type_of-Compound, type_of-Step, type_of-Unary, type_of-Binary, type_of-Logical, type_of-Conditional, type_of-Comma, type_of-Call, type_of-Convert, type_of-Discard, place_type-Variable, place_type-Text, place_type-Indirection, place_type-Arrow, place_type-Element, place_type-Member}
use Rattle.type_rules.specs.Constants.{worth, is_known}
use Rattle.type_laws.proofs.Each.{Each}

-- what is converted as null is constant
abbrev pub NullIsKnown : Cause → Expr → Type 0
NullIsKnown cause.Null e = is_known (worth e) ≡ true
NullIsKnown _ e = Unit {0}

-- a conversion is between scalars, unless it changes nothing
abbrev pub KeepsKind : CType → CType → Type 0
KeepsKind from to = (from ≡ to) ⊎ ((is_scalar from ≡ true) × (is_scalar to ≡ true))

-- what a node of a conversion asks
abbrev pub Fits : Cause → CType → CType → Expr → Type 0
Fits why from to e = KeepsLevel why from to × NullIsKnown why e × KeepsKind from to

-- a name is no scalar, and its function has the level of its type
pub record IsNameOf (u : List FunctionInfo) (number : ℕ) (t : CType) : Type 0 where
  pub other : is_scalar t ≡ false
  pub levelled : is_function t ≡ true → HasLevel u number (own_effects t).level

-- The function to which a constant leads has the level of its name.
unfoldable pub Leads : List FunctionInfo → Expr → Type 0
Leads u (expr.Function number t) = IsNameOf u number t
Leads u (expr.FunctionPointer' _ (more_of-Expr e end_of-Expr)) = Leads u e × (is_function (type_of e) ≡ true)
Leads u (expr.Convert' why to _ (more_of-Expr e end_of-Expr)) = NullIsKnown why e × KeepsKind (type_of e) to × Leads u e
Leads u _ = Unit {0}

-- an expression of this type that adds no level
pub record Node (t : CType) (e : Expr) : Type 0 where
  pub is : type_of e ≡ t
  pub keeps : Keeps e

-- and that leads to no function below its level
pub record Used (u : List FunctionInfo) (t : CType) (e : Expr) : Type 0 where
  pub node : Node t e
  pub leads : Leads u e

-- a place of this type
pub record Object (t : CType) (p : Place) : Type 0 where
  pub is : place_type p ≡ t
  pub keeps : PlaceKeeps p

pub object-Variable : (at : ℕ) (storage : Storage) (t : CType) → Object t (place.Variable at storage t)
unfolding Keeps hidden hidden-the_row-Expr-0 shape-the_row-Expr-0 hidden-the_row-Place-1 shape-the_row-Place-1 hidden-the_row-Expr-2 shape-the_row-Expr-2
object-Variable at storage t = record { is = place_type-Variable at storage t; keeps = tt }

pub object-Text : (at words : ℕ) → Object (array_of a_type.Char words) (place.Text at words)
unfolding Keeps hidden hidden-the_row-Expr-0 shape-the_row-Expr-0 hidden-the_row-Place-1 shape-the_row-Place-1 hidden-the_row-Expr-2 shape-the_row-Expr-2
object-Text at words = record { is = place_type-Text at words; keeps = tt }

pub object-Indirection : (e : Expr) (t : CType) → Keeps e → Object t (place.Indirection e t)
unfolding Keeps hidden hidden-the_row-Expr-0 shape-the_row-Expr-0 hidden-the_row-Place-1 shape-the_row-Place-1 hidden-the_row-Expr-2 shape-the_row-Expr-2
object-Indirection e t h = record { is = place_type-Indirection e t; keeps = h }

pub object-Arrow : (e : Expr) (k : ℕ) → Keeps e → Object (Struct k) (place.Arrow e k)
unfolding Keeps hidden hidden-the_row-Expr-0 shape-the_row-Expr-0 hidden-the_row-Place-1 shape-the_row-Place-1 hidden-the_row-Expr-2 shape-the_row-Expr-2
object-Arrow e k h = record { is = place_type-Arrow e k; keeps = h }

pub object-Element : (a b : Expr) (side : PointerSide) (words : ℕ) (t : CType) → Keeps a → Keeps b → Object t (place.Element a b side words t)
unfolding Keeps hidden hidden-the_row-Expr-0 shape-the_row-Expr-0 hidden-the_row-Place-1 shape-the_row-Place-1 hidden-the_row-Expr-2 shape-the_row-Expr-2
object-Element a b side words t h k = record { is = place_type-Element a b side words t; keeps = (h, k) }

pub object-Member : (p : Place) (offset : ℕ) (t : CType) → PlaceKeeps p → Object t (place.Member p offset t)
unfolding Keeps hidden hidden-the_row-Expr-0 shape-the_row-Expr-0 hidden-the_row-Place-1 shape-the_row-Place-1 hidden-the_row-Expr-2 shape-the_row-Expr-2
object-Member p offset t h = record { is = place_type-Member p offset t; keeps = h }

pub node-Number : (u : List FunctionInfo) (sign : Sign) (bits : ℕ) → Used u (number_type sign) (expr.Number sign bits)
unfolding Keeps Leads hidden hidden-the_row-Expr-0 shape-the_row-Expr-0 hidden-the_row-Place-1 shape-the_row-Place-1 hidden-the_row-Expr-2 shape-the_row-Expr-2
node-Number u sign bits = record { node = record { is = type_of-Number sign bits; keeps = tt }; leads = tt }

pub node-Null : (u : List FunctionInfo) → Used u (pointer_to Void) expr.Null
unfolding Keeps Leads hidden hidden-the_row-Expr-0 shape-the_row-Expr-0 hidden-the_row-Place-1 shape-the_row-Place-1 hidden-the_row-Expr-2 shape-the_row-Expr-2
node-Null u = record { node = record { is = type_of-Null; keeps = tt }; leads = tt }

pub node-Sizeof : (u : List FunctionInfo) (words : ℕ) → Used u Unsigned (expr.Sizeof words)
unfolding Keeps Leads hidden hidden-the_row-Expr-0 shape-the_row-Expr-0 hidden-the_row-Place-1 shape-the_row-Place-1 hidden-the_row-Expr-2 shape-the_row-Expr-2
node-Sizeof u words = record { node = record { is = type_of-Sizeof words; keeps = tt }; leads = tt }

pub node-Function : (u : List FunctionInfo) (number : ℕ) (t : CType) → IsNameOf u number t → Used u t (expr.Function number t)
unfolding Keeps Leads hidden hidden-the_row-Expr-0 shape-the_row-Expr-0 hidden-the_row-Place-1 shape-the_row-Place-1 hidden-the_row-Expr-2 shape-the_row-Expr-2
node-Function u number t h = record { node = record { is = type_of-Function number t; keeps = tt }; leads = h }

pub node-LibraryFunction : (u : List FunctionInfo) (row : ℕ) → Used u Void (expr.LibraryFunction row)
unfolding Keeps Leads hidden hidden-the_row-Expr-0 shape-the_row-Expr-0 hidden-the_row-Place-1 shape-the_row-Place-1 hidden-the_row-Expr-2 shape-the_row-Expr-2
node-LibraryFunction u row = record { node = record { is = type_of-LibraryFunction row; keeps = tt }; leads = tt }

pub node-TargetFunction : (u : List FunctionInfo) (t : CType) (e : Expr) → Node t e → Used u (target_of t) (expr.TargetFunction e)
unfolding Keeps Leads hidden hidden-the_row-Expr-0 shape-the_row-Expr-0 hidden-the_row-Place-1 shape-the_row-Place-1 hidden-the_row-Expr-2 shape-the_row-Expr-2
node-TargetFunction u t e h = record { node = record { is = type_of-TargetFunction e ∙ ap target_of h.is; keeps = h.keeps }; leads = tt }

pub node-FunctionPointer : (u : List FunctionInfo) (t : CType) (e : Expr) → is_function t ≡ true → Used u t e → Used u (pointer_to t) (expr.FunctionPointer e)
unfolding Keeps Leads hidden hidden-the_row-Expr-0 shape-the_row-Expr-0 hidden-the_row-Place-1 shape-the_row-Place-1 hidden-the_row-Expr-2 shape-the_row-Expr-2
node-FunctionPointer u t e function h = record { node = record { is = type_of-FunctionPointer e ∙ ap pointer_to h.node.is; keeps = h.node.keeps }; leads = (h.leads, ap is_function h.node.is ∙ function) }

pub node-ArrayPointer : (u : List FunctionInfo) (t : CType) (p : Place) → Object t p → Used u (pointer_to (element_of t)) (expr.ArrayPointer p)
unfolding Keeps Leads hidden hidden-the_row-Expr-0 shape-the_row-Expr-0 hidden-the_row-Place-1 shape-the_row-Place-1 hidden-the_row-Expr-2 shape-the_row-Expr-2
node-ArrayPointer u t p h = record { node = record { is = type_of-ArrayPointer p ∙ ap (λ k. pointer_to (element_of k)) h.is; keeps = h.keeps }; leads = tt }

pub node-AddressOf : (u : List FunctionInfo) (t : CType) (p : Place) → Object t p → Used u (pointer_to t) (expr.AddressOf p)
unfolding Keeps Leads hidden hidden-the_row-Expr-0 shape-the_row-Expr-0 hidden-the_row-Place-1 shape-the_row-Place-1 hidden-the_row-Expr-2 shape-the_row-Expr-2
node-AddressOf u t p h = record { node = record { is = type_of-AddressOf p ∙ ap pointer_to h.is; keeps = h.keeps }; leads = tt }

pub node-Load : (u : List FunctionInfo) (t : CType) (p : Place) → Object t p → Used u t (expr.Load p)
unfolding Keeps Leads hidden hidden-the_row-Expr-0 shape-the_row-Expr-0 hidden-the_row-Place-1 shape-the_row-Place-1 hidden-the_row-Expr-2 shape-the_row-Expr-2
node-Load u t p h = record { node = record { is = type_of-Load p ∙ h.is; keeps = h.keeps }; leads = tt }

pub node-Assign : (u : List FunctionInfo) (t : CType) (p : Place) (e : Expr) → Object t p → Keeps e → Used u t (expr.Assign p e)
unfolding Keeps Leads hidden hidden-the_row-Expr-0 shape-the_row-Expr-0 hidden-the_row-Place-1 shape-the_row-Place-1 hidden-the_row-Expr-2 shape-the_row-Expr-2
node-Assign u t p e h k = record { node = record { is = type_of-Assign p e ∙ h.is; keeps = (h.keeps, k) }; leads = tt }

pub node-Compound : (u : List FunctionInfo) (t : CType) (p : Place) (how : Update) (e : Expr) → Object t p → Keeps e → Used u t (expr.Compound p how e)
unfolding Keeps Leads hidden hidden-the_row-Expr-0 shape-the_row-Expr-0 hidden-the_row-Place-1 shape-the_row-Place-1 hidden-the_row-Expr-2 shape-the_row-Expr-2
node-Compound u t p how e h k = record { node = record { is = type_of-Compound p how e ∙ h.is; keeps = (h.keeps, k) }; leads = tt }

pub node-Step : (u : List FunctionInfo) (t : CType) (p : Place) (how : Update) (v : StepValue) → Object t p → Used u t (expr.Step p how v)
unfolding Keeps Leads hidden hidden-the_row-Expr-0 shape-the_row-Expr-0 hidden-the_row-Place-1 shape-the_row-Place-1 hidden-the_row-Expr-2 shape-the_row-Expr-2
node-Step u t p how v h = record { node = record { is = type_of-Step p how v ∙ h.is; keeps = h.keeps }; leads = tt }

pub node-Unary : (u : List FunctionInfo) (operator : UnaryOperator) (e : Expr) → Keeps e → Used u (unary_type operator) (expr.Unary operator e)
unfolding Keeps Leads hidden hidden-the_row-Expr-0 shape-the_row-Expr-0 hidden-the_row-Place-1 shape-the_row-Place-1 hidden-the_row-Expr-2 shape-the_row-Expr-2
node-Unary u operator e h = record { node = record { is = type_of-Unary operator e; keeps = h }; leads = tt }

pub node-Binary : (u : List FunctionInfo) (operator : BinaryOperator) (t v : CType) (a b : Expr) → Node t a → Node v b → Used u (binary_type operator t v) (expr.Binary operator a b)
unfolding Keeps Leads hidden hidden-the_row-Expr-0 shape-the_row-Expr-0 hidden-the_row-Place-1 shape-the_row-Place-1 hidden-the_row-Expr-2 shape-the_row-Expr-2
node-Binary u operator t v a b h k = record { node = record { is = type_of-Binary operator a b ∙ ap (λ x. binary_type operator x (type_of b)) h.is ∙ ap (binary_type operator t) k.is; keeps = (h.keeps, k.keeps) }; leads = tt }

pub node-Logical : (u : List FunctionInfo) (operator : LogicalOperator) (a b : Expr) → Keeps a → Keeps b → Used u Int (expr.Logical operator a b)
unfolding Keeps Leads hidden hidden-the_row-Expr-0 shape-the_row-Expr-0 hidden-the_row-Place-1 shape-the_row-Place-1 hidden-the_row-Expr-2 shape-the_row-Expr-2
node-Logical u operator a b h k = record { node = record { is = type_of-Logical operator a b; keeps = (h, k) }; leads = tt }

pub node-Conditional : (u : List FunctionInfo) (t : CType) (c a b : Expr) → Keeps c → Node t a → Keeps b → Used u t (expr.Conditional c a b)
unfolding Keeps Leads hidden hidden-the_row-Expr-0 shape-the_row-Expr-0 hidden-the_row-Place-1 shape-the_row-Place-1 hidden-the_row-Expr-2 shape-the_row-Expr-2
node-Conditional u t c a b h k l = record { node = record { is = type_of-Conditional c a b ∙ k.is; keeps = (h, k.keeps, l) }; leads = tt }

pub node-Comma : (u : List FunctionInfo) (t : CType) (a b : Expr) → Keeps a → Node t b → Used u t (expr.Comma a b)
unfolding Keeps Leads hidden hidden-the_row-Expr-0 shape-the_row-Expr-0 hidden-the_row-Place-1 shape-the_row-Place-1 hidden-the_row-Expr-2 shape-the_row-Expr-2
node-Comma u t a b h k = record { node = record { is = type_of-Comma a b ∙ k.is; keeps = (h, k.keeps) }; leads = tt }

pub node-Discard : (u : List FunctionInfo) (e : Expr) → Keeps e → Used u Void (expr.Discard e)
unfolding Keeps Leads hidden hidden-the_row-Expr-0 shape-the_row-Expr-0 hidden-the_row-Place-1 shape-the_row-Place-1 hidden-the_row-Expr-2 shape-the_row-Expr-2
node-Discard u e h = record { node = record { is = type_of-Discard e; keeps = h }; leads = tt }

-- a conversion, of a constant or not
pub converted_node : (why : Cause) (t to : CType) (e : Expr) → Node t e → KeepsLevel why t to → Node to (expr.Convert why to e)
unfolding Keeps hidden hidden-the_row-Expr-0 shape-the_row-Expr-0 hidden-the_row-Place-1 shape-the_row-Place-1 hidden-the_row-Expr-2 shape-the_row-Expr-2
converted_node why t to e h level = record { is = type_of-Convert why to e; keeps = (h.keeps, subst (λ k. KeepsLevel why k to) (sym h.is) level) }

pub node-Convert : (u : List FunctionInfo) (why : Cause) (t to : CType) (e : Expr) → Used u t e → Fits why t to e → Used u to (expr.Convert why to e)
unfolding Leads hidden hidden-the_row-Expr-0 shape-the_row-Expr-0 hidden-the_row-Place-1 shape-the_row-Place-1 hidden-the_row-Expr-2 shape-the_row-Expr-2
node-Convert u why t to e h fits = record {
  node = converted_node why t to e h.node fits.0;
  leads = (fits.1, subst (λ k. KeepsKind k to) (sym h.node.is) fits.2, h.leads);
}

-- the arguments of a call, as a list
abbrev pub EachKeeps : List Expr → Type 0
EachKeeps es = Each Keeps es

row_keeps : (es : List Expr) → EachKeeps es → AllKeep (hidden-the_row-Expr-2 es)
unfolding Keeps hidden hidden-the_row-Expr-0 shape-the_row-Expr-0 hidden-the_row-Place-1 shape-the_row-Place-1 hidden-the_row-Expr-2 shape-the_row-Expr-2
row_keeps [] h = tt
row_keeps (e ∷ es) h = (h.0, row_keeps es h.1)

pub node-Call : (u : List FunctionInfo) (f : FnType) (t : CType) (at site : ℕ) (c : Expr) (es : List Expr) → Node t c → called_as c t ≡ Some f → EachKeeps es → Used u f.result (expr.Call at site c es)
unfolding Keeps Leads hidden hidden-the_row-Expr-0 shape-the_row-Expr-0 hidden-the_row-Place-1 shape-the_row-Place-1 hidden-the_row-Expr-2 shape-the_row-Expr-2
node-Call u f t at site c es h is each = record { node = record { is = type_of-Call at site c es ∙ ap (λ k. result_of (called_as c k)) h.is ∙ ap result_of is; keeps = (h.keeps, row_keeps es each) }; leads = tt }
