-- What the type, the count and the places of an expression are, from those of its parts: one equation a form, for the crates that make trees.
use Rattle.std.proofs.Common.{◌≡◌, refl, ap, ℕ, ◌+◌, List, [], ◌∷◌}
use denote.Hole.Carrier.{hidden}
use Rattle.eff_types.specs.declared.types.CType.{CType, Void, Char, Int, Unsigned, Struct}
use Rattle.core_unit.specs.Nodes.{nodes, place_nodes, all_nodes, arguments_nodes, update_nodes}
use Rattle.core_unit.specs.Places.{spots, place_spots, all_spots, arguments_spots, used, callee, Spot, Calls}
use Rattle.core_unit.specs.Shapes.{target_of, element_of, pointer_to, array_of, number_type, result_of}
use Rattle.core_unit.specs.Typing.{type_of, place_type, unary_type, binary_type, called_as}
use Rattle.core_unit.specs.declared.expressions.Expr.{Expr}
use Rattle.core_unit.specs.declared.expressions.Expr.TheBlock.{hidden-the_row-Expr-0, shape-the_row-Expr-0, hidden-the_row-Place-1, shape-the_row-Place-1, hidden-the_row-Expr-2, shape-the_row-Expr-2}
use Rattle.core_unit.specs.declared.expressions.Expr.TheVariants as expr
use Rattle.core_unit.specs.declared.expressions.Place.{Place}
use Rattle.core_unit.specs.declared.expressions.Place.TheVariants as place
use Rattle.core_unit.specs.declared.expressions.Storage.{Storage}
use Rattle.core_unit.specs.declared.operators.BinaryOperator.{BinaryOperator}
use Rattle.core_unit.specs.declared.operators.Cause.{Cause}
use Rattle.core_unit.specs.declared.operators.LogicalOperator.{LogicalOperator}
use Rattle.core_unit.specs.declared.operators.PointerSide.{PointerSide}
use Rattle.core_unit.specs.declared.operators.Sign.{Sign}
use Rattle.core_unit.specs.declared.operators.StepValue.{StepValue}
use Rattle.core_unit.specs.declared.operators.UnaryOperator.{UnaryOperator}
use Rattle.core_unit.specs.declared.operators.Update.{Update}

pub place_type-Variable : (at : ℕ) (storage : Storage) (t : CType) → place_type (place.Variable at storage t) ≡ t
unfolding type_of hidden hidden-the_row-Expr-0 shape-the_row-Expr-0 hidden-the_row-Place-1 shape-the_row-Place-1 hidden-the_row-Expr-2 shape-the_row-Expr-2
place_type-Variable at storage t = refl

pub place_nodes-Variable : (at : ℕ) (storage : Storage) (t : CType) → place_nodes (place.Variable at storage t) ≡ 1
unfolding nodes hidden hidden-the_row-Expr-0 shape-the_row-Expr-0 hidden-the_row-Place-1 shape-the_row-Place-1 hidden-the_row-Expr-2 shape-the_row-Expr-2
place_nodes-Variable at storage t = refl

pub place_spots-Variable : (rest : List Spot) (at : ℕ) (storage : Storage) (t : CType) → place_spots (place.Variable at storage t) rest ≡ used storage at rest
unfolding spots hidden hidden-the_row-Expr-0 shape-the_row-Expr-0 hidden-the_row-Place-1 shape-the_row-Place-1 hidden-the_row-Expr-2 shape-the_row-Expr-2
place_spots-Variable rest at storage t = refl

pub place_type-Text : (at : ℕ) (words : ℕ) → place_type (place.Text at words) ≡ array_of Char words
unfolding type_of hidden hidden-the_row-Expr-0 shape-the_row-Expr-0 hidden-the_row-Place-1 shape-the_row-Place-1 hidden-the_row-Expr-2 shape-the_row-Expr-2
place_type-Text at words = refl

pub place_nodes-Text : (at : ℕ) (words : ℕ) → place_nodes (place.Text at words) ≡ 1
unfolding nodes hidden hidden-the_row-Expr-0 shape-the_row-Expr-0 hidden-the_row-Place-1 shape-the_row-Place-1 hidden-the_row-Expr-2 shape-the_row-Expr-2
place_nodes-Text at words = refl

pub place_spots-Text : (rest : List Spot) (at : ℕ) (words : ℕ) → place_spots (place.Text at words) rest ≡ rest
unfolding spots hidden hidden-the_row-Expr-0 shape-the_row-Expr-0 hidden-the_row-Place-1 shape-the_row-Place-1 hidden-the_row-Expr-2 shape-the_row-Expr-2
place_spots-Text rest at words = refl

pub place_type-Indirection : (e : Expr) (t : CType) → place_type (place.Indirection e t) ≡ t
unfolding type_of hidden hidden-the_row-Expr-0 shape-the_row-Expr-0 hidden-the_row-Place-1 shape-the_row-Place-1 hidden-the_row-Expr-2 shape-the_row-Expr-2
place_type-Indirection e t = refl

pub place_nodes-Indirection : (e : Expr) (t : CType) → place_nodes (place.Indirection e t) ≡ 1 + nodes e
unfolding nodes hidden hidden-the_row-Expr-0 shape-the_row-Expr-0 hidden-the_row-Place-1 shape-the_row-Place-1 hidden-the_row-Expr-2 shape-the_row-Expr-2
place_nodes-Indirection e t = refl

pub place_spots-Indirection : (rest : List Spot) (e : Expr) (t : CType) → place_spots (place.Indirection e t) rest ≡ spots e rest
unfolding spots hidden hidden-the_row-Expr-0 shape-the_row-Expr-0 hidden-the_row-Place-1 shape-the_row-Place-1 hidden-the_row-Expr-2 shape-the_row-Expr-2
place_spots-Indirection rest e t = refl

pub place_type-Arrow : (e : Expr) (k : ℕ) → place_type (place.Arrow e k) ≡ Struct k
unfolding type_of hidden hidden-the_row-Expr-0 shape-the_row-Expr-0 hidden-the_row-Place-1 shape-the_row-Place-1 hidden-the_row-Expr-2 shape-the_row-Expr-2
place_type-Arrow e k = refl

pub place_nodes-Arrow : (e : Expr) (k : ℕ) → place_nodes (place.Arrow e k) ≡ nodes e
unfolding nodes hidden hidden-the_row-Expr-0 shape-the_row-Expr-0 hidden-the_row-Place-1 shape-the_row-Place-1 hidden-the_row-Expr-2 shape-the_row-Expr-2
place_nodes-Arrow e k = refl

pub place_spots-Arrow : (rest : List Spot) (e : Expr) (k : ℕ) → place_spots (place.Arrow e k) rest ≡ spots e rest
unfolding spots hidden hidden-the_row-Expr-0 shape-the_row-Expr-0 hidden-the_row-Place-1 shape-the_row-Place-1 hidden-the_row-Expr-2 shape-the_row-Expr-2
place_spots-Arrow rest e k = refl

pub place_type-Element : (a : Expr) (b : Expr) (side : PointerSide) (words : ℕ) (t : CType) → place_type (place.Element a b side words t) ≡ t
unfolding type_of hidden hidden-the_row-Expr-0 shape-the_row-Expr-0 hidden-the_row-Place-1 shape-the_row-Place-1 hidden-the_row-Expr-2 shape-the_row-Expr-2
place_type-Element a b side words t = refl

pub place_nodes-Element : (a : Expr) (b : Expr) (side : PointerSide) (words : ℕ) (t : CType) → place_nodes (place.Element a b side words t) ≡ 1 + nodes a + nodes b
unfolding nodes hidden hidden-the_row-Expr-0 shape-the_row-Expr-0 hidden-the_row-Place-1 shape-the_row-Place-1 hidden-the_row-Expr-2 shape-the_row-Expr-2
place_nodes-Element a b side words t = refl

pub place_spots-Element : (rest : List Spot) (a : Expr) (b : Expr) (side : PointerSide) (words : ℕ) (t : CType) → place_spots (place.Element a b side words t) rest ≡ spots a (spots b rest)
unfolding spots hidden hidden-the_row-Expr-0 shape-the_row-Expr-0 hidden-the_row-Place-1 shape-the_row-Place-1 hidden-the_row-Expr-2 shape-the_row-Expr-2
place_spots-Element rest a b side words t = refl

pub place_type-Member : (p : Place) (offset : ℕ) (t : CType) → place_type (place.Member p offset t) ≡ t
unfolding type_of hidden hidden-the_row-Expr-0 shape-the_row-Expr-0 hidden-the_row-Place-1 shape-the_row-Place-1 hidden-the_row-Expr-2 shape-the_row-Expr-2
place_type-Member p offset t = refl

pub place_nodes-Member : (p : Place) (offset : ℕ) (t : CType) → place_nodes (place.Member p offset t) ≡ 1 + place_nodes p
unfolding nodes hidden hidden-the_row-Expr-0 shape-the_row-Expr-0 hidden-the_row-Place-1 shape-the_row-Place-1 hidden-the_row-Expr-2 shape-the_row-Expr-2
place_nodes-Member p offset t = refl

pub place_spots-Member : (rest : List Spot) (p : Place) (offset : ℕ) (t : CType) → place_spots (place.Member p offset t) rest ≡ place_spots p rest
unfolding spots hidden hidden-the_row-Expr-0 shape-the_row-Expr-0 hidden-the_row-Place-1 shape-the_row-Place-1 hidden-the_row-Expr-2 shape-the_row-Expr-2
place_spots-Member rest p offset t = refl

pub type_of-Number : (sign : Sign) (bits : ℕ) → type_of (expr.Number sign bits) ≡ number_type sign
unfolding type_of hidden hidden-the_row-Expr-0 shape-the_row-Expr-0 hidden-the_row-Place-1 shape-the_row-Place-1 hidden-the_row-Expr-2 shape-the_row-Expr-2
type_of-Number sign bits = refl

pub nodes-Number : (sign : Sign) (bits : ℕ) → nodes (expr.Number sign bits) ≡ 1
unfolding nodes hidden hidden-the_row-Expr-0 shape-the_row-Expr-0 hidden-the_row-Place-1 shape-the_row-Place-1 hidden-the_row-Expr-2 shape-the_row-Expr-2
nodes-Number sign bits = refl

pub spots-Number : (rest : List Spot) (sign : Sign) (bits : ℕ) → spots (expr.Number sign bits) rest ≡ rest
unfolding spots hidden hidden-the_row-Expr-0 shape-the_row-Expr-0 hidden-the_row-Place-1 shape-the_row-Place-1 hidden-the_row-Expr-2 shape-the_row-Expr-2
spots-Number rest sign bits = refl

pub type_of-Null : type_of expr.Null ≡ pointer_to Void
unfolding type_of hidden hidden-the_row-Expr-0 shape-the_row-Expr-0 hidden-the_row-Place-1 shape-the_row-Place-1 hidden-the_row-Expr-2 shape-the_row-Expr-2
type_of-Null = refl

pub nodes-Null : nodes expr.Null ≡ 1
unfolding nodes hidden hidden-the_row-Expr-0 shape-the_row-Expr-0 hidden-the_row-Place-1 shape-the_row-Place-1 hidden-the_row-Expr-2 shape-the_row-Expr-2
nodes-Null = refl

pub spots-Null : (rest : List Spot) → spots expr.Null rest ≡ rest
unfolding spots hidden hidden-the_row-Expr-0 shape-the_row-Expr-0 hidden-the_row-Place-1 shape-the_row-Place-1 hidden-the_row-Expr-2 shape-the_row-Expr-2
spots-Null rest = refl

pub type_of-Sizeof : (words : ℕ) → type_of (expr.Sizeof words) ≡ Unsigned
unfolding type_of hidden hidden-the_row-Expr-0 shape-the_row-Expr-0 hidden-the_row-Place-1 shape-the_row-Place-1 hidden-the_row-Expr-2 shape-the_row-Expr-2
type_of-Sizeof words = refl

pub nodes-Sizeof : (words : ℕ) → nodes (expr.Sizeof words) ≡ 1
unfolding nodes hidden hidden-the_row-Expr-0 shape-the_row-Expr-0 hidden-the_row-Place-1 shape-the_row-Place-1 hidden-the_row-Expr-2 shape-the_row-Expr-2
nodes-Sizeof words = refl

pub spots-Sizeof : (rest : List Spot) (words : ℕ) → spots (expr.Sizeof words) rest ≡ rest
unfolding spots hidden hidden-the_row-Expr-0 shape-the_row-Expr-0 hidden-the_row-Place-1 shape-the_row-Place-1 hidden-the_row-Expr-2 shape-the_row-Expr-2
spots-Sizeof rest words = refl

pub type_of-Function : (f : ℕ) (t : CType) → type_of (expr.Function f t) ≡ t
unfolding type_of hidden hidden-the_row-Expr-0 shape-the_row-Expr-0 hidden-the_row-Place-1 shape-the_row-Place-1 hidden-the_row-Expr-2 shape-the_row-Expr-2
type_of-Function f t = refl

pub nodes-Function : (f : ℕ) (t : CType) → nodes (expr.Function f t) ≡ 1
unfolding nodes hidden hidden-the_row-Expr-0 shape-the_row-Expr-0 hidden-the_row-Place-1 shape-the_row-Place-1 hidden-the_row-Expr-2 shape-the_row-Expr-2
nodes-Function f t = refl

pub spots-Function : (rest : List Spot) (f : ℕ) (t : CType) → spots (expr.Function f t) rest ≡ rest
unfolding spots hidden hidden-the_row-Expr-0 shape-the_row-Expr-0 hidden-the_row-Place-1 shape-the_row-Place-1 hidden-the_row-Expr-2 shape-the_row-Expr-2
spots-Function rest f t = refl

pub type_of-LibraryFunction : (row : ℕ) → type_of (expr.LibraryFunction row) ≡ Void
unfolding type_of hidden hidden-the_row-Expr-0 shape-the_row-Expr-0 hidden-the_row-Place-1 shape-the_row-Place-1 hidden-the_row-Expr-2 shape-the_row-Expr-2
type_of-LibraryFunction row = refl

pub nodes-LibraryFunction : (row : ℕ) → nodes (expr.LibraryFunction row) ≡ 1
unfolding nodes hidden hidden-the_row-Expr-0 shape-the_row-Expr-0 hidden-the_row-Place-1 shape-the_row-Place-1 hidden-the_row-Expr-2 shape-the_row-Expr-2
nodes-LibraryFunction row = refl

pub spots-LibraryFunction : (rest : List Spot) (row : ℕ) → spots (expr.LibraryFunction row) rest ≡ rest
unfolding spots hidden hidden-the_row-Expr-0 shape-the_row-Expr-0 hidden-the_row-Place-1 shape-the_row-Place-1 hidden-the_row-Expr-2 shape-the_row-Expr-2
spots-LibraryFunction rest row = refl

pub type_of-TargetFunction : (e : Expr) → type_of (expr.TargetFunction e) ≡ target_of (type_of e)
unfolding type_of hidden hidden-the_row-Expr-0 shape-the_row-Expr-0 hidden-the_row-Place-1 shape-the_row-Place-1 hidden-the_row-Expr-2 shape-the_row-Expr-2
type_of-TargetFunction e = refl

pub nodes-TargetFunction : (e : Expr) → nodes (expr.TargetFunction e) ≡ 1 + nodes e
unfolding nodes hidden hidden-the_row-Expr-0 shape-the_row-Expr-0 hidden-the_row-Place-1 shape-the_row-Place-1 hidden-the_row-Expr-2 shape-the_row-Expr-2
nodes-TargetFunction e = refl

pub spots-TargetFunction : (rest : List Spot) (e : Expr) → spots (expr.TargetFunction e) rest ≡ spots e rest
unfolding spots hidden hidden-the_row-Expr-0 shape-the_row-Expr-0 hidden-the_row-Place-1 shape-the_row-Place-1 hidden-the_row-Expr-2 shape-the_row-Expr-2
spots-TargetFunction rest e = refl

pub type_of-FunctionPointer : (e : Expr) → type_of (expr.FunctionPointer e) ≡ pointer_to (type_of e)
unfolding type_of hidden hidden-the_row-Expr-0 shape-the_row-Expr-0 hidden-the_row-Place-1 shape-the_row-Place-1 hidden-the_row-Expr-2 shape-the_row-Expr-2
type_of-FunctionPointer e = refl

pub nodes-FunctionPointer : (e : Expr) → nodes (expr.FunctionPointer e) ≡ 1 + nodes e
unfolding nodes hidden hidden-the_row-Expr-0 shape-the_row-Expr-0 hidden-the_row-Place-1 shape-the_row-Place-1 hidden-the_row-Expr-2 shape-the_row-Expr-2
nodes-FunctionPointer e = refl

pub spots-FunctionPointer : (rest : List Spot) (e : Expr) → spots (expr.FunctionPointer e) rest ≡ spots e rest
unfolding spots hidden hidden-the_row-Expr-0 shape-the_row-Expr-0 hidden-the_row-Place-1 shape-the_row-Place-1 hidden-the_row-Expr-2 shape-the_row-Expr-2
spots-FunctionPointer rest e = refl

pub type_of-ArrayPointer : (p : Place) → type_of (expr.ArrayPointer p) ≡ pointer_to (element_of (place_type p))
unfolding type_of hidden hidden-the_row-Expr-0 shape-the_row-Expr-0 hidden-the_row-Place-1 shape-the_row-Place-1 hidden-the_row-Expr-2 shape-the_row-Expr-2
type_of-ArrayPointer p = refl

pub nodes-ArrayPointer : (p : Place) → nodes (expr.ArrayPointer p) ≡ 1 + place_nodes p
unfolding nodes hidden hidden-the_row-Expr-0 shape-the_row-Expr-0 hidden-the_row-Place-1 shape-the_row-Place-1 hidden-the_row-Expr-2 shape-the_row-Expr-2
nodes-ArrayPointer p = refl

pub spots-ArrayPointer : (rest : List Spot) (p : Place) → spots (expr.ArrayPointer p) rest ≡ place_spots p rest
unfolding spots hidden hidden-the_row-Expr-0 shape-the_row-Expr-0 hidden-the_row-Place-1 shape-the_row-Place-1 hidden-the_row-Expr-2 shape-the_row-Expr-2
spots-ArrayPointer rest p = refl

pub type_of-AddressOf : (p : Place) → type_of (expr.AddressOf p) ≡ pointer_to (place_type p)
unfolding type_of hidden hidden-the_row-Expr-0 shape-the_row-Expr-0 hidden-the_row-Place-1 shape-the_row-Place-1 hidden-the_row-Expr-2 shape-the_row-Expr-2
type_of-AddressOf p = refl

pub nodes-AddressOf : (p : Place) → nodes (expr.AddressOf p) ≡ 1 + place_nodes p
unfolding nodes hidden hidden-the_row-Expr-0 shape-the_row-Expr-0 hidden-the_row-Place-1 shape-the_row-Place-1 hidden-the_row-Expr-2 shape-the_row-Expr-2
nodes-AddressOf p = refl

pub spots-AddressOf : (rest : List Spot) (p : Place) → spots (expr.AddressOf p) rest ≡ place_spots p rest
unfolding spots hidden hidden-the_row-Expr-0 shape-the_row-Expr-0 hidden-the_row-Place-1 shape-the_row-Place-1 hidden-the_row-Expr-2 shape-the_row-Expr-2
spots-AddressOf rest p = refl

pub type_of-Load : (p : Place) → type_of (expr.Load p) ≡ place_type p
unfolding type_of hidden hidden-the_row-Expr-0 shape-the_row-Expr-0 hidden-the_row-Place-1 shape-the_row-Place-1 hidden-the_row-Expr-2 shape-the_row-Expr-2
type_of-Load p = refl

pub nodes-Load : (p : Place) → nodes (expr.Load p) ≡ place_nodes p
unfolding nodes hidden hidden-the_row-Expr-0 shape-the_row-Expr-0 hidden-the_row-Place-1 shape-the_row-Place-1 hidden-the_row-Expr-2 shape-the_row-Expr-2
nodes-Load p = refl

pub spots-Load : (rest : List Spot) (p : Place) → spots (expr.Load p) rest ≡ place_spots p rest
unfolding spots hidden hidden-the_row-Expr-0 shape-the_row-Expr-0 hidden-the_row-Place-1 shape-the_row-Place-1 hidden-the_row-Expr-2 shape-the_row-Expr-2
spots-Load rest p = refl

pub type_of-Assign : (p : Place) (e : Expr) → type_of (expr.Assign p e) ≡ place_type p
unfolding type_of hidden hidden-the_row-Expr-0 shape-the_row-Expr-0 hidden-the_row-Place-1 shape-the_row-Place-1 hidden-the_row-Expr-2 shape-the_row-Expr-2
type_of-Assign p e = refl

pub nodes-Assign : (p : Place) (e : Expr) → nodes (expr.Assign p e) ≡ 1 + place_nodes p + nodes e
unfolding nodes hidden hidden-the_row-Expr-0 shape-the_row-Expr-0 hidden-the_row-Place-1 shape-the_row-Place-1 hidden-the_row-Expr-2 shape-the_row-Expr-2
nodes-Assign p e = refl

pub spots-Assign : (rest : List Spot) (p : Place) (e : Expr) → spots (expr.Assign p e) rest ≡ place_spots p (spots e rest)
unfolding spots hidden hidden-the_row-Expr-0 shape-the_row-Expr-0 hidden-the_row-Place-1 shape-the_row-Place-1 hidden-the_row-Expr-2 shape-the_row-Expr-2
spots-Assign rest p e = refl

pub type_of-Compound : (p : Place) (update : Update) (e : Expr) → type_of (expr.Compound p update e) ≡ place_type p
unfolding type_of hidden hidden-the_row-Expr-0 shape-the_row-Expr-0 hidden-the_row-Place-1 shape-the_row-Place-1 hidden-the_row-Expr-2 shape-the_row-Expr-2
type_of-Compound p update e = refl

pub nodes-Compound : (p : Place) (update : Update) (e : Expr) → nodes (expr.Compound p update e) ≡ 1 + update_nodes (place_type p) update + place_nodes p + nodes e
unfolding nodes hidden hidden-the_row-Expr-0 shape-the_row-Expr-0 hidden-the_row-Place-1 shape-the_row-Place-1 hidden-the_row-Expr-2 shape-the_row-Expr-2
nodes-Compound p update e = refl

pub spots-Compound : (rest : List Spot) (p : Place) (update : Update) (e : Expr) → spots (expr.Compound p update e) rest ≡ place_spots p (spots e rest)
unfolding spots hidden hidden-the_row-Expr-0 shape-the_row-Expr-0 hidden-the_row-Place-1 shape-the_row-Place-1 hidden-the_row-Expr-2 shape-the_row-Expr-2
spots-Compound rest p update e = refl

pub type_of-Step : (p : Place) (update : Update) (value : StepValue) → type_of (expr.Step p update value) ≡ place_type p
unfolding type_of hidden hidden-the_row-Expr-0 shape-the_row-Expr-0 hidden-the_row-Place-1 shape-the_row-Place-1 hidden-the_row-Expr-2 shape-the_row-Expr-2
type_of-Step p update value = refl

pub nodes-Step : (p : Place) (update : Update) (value : StepValue) → nodes (expr.Step p update value) ≡ 1 + place_nodes p
unfolding nodes hidden hidden-the_row-Expr-0 shape-the_row-Expr-0 hidden-the_row-Place-1 shape-the_row-Place-1 hidden-the_row-Expr-2 shape-the_row-Expr-2
nodes-Step p update value = refl

pub spots-Step : (rest : List Spot) (p : Place) (update : Update) (value : StepValue) → spots (expr.Step p update value) rest ≡ place_spots p rest
unfolding spots hidden hidden-the_row-Expr-0 shape-the_row-Expr-0 hidden-the_row-Place-1 shape-the_row-Place-1 hidden-the_row-Expr-2 shape-the_row-Expr-2
spots-Step rest p update value = refl

pub type_of-Unary : (operator : UnaryOperator) (e : Expr) → type_of (expr.Unary operator e) ≡ unary_type operator
unfolding type_of hidden hidden-the_row-Expr-0 shape-the_row-Expr-0 hidden-the_row-Place-1 shape-the_row-Place-1 hidden-the_row-Expr-2 shape-the_row-Expr-2
type_of-Unary operator e = refl

pub nodes-Unary : (operator : UnaryOperator) (e : Expr) → nodes (expr.Unary operator e) ≡ 1 + nodes e
unfolding nodes hidden hidden-the_row-Expr-0 shape-the_row-Expr-0 hidden-the_row-Place-1 shape-the_row-Place-1 hidden-the_row-Expr-2 shape-the_row-Expr-2
nodes-Unary operator e = refl

pub spots-Unary : (rest : List Spot) (operator : UnaryOperator) (e : Expr) → spots (expr.Unary operator e) rest ≡ spots e rest
unfolding spots hidden hidden-the_row-Expr-0 shape-the_row-Expr-0 hidden-the_row-Place-1 shape-the_row-Place-1 hidden-the_row-Expr-2 shape-the_row-Expr-2
spots-Unary rest operator e = refl

pub type_of-Binary : (operator : BinaryOperator) (a : Expr) (b : Expr) → type_of (expr.Binary operator a b) ≡ binary_type operator (type_of a) (type_of b)
unfolding type_of hidden hidden-the_row-Expr-0 shape-the_row-Expr-0 hidden-the_row-Place-1 shape-the_row-Place-1 hidden-the_row-Expr-2 shape-the_row-Expr-2
type_of-Binary operator a b = refl

pub nodes-Binary : (operator : BinaryOperator) (a : Expr) (b : Expr) → nodes (expr.Binary operator a b) ≡ 1 + nodes a + nodes b
unfolding nodes hidden hidden-the_row-Expr-0 shape-the_row-Expr-0 hidden-the_row-Place-1 shape-the_row-Place-1 hidden-the_row-Expr-2 shape-the_row-Expr-2
nodes-Binary operator a b = refl

pub spots-Binary : (rest : List Spot) (operator : BinaryOperator) (a : Expr) (b : Expr) → spots (expr.Binary operator a b) rest ≡ spots a (spots b rest)
unfolding spots hidden hidden-the_row-Expr-0 shape-the_row-Expr-0 hidden-the_row-Place-1 shape-the_row-Place-1 hidden-the_row-Expr-2 shape-the_row-Expr-2
spots-Binary rest operator a b = refl

pub type_of-Logical : (operator : LogicalOperator) (a : Expr) (b : Expr) → type_of (expr.Logical operator a b) ≡ Int
unfolding type_of hidden hidden-the_row-Expr-0 shape-the_row-Expr-0 hidden-the_row-Place-1 shape-the_row-Place-1 hidden-the_row-Expr-2 shape-the_row-Expr-2
type_of-Logical operator a b = refl

pub nodes-Logical : (operator : LogicalOperator) (a : Expr) (b : Expr) → nodes (expr.Logical operator a b) ≡ 1 + nodes a + nodes b
unfolding nodes hidden hidden-the_row-Expr-0 shape-the_row-Expr-0 hidden-the_row-Place-1 shape-the_row-Place-1 hidden-the_row-Expr-2 shape-the_row-Expr-2
nodes-Logical operator a b = refl

pub spots-Logical : (rest : List Spot) (operator : LogicalOperator) (a : Expr) (b : Expr) → spots (expr.Logical operator a b) rest ≡ spots a (spots b rest)
unfolding spots hidden hidden-the_row-Expr-0 shape-the_row-Expr-0 hidden-the_row-Place-1 shape-the_row-Place-1 hidden-the_row-Expr-2 shape-the_row-Expr-2
spots-Logical rest operator a b = refl

pub type_of-Conditional : (c : Expr) (a : Expr) (b : Expr) → type_of (expr.Conditional c a b) ≡ type_of a
unfolding type_of hidden hidden-the_row-Expr-0 shape-the_row-Expr-0 hidden-the_row-Place-1 shape-the_row-Place-1 hidden-the_row-Expr-2 shape-the_row-Expr-2
type_of-Conditional c a b = refl

pub nodes-Conditional : (c : Expr) (a : Expr) (b : Expr) → nodes (expr.Conditional c a b) ≡ 1 + nodes c + nodes a + nodes b
unfolding nodes hidden hidden-the_row-Expr-0 shape-the_row-Expr-0 hidden-the_row-Place-1 shape-the_row-Place-1 hidden-the_row-Expr-2 shape-the_row-Expr-2
nodes-Conditional c a b = refl

pub spots-Conditional : (rest : List Spot) (c : Expr) (a : Expr) (b : Expr) → spots (expr.Conditional c a b) rest ≡ spots c (spots a (spots b rest))
unfolding spots hidden hidden-the_row-Expr-0 shape-the_row-Expr-0 hidden-the_row-Place-1 shape-the_row-Place-1 hidden-the_row-Expr-2 shape-the_row-Expr-2
spots-Conditional rest c a b = refl

pub type_of-Comma : (a : Expr) (b : Expr) → type_of (expr.Comma a b) ≡ type_of b
unfolding type_of hidden hidden-the_row-Expr-0 shape-the_row-Expr-0 hidden-the_row-Place-1 shape-the_row-Place-1 hidden-the_row-Expr-2 shape-the_row-Expr-2
type_of-Comma a b = refl

pub nodes-Comma : (a : Expr) (b : Expr) → nodes (expr.Comma a b) ≡ 1 + nodes a + nodes b
unfolding nodes hidden hidden-the_row-Expr-0 shape-the_row-Expr-0 hidden-the_row-Place-1 shape-the_row-Place-1 hidden-the_row-Expr-2 shape-the_row-Expr-2
nodes-Comma a b = refl

pub spots-Comma : (rest : List Spot) (a : Expr) (b : Expr) → spots (expr.Comma a b) rest ≡ spots a (spots b rest)
unfolding spots hidden hidden-the_row-Expr-0 shape-the_row-Expr-0 hidden-the_row-Place-1 shape-the_row-Place-1 hidden-the_row-Expr-2 shape-the_row-Expr-2
spots-Comma rest a b = refl

pub type_of-Convert : (why : Cause) (t : CType) (e : Expr) → type_of (expr.Convert why t e) ≡ t
unfolding type_of hidden hidden-the_row-Expr-0 shape-the_row-Expr-0 hidden-the_row-Place-1 shape-the_row-Place-1 hidden-the_row-Expr-2 shape-the_row-Expr-2
type_of-Convert why t e = refl

pub nodes-Convert : (why : Cause) (t : CType) (e : Expr) → nodes (expr.Convert why t e) ≡ 1 + nodes e
unfolding nodes hidden hidden-the_row-Expr-0 shape-the_row-Expr-0 hidden-the_row-Place-1 shape-the_row-Place-1 hidden-the_row-Expr-2 shape-the_row-Expr-2
nodes-Convert why t e = refl

pub spots-Convert : (rest : List Spot) (why : Cause) (t : CType) (e : Expr) → spots (expr.Convert why t e) rest ≡ spots e rest
unfolding spots hidden hidden-the_row-Expr-0 shape-the_row-Expr-0 hidden-the_row-Place-1 shape-the_row-Place-1 hidden-the_row-Expr-2 shape-the_row-Expr-2
spots-Convert rest why t e = refl

pub type_of-Discard : (e : Expr) → type_of (expr.Discard e) ≡ Void
unfolding type_of hidden hidden-the_row-Expr-0 shape-the_row-Expr-0 hidden-the_row-Place-1 shape-the_row-Place-1 hidden-the_row-Expr-2 shape-the_row-Expr-2
type_of-Discard e = refl

pub nodes-Discard : (e : Expr) → nodes (expr.Discard e) ≡ 1 + nodes e
unfolding nodes hidden hidden-the_row-Expr-0 shape-the_row-Expr-0 hidden-the_row-Place-1 shape-the_row-Place-1 hidden-the_row-Expr-2 shape-the_row-Expr-2
nodes-Discard e = refl

pub spots-Discard : (rest : List Spot) (e : Expr) → spots (expr.Discard e) rest ≡ spots e rest
unfolding spots hidden hidden-the_row-Expr-0 shape-the_row-Expr-0 hidden-the_row-Place-1 shape-the_row-Place-1 hidden-the_row-Expr-2 shape-the_row-Expr-2
spots-Discard rest e = refl

nodes_row : (es : List Expr) → all_nodes (hidden-the_row-Expr-2 es) ≡ arguments_nodes es
unfolding nodes hidden hidden-the_row-Expr-0 shape-the_row-Expr-0 hidden-the_row-Place-1 shape-the_row-Place-1 hidden-the_row-Expr-2 shape-the_row-Expr-2
nodes_row [] = refl
nodes_row (e ∷ es) = ap (λ n. nodes e + n) (nodes_row es)

spots_row : (es : List Expr) (rest : List Spot) → all_spots (hidden-the_row-Expr-2 es) rest ≡ arguments_spots es rest
unfolding spots hidden hidden-the_row-Expr-0 shape-the_row-Expr-0 hidden-the_row-Place-1 shape-the_row-Place-1 hidden-the_row-Expr-2 shape-the_row-Expr-2
spots_row [] rest = refl
spots_row (e ∷ es) rest = ap (spots e) (spots_row es rest)

pub type_of-Call : (at site : ℕ) (c : Expr) (es : List Expr) → type_of (expr.Call at site c es) ≡ result_of (called_as c (type_of c))
unfolding type_of hidden hidden-the_row-Expr-0 shape-the_row-Expr-0 hidden-the_row-Place-1 shape-the_row-Place-1 hidden-the_row-Expr-2 shape-the_row-Expr-2
type_of-Call at site c es = refl

pub nodes-Call : (at site : ℕ) (c : Expr) (es : List Expr) → nodes (expr.Call at site c es) ≡ 1 + nodes c + arguments_nodes es
unfolding nodes hidden hidden-the_row-Expr-0 shape-the_row-Expr-0 hidden-the_row-Place-1 shape-the_row-Place-1 hidden-the_row-Expr-2 shape-the_row-Expr-2
nodes-Call at site c es = ap (λ n. 1 + nodes c + n) (nodes_row es)

pub spots-Call : (rest : List Spot) (at site : ℕ) (c : Expr) (es : List Expr) →
    spots (expr.Call at site c es) rest ≡ spots c (arguments_spots es (Calls at site (callee c) ∷ rest))
unfolding spots hidden hidden-the_row-Expr-0 shape-the_row-Expr-0 hidden-the_row-Place-1 shape-the_row-Place-1 hidden-the_row-Expr-2 shape-the_row-Expr-2
spots-Call rest at site c es = ap (spots c) (spots_row es (Calls at site (callee c) ∷ rest))

-- the types of all forms
pub ruleset type_rules = (place_type-Variable, place_type-Text, place_type-Indirection, place_type-Arrow, place_type-Element, place_type-Member, type_of-Number, type_of-Null, type_of-Sizeof, type_of-Function, type_of-LibraryFunction, type_of-TargetFunction, type_of-FunctionPointer, type_of-ArrayPointer, type_of-AddressOf, type_of-Load, type_of-Assign, type_of-Compound, type_of-Step, type_of-Unary, type_of-Binary, type_of-Logical, type_of-Conditional, type_of-Comma, type_of-Convert, type_of-Discard, type_of-Call)

-- the counts of all forms
pub ruleset node_rules = (place_nodes-Variable, place_nodes-Text, place_nodes-Indirection, place_nodes-Arrow, place_nodes-Element, place_nodes-Member, nodes-Number, nodes-Null, nodes-Sizeof, nodes-Function, nodes-LibraryFunction, nodes-TargetFunction, nodes-FunctionPointer, nodes-ArrayPointer, nodes-AddressOf, nodes-Load, nodes-Assign, nodes-Compound, nodes-Step, nodes-Unary, nodes-Binary, nodes-Logical, nodes-Conditional, nodes-Comma, nodes-Convert, nodes-Discard, nodes-Call)

-- the places of all forms
pub ruleset spot_rules = (place_spots-Variable, place_spots-Text, place_spots-Indirection, place_spots-Arrow, place_spots-Element, place_spots-Member, spots-Number, spots-Null, spots-Sizeof, spots-Function, spots-LibraryFunction, spots-TargetFunction, spots-FunctionPointer, spots-ArrayPointer, spots-AddressOf, spots-Load, spots-Assign, spots-Compound, spots-Step, spots-Unary, spots-Binary, spots-Logical, spots-Conditional, spots-Comma, spots-Convert, spots-Discard, spots-Call)
