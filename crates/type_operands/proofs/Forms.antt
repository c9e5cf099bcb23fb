-- What the sign and the worth of an expression are, from those of its parts: one equation a form.
use Rattle.std.proofs.Common.{◌≡◌, refl, ℕ, List, Some, None}
use denote.Hole.Carrier.{hidden}
use Rattle.arithmetic.specs.Operations.{operation_of}
use Rattle.arithmetic.specs.Values.{applied, applied_to, number}
use Rattle.eff_types.specs.declared.types.CType.{CType}
use Rattle.core_unit.specs.Shapes.{sign_of}
use Rattle.core_unit.specs.Typing.{type_of}
use Rattle.core_unit.specs.declared.expressions.Expr.{Expr}
use Rattle.core_unit.specs.declared.expressions.Expr.TheBlock.{hidden-the_row-Expr-0, shape-the_row-Expr-0, hidden-the_row-Place-1, shape-the_row-Place-1, hidden-the_row-Expr-2, shape-the_row-Expr-2}
use Rattle.core_unit.specs.declared.expressions.Expr.TheVariants as make
use Rattle.core_unit.specs.declared.expressions.Place.{Place}
use Rattle.core_unit.specs.declared.operators.BinaryOperator.{BinaryOperator}
use Rattle.core_unit.specs.declared.operators.Cause.{Cause}
use Rattle.core_unit.specs.declared.operators.LogicalOperator.{LogicalOperator}
use Rattle.core_unit.specs.declared.operators.Sign.{Sign}
use Rattle.core_unit.specs.declared.operators.Sign.TheVariants.{Signed, Unsigned as Without}
use Rattle.core_unit.specs.declared.operators.StepValue.{StepValue}
use Rattle.core_unit.specs.declared.operators.UnaryOperator.{UnaryOperator}
use Rattle.core_unit.specs.declared.operators.Update.{Update}
use Rattle.core_unit.specs.declared.words.Word.TheVariants.{Zero}
use Rattle.type_rules.specs.Constants.{worth, outcome, of_one, of_both, of_logical, of_choice}
use Rattle.type_rules.specs.declared.found.Worth.TheVariants.{Known, Varying}
use Rattle.type_operands.specs.Signs.{constant_sign, number_sign, unary_sign, sign_source, sign_from}

pub constant_sign-Number : (sign : Sign) (bits : ℕ) → constant_sign (make.Number sign bits) ≡ Some sign
unfolding constant_sign hidden hidden-the_row-Expr-0 shape-the_row-Expr-0 hidden-the_row-Place-1 shape-the_row-Place-1 hidden-the_row-Expr-2 shape-the_row-Expr-2
constant_sign-Number sign bits = refl

pub constant_sign-Null : constant_sign make.Null ≡ None
unfolding constant_sign hidden hidden-the_row-Expr-0 shape-the_row-Expr-0 hidden-the_row-Place-1 shape-the_row-Place-1 hidden-the_row-Expr-2 shape-the_row-Expr-2
constant_sign-Null = refl

pub constant_sign-Sizeof : (words : ℕ) → constant_sign (make.Sizeof words) ≡ Some Without
unfolding constant_sign hidden hidden-the_row-Expr-0 shape-the_row-Expr-0 hidden-the_row-Place-1 shape-the_row-Place-1 hidden-the_row-Expr-2 shape-the_row-Expr-2
constant_sign-Sizeof words = refl

pub constant_sign-Function : (f : ℕ) (t : CType) → constant_sign (make.Function f t) ≡ None
unfolding constant_sign hidden hidden-the_row-Expr-0 shape-the_row-Expr-0 hidden-the_row-Place-1 shape-the_row-Place-1 hidden-the_row-Expr-2 shape-the_row-Expr-2
constant_sign-Function f t = refl

pub constant_sign-LibraryFunction : (row : ℕ) → constant_sign (make.LibraryFunction row) ≡ None
unfolding constant_sign hidden hidden-the_row-Expr-0 shape-the_row-Expr-0 hidden-the_row-Place-1 shape-the_row-Place-1 hidden-the_row-Expr-2 shape-the_row-Expr-2
constant_sign-LibraryFunction row = refl

pub constant_sign-TargetFunction : (e : Expr) → constant_sign (make.TargetFunction e) ≡ None
unfolding constant_sign hidden hidden-the_row-Expr-0 shape-the_row-Expr-0 hidden-the_row-Place-1 shape-the_row-Place-1 hidden-the_row-Expr-2 shape-the_row-Expr-2
constant_sign-TargetFunction e = refl

pub constant_sign-FunctionPointer : (e : Expr) → constant_sign (make.FunctionPointer e) ≡ None
unfolding constant_sign hidden hidden-the_row-Expr-0 shape-the_row-Expr-0 hidden-the_row-Place-1 shape-the_row-Place-1 hidden-the_row-Expr-2 shape-the_row-Expr-2
constant_sign-FunctionPointer e = refl

pub constant_sign-ArrayPointer : (p : Place) → constant_sign (make.ArrayPointer p) ≡ None
unfolding constant_sign hidden hidden-the_row-Expr-0 shape-the_row-Expr-0 hidden-the_row-Place-1 shape-the_row-Place-1 hidden-the_row-Expr-2 shape-the_row-Expr-2
constant_sign-ArrayPointer p = refl

pub constant_sign-AddressOf : (p : Place) → constant_sign (make.AddressOf p) ≡ None
unfolding constant_sign hidden hidden-the_row-Expr-0 shape-the_row-Expr-0 hidden-the_row-Place-1 shape-the_row-Place-1 hidden-the_row-Expr-2 shape-the_row-Expr-2
constant_sign-AddressOf p = refl

pub constant_sign-Load : (p : Place) → constant_sign (make.Load p) ≡ None
unfolding constant_sign hidden hidden-the_row-Expr-0 shape-the_row-Expr-0 hidden-the_row-Place-1 shape-the_row-Place-1 hidden-the_row-Expr-2 shape-the_row-Expr-2
constant_sign-Load p = refl

pub constant_sign-Assign : (p : Place) (e : Expr) → constant_sign (make.Assign p e) ≡ None
unfolding constant_sign hidden hidden-the_row-Expr-0 shape-the_row-Expr-0 hidden-the_row-Place-1 shape-the_row-Place-1 hidden-the_row-Expr-2 shape-the_row-Expr-2
constant_sign-Assign p e = refl

pub constant_sign-Compound : (p : Place) (update : Update) (e : Expr) → constant_sign (make.Compound p update e) ≡ None
unfolding constant_sign hidden hidden-the_row-Expr-0 shape-the_row-Expr-0 hidden-the_row-Place-1 shape-the_row-Place-1 hidden-the_row-Expr-2 shape-the_row-Expr-2
constant_sign-Compound p update e = refl

pub constant_sign-Step : (p : Place) (update : Update) (value : StepValue) → constant_sign (make.Step p update value) ≡ None
unfolding constant_sign hidden hidden-the_row-Expr-0 shape-the_row-Expr-0 hidden-the_row-Place-1 shape-the_row-Place-1 hidden-the_row-Expr-2 shape-the_row-Expr-2
constant_sign-Step p update value = refl

pub constant_sign-Unary : (unary : UnaryOperator) (e : Expr) → constant_sign (make.Unary unary e) ≡ Some (unary_sign unary)
unfolding constant_sign hidden hidden-the_row-Expr-0 shape-the_row-Expr-0 hidden-the_row-Place-1 shape-the_row-Place-1 hidden-the_row-Expr-2 shape-the_row-Expr-2
constant_sign-Unary unary e = refl

pub constant_sign-Binary : (operator : BinaryOperator) (a : Expr) (b : Expr) → constant_sign (make.Binary operator a b) ≡ sign_from (sign_source operator) (constant_sign a) (constant_sign b)
unfolding constant_sign hidden hidden-the_row-Expr-0 shape-the_row-Expr-0 hidden-the_row-Place-1 shape-the_row-Place-1 hidden-the_row-Expr-2 shape-the_row-Expr-2
constant_sign-Binary operator a b = refl

pub constant_sign-Logical : (logical : LogicalOperator) (a : Expr) (b : Expr) → constant_sign (make.Logical logical a b) ≡ Some Signed
unfolding constant_sign hidden hidden-the_row-Expr-0 shape-the_row-Expr-0 hidden-the_row-Place-1 shape-the_row-Place-1 hidden-the_row-Expr-2 shape-the_row-Expr-2
constant_sign-Logical logical a b = refl

pub constant_sign-Conditional : (c : Expr) (a : Expr) (b : Expr) → constant_sign (make.Conditional c a b) ≡ constant_sign a
unfolding constant_sign hidden hidden-the_row-Expr-0 shape-the_row-Expr-0 hidden-the_row-Place-1 shape-the_row-Place-1 hidden-the_row-Expr-2 shape-the_row-Expr-2
constant_sign-Conditional c a b = refl

pub constant_sign-Comma : (a : Expr) (b : Expr) → constant_sign (make.Comma a b) ≡ None
unfolding constant_sign hidden hidden-the_row-Expr-0 shape-the_row-Expr-0 hidden-the_row-Place-1 shape-the_row-Place-1 hidden-the_row-Expr-2 shape-the_row-Expr-2
constant_sign-Comma a b = refl

pub constant_sign-Call : (at : ℕ) (site : ℕ) (c : Expr) (es : List Expr) → constant_sign (make.Call at site c es) ≡ None
unfolding constant_sign hidden hidden-the_row-Expr-0 shape-the_row-Expr-0 hidden-the_row-Place-1 shape-the_row-Place-1 hidden-the_row-Expr-2 shape-the_row-Expr-2
constant_sign-Call at site c es = refl

pub constant_sign-Convert : (why : Cause) (t : CType) (e : Expr) → constant_sign (make.Convert why t e) ≡ number_sign t
unfolding constant_sign hidden hidden-the_row-Expr-0 shape-the_row-Expr-0 hidden-the_row-Place-1 shape-the_row-Place-1 hidden-the_row-Expr-2 shape-the_row-Expr-2
constant_sign-Convert why t e = refl

pub constant_sign-Discard : (e : Expr) → constant_sign (make.Discard e) ≡ None
unfolding constant_sign hidden hidden-the_row-Expr-0 shape-the_row-Expr-0 hidden-the_row-Place-1 shape-the_row-Place-1 hidden-the_row-Expr-2 shape-the_row-Expr-2
constant_sign-Discard e = refl

pub worth-Number : (sign : Sign) (bits : ℕ) → worth (make.Number sign bits) ≡ Known (number bits)
unfolding worth hidden hidden-the_row-Expr-0 shape-the_row-Expr-0 hidden-the_row-Place-1 shape-the_row-Place-1 hidden-the_row-Expr-2 shape-the_row-Expr-2
worth-Number sign bits = refl

pub worth-Null : worth make.Null ≡ Known Zero
unfolding worth hidden hidden-the_row-Expr-0 shape-the_row-Expr-0 hidden-the_row-Place-1 shape-the_row-Place-1 hidden-the_row-Expr-2 shape-the_row-Expr-2
worth-Null = refl

pub worth-Sizeof : (words : ℕ) → worth (make.Sizeof words) ≡ Known (number words)
unfolding worth hidden hidden-the_row-Expr-0 shape-the_row-Expr-0 hidden-the_row-Place-1 shape-the_row-Place-1 hidden-the_row-Expr-2 shape-the_row-Expr-2
worth-Sizeof words = refl

pub worth-Function : (f : ℕ) (t : CType) → worth (make.Function f t) ≡ Varying
unfolding worth hidden hidden-the_row-Expr-0 shape-the_row-Expr-0 hidden-the_row-Place-1 shape-the_row-Place-1 hidden-the_row-Expr-2 shape-the_row-Expr-2
worth-Function f t = refl

pub worth-LibraryFunction : (row : ℕ) → worth (make.LibraryFunction row) ≡ Varying
unfolding worth hidden hidden-the_row-Expr-0 shape-the_row-Expr-0 hidden-the_row-Place-1 shape-the_row-Place-1 hidden-the_row-Expr-2 shape-the_row-Expr-2
worth-LibraryFunction row = refl

pub worth-TargetFunction : (e : Expr) → worth (make.TargetFunction e) ≡ Varying
unfolding worth hidden hidden-the_row-Expr-0 shape-the_row-Expr-0 hidden-the_row-Place-1 shape-the_row-Place-1 hidden-the_row-Expr-2 shape-the_row-Expr-2
worth-TargetFunction e = refl

pub worth-FunctionPointer : (e : Expr) → worth (make.FunctionPointer e) ≡ Varying
unfolding worth hidden hidden-the_row-Expr-0 shape-the_row-Expr-0 hidden-the_row-Place-1 shape-the_row-Place-1 hidden-the_row-Expr-2 shape-the_row-Expr-2
worth-FunctionPointer e = refl

pub worth-ArrayPointer : (p : Place) → worth (make.ArrayPointer p) ≡ Varying
unfolding worth hidden hidden-the_row-Expr-0 shape-the_row-Expr-0 hidden-the_row-Place-1 shape-the_row-Place-1 hidden-the_row-Expr-2 shape-the_row-Expr-2
worth-ArrayPointer p = refl

pub worth-AddressOf : (p : Place) → worth (make.AddressOf p) ≡ Varying
unfolding worth hidden hidden-the_row-Expr-0 shape-the_row-Expr-0 hidden-the_row-Place-1 shape-the_row-Place-1 hidden-the_row-Expr-2 shape-the_row-Expr-2
worth-AddressOf p = refl

pub worth-Load : (p : Place) → worth (make.Load p) ≡ Varying
unfolding worth hidden hidden-the_row-Expr-0 shape-the_row-Expr-0 hidden-the_row-Place-1 shape-the_row-Place-1 hidden-the_row-Expr-2 shape-the_row-Expr-2
worth-Load p = refl

pub worth-Assign : (p : Place) (e : Expr) → worth (make.Assign p e) ≡ Varying
unfolding worth hidden hidden-the_row-Expr-0 shape-the_row-Expr-0 hidden-the_row-Place-1 shape-the_row-Place-1 hidden-the_row-Expr-2 shape-the_row-Expr-2
worth-Assign p e = refl

pub worth-Compound : (p : Place) (update : Update) (e : Expr) → worth (make.Compound p update e) ≡ Varying
unfolding worth hidden hidden-the_row-Expr-0 shape-the_row-Expr-0 hidden-the_row-Place-1 shape-the_row-Place-1 hidden-the_row-Expr-2 shape-the_row-Expr-2
worth-Compound p update e = refl

pub worth-Step : (p : Place) (update : Update) (value : StepValue) → worth (make.Step p update value) ≡ Varying
unfolding worth hidden hidden-the_row-Expr-0 shape-the_row-Expr-0 hidden-the_row-Place-1 shape-the_row-Place-1 hidden-the_row-Expr-2 shape-the_row-Expr-2
worth-Step p update value = refl

pub worth-Unary : (unary : UnaryOperator) (e : Expr) → worth (make.Unary unary e) ≡ of_one (λ x. outcome (applied_to unary x)) (worth e)
unfolding worth hidden hidden-the_row-Expr-0 shape-the_row-Expr-0 hidden-the_row-Place-1 shape-the_row-Place-1 hidden-the_row-Expr-2 shape-the_row-Expr-2
worth-Unary unary e = refl

pub worth-Binary : (operator : BinaryOperator) (a : Expr) (b : Expr) → worth (make.Binary operator a b) ≡ of_both (λ x y. outcome (applied (operation_of operator (sign_of (type_of a)) (sign_of (type_of b))) x y)) (worth a) (worth b)
unfolding worth hidden hidden-the_row-Expr-0 shape-the_row-Expr-0 hidden-the_row-Place-1 shape-the_row-Place-1 hidden-the_row-Expr-2 shape-the_row-Expr-2
worth-Binary operator a b = refl

pub worth-Logical : (logical : LogicalOperator) (a : Expr) (b : Expr) → worth (make.Logical logical a b) ≡ of_logical logical (worth a) (worth b)
unfolding worth hidden hidden-the_row-Expr-0 shape-the_row-Expr-0 hidden-the_row-Place-1 shape-the_row-Place-1 hidden-the_row-Expr-2 shape-the_row-Expr-2
worth-Logical logical a b = refl

pub worth-Conditional : (c : Expr) (a : Expr) (b : Expr) → worth (make.Conditional c a b) ≡ of_choice (worth c) (worth a) (worth b)
unfolding worth hidden hidden-the_row-Expr-0 shape-the_row-Expr-0 hidden-the_row-Place-1 shape-the_row-Place-1 hidden-the_row-Expr-2 shape-the_row-Expr-2
worth-Conditional c a b = refl

pub worth-Comma : (a : Expr) (b : Expr) → worth (make.Comma a b) ≡ Varying
unfolding worth hidden hidden-the_row-Expr-0 shape-the_row-Expr-0 hidden-the_row-Place-1 shape-the_row-Place-1 hidden-the_row-Expr-2 shape-the_row-Expr-2
worth-Comma a b = refl

pub worth-Call : (at : ℕ) (site : ℕ) (c : Expr) (es : List Expr) → worth (make.Call at site c es) ≡ Varying
unfolding worth hidden hidden-the_row-Expr-0 shape-the_row-Expr-0 hidden-the_row-Place-1 shape-the_row-Place-1 hidden-the_row-Expr-2 shape-the_row-Expr-2
worth-Call at site c es = refl

pub worth-Convert : (why : Cause) (t : CType) (e : Expr) → worth (make.Convert why t e) ≡ worth e
unfolding worth hidden hidden-the_row-Expr-0 shape-the_row-Expr-0 hidden-the_row-Place-1 shape-the_row-Place-1 hidden-the_row-Expr-2 shape-the_row-Expr-2
worth-Convert why t e = refl

pub worth-Discard : (e : Expr) → worth (make.Discard e) ≡ Varying
unfolding worth hidden hidden-the_row-Expr-0 shape-the_row-Expr-0 hidden-the_row-Place-1 shape-the_row-Place-1 hidden-the_row-Expr-2 shape-the_row-Expr-2
worth-Discard e = refl

-- the signs of all forms
pub ruleset sign_rules = (constant_sign-Number, constant_sign-Null, constant_sign-Sizeof, constant_sign-Function, constant_sign-LibraryFunction, constant_sign-TargetFunction, constant_sign-FunctionPointer, constant_sign-ArrayPointer, constant_sign-AddressOf, constant_sign-Load, constant_sign-Assign, constant_sign-Compound, constant_sign-Step, constant_sign-Unary, constant_sign-Binary, constant_sign-Logical, constant_sign-Conditional, constant_sign-Comma, constant_sign-Call, constant_sign-Convert, constant_sign-Discard)

-- the worth of all forms but those of an operator with one operand or two
pub ruleset worth_rules = (worth-Number, worth-Null, worth-Sizeof, worth-Function, worth-LibraryFunction, worth-TargetFunction, worth-FunctionPointer, worth-ArrayPointer, worth-AddressOf, worth-Load, worth-Assign, worth-Compound, worth-Step, worth-Logical, worth-Conditional, worth-Comma, worth-Call, worth-Convert, worth-Discard)
