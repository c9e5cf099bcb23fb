-- How many instructions a tree has, from those of its parts: one equation a form.
use Rattle.std.proofs.Common.{◌≡◌, refl, ap, ℕ, ◌+◌, List, [], ◌∷◌, Option, Some, None}
use denote.Hole.Carrier.{hidden}
use Rattle.core_unit.specs.Places.{callee}
use Rattle.core_unit.specs.declared.body.Braces.{Braces}
use Rattle.core_unit.specs.declared.body.Initializer.{Initializer}
use Rattle.core_unit.specs.declared.body.Initializer.TheBlock.{hidden-the_row-Initializer-0, shape-the_row-Initializer-0}
use Rattle.core_unit.specs.declared.body.Initializer.TheVariants as init
use Rattle.core_unit.specs.declared.body.LocalVariable.{LocalVariable}
use Rattle.core_unit.specs.declared.body.LoopKind.{LoopKind}
use Rattle.core_unit.specs.declared.body.LoopKind.TheVariants as loop_kind
use Rattle.core_unit.specs.declared.body.Stmt.{Stmt}
use Rattle.core_unit.specs.declared.body.Stmt.TheBlock.{hidden-the_row-Stmt-0, shape-the_row-Stmt-0, hidden-the_row-Stmt-1, shape-the_row-Stmt-1}
use Rattle.core_unit.specs.declared.body.Stmt.TheVariants as form
use Rattle.core_unit.specs.declared.expressions.Expr.{Expr}
use Rattle.core_unit.specs.declared.expressions.Expr.TheBlock.{hidden-the_row-Expr-0, shape-the_row-Expr-0, hidden-the_row-Place-1, shape-the_row-Place-1, hidden-the_row-Expr-2, shape-the_row-Expr-2}
use Rattle.core_unit.specs.declared.expressions.Expr.TheVariants as expr
use Rattle.core_unit.specs.declared.expressions.Place.{Place}
use Rattle.core_unit.specs.declared.expressions.Place.TheVariants as place
use Rattle.core_unit.specs.declared.expressions.Storage.{Storage}
use Rattle.core_unit.specs.declared.operators.BinaryOperator.{BinaryOperator}
use Rattle.core_unit.specs.declared.operators.Cause.{Cause}
use Rattle.core_unit.specs.declared.operators.LogicalOperator.{LogicalOperator}
use Rattle.core_unit.specs.declared.operators.PointerSide.{PointerSide}
use Rattle.core_unit.specs.declared.operators.Sign.{Sign}
use Rattle.core_unit.specs.declared.operators.StepValue.{StepValue}
use Rattle.core_unit.specs.declared.operators.UnaryOperator.{UnaryOperator}
use Rattle.core_unit.specs.declared.operators.Update.{Update}
use Rattle.eff_types.specs.declared.types.CType.{CType}
use Rattle.c_codegen.specs.Sizes.{call_size, size, place_size, row_size, arguments_size, initializer_size, initializers_size, listed_size, variable_size, listed_branches_size, loop_size, return_size, test_size, optional_size, statement_size, statements_size, list_size}

arguments_row : (es : List Expr) → row_size (hidden-the_row-Expr-2 es) ≡ arguments_size es
unfolding size hidden hidden-the_row-Expr-0 shape-the_row-Expr-0 hidden-the_row-Place-1 shape-the_row-Place-1 hidden-the_row-Expr-2 shape-the_row-Expr-2
arguments_row [] = refl
arguments_row (e ∷ es) = ap (λ n. size e + 1 + n) (arguments_row es)

listed_row : (is : List Initializer) → initializers_size (hidden-the_row-Initializer-0 is) ≡ listed_size is
unfolding initializer_size hidden hidden-the_row-Initializer-0 shape-the_row-Initializer-0
listed_row [] = refl
listed_row (x ∷ is) = ap (λ n. initializer_size x + n) (listed_row is)

list_row : (items : List Stmt) → statements_size (hidden-the_row-Stmt-0 items) ≡ list_size items
unfolding statement_size hidden hidden-the_row-Stmt-0 shape-the_row-Stmt-0 hidden-the_row-Stmt-1 shape-the_row-Stmt-1
list_row [] = refl
list_row (x ∷ items) = ap (λ n. statement_size x + n) (list_row items)

pub size-Variable : (at : ℕ) (storage : Storage) (t : CType) → place_size (place.Variable at storage t) ≡ 1
unfolding size hidden hidden-the_row-Expr-0 shape-the_row-Expr-0 hidden-the_row-Place-1 shape-the_row-Place-1 hidden-the_row-Expr-2 shape-the_row-Expr-2
size-Variable at storage t = refl

pub size-PlaceText : (at words : ℕ) → place_size (place.Text at words) ≡ 1
unfolding size hidden hidden-the_row-Expr-0 shape-the_row-Expr-0 hidden-the_row-Place-1 shape-the_row-Place-1 hidden-the_row-Expr-2 shape-the_row-Expr-2
size-PlaceText at words = refl

pub size-Indirection : (e : Expr) (t : CType) → place_size (place.Indirection e t) ≡ size e
unfolding size hidden hidden-the_row-Expr-0 shape-the_row-Expr-0 hidden-the_row-Place-1 shape-the_row-Place-1 hidden-the_row-Expr-2 shape-the_row-Expr-2
size-Indirection e t = refl

pub size-Arrow : (e : Expr) (k : ℕ) → place_size (place.Arrow e k) ≡ size e
unfolding size hidden hidden-the_row-Expr-0 shape-the_row-Expr-0 hidden-the_row-Place-1 shape-the_row-Place-1 hidden-the_row-Expr-2 shape-the_row-Expr-2
size-Arrow e k = refl

pub size-Element : (a b : Expr) (side : PointerSide) (words : ℕ) (t : CType) → place_size (place.Element a b side words t) ≡ size a + size b + 2
unfolding size hidden hidden-the_row-Expr-0 shape-the_row-Expr-0 hidden-the_row-Place-1 shape-the_row-Place-1 hidden-the_row-Expr-2 shape-the_row-Expr-2
size-Element a b side words t = refl

pub size-Member : (o : Place) (offset : ℕ) (t : CType) → place_size (place.Member o offset t) ≡ place_size o + 1
unfolding size hidden hidden-the_row-Expr-0 shape-the_row-Expr-0 hidden-the_row-Place-1 shape-the_row-Place-1 hidden-the_row-Expr-2 shape-the_row-Expr-2
size-Member o offset t = refl

pub size-Number : (sign : Sign) (bits : ℕ) → size (expr.Number sign bits) ≡ 1
unfolding size hidden hidden-the_row-Expr-0 shape-the_row-Expr-0 hidden-the_row-Place-1 shape-the_row-Place-1 hidden-the_row-Expr-2 shape-the_row-Expr-2
size-Number sign bits = refl

pub size-Null : size expr.Null ≡ 1
unfolding size hidden hidden-the_row-Expr-0 shape-the_row-Expr-0 hidden-the_row-Place-1 shape-the_row-Place-1 hidden-the_row-Expr-2 shape-the_row-Expr-2
size-Null = refl

pub size-Sizeof : (words : ℕ) → size (expr.Sizeof words) ≡ 1
unfolding size hidden hidden-the_row-Expr-0 shape-the_row-Expr-0 hidden-the_row-Place-1 shape-the_row-Place-1 hidden-the_row-Expr-2 shape-the_row-Expr-2
size-Sizeof words = refl

pub size-Function : (f : ℕ) (t : CType) → size (expr.Function f t) ≡ 1
unfolding size hidden hidden-the_row-Expr-0 shape-the_row-Expr-0 hidden-the_row-Place-1 shape-the_row-Place-1 hidden-the_row-Expr-2 shape-the_row-Expr-2
size-Function f t = refl

pub size-LibraryFunction : (row : ℕ) → size (expr.LibraryFunction row) ≡ 1
unfolding size hidden hidden-the_row-Expr-0 shape-the_row-Expr-0 hidden-the_row-Place-1 shape-the_row-Place-1 hidden-the_row-Expr-2 shape-the_row-Expr-2
size-LibraryFunction row = refl

pub size-TargetFunction : (e : Expr) → size (expr.TargetFunction e) ≡ size e
unfolding size hidden hidden-the_row-Expr-0 shape-the_row-Expr-0 hidden-the_row-Place-1 shape-the_row-Place-1 hidden-the_row-Expr-2 shape-the_row-Expr-2
size-TargetFunction e = refl

pub size-FunctionPointer : (e : Expr) → size (expr.FunctionPointer e) ≡ size e
unfolding size hidden hidden-the_row-Expr-0 shape-the_row-Expr-0 hidden-the_row-Place-1 shape-the_row-Place-1 hidden-the_row-Expr-2 shape-the_row-Expr-2
size-FunctionPointer e = refl

pub size-ArrayPointer : (o : Place) → size (expr.ArrayPointer o) ≡ place_size o
unfolding size hidden hidden-the_row-Expr-0 shape-the_row-Expr-0 hidden-the_row-Place-1 shape-the_row-Place-1 hidden-the_row-Expr-2 shape-the_row-Expr-2
size-ArrayPointer o = refl

pub size-AddressOf : (o : Place) → size (expr.AddressOf o) ≡ place_size o
unfolding size hidden hidden-the_row-Expr-0 shape-the_row-Expr-0 hidden-the_row-Place-1 shape-the_row-Place-1 hidden-the_row-Expr-2 shape-the_row-Expr-2
size-AddressOf o = refl

pub size-Load : (o : Place) → size (expr.Load o) ≡ place_size o + 1
unfolding size hidden hidden-the_row-Expr-0 shape-the_row-Expr-0 hidden-the_row-Place-1 shape-the_row-Place-1 hidden-the_row-Expr-2 shape-the_row-Expr-2
size-Load o = refl

pub size-Assign : (o : Place) (e : Expr) → size (expr.Assign o e) ≡ place_size o + size e + 2
unfolding size hidden hidden-the_row-Expr-0 shape-the_row-Expr-0 hidden-the_row-Place-1 shape-the_row-Place-1 hidden-the_row-Expr-2 shape-the_row-Expr-2
size-Assign o e = refl

pub size-Compound : (o : Place) (how : Update) (e : Expr) → size (expr.Compound o how e) ≡ place_size o + size e + 5
unfolding size hidden hidden-the_row-Expr-0 shape-the_row-Expr-0 hidden-the_row-Place-1 shape-the_row-Place-1 hidden-the_row-Expr-2 shape-the_row-Expr-2
size-Compound o how e = refl

pub size-Step : (o : Place) (how : Update) (which : StepValue) → size (expr.Step o how which) ≡ place_size o + 5
unfolding size hidden hidden-the_row-Expr-0 shape-the_row-Expr-0 hidden-the_row-Place-1 shape-the_row-Place-1 hidden-the_row-Expr-2 shape-the_row-Expr-2
size-Step o how which = refl

pub size-Unary : (operator : UnaryOperator) (e : Expr) → size (expr.Unary operator e) ≡ size e + 1
unfolding size hidden hidden-the_row-Expr-0 shape-the_row-Expr-0 hidden-the_row-Place-1 shape-the_row-Place-1 hidden-the_row-Expr-2 shape-the_row-Expr-2
size-Unary operator e = refl

pub size-Binary : (operator : BinaryOperator) (a b : Expr) → size (expr.Binary operator a b) ≡ size a + size b + 2
unfolding size hidden hidden-the_row-Expr-0 shape-the_row-Expr-0 hidden-the_row-Place-1 shape-the_row-Place-1 hidden-the_row-Expr-2 shape-the_row-Expr-2
size-Binary operator a b = refl

pub size-Logical : (operator : LogicalOperator) (a b : Expr) → size (expr.Logical operator a b) ≡ size a + size b + 2
unfolding size hidden hidden-the_row-Expr-0 shape-the_row-Expr-0 hidden-the_row-Place-1 shape-the_row-Place-1 hidden-the_row-Expr-2 shape-the_row-Expr-2
size-Logical operator a b = refl

pub size-Conditional : (c a b : Expr) → size (expr.Conditional c a b) ≡ size c + size a + size b + 2
unfolding size hidden hidden-the_row-Expr-0 shape-the_row-Expr-0 hidden-the_row-Place-1 shape-the_row-Place-1 hidden-the_row-Expr-2 shape-the_row-Expr-2
size-Conditional c a b = refl

pub size-Comma : (a b : Expr) → size (expr.Comma a b) ≡ size a + size b
unfolding size hidden hidden-the_row-Expr-0 shape-the_row-Expr-0 hidden-the_row-Place-1 shape-the_row-Place-1 hidden-the_row-Expr-2 shape-the_row-Expr-2
size-Comma a b = refl

pub size-Call : (at site : ℕ) (e : Expr) (es : List Expr) → size (expr.Call at site e es) ≡ call_size (callee e) (size e) (arguments_size es)
unfolding size hidden hidden-the_row-Expr-0 shape-the_row-Expr-0 hidden-the_row-Place-1 shape-the_row-Place-1 hidden-the_row-Expr-2 shape-the_row-Expr-2
size-Call at site e es = ap (λ n. call_size (callee e) (size e) n) (arguments_row es)

pub size-Convert : (why : Cause) (t : CType) (e : Expr) → size (expr.Convert why t e) ≡ size e
unfolding size hidden hidden-the_row-Expr-0 shape-the_row-Expr-0 hidden-the_row-Place-1 shape-the_row-Place-1 hidden-the_row-Expr-2 shape-the_row-Expr-2
size-Convert why t e = refl

pub size-Discard : (e : Expr) → size (expr.Discard e) ≡ size e
unfolding size hidden hidden-the_row-Expr-0 shape-the_row-Expr-0 hidden-the_row-Place-1 shape-the_row-Place-1 hidden-the_row-Expr-2 shape-the_row-Expr-2
size-Discard e = refl

pub size-Absent : (count : ℕ) → initializer_size (init.Absent count) ≡ 1
unfolding initializer_size hidden hidden-the_row-Initializer-0 shape-the_row-Initializer-0
size-Absent count = refl

pub size-Value : (round : Braces) (e : Expr) → initializer_size (init.Value round e) ≡ size e + 1
unfolding initializer_size hidden hidden-the_row-Initializer-0 shape-the_row-Initializer-0
size-Value round e = refl

pub size-List : (is : List Initializer) (count : ℕ) → initializer_size (init.List is count) ≡ listed_size is + 1
unfolding initializer_size hidden hidden-the_row-Initializer-0 shape-the_row-Initializer-0
size-List is count = ap (λ n. n + 1) (listed_row is)

pub size-Text : (bytes : List ℕ) (count : ℕ) → initializer_size (init.Text bytes count) ≡ 2
unfolding initializer_size hidden hidden-the_row-Initializer-0 shape-the_row-Initializer-0
size-Text bytes count = refl

pub size-Zeros : (count : ℕ) → initializer_size (init.Zeros count) ≡ 1
unfolding initializer_size hidden hidden-the_row-Initializer-0 shape-the_row-Initializer-0
size-Zeros count = refl

pub size-Mutex : initializer_size init.Mutex ≡ 1
unfolding initializer_size hidden hidden-the_row-Initializer-0 shape-the_row-Initializer-0
size-Mutex = refl

pub size-Block : (items : List Stmt) → statement_size (form.Block items) ≡ list_size items
unfolding statement_size hidden hidden-the_row-Stmt-0 shape-the_row-Stmt-0 hidden-the_row-Stmt-1 shape-the_row-Stmt-1
size-Block items = list_row items

pub size-LocalVariable : (v : LocalVariable) → statement_size (form.Variable v) ≡ variable_size v.storage v.initializer
unfolding statement_size hidden hidden-the_row-Stmt-0 shape-the_row-Stmt-0 hidden-the_row-Stmt-1 shape-the_row-Stmt-1
size-LocalVariable v = refl

pub size-Empty : statement_size form.Empty ≡ 0
unfolding statement_size hidden hidden-the_row-Stmt-0 shape-the_row-Stmt-0 hidden-the_row-Stmt-1 shape-the_row-Stmt-1
size-Empty = refl

pub size-Expression : (e : Expr) → statement_size (form.Expression e) ≡ size e
unfolding statement_size hidden hidden-the_row-Stmt-0 shape-the_row-Stmt-0 hidden-the_row-Stmt-1 shape-the_row-Stmt-1
size-Expression e = refl

pub size-If : (e : Expr) (item : Stmt) (others : List Stmt) → statement_size (form.If e item others) ≡ size e + listed_branches_size others (statement_size item) (list_size others)
unfolding statement_size hidden hidden-the_row-Stmt-0 shape-the_row-Stmt-0 hidden-the_row-Stmt-1 shape-the_row-Stmt-1
size-If e item [] = refl
size-If e item (first ∷ others) = ap (λ n. size e + (statement_size item + (statement_size first + n) + 2)) (list_row others)

pub size-Loop : (kind : LoopKind) (e : Expr) (body : Stmt) → statement_size (form.Loop kind e body) ≡ loop_size kind (size e) (statement_size body)
unfolding statement_size hidden hidden-the_row-Stmt-0 shape-the_row-Stmt-0 hidden-the_row-Stmt-1 shape-the_row-Stmt-1
size-Loop loop_kind.While e body = refl
size-Loop loop_kind.DoWhile e body = refl

pub size-For : (start : List Stmt) (test step : Option Expr) (body : Stmt) → statement_size (form.For start test step body) ≡ list_size start + test_size test + statement_size body + optional_size step + 2
unfolding statement_size hidden hidden-the_row-Stmt-0 shape-the_row-Stmt-0 hidden-the_row-Stmt-1 shape-the_row-Stmt-1
size-For start test step body = ap (λ n. n + test_size test + statement_size body + optional_size step + 2) (list_row start)

pub size-Break : statement_size form.Break ≡ 1
unfolding statement_size hidden hidden-the_row-Stmt-0 shape-the_row-Stmt-0 hidden-the_row-Stmt-1 shape-the_row-Stmt-1
size-Break = refl

pub size-Continue : statement_size form.Continue ≡ 1
unfolding statement_size hidden hidden-the_row-Stmt-0 shape-the_row-Stmt-0 hidden-the_row-Stmt-1 shape-the_row-Stmt-1
size-Continue = refl

pub size-Return : (e : Option Expr) → statement_size (form.Return e) ≡ return_size e
unfolding statement_size hidden hidden-the_row-Stmt-0 shape-the_row-Stmt-0 hidden-the_row-Stmt-1 shape-the_row-Stmt-1
size-Return None = refl
size-Return (Some e) = refl

-- the sizes of expressions and places, of initializers, of statements
pub ruleset size_rules = (size-Variable, size-PlaceText, size-Indirection, size-Arrow, size-Element, size-Member, size-Number, size-Null, size-Sizeof, size-Function, size-LibraryFunction, size-TargetFunction, size-FunctionPointer, size-ArrayPointer, size-AddressOf, size-Load, size-Assign, size-Compound, size-Step, size-Unary, size-Binary, size-Logical, size-Conditional, size-Comma, size-Call, size-Convert, size-Discard)

pub ruleset initializer_size_rules = (size-Absent, size-Value, size-List, size-Text, size-Zeros, size-Mutex)

pub ruleset statement_size_rules = (size-Block, size-LocalVariable, size-Empty, size-Expression, size-If, size-Loop, size-For, size-Break, size-Continue, size-Return)
