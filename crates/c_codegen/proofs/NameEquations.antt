-- The first missing function among those that a tree names, from those of its parts: one equation a form.
use Rattle.std.proofs.Common.{◌≡◌, refl, sym, ap, ◌∙◌, ℕ, zero, suc, ◌<◌, ◌+◌, min, List, [], ◌∷◌, ◌++◌, length, get_or, take, Option, Some, None, arith, slice_index}
use Rattle.std.proofs.lemmas.Grind.{flat_map-append}
use Rattle.std.proofs.lemmas.List.{take_more}
use Rattle.std.specs.Prelude.{flat_map}
use denote.Hole.Carrier.{hidden}
use Rattle.core_unit.specs.declared.body.Braces.{Braces}
use Rattle.core_unit.specs.declared.body.Initializer.{Initializer}
use Rattle.core_unit.specs.declared.body.Initializer.TheBlock.{hidden-the_row-Initializer-0, shape-the_row-Initializer-0}
use Rattle.core_unit.specs.declared.body.Initializer.TheVariants as init
use Rattle.core_unit.specs.declared.body.LocalVariable.{LocalVariable}
use Rattle.core_unit.specs.declared.body.LoopKind.{LoopKind}
use Rattle.core_unit.specs.declared.body.Stmt.{Stmt}
use Rattle.core_unit.specs.declared.body.Stmt.TheBlock.{hidden-the_row-Stmt-0, shape-the_row-Stmt-0, hidden-the_row-Stmt-1, shape-the_row-Stmt-1}
use Rattle.core_unit.specs.declared.body.Stmt.TheVariants as stmt
use Rattle.core_unit.specs.declared.expressions.Expr.{Expr}
use Rattle.core_unit.specs.declared.expressions.Expr.TheBlock.{hidden-the_row-Expr-0, shape-the_row-Expr-0, hidden-the_row-Place-1, shape-the_row-Place-1, hidden-the_row-Expr-2, shape-the_row-Expr-2}
use Rattle.core_unit.specs.declared.expressions.Expr.TheVariants as expr
use Rattle.core_unit.specs.declared.expressions.Place.{Place}
use Rattle.core_unit.specs.declared.expressions.Place.TheVariants as place
use Rattle.core_unit.specs.declared.expressions.Storage.{Storage}
use Rattle.core_unit.specs.declared.operators.BinaryOperator.{BinaryOperator}
use Rattle.core_unit.specs.declared.operators.Cause.{Cause}
use Rattle.core_unit.specs.declared.operators.LogicalOperator.{LogicalOperator}
use Rattle.core_unit.specs.declared.operators.PointerSide.{PointerSide}
use Rattle.core_unit.specs.declared.operators.Sign.{Sign}
use Rattle.core_unit.specs.declared.operators.StepValue.{StepValue}
use Rattle.core_unit.specs.declared.operators.UnaryOperator.{UnaryOperator}
use Rattle.core_unit.specs.declared.operators.Update.{Update}
use Rattle.core_unit.specs.declared.tables.UnitParts.{UnitParts}
use Rattle.eff_types.specs.declared.types.CType.{CType}
use Rattle.c_codegen.specs.Names.{place_names, names, all_names, optional_names, initializer_names, initializers_names, statement_names, statements_names, used_functions, function_names, word_names}
use Rattle.c_codegen.specs.Refusals.{lesser, missing, first_missing}

lesser_none : (a : Option ℕ) → lesser a None ≡ a
unfolding lesser
lesser_none None = refl
lesser_none (Some x) = refl

lesser_assoc : (a b c : Option ℕ) → lesser a (lesser b c) ≡ lesser (lesser a b) c
unfolding lesser
lesser_assoc None b c = refl
lesser_assoc (Some x) None c = refl
lesser_assoc (Some x) (Some y) None = refl
lesser_assoc (Some x) (Some y) (Some z) = let same : min x (min y z) ≡ min (min x y) z = omega arith in ap Some same

-- of two lists
pub first_append : (u : UnitParts) (xs ys : List ℕ) → first_missing u (xs ++ ys) ≡ lesser (first_missing u xs) (first_missing u ys)
unfolding first_missing lesser
first_append u [] ys = refl
first_append u (x ∷ xs) ys = ap (lesser (missing u x)) (first_append u xs ys) ∙ lesser_assoc (missing u x) (first_missing u xs) (first_missing u ys)

pub first_none : (u : UnitParts) → first_missing u [] ≡ None
unfolding first_missing
first_none u = refl

pub first_one : (u : UnitParts) (function : ℕ) → first_missing u (function ∷ []) ≡ missing u function
unfolding first_missing
first_one u function = lesser_none (missing u function)

-- of three and four lists
first_three : (u : UnitParts) (xs ys zs : List ℕ) → first_missing u (xs ++ (ys ++ zs)) ≡ lesser (first_missing u xs) (lesser (first_missing u ys) (first_missing u zs))
first_three u xs ys zs = first_append u xs (ys ++ zs) ∙ ap (lesser (first_missing u xs)) (first_append u ys zs)

first_four : (u : UnitParts) (xs ys zs vs : List ℕ) → first_missing u (xs ++ (ys ++ (zs ++ vs))) ≡ lesser (first_missing u xs) (lesser (first_missing u ys) (lesser (first_missing u zs) (first_missing u vs)))
first_four u xs ys zs vs = first_append u xs (ys ++ (zs ++ vs)) ∙ ap (lesser (first_missing u xs)) (first_three u ys zs vs)

-- of a list of trees, one more
pub first_more : {T : Type 0} (u : UnitParts) (named : T → List ℕ) (xs : List T) (i : ℕ) (x : T) (first found next : Option ℕ) → i < length xs → x ≡ get_or xs i x →
    first ≡ first_missing u (flat_map named (take i xs)) → found ≡ first_missing u (named x) → next ≡ lesser first found → next ≡ first_missing u (flat_map named (take (i + 1) xs))
first_more u named xs i x first found next below is so_far one more =
    let front : take (i + 1) xs ≡ take i xs ++ x ∷ [] = take_more xs i x below ∙ ap (λ y. take i xs ++ y ∷ []) (sym is) in
    more ∙ ap (λ a. lesser a found) so_far ∙ ap (lesser (first_missing u (flat_map named (take i xs)))) (one ∙ ap (first_missing u) (sym (single (named x))))
    ∙ sym (first_append u (flat_map named (take i xs)) (flat_map named (x ∷ []))) ∙ ap (first_missing u) (sym (flat_map-append named (take i xs) (x ∷ []))) ∙ ap (λ ys. first_missing u (flat_map named ys)) (sym front)
  where
    single : (l : List ℕ) → l ++ [] ≡ l
    single [] = refl
    single (y ∷ l) = ap (λ k. y ∷ k) (single l)

-- and of a list of words
pub first_more_word : (u : UnitParts) (xs : List ℕ) (i : ℕ) (first found next : Option ℕ) → i < length xs → first ≡ first_missing u (flat_map word_names (take i xs)) →
    found ≡ first_missing u (word_names (slice_index xs i)) → next ≡ lesser first found → next ≡ first_missing u (flat_map word_names (take (i + 1) xs))
first_more_word u xs i first found next below so_far one more = first_more u word_names xs i (slice_index xs i) first found next below (there xs i below) so_far one more
  where
    there : (xs : List ℕ) (i : ℕ) → i < length xs → slice_index xs i ≡ get_or xs i (slice_index xs i)
    there [] i low = absurd (omega (arith, low))
    there (x ∷ xs) zero low = refl
    there (x ∷ xs) (suc i) low = there xs i (omega (arith, low))

arguments_row : (es : List Expr) → all_names (hidden-the_row-Expr-2 es) ≡ flat_map names es
unfolding names hidden hidden-the_row-Expr-0 shape-the_row-Expr-0 hidden-the_row-Place-1 shape-the_row-Place-1 hidden-the_row-Expr-2 shape-the_row-Expr-2
arguments_row [] = refl
arguments_row (e ∷ es) = ap (λ l. names e ++ l) (arguments_row es)

listed_row : (is : List Initializer) → initializers_names (hidden-the_row-Initializer-0 is) ≡ flat_map initializer_names is
unfolding initializer_names hidden hidden-the_row-Initializer-0 shape-the_row-Initializer-0
listed_row [] = refl
listed_row (x ∷ is) = ap (λ l. initializer_names x ++ l) (listed_row is)

list_row : (items : List Stmt) → statements_names (hidden-the_row-Stmt-0 items) ≡ flat_map statement_names items
unfolding statement_names hidden hidden-the_row-Stmt-0 shape-the_row-Stmt-0 hidden-the_row-Stmt-1 shape-the_row-Stmt-1
list_row [] = refl
list_row (x ∷ items) = ap (λ l. statement_names x ++ l) (list_row items)

pub first-Variable : (u : UnitParts) (at : ℕ) (storage : Storage) (t : CType) → first_missing u (place_names (place.Variable at storage t)) ≡ None
unfolding names first_missing hidden hidden-the_row-Expr-0 shape-the_row-Expr-0 hidden-the_row-Place-1 shape-the_row-Place-1 hidden-the_row-Expr-2 shape-the_row-Expr-2
first-Variable u at storage t = refl

pub first-PlaceText : (u : UnitParts) (at words : ℕ) → first_missing u (place_names (place.Text at words)) ≡ None
unfolding names first_missing hidden hidden-the_row-Expr-0 shape-the_row-Expr-0 hidden-the_row-Place-1 shape-the_row-Place-1 hidden-the_row-Expr-2 shape-the_row-Expr-2
first-PlaceText u at words = refl

pub first-Indirection : (u : UnitParts) (e : Expr) (t : CType) → first_missing u (place_names (place.Indirection e t)) ≡ first_missing u (names e)
unfolding names hidden hidden-the_row-Expr-0 shape-the_row-Expr-0 hidden-the_row-Place-1 shape-the_row-Place-1 hidden-the_row-Expr-2 shape-the_row-Expr-2
first-Indirection u e t = refl

pub first-Arrow : (u : UnitParts) (e : Expr) (structure : ℕ) → first_missing u (place_names (place.Arrow e structure)) ≡ first_missing u (names e)
unfolding names hidden hidden-the_row-Expr-0 shape-the_row-Expr-0 hidden-the_row-Place-1 shape-the_row-Place-1 hidden-the_row-Expr-2 shape-the_row-Expr-2
first-Arrow u e structure = refl

pub first-Element : (u : UnitParts) (a b : Expr) (side : PointerSide) (words : ℕ) (t : CType) → first_missing u (place_names (place.Element a b side words t)) ≡ lesser (first_missing u (names a)) (first_missing u (names b))
unfolding names hidden hidden-the_row-Expr-0 shape-the_row-Expr-0 hidden-the_row-Place-1 shape-the_row-Place-1 hidden-the_row-Expr-2 shape-the_row-Expr-2
first-Element u a b side words t = first_append u (names a) (names b)

pub first-Member : (u : UnitParts) (o : Place) (offset : ℕ) (t : CType) → first_missing u (place_names (place.Member o offset t)) ≡ first_missing u (place_names o)
unfolding names hidden hidden-the_row-Expr-0 shape-the_row-Expr-0 hidden-the_row-Place-1 shape-the_row-Place-1 hidden-the_row-Expr-2 shape-the_row-Expr-2
first-Member u o offset t = refl

pub first-Number : (u : UnitParts) (sign : Sign) (bits : ℕ) → first_missing u (names (expr.Number sign bits)) ≡ None
unfolding names first_missing hidden hidden-the_row-Expr-0 shape-the_row-Expr-0 hidden-the_row-Place-1 shape-the_row-Place-1 hidden-the_row-Expr-2 shape-the_row-Expr-2
first-Number u sign bits = refl

pub first-Null : (u : UnitParts) → first_missing u (names (expr.Null)) ≡ None
unfolding names first_missing hidden hidden-the_row-Expr-0 shape-the_row-Expr-0 hidden-the_row-Place-1 shape-the_row-Place-1 hidden-the_row-Expr-2 shape-the_row-Expr-2
first-Null u = refl

pub first-Sizeof : (u : UnitParts) (words : ℕ) → first_missing u (names (expr.Sizeof words)) ≡ None
unfolding names first_missing hidden hidden-the_row-Expr-0 shape-the_row-Expr-0 hidden-the_row-Place-1 shape-the_row-Place-1 hidden-the_row-Expr-2 shape-the_row-Expr-2
first-Sizeof u words = refl

pub first-Function : (u : UnitParts) (function : ℕ) (t : CType) → first_missing u (names (expr.Function function t)) ≡ missing u function
unfolding names hidden hidden-the_row-Expr-0 shape-the_row-Expr-0 hidden-the_row-Place-1 shape-the_row-Place-1 hidden-the_row-Expr-2 shape-the_row-Expr-2
first-Function u function t = first_one u function

pub first-LibraryFunction : (u : UnitParts) (row : ℕ) → first_missing u (names (expr.LibraryFunction row)) ≡ None
unfolding names first_missing hidden hidden-the_row-Expr-0 shape-the_row-Expr-0 hidden-the_row-Place-1 shape-the_row-Place-1 hidden-the_row-Expr-2 shape-the_row-Expr-2
first-LibraryFunction u row = refl

pub first-TargetFunction : (u : UnitParts) (e : Expr) → first_missing u (names (expr.TargetFunction e)) ≡ first_missing u (names e)
unfolding names hidden hidden-the_row-Expr-0 shape-the_row-Expr-0 hidden-the_row-Place-1 shape-the_row-Place-1 hidden-the_row-Expr-2 shape-the_row-Expr-2
first-TargetFunction u e = refl

pub first-FunctionPointer : (u : UnitParts) (e : Expr) → first_missing u (names (expr.FunctionPointer e)) ≡ first_missing u (names e)
unfolding names hidden hidden-the_row-Expr-0 shape-the_row-Expr-0 hidden-the_row-Place-1 shape-the_row-Place-1 hidden-the_row-Expr-2 shape-the_row-Expr-2
first-FunctionPointer u e = refl

pub first-ArrayPointer : (u : UnitParts) (o : Place) → first_missing u (names (expr.ArrayPointer o)) ≡ first_missing u (place_names o)
unfolding names hidden hidden-the_row-Expr-0 shape-the_row-Expr-0 hidden-the_row-Place-1 shape-the_row-Place-1 hidden-the_row-Expr-2 shape-the_row-Expr-2
first-ArrayPointer u o = refl

pub first-AddressOf : (u : UnitParts) (o : Place) → first_missing u (names (expr.AddressOf o)) ≡ first_missing u (place_names o)
unfolding names hidden hidden-the_row-Expr-0 shape-the_row-Expr-0 hidden-the_row-Place-1 shape-the_row-Place-1 hidden-the_row-Expr-2 shape-the_row-Expr-2
first-AddressOf u o = refl

pub first-Load : (u : UnitParts) (o : Place) → first_missing u (names (expr.Load o)) ≡ first_missing u (place_names o)
unfolding names hidden hidden-the_row-Expr-0 shape-the_row-Expr-0 hidden-the_row-Place-1 shape-the_row-Place-1 hidden-the_row-Expr-2 shape-the_row-Expr-2
first-Load u o = refl

pub first-Assign : (u : UnitParts) (o : Place) (e : Expr) → first_missing u (names (expr.Assign o e)) ≡ lesser (first_missing u (place_names o)) (first_missing u (names e))
unfolding names hidden hidden-the_row-Expr-0 shape-the_row-Expr-0 hidden-the_row-Place-1 shape-the_row-Place-1 hidden-the_row-Expr-2 shape-the_row-Expr-2
first-Assign u o e = first_append u (place_names o) (names e)

pub first-Compound : (u : UnitParts) (o : Place) (how : Update) (e : Expr) → first_missing u (names (expr.Compound o how e)) ≡ lesser (first_missing u (place_names o)) (first_missing u (names e))
unfolding names hidden hidden-the_row-Expr-0 shape-the_row-Expr-0 hidden-the_row-Place-1 shape-the_row-Place-1 hidden-the_row-Expr-2 shape-the_row-Expr-2
first-Compound u o how e = first_append u (place_names o) (names e)

pub first-Step : (u : UnitParts) (o : Place) (how : Update) (which : StepValue) → first_missing u (names (expr.Step o how which)) ≡ first_missing u (place_names o)
unfolding names hidden hidden-the_row-Expr-0 shape-the_row-Expr-0 hidden-the_row-Place-1 shape-the_row-Place-1 hidden-the_row-Expr-2 shape-the_row-Expr-2
first-Step u o how which = refl

pub first-Unary : (u : UnitParts) (operator : UnaryOperator) (e : Expr) → first_missing u (names (expr.Unary operator e)) ≡ first_missing u (names e)
unfolding names hidden hidden-the_row-Expr-0 shape-the_row-Expr-0 hidden-the_row-Place-1 shape-the_row-Place-1 hidden-the_row-Expr-2 shape-the_row-Expr-2
first-Unary u operator e = refl

pub first-Binary : (u : UnitParts) (operator : BinaryOperator) (a b : Expr) → first_missing u (names (expr.Binary operator a b)) ≡ lesser (first_missing u (names a)) (first_missing u (names b))
unfolding names hidden hidden-the_row-Expr-0 shape-the_row-Expr-0 hidden-the_row-Place-1 shape-the_row-Place-1 hidden-the_row-Expr-2 shape-the_row-Expr-2
first-Binary u operator a b = first_append u (names a) (names b)

pub first-Logical : (u : UnitParts) (operator : LogicalOperator) (a b : Expr) → first_missing u (names (expr.Logical operator a b)) ≡ lesser (first_missing u (names a)) (first_missing u (names b))
unfolding names hidden hidden-the_row-Expr-0 shape-the_row-Expr-0 hidden-the_row-Place-1 shape-the_row-Place-1 hidden-the_row-Expr-2 shape-the_row-Expr-2
first-Logical u operator a b = first_append u (names a) (names b)

pub first-Conditional : (u : UnitParts) (d a b : Expr) → first_missing u (names (expr.Conditional d a b)) ≡ lesser (first_missing u (names d)) (lesser (first_missing u (names a)) (first_missing u (names b)))
unfolding names hidden hidden-the_row-Expr-0 shape-the_row-Expr-0 hidden-the_row-Place-1 shape-the_row-Place-1 hidden-the_row-Expr-2 shape-the_row-Expr-2
first-Conditional u d a b = first_three u (names d) (names a) (names b)

pub first-Comma : (u : UnitParts) (a b : Expr) → first_missing u (names (expr.Comma a b)) ≡ lesser (first_missing u (names a)) (first_missing u (names b))
unfolding names hidden hidden-the_row-Expr-0 shape-the_row-Expr-0 hidden-the_row-Place-1 shape-the_row-Place-1 hidden-the_row-Expr-2 shape-the_row-Expr-2
first-Comma u a b = first_append u (names a) (names b)

pub first-Call : (u : UnitParts) (at site : ℕ) (e : Expr) (es : List Expr) → first_missing u (names (expr.Call at site e es)) ≡ lesser (first_missing u (names e)) (first_missing u (flat_map names es))
unfolding names hidden hidden-the_row-Expr-0 shape-the_row-Expr-0 hidden-the_row-Place-1 shape-the_row-Place-1 hidden-the_row-Expr-2 shape-the_row-Expr-2
first-Call u at site e es = ap (λ l. first_missing u (names e ++ l)) (arguments_row es) ∙ first_append u (names e) (flat_map names es)

pub first-Convert : (u : UnitParts) (why : Cause) (t : CType) (e : Expr) → first_missing u (names (expr.Convert why t e)) ≡ first_missing u (names e)
unfolding names hidden hidden-the_row-Expr-0 shape-the_row-Expr-0 hidden-the_row-Place-1 shape-the_row-Place-1 hidden-the_row-Expr-2 shape-the_row-Expr-2
first-Convert u why t e = refl

pub first-Discard : (u : UnitParts) (e : Expr) → first_missing u (names (expr.Discard e)) ≡ first_missing u (names e)
unfolding names hidden hidden-the_row-Expr-0 shape-the_row-Expr-0 hidden-the_row-Place-1 shape-the_row-Place-1 hidden-the_row-Expr-2 shape-the_row-Expr-2
first-Discard u e = refl

pub first-Absent : (u : UnitParts) (words : ℕ) → first_missing u (initializer_names (init.Absent words)) ≡ None
unfolding initializer_names first_missing hidden hidden-the_row-Initializer-0 shape-the_row-Initializer-0
first-Absent u words = refl

pub first-Value : (u : UnitParts) (round : Braces) (e : Expr) → first_missing u (initializer_names (init.Value round e)) ≡ first_missing u (names e)
unfolding initializer_names hidden hidden-the_row-Initializer-0 shape-the_row-Initializer-0
first-Value u round e = refl

pub first-List : (u : UnitParts) (is : List Initializer) (more : ℕ) → first_missing u (initializer_names (init.List is more)) ≡ first_missing u (flat_map initializer_names is)
unfolding initializer_names hidden hidden-the_row-Initializer-0 shape-the_row-Initializer-0
first-List u is more = ap (first_missing u) (listed_row is)

pub first-Text : (u : UnitParts) (bytes : List ℕ) (more : ℕ) → first_missing u (initializer_names (init.Text bytes more)) ≡ None
unfolding initializer_names first_missing hidden hidden-the_row-Initializer-0 shape-the_row-Initializer-0
first-Text u bytes more = refl

pub first-Zeros : (u : UnitParts) (words : ℕ) → first_missing u (initializer_names (init.Zeros words)) ≡ None
unfolding initializer_names first_missing hidden hidden-the_row-Initializer-0 shape-the_row-Initializer-0
first-Zeros u words = refl

pub first-Mutex : (u : UnitParts) → first_missing u (initializer_names (init.Mutex)) ≡ None
unfolding initializer_names first_missing hidden hidden-the_row-Initializer-0 shape-the_row-Initializer-0
first-Mutex u = refl

pub first-Block : (u : UnitParts) (items : List Stmt) → first_missing u (statement_names (stmt.Block items)) ≡ first_missing u (flat_map statement_names items)
unfolding statement_names hidden hidden-the_row-Stmt-0 shape-the_row-Stmt-0 hidden-the_row-Stmt-1 shape-the_row-Stmt-1
first-Block u items = ap (first_missing u) (list_row items)

pub first-LocalVariable : (u : UnitParts) (v : LocalVariable) → first_missing u (statement_names (stmt.Variable v)) ≡ first_missing u (initializer_names v.initializer)
unfolding statement_names hidden hidden-the_row-Stmt-0 shape-the_row-Stmt-0 hidden-the_row-Stmt-1 shape-the_row-Stmt-1
first-LocalVariable u v = refl

pub first-Empty : (u : UnitParts) → first_missing u (statement_names (stmt.Empty)) ≡ None
unfolding statement_names first_missing hidden hidden-the_row-Stmt-0 shape-the_row-Stmt-0 hidden-the_row-Stmt-1 shape-the_row-Stmt-1
first-Empty u = refl

pub first-Expression : (u : UnitParts) (e : Expr) → first_missing u (statement_names (stmt.Expression e)) ≡ first_missing u (names e)
unfolding statement_names hidden hidden-the_row-Stmt-0 shape-the_row-Stmt-0 hidden-the_row-Stmt-1 shape-the_row-Stmt-1
first-Expression u e = refl

pub first-If : (u : UnitParts) (e : Expr) (item : Stmt) (other : List Stmt) → first_missing u (statement_names (stmt.If e item other)) ≡ lesser (first_missing u (names e)) (lesser (first_missing u (statement_names item)) (first_missing u (flat_map statement_names other)))
unfolding statement_names hidden hidden-the_row-Stmt-0 shape-the_row-Stmt-0 hidden-the_row-Stmt-1 shape-the_row-Stmt-1
first-If u e item other = ap (λ l. first_missing u (names e ++ (statement_names item ++ l))) (list_row other) ∙ first_three u (names e) (statement_names item) (flat_map statement_names other)

pub first-Loop : (u : UnitParts) (kind : LoopKind) (e : Expr) (body : Stmt) → first_missing u (statement_names (stmt.Loop kind e body)) ≡ lesser (first_missing u (names e)) (first_missing u (statement_names body))
unfolding statement_names hidden hidden-the_row-Stmt-0 shape-the_row-Stmt-0 hidden-the_row-Stmt-1 shape-the_row-Stmt-1
first-Loop u kind e body = first_append u (names e) (statement_names body)

pub first-For : (u : UnitParts) (start : List Stmt) (test step : Option Expr) (body : Stmt) → first_missing u (statement_names (stmt.For start test step body)) ≡ lesser (first_missing u (flat_map statement_names start)) (lesser (first_missing u (optional_names test)) (lesser (first_missing u (optional_names step)) (first_missing u (statement_names body))))
unfolding statement_names hidden hidden-the_row-Stmt-0 shape-the_row-Stmt-0 hidden-the_row-Stmt-1 shape-the_row-Stmt-1
first-For u start test step body = ap (λ l. first_missing u (l ++ (optional_names test ++ (optional_names step ++ statement_names body)))) (list_row start)
    ∙ first_four u (flat_map statement_names start) (optional_names test) (optional_names step) (statement_names body)

pub first-Break : (u : UnitParts) → first_missing u (statement_names (stmt.Break)) ≡ None
unfolding statement_names first_missing hidden hidden-the_row-Stmt-0 shape-the_row-Stmt-0 hidden-the_row-Stmt-1 shape-the_row-Stmt-1
first-Break u = refl

pub first-Continue : (u : UnitParts) → first_missing u (statement_names (stmt.Continue)) ≡ None
unfolding statement_names first_missing hidden hidden-the_row-Stmt-0 shape-the_row-Stmt-0 hidden-the_row-Stmt-1 shape-the_row-Stmt-1
first-Continue u = refl

pub first-Return : (u : UnitParts) (e : Option Expr) → first_missing u (statement_names (stmt.Return e)) ≡ first_missing u (optional_names e)
unfolding statement_names hidden hidden-the_row-Stmt-0 shape-the_row-Stmt-0 hidden-the_row-Stmt-1 shape-the_row-Stmt-1
first-Return u e = refl

-- of a unit
pub first_used : (u : UnitParts) → first_missing u (used_functions u) ≡
    lesser (first_missing u (flat_map function_names u.functions)) (lesser (first_missing u (flat_map word_names u.static_words)) (first_missing u (flat_map word_names u.thread_words)))
unfolding used_functions
first_used u = first_three u (flat_map function_names u.functions) (flat_map word_names u.static_words) (flat_map word_names u.thread_words)

pub ruleset name_rules = (first-Variable, first-PlaceText, first-Indirection, first-Arrow, first-Element, first-Member, first-Number, first-Null, first-Sizeof, first-Function, first-LibraryFunction, first-TargetFunction, first-FunctionPointer, first-ArrayPointer, first-AddressOf, first-Load, first-Assign, first-Compound, first-Step, first-Unary, first-Binary, first-Logical, first-Conditional, first-Comma, first-Call, first-Convert, first-Discard)

pub ruleset initializer_name_rules = (first-Absent, first-Value, first-List, first-Text, first-Zeros, first-Mutex)

pub ruleset statement_name_rules = (first-Block, first-LocalVariable, first-Empty, first-Expression, first-If, first-Loop, first-For, first-Break, first-Continue, first-Return)
