-- The first words of pointers, form by form.
use Rattle.std.proofs.Common.{◌≡◌, refl, ap, ℕ, ◌++◌, List, [], append_assoc, append-nil}
use denote.Hole.Carrier.{hidden}
use Rattle.core_unit.specs.Shapes.{pointer_to}
use Rattle.core_unit.specs.Typing.{type_of}
use Rattle.core_unit.specs.declared.expressions.Expr.{Expr}
use Rattle.core_unit.specs.declared.expressions.Expr.TheBlock.{hidden-the_row-Expr-0, shape-the_row-Expr-0, hidden-the_row-Place-1, shape-the_row-Place-1, hidden-the_row-Expr-2, shape-the_row-Expr-2}
use Rattle.core_unit.specs.declared.expressions.Expr.TheVariants as expr
use Rattle.core_unit.specs.declared.expressions.Place.{Place}
use Rattle.core_unit.specs.declared.expressions.Storage.TheVariants as storage
use Rattle.core_unit.specs.declared.expressions.Storage.{Storage}
use Rattle.core_unit.specs.declared.operators.BinaryOperator.{BinaryOperator}
use Rattle.core_unit.specs.declared.operators.Cause.{Cause}
use Rattle.core_unit.specs.declared.operators.LogicalOperator.{LogicalOperator}
use Rattle.core_unit.specs.declared.operators.Sign.{Sign}
use Rattle.core_unit.specs.declared.operators.StepValue.{StepValue}
use Rattle.core_unit.specs.declared.operators.UnaryOperator.{UnaryOperator}
use Rattle.core_unit.specs.declared.operators.Update.{Update}
use Rattle.core_unit.specs.declared.words.Word.TheVariants as word
use Rattle.eff_types.specs.Effects.{plain}
use Rattle.eff_types.specs.Types.{own_effects, target_effects}
use Rattle.eff_types.specs.declared.levels.Level.{Level}
use Rattle.eff_types.specs.declared.types.CType.{CType}
use Rattle.eff_types.specs.declared.types.CType.TheBlock.{hidden-the_row-CType-0, shape-the_row-CType-0}
use Rattle.eff_types.specs.declared.types.CType.TheVariants as ctype
use Rattle.eff_types.specs.declared.types.FnType.{FnType}
use Rattle.type_initializers.specs.Held.{held}
use Rattle.type_rules.specs.InitialValues.{pointer_word, object_word}
use Rattle.type_rules.specs.Seen.{Seen}
use Rattle.type_rules.specs.declared.notes.Initial.{Initial}

pub word-Number : (level : Level) (sign : Sign) (bits : ℕ) → pointer_word level (expr.Number sign bits) ≡ word.Zero
unfolding pointer_word hidden hidden-the_row-Expr-0 shape-the_row-Expr-0 hidden-the_row-Place-1 shape-the_row-Place-1 hidden-the_row-Expr-2 shape-the_row-Expr-2
word-Number level sign bits = refl

pub word-Null : (level : Level) → pointer_word level expr.Null ≡ word.Zero
unfolding pointer_word hidden hidden-the_row-Expr-0 shape-the_row-Expr-0 hidden-the_row-Place-1 shape-the_row-Place-1 hidden-the_row-Expr-2 shape-the_row-Expr-2
word-Null level = refl

pub word-Sizeof : (level : Level) (words : ℕ) → pointer_word level (expr.Sizeof words) ≡ word.Zero
unfolding pointer_word hidden hidden-the_row-Expr-0 shape-the_row-Expr-0 hidden-the_row-Place-1 shape-the_row-Place-1 hidden-the_row-Expr-2 shape-the_row-Expr-2
word-Sizeof level words = refl

pub word-Function : (level : Level) (f : ℕ) (t : CType) → pointer_word level (expr.Function f t) ≡ word.FunctionPointer f level
unfolding pointer_word hidden hidden-the_row-Expr-0 shape-the_row-Expr-0 hidden-the_row-Place-1 shape-the_row-Place-1 hidden-the_row-Expr-2 shape-the_row-Expr-2
word-Function level f t = refl

pub word-LibraryFunction : (level : Level) (row : ℕ) → pointer_word level (expr.LibraryFunction row) ≡ word.Zero
unfolding pointer_word hidden hidden-the_row-Expr-0 shape-the_row-Expr-0 hidden-the_row-Place-1 shape-the_row-Place-1 hidden-the_row-Expr-2 shape-the_row-Expr-2
word-LibraryFunction level row = refl

pub word-TargetFunction : (level : Level) (e : Expr) → pointer_word level (expr.TargetFunction e) ≡ word.Zero
unfolding pointer_word hidden hidden-the_row-Expr-0 shape-the_row-Expr-0 hidden-the_row-Place-1 shape-the_row-Place-1 hidden-the_row-Expr-2 shape-the_row-Expr-2
word-TargetFunction level e = refl

pub word-FunctionPointer : (level : Level) (e : Expr) → pointer_word level (expr.FunctionPointer e) ≡ pointer_word level e
unfolding pointer_word hidden hidden-the_row-Expr-0 shape-the_row-Expr-0 hidden-the_row-Place-1 shape-the_row-Place-1 hidden-the_row-Expr-2 shape-the_row-Expr-2
word-FunctionPointer level e = refl

pub word-ArrayPointer : (level : Level) (p : Place) → pointer_word level (expr.ArrayPointer p) ≡ object_word p
unfolding pointer_word hidden hidden-the_row-Expr-0 shape-the_row-Expr-0 hidden-the_row-Place-1 shape-the_row-Place-1 hidden-the_row-Expr-2 shape-the_row-Expr-2
word-ArrayPointer level p = refl

pub word-AddressOf : (level : Level) (p : Place) → pointer_word level (expr.AddressOf p) ≡ object_word p
unfolding pointer_word hidden hidden-the_row-Expr-0 shape-the_row-Expr-0 hidden-the_row-Place-1 shape-the_row-Place-1 hidden-the_row-Expr-2 shape-the_row-Expr-2
word-AddressOf level p = refl

pub word-Load : (level : Level) (p : Place) → pointer_word level (expr.Load p) ≡ word.Zero
unfolding pointer_word hidden hidden-the_row-Expr-0 shape-the_row-Expr-0 hidden-the_row-Place-1 shape-the_row-Place-1 hidden-the_row-Expr-2 shape-the_row-Expr-2
word-Load level p = refl

pub word-Assign : (level : Level) (p : Place) (e : Expr) → pointer_word level (expr.Assign p e) ≡ word.Zero
unfolding pointer_word hidden hidden-the_row-Expr-0 shape-the_row-Expr-0 hidden-the_row-Place-1 shape-the_row-Place-1 hidden-the_row-Expr-2 shape-the_row-Expr-2
word-Assign level p e = refl

pub word-Compound : (level : Level) (p : Place) (update : Update) (e : Expr) → pointer_word level (expr.Compound p update e) ≡ word.Zero
unfolding pointer_word hidden hidden-the_row-Expr-0 shape-the_row-Expr-0 hidden-the_row-Place-1 shape-the_row-Place-1 hidden-the_row-Expr-2 shape-the_row-Expr-2
word-Compound level p update e = refl

pub word-Step : (level : Level) (p : Place) (update : Update) (value : StepValue) → pointer_word level (expr.Step p update value) ≡ word.Zero
unfolding pointer_word hidden hidden-the_row-Expr-0 shape-the_row-Expr-0 hidden-the_row-Place-1 shape-the_row-Place-1 hidden-the_row-Expr-2 shape-the_row-Expr-2
word-Step level p update value = refl

pub word-Unary : (level : Level) (operator : UnaryOperator) (e : Expr) → pointer_word level (expr.Unary operator e) ≡ word.Zero
unfolding pointer_word hidden hidden-the_row-Expr-0 shape-the_row-Expr-0 hidden-the_row-Place-1 shape-the_row-Place-1 hidden-the_row-Expr-2 shape-the_row-Expr-2
word-Unary level operator e = refl

pub word-Binary : (level : Level) (operator : BinaryOperator) (a : Expr) (b : Expr) → pointer_word level (expr.Binary operator a b) ≡ word.Zero
unfolding pointer_word hidden hidden-the_row-Expr-0 shape-the_row-Expr-0 hidden-the_row-Place-1 shape-the_row-Place-1 hidden-the_row-Expr-2 shape-the_row-Expr-2
word-Binary level operator a b = refl

pub word-Logical : (level : Level) (operator : LogicalOperator) (a : Expr) (b : Expr) → pointer_word level (expr.Logical operator a b) ≡ word.Zero
unfolding pointer_word hidden hidden-the_row-Expr-0 shape-the_row-Expr-0 hidden-the_row-Place-1 shape-the_row-Place-1 hidden-the_row-Expr-2 shape-the_row-Expr-2
word-Logical level operator a b = refl

pub word-Conditional : (level : Level) (c : Expr) (a : Expr) (b : Expr) → pointer_word level (expr.Conditional c a b) ≡ word.Zero
unfolding pointer_word hidden hidden-the_row-Expr-0 shape-the_row-Expr-0 hidden-the_row-Place-1 shape-the_row-Place-1 hidden-the_row-Expr-2 shape-the_row-Expr-2
word-Conditional level c a b = refl

pub word-Comma : (level : Level) (a : Expr) (b : Expr) → pointer_word level (expr.Comma a b) ≡ word.Zero
unfolding pointer_word hidden hidden-the_row-Expr-0 shape-the_row-Expr-0 hidden-the_row-Place-1 shape-the_row-Place-1 hidden-the_row-Expr-2 shape-the_row-Expr-2
word-Comma level a b = refl

pub word-Convert : (level : Level) (why : Cause) (t : CType) (e : Expr) → pointer_word level (expr.Convert why t e) ≡ pointer_word level e
unfolding pointer_word hidden hidden-the_row-Expr-0 shape-the_row-Expr-0 hidden-the_row-Place-1 shape-the_row-Place-1 hidden-the_row-Expr-2 shape-the_row-Expr-2
word-Convert level why t e = refl

pub word-Discard : (level : Level) (e : Expr) → pointer_word level (expr.Discard e) ≡ word.Zero
unfolding pointer_word hidden hidden-the_row-Expr-0 shape-the_row-Expr-0 hidden-the_row-Place-1 shape-the_row-Place-1 hidden-the_row-Expr-2 shape-the_row-Expr-2
word-Discard level e = refl

pub word-Call : (level : Level) (at site : ℕ) (c : Expr) (es : List Expr) → pointer_word level (expr.Call at site c es) ≡ word.Zero
unfolding pointer_word hidden hidden-the_row-Expr-0 shape-the_row-Expr-0 hidden-the_row-Place-1 shape-the_row-Place-1 hidden-the_row-Expr-2 shape-the_row-Expr-2
word-Call level at site c es = refl

-- a pointer points to what it was made of, and nothing else points to a type
pub target-Pointer : (t : CType) → target_effects (ctype.Pointer t) ≡ own_effects t
unfolding target_effects hidden hidden-the_row-CType-0 shape-the_row-CType-0
target-Pointer t = refl

pub target-Void : target_effects ctype.Void ≡ plain
unfolding target_effects
target-Void = refl

pub target-Char : target_effects ctype.Char ≡ plain
unfolding target_effects
target-Char = refl

pub target-Int : target_effects ctype.Int ≡ plain
unfolding target_effects
target-Int = refl

pub target-Unsigned : target_effects ctype.Unsigned ≡ plain
unfolding target_effects
target-Unsigned = refl

pub target-Mutex : target_effects ctype.Mutex ≡ plain
unfolding target_effects
target-Mutex = refl

pub target-Array : (t : CType) (n : ℕ) → target_effects (ctype.Array t n) ≡ plain
unfolding target_effects
target-Array t n = refl

pub target-Struct : (number : ℕ) → target_effects (ctype.Struct number) ≡ plain
unfolding target_effects
target-Struct number = refl

pub target-Function : (f : FnType) → target_effects (ctype.Function f) ≡ plain
unfolding target_effects
target-Function f = refl

pub target-pointer : (t : CType) → target_effects (pointer_to t) ≡ own_effects t
unfolding target_effects
target-pointer t = refl

pub typed-Function : (f : ℕ) (t : CType) → type_of (expr.Function f t) ≡ t
unfolding type_of
typed-Function f t = refl

pub typed-FunctionPointer : (e : Expr) → type_of (expr.FunctionPointer e) ≡ pointer_to (type_of e)
unfolding type_of hidden hidden-the_row-Expr-0 shape-the_row-Expr-0
typed-FunctionPointer e = refl

pub typed-Convert : (why : Cause) (t : CType) (e : Expr) → type_of (expr.Convert why t e) ≡ t
unfolding type_of
typed-Convert why t e = refl

-- what is noted in two steps
pub held-more : (s : Storage) (xs ys : List Initial) (t : Seen) → held s ys (held s xs t) ≡ held s (xs ++ ys) t
held-more (storage.Automatic offset) xs ys t = refl
held-more (storage.Static address) xs ys t = ap (λ values. record t { static_values = values }) (append_assoc t.static_values xs ys)
held-more (storage.ThreadLocal offset) xs ys t = ap (λ values. record t { thread_values = values }) (append_assoc t.thread_values xs ys)

pub held-none : (s : Storage) (t : Seen) → held s [] t ≡ t
held-none (storage.Automatic offset) t = refl
held-none (storage.Static address) t = ap (λ values. record t { static_values = values }) (append-nil t.static_values)
held-none (storage.ThreadLocal offset) t = ap (λ values. record t { thread_values = values }) (append-nil t.thread_values)

pub ruleset held_rules = (held-more, held-none)

pub ruleset pointer_rules = (target-pointer, typed-Function, typed-FunctionPointer, typed-Convert, word-Number, word-Null, word-Sizeof, word-Function, word-LibraryFunction, word-TargetFunction, word-FunctionPointer, word-ArrayPointer, word-AddressOf, word-Load, word-Assign, word-Compound, word-Step, word-Unary, word-Binary, word-Logical, word-Conditional, word-Comma, word-Convert, word-Discard, word-Call)

pub ruleset target_rules = (target-Pointer, target-Array, target-Void, target-Char, target-Int, target-Unsigned, target-Mutex, target-Struct, target-Function)
