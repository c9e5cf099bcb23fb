-- Each form has its kind, and the forms of a kind are those.
use Rattle.std.proofs.Common.{◌≡◌, refl, sym, subst, ℕ, List}
use Rattle.arithmetic.specs.Values.{number}
use Rattle.core_unit.specs.Shapes.{level_of}
use Rattle.core_unit.specs.declared.expressions.Expr.{Expr}
use Rattle.core_unit.specs.declared.expressions.Expr.TheVariants as expr
use Rattle.core_unit.specs.declared.expressions.Place.{Place}
use Rattle.core_unit.specs.declared.operators.BinaryOperator.{BinaryOperator}
use Rattle.core_unit.specs.declared.operators.Cause.{Cause}
use Rattle.core_unit.specs.declared.operators.LogicalOperator.{LogicalOperator}
use Rattle.core_unit.specs.declared.operators.Sign.{Sign}
use Rattle.core_unit.specs.declared.operators.StepValue.{StepValue}
use Rattle.core_unit.specs.declared.operators.UnaryOperator.{UnaryOperator}
use Rattle.core_unit.specs.declared.operators.Update.{Update}
use Rattle.core_unit.specs.declared.words.Word.{Word}
use Rattle.core_unit.specs.declared.words.Word.TheVariants as word
use Rattle.eff_types.specs.declared.levels.Level.{Level}
use Rattle.eff_types.specs.declared.types.CType.{CType}
use Rattle.c_codegen.specs.Kinds.{IsConstant, IsOfOperands, IsOperation, IsAssignment, IsChoice, IsCall, a_number, a_null, a_size, a_function, a_library_function, a_target_function, a_function_pointer, an_array_pointer, an_address, a_comma, a_conversion, a_discard, a_load, a_unary, a_binary, an_assignment, a_compound, a_step, a_logical, a_conditional, a_call}

pub kind-Number : (x : Expr) (sign : Sign) (bits : ℕ) (w : Word) → x ≡ expr.Number sign bits → w ≡ number bits → IsConstant x w
kind-Number x sign bits w e f = subst (λ v. IsConstant x v) (sym f) (subst (λ y. IsConstant y (number bits)) (sym e) (a_number sign bits))

pub kind-Null : (x : Expr) → x ≡ expr.Null → IsConstant x word.Zero
kind-Null x e = subst (λ y. IsConstant y word.Zero) (sym e) a_null

pub kind-Sizeof : (x : Expr) (words : ℕ) (w : Word) → x ≡ expr.Sizeof words → w ≡ number words → IsConstant x w
kind-Sizeof x words w e f = subst (λ v. IsConstant x v) (sym f) (subst (λ y. IsConstant y (number words)) (sym e) (a_size words))

pub kind-Function : (x : Expr) (function : ℕ) (t : CType) (level : Level) → x ≡ expr.Function function t → level ≡ level_of t → IsConstant x (word.FunctionPointer function level)
kind-Function x function t level e f =
    subst (λ l. IsConstant x (word.FunctionPointer function l)) (sym f) (subst (λ y. IsConstant y (word.FunctionPointer function (level_of t))) (sym e) (a_function function t))

pub kind-LibraryFunction : (x : Expr) (row : ℕ) → x ≡ expr.LibraryFunction row → IsConstant x word.Zero
kind-LibraryFunction x row e = subst (λ y. IsConstant y word.Zero) (sym e) (a_library_function row)

pub kind-TargetFunction : (x : Expr) (e : Expr) → x ≡ expr.TargetFunction e → IsOfOperands x
kind-TargetFunction x e is = subst (λ y. IsOfOperands y) (sym is) (a_target_function e)

pub kind-FunctionPointer : (x : Expr) (e : Expr) → x ≡ expr.FunctionPointer e → IsOfOperands x
kind-FunctionPointer x e is = subst (λ y. IsOfOperands y) (sym is) (a_function_pointer e)

pub kind-ArrayPointer : (x : Expr) (o : Place) → x ≡ expr.ArrayPointer o → IsOfOperands x
kind-ArrayPointer x o is = subst (λ y. IsOfOperands y) (sym is) (an_array_pointer o)

pub kind-AddressOf : (x : Expr) (o : Place) → x ≡ expr.AddressOf o → IsOfOperands x
kind-AddressOf x o is = subst (λ y. IsOfOperands y) (sym is) (an_address o)

pub kind-Comma : (x : Expr) (a b : Expr) → x ≡ expr.Comma a b → IsOfOperands x
kind-Comma x a b is = subst (λ y. IsOfOperands y) (sym is) (a_comma a b)

pub kind-Convert : (x : Expr) (why : Cause) (t : CType) (e : Expr) → x ≡ expr.Convert why t e → IsOfOperands x
kind-Convert x why t e is = subst (λ y. IsOfOperands y) (sym is) (a_conversion why t e)

pub kind-Discard : (x : Expr) (e : Expr) → x ≡ expr.Discard e → IsOfOperands x
kind-Discard x e is = subst (λ y. IsOfOperands y) (sym is) (a_discard e)

pub kind-Load : (x : Expr) (o : Place) → x ≡ expr.Load o → IsOperation x
kind-Load x o is = subst (λ y. IsOperation y) (sym is) (a_load o)

pub kind-Unary : (x : Expr) (operator : UnaryOperator) (e : Expr) → x ≡ expr.Unary operator e → IsOperation x
kind-Unary x operator e is = subst (λ y. IsOperation y) (sym is) (a_unary operator e)

pub kind-Binary : (x : Expr) (operator : BinaryOperator) (a b : Expr) → x ≡ expr.Binary operator a b → IsOperation x
kind-Binary x operator a b is = subst (λ y. IsOperation y) (sym is) (a_binary operator a b)

pub kind-Assign : (x : Expr) (o : Place) (e : Expr) → x ≡ expr.Assign o e → IsAssignment x
kind-Assign x o e is = subst (λ y. IsAssignment y) (sym is) (an_assignment o e)

pub kind-Compound : (x : Expr) (o : Place) (how : Update) (e : Expr) → x ≡ expr.Compound o how e → IsAssignment x
kind-Compound x o how e is = subst (λ y. IsAssignment y) (sym is) (a_compound o how e)

pub kind-Step : (x : Expr) (o : Place) (how : Update) (which : StepValue) → x ≡ expr.Step o how which → IsAssignment x
kind-Step x o how which is = subst (λ y. IsAssignment y) (sym is) (a_step o how which)

pub kind-Logical : (x : Expr) (operator : LogicalOperator) (a b : Expr) → x ≡ expr.Logical operator a b → IsChoice x
kind-Logical x operator a b is = subst (λ y. IsChoice y) (sym is) (a_logical operator a b)

pub kind-Conditional : (x : Expr) (t a b : Expr) → x ≡ expr.Conditional t a b → IsChoice x
kind-Conditional x t a b is = subst (λ y. IsChoice y) (sym is) (a_conditional t a b)

pub kind-Call : (x : Expr) (at site : ℕ) (e : Expr) (es : List Expr) → x ≡ expr.Call at site e es → IsCall x
kind-Call x at site e es is = subst (λ y. IsCall y) (sym is) (a_call at site e es)

pub ruleset kind_rules = (kind-Number, kind-Null, kind-Sizeof, kind-Function, kind-LibraryFunction, kind-TargetFunction, kind-FunctionPointer, kind-ArrayPointer, kind-AddressOf, kind-Comma, kind-Convert, kind-Discard, kind-Load, kind-Unary, kind-Binary, kind-Assign, kind-Compound, kind-Step, kind-Logical, kind-Conditional, kind-Call)

-- The forms of each kind.
pub only_operands : (x : Expr) → IsOfOperands x → ((e : Expr) → x ≡ expr.TargetFunction e → ⊥) → ((e : Expr) → x ≡ expr.FunctionPointer e → ⊥) → ((o : Place) → x ≡ expr.ArrayPointer o → ⊥) → ((o : Place) → x ≡ expr.AddressOf o → ⊥) → ((a b : Expr) → x ≡ expr.Comma a b → ⊥) → ((why : Cause) (t : CType) (e : Expr) → x ≡ expr.Convert why t e → ⊥) → ((e : Expr) → x ≡ expr.Discard e → ⊥) → ⊥
only_operands _ (a_target_function e) p q r s v w z = p e refl
only_operands _ (a_function_pointer e) p q r s v w z = q e refl
only_operands _ (an_array_pointer o) p q r s v w z = r o refl
only_operands _ (an_address o) p q r s v w z = s o refl
only_operands _ (a_comma a b) p q r s v w z = v a b refl
only_operands _ (a_conversion why t e) p q r s v w z = w why t e refl
only_operands _ (a_discard e) p q r s v w z = z e refl

pub only_operations : (x : Expr) → IsOperation x → ((o : Place) → x ≡ expr.Load o → ⊥) → ((operator : UnaryOperator) (e : Expr) → x ≡ expr.Unary operator e → ⊥) → ((operator : BinaryOperator) (a b : Expr) → x ≡ expr.Binary operator a b → ⊥) → ⊥
only_operations _ (a_load o) p q r = p o refl
only_operations _ (a_unary operator e) p q r = q operator e refl
only_operations _ (a_binary operator a b) p q r = r operator a b refl

pub only_assignments : (x : Expr) → IsAssignment x → ((o : Place) (e : Expr) → x ≡ expr.Assign o e → ⊥) → ((o : Place) (how : Update) (e : Expr) → x ≡ expr.Compound o how e → ⊥) → ((o : Place) (how : Update) (which : StepValue) → x ≡ expr.Step o how which → ⊥) → ⊥
only_assignments _ (an_assignment o e) p q r = p o e refl
only_assignments _ (a_compound o how e) p q r = q o how e refl
only_assignments _ (a_step o how which) p q r = r o how which refl

pub only_choices : (x : Expr) → IsChoice x → ((operator : LogicalOperator) (a b : Expr) → x ≡ expr.Logical operator a b → ⊥) → ((t a b : Expr) → x ≡ expr.Conditional t a b → ⊥) → ⊥
only_choices _ (a_logical operator a b) p q = p operator a b refl
only_choices _ (a_conditional t a b) p q = q t a b refl

pub only_calls : (x : Expr) → IsCall x → ((at site : ℕ) (e : Expr) (es : List Expr) → x ≡ expr.Call at site e es → ⊥) → ⊥
only_calls _ (a_call at site e es) p = p at site e es refl
