-- What an expression is worth, with the signs of its operands read off their forms.
use Rattle.std.proofs.Common.{◌≡◌, ◌∙◌, refl, sym, ap, Bool, true, false, true≢false, not, ◌&&◌, ◌||◌, Option, Some, is_some}
use Rattle.std.proofs.Math.Bool.{and-false}
use denote.Hole.Carrier.{hidden}
use Rattle.arithmetic.specs.Operations.{operation_of}
use Rattle.arithmetic.specs.Values.{applied, is_true}
use Rattle.eff_types.specs.Types.{is_number, is_void_pointer}
use Rattle.eff_types.specs.declared.types.CType.{CType, Char, Int, Unsigned}
use Rattle.core_unit.specs.Shapes.{sign_of, number_type}
use Rattle.core_unit.specs.Typing.{type_of, unary_type, binary_type}
use Rattle.core_unit.specs.declared.expressions.Expr as expr
use Rattle.core_unit.specs.declared.expressions.Expr.{Expr, end_of-Expr, more_of-Expr}
use Rattle.core_unit.specs.declared.expressions.Expr.TheBlock.{hidden-the_row-Expr-0, shape-the_row-Expr-0, hidden-the_row-Place-1, shape-the_row-Place-1, hidden-the_row-Expr-2, shape-the_row-Expr-2}
use Rattle.core_unit.specs.declared.expressions.Expr.TheVariants as make
use Rattle.core_unit.specs.declared.operators.BinaryOperator.{BinaryOperator}
use Rattle.core_unit.specs.declared.operators.BinaryOperator.TheVariants as binary
use Rattle.core_unit.specs.declared.operators.Cause.{Cause}
use Rattle.core_unit.specs.declared.operators.PointerSide.TheVariants.{Left, Right}
use Rattle.core_unit.specs.declared.operators.Sign.{Sign}
use Rattle.core_unit.specs.declared.operators.Sign.TheVariants.{Signed, Unsigned as Without}
use Rattle.core_unit.specs.declared.operators.UnaryOperator.{UnaryOperator}
use Rattle.core_unit.specs.declared.operators.UnaryOperator.TheVariants as unary
use Rattle.core_unit.specs.declared.words.Word.{Word}
use Rattle.type_rules.specs.Constants.{worth, outcome, of_both, of_choice, is_known_zero, is_zero_number, is_null}
use Rattle.type_rules.specs.declared.found.Worth.{Worth}
use Rattle.type_rules.specs.declared.found.Worth.TheVariants.{Known, Trapped, Varying}
use Rattle.type_operands.specs.Signs.{constant_sign, number_sign, unary_sign, sign_source, sign_from, sign_or_signed}
use Rattle.type_operands.specs.Worths.{of_unary, of_binary}
use Rattle.type_operands.proofs.Forms.{worth-Unary, worth-Binary}

abbrev is_varying : Worth → Bool
is_varying (Known value) = false
is_varying Trapped = false
is_varying Varying = true

-- An operation is constant where both operands are, and a choice where each of its three is.
both_constant : (f : Word → Word → Worth) (x y : Worth) → is_varying (of_both f x y) ≡ false → (is_varying x ≡ false) × (is_varying y ≡ false)
both_constant f Varying y h = absurd (true≢false h)
both_constant f (Known a) Varying h = absurd (true≢false h)
both_constant f Trapped Varying h = absurd (true≢false h)
both_constant f (Known a) (Known b) h = (refl, refl)
both_constant f (Known a) Trapped h = (refl, refl)
both_constant f Trapped (Known b) h = (refl, refl)
both_constant f Trapped Trapped h = (refl, refl)

second_constant : (c x y : Worth) → is_varying (of_choice c x y) ≡ false → is_varying x ≡ false
second_constant Varying x y h = absurd (true≢false h)
second_constant (Known a) Varying y h = absurd (true≢false h)
second_constant Trapped Varying y h = absurd (true≢false h)
second_constant c (Known b) y h = refl
second_constant c Trapped y h = refl

number_type_sign : (sign : Sign) → Some sign ≡ number_sign (number_type sign)
number_type_sign Signed = refl
number_type_sign Without = refl

unary_type_sign : (operator : UnaryOperator) → Some (unary_sign operator) ≡ number_sign (unary_type operator)
unary_type_sign (unary.Plus sign) = number_type_sign sign
unary_type_sign (unary.Minus sign) = number_type_sign sign
unary_type_sign (unary.Complement sign) = number_type_sign sign
unary_type_sign unary.Not = refl

binary_type_sign : (operator : BinaryOperator) (s t : Option Sign) (u v : CType) → s ≡ number_sign u → t ≡ number_sign v →
    sign_from (sign_source operator) s t ≡ number_sign (binary_type operator u v)
binary_type_sign (binary.Arithmetic operator sign) s t u v p q = number_type_sign sign
binary_type_sign (binary.PointerPlus Left words) s t u v p q = p
binary_type_sign (binary.PointerPlus Right words) s t u v p q = q
binary_type_sign (binary.PointerMinus words) s t u v p q = p
binary_type_sign (binary.Difference words) s t u v p q = refl
binary_type_sign (binary.Compare operator comparands) s t u v p q = refl

-- The sign of a constant expression is that of its type.
sign_is : (e : Expr) → is_varying (worth e) ≡ false → constant_sign e ≡ number_sign (type_of e)
unfolding worth constant_sign type_of
sign_is (expr.Number sign bits) h = number_type_sign sign
sign_is expr.Null h = refl
sign_is (expr.Sizeof words) h = refl
sign_is (expr.Unary' operator _ (more_of-Expr e end_of-Expr)) h = unary_type_sign operator
sign_is (expr.Binary' operator _ (more_of-Expr a end_of-Expr) _ (more_of-Expr b end_of-Expr)) h =
    let parts = both_constant (λ x y. outcome (applied (operation_of operator (sign_of (type_of a)) (sign_of (type_of b))) x y)) (worth a) (worth b) h in
    binary_type_sign operator _ _ _ _ (sign_is a parts.0) (sign_is b parts.1)
sign_is (expr.Logical' operator _ (more_of-Expr a end_of-Expr) _ (more_of-Expr b end_of-Expr)) h = refl
sign_is (expr.Conditional' _ (more_of-Expr c end_of-Expr) _ (more_of-Expr a end_of-Expr) _ (more_of-Expr b end_of-Expr)) h =
    sign_is a (second_constant (worth c) (worth a) (worth b) h)
sign_is (expr.Convert' why to _ (more_of-Expr e end_of-Expr)) h = refl
sign_is _ h = absurd (true≢false h)

sign_of_number : (t : CType) → sign_of t ≡ sign_or_signed (number_sign t)
sign_of_number Unsigned = refl
sign_of_number Char = refl
sign_of_number Int = refl
sign_of_number _ = refl

sign_of_constant : (e : Expr) → is_varying (worth e) ≡ false → sign_of (type_of e) ≡ sign_or_signed (constant_sign e)
sign_of_constant e h = sign_of_number (type_of e) ∙ ap sign_or_signed (sym (sign_is e h))

-- The signs of operands count only where both are constant.
both_signs : (operator : BinaryOperator) (x y : Worth) (s s' t t' : Sign) →
    (is_varying x ≡ false → s ≡ s') → (is_varying y ≡ false → t ≡ t') →
    of_both (λ a b. outcome (applied (operation_of operator s t) a b)) x y ≡ of_both (λ a b. outcome (applied (operation_of operator s' t') a b)) x y
both_signs operator (Known a) (Known b) s s' t t' p q =
    ap (λ (z : Sign). outcome (applied (operation_of operator z t) a b)) (p refl)
    ∙ ap (λ (z : Sign). outcome (applied (operation_of operator s' z) a b)) (q refl)
both_signs operator Varying y s s' t t' p q = refl
both_signs operator (Known a) Varying s s' t t' p q = refl
both_signs operator Trapped Varying s s' t t' p q = refl
both_signs operator (Known a) Trapped s s' t t' p q = refl
both_signs operator Trapped (Known b) s s' t t' p q = refl
both_signs operator Trapped Trapped s s' t t' p q = refl

pub unary_is : (operator : UnaryOperator) (e : Expr) → worth (make.Unary operator e) ≡ of_unary operator (worth e)
unfolding of_unary
unary_is operator e = worth-Unary operator e

pub binary_is : (operator : BinaryOperator) (a b : Expr) → worth (make.Binary operator a b) ≡
    of_binary (operation_of operator (sign_or_signed (constant_sign a)) (sign_or_signed (constant_sign b))) (worth a) (worth b)
unfolding of_binary
binary_is operator a b =
    worth-Binary operator a b ∙ both_signs operator (worth a) (worth b) _ _ _ _ (sign_of_constant a) (sign_of_constant b)

-- what an operator with one operand or two is worth
pub ruleset worth_of_operators = (unary_is, binary_is)

number_has_sign : (t : CType) → is_number t ≡ is_some (number_sign t)
number_has_sign Char = refl
number_has_sign Int = refl
number_has_sign Unsigned = refl
number_has_sign _ = refl

zero_of : (w : Worth) (t : CType) (s : Option Sign) → (is_varying w ≡ false → s ≡ number_sign t) → (is_number t && is_known_zero w) ≡ (is_some s && is_known_zero w)
zero_of (Known value) t s p = ap (λ (b : Bool). b && not (is_true value)) (number_has_sign t ∙ ap is_some (sym (p refl)))
zero_of Trapped t s p = and-false _ ∙ sym (and-false _)
zero_of Varying t s p = and-false _ ∙ sym (and-false _)

-- Whether a constant is a number is told by its form.
pub zero_number : (e : Expr) → (is_number (type_of e) && is_known_zero (worth e)) ≡ (is_some (constant_sign e) && is_known_zero (worth e))
zero_number e = zero_of (worth e) (type_of e) (constant_sign e) (sign_is e)

eta-Convert : (why : Cause) (to : CType) (s : _) (e : Expr) → expr.Convert' why to s (more_of-Expr e end_of-Expr) ≡ make.Convert why to e
unfolding hidden hidden-the_row-Expr-0 shape-the_row-Expr-0 hidden-the_row-Place-1 shape-the_row-Place-1 hidden-the_row-Expr-2 shape-the_row-Expr-2
eta-Convert why to s e = refl

pub is_null-Convert : (why : Cause) (to : CType) (e : Expr) → is_null (make.Convert why to e) ≡ ((is_number to || is_void_pointer to) && is_zero_number e)
unfolding is_null hidden hidden-the_row-Expr-0 shape-the_row-Expr-0 hidden-the_row-Place-1 shape-the_row-Place-1 hidden-the_row-Expr-2 shape-the_row-Expr-2
is_null-Convert why to e = refl

pub is_null-Null : is_null make.Null ≡ true
unfolding is_null hidden hidden-the_row-Expr-0 shape-the_row-Expr-0 hidden-the_row-Place-1 shape-the_row-Place-1 hidden-the_row-Expr-2 shape-the_row-Expr-2
is_null-Null = refl

pub is_null-other : (e : Expr) → (e ≡ make.Null → ⊥) → ((why : Cause) (to : CType) (x : Expr) → e ≡ make.Convert why to x → ⊥) → is_null e ≡ is_zero_number e
unfolding is_null
is_null-other expr.Null null other = absurd (null refl)
is_null-other (expr.Convert' why to s (more_of-Expr e end_of-Expr)) null other = absurd (other why to e (eta-Convert why to s e))
is_null-other _ null other = refl

pub ruleset null_rules = (is_null-Null, is_null-Convert)
