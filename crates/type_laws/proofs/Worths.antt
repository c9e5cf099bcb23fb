-- The value of a constant expression is in range.
use Rattle.std.proofs.Common.{◌≡◌, refl, sym, subst, ℕ, ◌<◌, ◌≤◌, ◌^◌, Bool, true, false, ℤ, pos, negsuc, arith}
use Rattle.std.proofs.lemmas.Nat.{or_lt, xor_lt, and_le_l}
use Rattle.std.specs.Prelude.{not, nat_eq, int_div, int_rem, if◌then◌else◌, Result, Ok, Err}
use Rattle.eff_types.specs.Types.{is_number}
use Rattle.arithmetic.specs.Numbers.{value_of, bits_of, is_value, narrowed}
use Rattle.arithmetic.specs.Operators.{computed, negated, complement, holds, truth}
use Rattle.arithmetic.specs.Operations.{operation_of}
use Rattle.arithmetic.specs.Pointers.{moved, distance, difference}
use Rattle.arithmetic.specs.Values.{applied, applied_to, number, is_true, bits_in, address_in, comparand, as_value}
use Rattle.arithmetic.specs.declared.operations.Operation.{Operation}
use Rattle.arithmetic.specs.declared.operations.Operation.TheVariants.{Arithmetic, Compare, Move, Difference}
use Rattle.arithmetic.specs.declared.traps.TrapKind.{TrapKind}
use Rattle.core_unit.specs.Shapes.{sign_of}
use Rattle.core_unit.specs.Typed.{Tables, IsTyped}
use Rattle.core_unit.specs.Typing.{on_side, type_of}
use Rattle.core_unit.specs.declared.expressions.Expr as tree
use Rattle.core_unit.specs.declared.expressions.Expr.{Expr, end_of-Expr, more_of-Expr}
use Rattle.core_unit.specs.declared.operators.ArithmeticOperator.{ArithmeticOperator}
use Rattle.core_unit.specs.declared.operators.ArithmeticOperator.TheVariants.{Multiply, Divide, Remainder, Add, Subtract, LeftShift, RightShift, And, ExclusiveOr, Or}
use Rattle.core_unit.specs.declared.operators.LogicalOperator.{LogicalOperator}
use Rattle.core_unit.specs.declared.operators.PointerSide.{PointerSide}
use Rattle.core_unit.specs.declared.operators.PointerSide.TheVariants.{Left, Right}
use Rattle.core_unit.specs.declared.operators.Sign.{Sign}
use Rattle.core_unit.specs.declared.operators.Sign.TheVariants.{Signed, Unsigned as Without}
use Rattle.core_unit.specs.declared.operators.UnaryOperator.{UnaryOperator}
use Rattle.core_unit.specs.declared.operators.UnaryOperator.TheVariants as unary
use Rattle.core_unit.specs.declared.words.Word.{Word}
use Rattle.core_unit.specs.declared.words.Word.TheVariants.{Zero, Number, DataPointer}
use Rattle.type_rules.specs.Constants.{outcome, of_one, of_both, decided, of_logical, of_choice, worth, is_known, known_bits, number_constant}
use Rattle.type_rules.specs.Operands.{operand}
use Rattle.type_rules.specs.Reading.{Read, and_then}
use Rattle.type_rules.specs.Seen.{Seen}
use Rattle.type_rules.specs.declared.found.Constant.{Constant}
use Rattle.type_rules.specs.declared.found.Found.{Found}
use Rattle.type_rules.specs.declared.found.Worth.{Worth}
use Rattle.type_rules.specs.declared.found.Worth.TheVariants.{Known, Trapped, Varying}
use Rattle.type_laws.proofs.Operands.{IsFound, IsTypedFound, operand_keeps}
use Rattle.type_laws.proofs.Triples.{Keeps, Always, then_keeps, refused_keeps, gives_keeps}
use Rattle.type_laws.proofs.Valued.{IsNumeral, positive}

-- a number in range
abbrev pub IsSmall : Worth → Type 0
IsSmall (Known value) = IsNumeral value
IsSmall _ = Unit {0}

abbrev GivesSmall : Result ℕ TrapKind → Type 0
GivesSmall (Ok n) = n < 2 ^ 32
GivesSmall (Err trap) = Unit {0}

bits_small : (z : ℤ) → bits_of z < 2 ^ 32
bits_small (pos a) = omega arith
bits_small (negsuc a) = omega arith

when_small : (test : Bool) (n : ℕ) (trap : TrapKind) → n < 2 ^ 32 → GivesSmall (if test then Ok n else Err trap)
when_small true n trap small = small
when_small false n trap small = tt

narrowed_small : (trap : TrapKind) (sign : Sign) (z : ℤ) → GivesSmall (narrowed trap sign z)
narrowed_small trap Without z = bits_small z
narrowed_small trap Signed z = when_small (is_value Signed z) (bits_of z) trap (bits_small z)

and_small : (a b : ℕ) → (n : ℕ) → n ≤ a → a < 2 ^ 32 → n < 2 ^ 32
and_small a b n below small = omega arith

computed_small : (operator : ArithmeticOperator) (sign : Sign) (a b : ℕ) → a < 2 ^ 32 → b < 2 ^ 32 → GivesSmall (computed operator sign a b)
computed_small Multiply sign a b p q = narrowed_small _ sign _
computed_small Divide sign a b p q = when_small _ _ _ (bits_small (int_div (value_of sign a) (value_of sign b)))
computed_small Remainder sign a b p q = when_small _ _ _ (bits_small (int_rem (value_of sign a) (value_of sign b)))
computed_small Add sign a b p q = narrowed_small _ sign _
computed_small Subtract sign a b p q = narrowed_small _ sign _
computed_small LeftShift sign a b p q = when_small _ _ _ (bits_small _)
computed_small RightShift sign a b p q = when_small _ _ _ (bits_small _)
computed_small And sign a b p q = and_small a b _ (and_le_l a b) p
computed_small ExclusiveOr sign a b p q = xor_lt 32 a b p q
computed_small Or sign a b p q = or_lt 32 a b p q

number_small : (n : ℕ) → n < 2 ^ 32 → IsNumeral (number n)
number_small n small = of (nat_eq n 0) refl
  where
    of : (test : Bool) → nat_eq n 0 ≡ test → IsNumeral (if test then Zero else Number n)
    of true e = tt
    of false e = (positive n e, small)

-- its bits, and its address, which is none
numeral_bits : (a : Word) → IsNumeral a → bits_in a < 2 ^ 32
numeral_bits Zero h = omega arith
numeral_bits (Number bits) h = h.1
numeral_bits a h = absurd h

numeral_address : (a : Word) → IsNumeral a → address_in a ≡ 0
numeral_address Zero h = refl
numeral_address (Number bits) h = refl
numeral_address a h = absurd h

truth_small : (b : Bool) → IsNumeral (number (truth b))
truth_small true = number_small 1 (omega arith)
truth_small false = number_small 0 (omega arith)

number_given : (r : Result ℕ TrapKind) → GivesSmall r → IsSmall (outcome (as_value number r))
number_given (Ok n) small = number_small n small
number_given (Err trap) small = tt

pointer_given : (address : ℕ) (by : ℤ) → address ≡ 0 → IsSmall (outcome (as_value DataPointer (moved address by)))
pointer_given address by null = subst (λ n. IsSmall (outcome (as_value DataPointer (moved n by)))) (sym null) tt

side_numeral : (side : PointerSide) (a b : Word) → IsNumeral a → IsNumeral b → IsNumeral (on_side side a b)
side_numeral Left a b p q = p
side_numeral Right a b p q = q

applied_small : (operation : Operation) (a b : Word) → IsNumeral a → IsNumeral b → IsSmall (outcome (applied operation a b))
applied_small (Arithmetic operator sign) a b p q = number_given (computed operator sign (bits_in a) (bits_in b)) (computed_small operator sign (bits_in a) (bits_in b) (numeral_bits a p) (numeral_bits b q))
applied_small (Compare operator what) a b p q = truth_small (holds operator (comparand what a) (comparand what b))
applied_small (Move direction side sign words) a b p q =
    pointer_given (address_in (on_side side a b)) (distance direction (value_of sign (bits_in (on_side side b a))) words)
    (numeral_address (on_side side a b) (side_numeral side a b p q))
applied_small (Difference words) a b p q = number_small (difference words (address_in a) (address_in b)) (bits_small _)

applied_to_small : (operator : UnaryOperator) (a : Word) → IsNumeral a → IsSmall (outcome (applied_to operator a))
applied_to_small (unary.Plus sign) a p = p
applied_to_small (unary.Minus sign) a p = number_given (negated sign (bits_in a)) (narrowed_small _ sign _)
applied_to_small (unary.Complement sign) a p = number_small (complement (bits_in a)) (omega arith)
applied_to_small unary.Not a p = truth_small (not (is_true a))

one_small : (f : Word → Worth) (w : Worth) → IsSmall w → ((a : Word) → IsNumeral a → IsSmall (f a)) → IsSmall (of_one f w)
one_small f (Known a) small next = next a small
one_small f Trapped small next = tt
one_small f Varying small next = tt

both_small : (f : Word → Word → Worth) (v w : Worth) → IsSmall v → IsSmall w → ((a b : Word) → IsNumeral a → IsNumeral b → IsSmall (f a b))
    → IsSmall (of_both f v w)
both_small f (Known a) (Known b) p q next = next a b p q
both_small f (Known a) Trapped p q next = tt
both_small f (Known a) Varying p q next = tt
both_small f Trapped (Known b) p q next = tt
both_small f Trapped Trapped p q next = tt
both_small f Trapped Varying p q next = tt
both_small f Varying (Known b) p q next = tt
both_small f Varying Trapped p q next = tt
both_small f Varying Varying p q next = tt

logical_small : (operator : LogicalOperator) (v w : Worth) → IsSmall (of_logical operator v w)
logical_small operator (Known a) (Known b) = truth_small _
logical_small operator (Known a) Trapped = of (decided operator (is_true a))
  where
    of : (test : Bool) → IsSmall (if test then Known (number (truth (is_true a))) else Trapped)
    of true = truth_small (is_true a)
    of false = tt
logical_small operator (Known a) Varying = tt
logical_small operator Trapped (Known b) = tt
logical_small operator Trapped Trapped = tt
logical_small operator Trapped Varying = tt
logical_small operator Varying w = tt

choose_small : (test : Bool) (v w : Worth) → IsSmall v → IsSmall w → IsSmall (if test then v else w)
choose_small true v w p q = p
choose_small false v w p q = q

choice_small : (c v w : Worth) → IsSmall v → IsSmall w → IsSmall (of_choice c v w)
choice_small Varying v w p q = tt
choice_small (Known t) Varying w p q = tt
choice_small Trapped Varying w p q = tt
choice_small (Known t) (Known a) Varying p q = tt
choice_small (Known t) Trapped Varying p q = tt
choice_small Trapped (Known a) Varying p q = tt
choice_small Trapped Trapped Varying p q = tt
choice_small (Known t) (Known a) (Known b) p q = choose_small (is_true t) (Known a) (Known b) p q
choice_small (Known t) (Known a) Trapped p q = choose_small (is_true t) (Known a) Trapped p q
choice_small (Known t) Trapped (Known b) p q = choose_small (is_true t) Trapped (Known b) p q
choice_small (Known t) Trapped Trapped p q = choose_small (is_true t) Trapped Trapped p q
choice_small Trapped (Known a) (Known b) p q = tt
choice_small Trapped (Known a) Trapped p q = tt
choice_small Trapped Trapped (Known b) p q = tt
choice_small Trapped Trapped Trapped p q = tt

pub worth_small : (u : Tables) (e : Expr) → IsTyped u e → IsSmall (worth e)
unfolding IsTyped worth
worth_small u (tree.Number sign bits) h = number_small bits h
worth_small u tree.Null h = tt
worth_small u (tree.Sizeof words) h = number_small words h
worth_small u (tree.Unary' operator _ (more_of-Expr e end_of-Expr)) h = one_small _ (worth e) (worth_small u e h.0) (λ a small. applied_to_small operator a small)
worth_small u (tree.Binary' operator _ (more_of-Expr a end_of-Expr) _ (more_of-Expr b end_of-Expr)) h =
    both_small _ (worth a) (worth b) (worth_small u a h.0) (worth_small u b h.1) (λ x y p q. applied_small (operation_of operator (sign_of (type_of a)) (sign_of (type_of b))) x y p q)
worth_small u (tree.Logical' operator _ (more_of-Expr a end_of-Expr) _ (more_of-Expr b end_of-Expr)) h = logical_small operator (worth a) (worth b)
worth_small u (tree.Conditional' _ (more_of-Expr c end_of-Expr) _ (more_of-Expr a end_of-Expr) _ (more_of-Expr b end_of-Expr)) h =
    choice_small (worth c) (worth a) (worth b) (worth_small u a h.2) (worth_small u b h.3)
worth_small u (tree.Convert' why to _ (more_of-Expr e end_of-Expr)) h = worth_small u e h.0
worth_small u e h = tt

known_small : (w : Worth) → IsSmall w → known_bits w < 2 ^ 32
known_small (Known value) small = numeral_bits value small
known_small Trapped small = omega arith
known_small Varying small = omega arith

-- a constant number
abbrev pub IsConstant : Constant → Seen → Type 0
IsConstant c s = Unit {0}

abbrev pub IsSmallConstant : Constant → Tables → Type 0
IsSmallConstant c u = c.bits < 2 ^ 32

pub constant_keeps : (expression : Seen → Read Found) → Keeps Always IsFound (IsTypedFound false) expression → Keeps Always IsConstant IsSmallConstant (number_constant expression)
unfolding number_constant and_then
constant_keeps expression keeps s lawful =
    then_keeps s (operand expression s) _ (operand_keeps Always expression keeps s lawful) (λ o t t_lawful t_stay known.
    refused_keeps t (not (is_number o.kind)) 3 o.place _ (λ e.
    refused_keeps t (not (is_known (worth o.node))) 7 o.place _ (λ f.
    gives_keeps t (record { place = o.place; sign = sign_of o.kind; bits = known_bits (worth o.node) }) t_lawful tt (λ u leads knows p.
    known_small (worth o.node) (worth_small u o.node p.1)))))
