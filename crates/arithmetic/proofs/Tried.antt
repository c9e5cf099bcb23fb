-- The definitions, tried at their edges.
use Rattle.std.proofs.Common.{◌≡◌, refl, ℕ, ◌-◌, ◌^◌, List, [], ◌∷◌, Result, Ok, Err}
use Rattle.eff_types.specs.declared.levels.Level.TheVariants.{Plain, NonBlocking}
use Rattle.core_unit.specs.declared.operators.ArithmeticOperator.{ArithmeticOperator}
use Rattle.core_unit.specs.declared.operators.ArithmeticOperator.TheVariants.{Multiply, Divide, Remainder, Add, Subtract, LeftShift, RightShift, And, ExclusiveOr, Or}
use Rattle.core_unit.specs.declared.operators.BinaryOperator.TheVariants as binary
use Rattle.core_unit.specs.declared.operators.Comparands.TheVariants.{Numbers, DataPointers, FunctionPointers}
use Rattle.core_unit.specs.declared.operators.ComparisonOperator.TheVariants.{Equal, NotEqual, Less, Greater, LessOrEqual, GreaterOrEqual}
use Rattle.core_unit.specs.declared.operators.PointerSide.TheVariants.{Left, Right}
use Rattle.core_unit.specs.declared.operators.Sign.TheVariants.{Signed, Unsigned as Without}
use Rattle.core_unit.specs.declared.operators.UnaryOperator.TheVariants as unary
use Rattle.core_unit.specs.declared.operators.Update.TheVariants as update
use Rattle.core_unit.specs.declared.words.Word.{Word}
use Rattle.core_unit.specs.declared.words.Word.TheVariants.{Zero, Number, DataPointer, FunctionPointer}
use Rattle.arithmetic.specs.Numbers.{converted}
use Rattle.arithmetic.specs.Operations.{operation_of, operation_of_update}
use Rattle.arithmetic.specs.Operators.{computed, absolute}
use Rattle.arithmetic.specs.Values.{applied, applied_to, member_of}
use Rattle.arithmetic.specs.declared.operations.Direction.TheVariants.{Forward, Backward}
use Rattle.arithmetic.specs.declared.operations.Operation.TheVariants.{Compare, Move, Difference}
use Rattle.arithmetic.specs.declared.traps.TrapKind.{TrapKind}
use Rattle.arithmetic.specs.declared.traps.TrapKind.TheVariants.{BadPointer, Overflow, Division, Shift}

abbrev least : ℕ
least = 2 ^ 31

abbrev greatest : ℕ
greatest = 2 ^ 31 - 1

-- the bits of a negative number
abbrev minus : ℕ → ℕ
minus n = 2 ^ 32 - n

abbrev Tries : Type 0
Tries = List (Result ℕ TrapKind)

abbrev signed : ArithmeticOperator → ℕ → ℕ → Result ℕ TrapKind
signed operator a b = computed operator Signed a b

abbrev without : ArithmeticOperator → ℕ → ℕ → Result ℕ TrapKind
without operator a b = computed operator Without a b

sums : ◌≡◌ {A = Tries}
    (signed Add greatest 1 ∷ signed Add least (minus 1) ∷ signed Add greatest least ∷ signed Add (minus 1) 1 ∷ signed Add (minus 3) 2
    ∷ without Add (minus 1) 1 ∷ without Add greatest 1 ∷ [])
    (Err Overflow ∷ Err Overflow ∷ Ok (minus 1) ∷ Ok 0 ∷ Ok (minus 1) ∷ Ok 0 ∷ Ok least ∷ [])
sums = refl

differences : ◌≡◌ {A = Tries}
    (signed Subtract least 1 ∷ signed Subtract greatest (minus 1) ∷ signed Subtract 0 least ∷ signed Subtract (minus 1) least ∷ signed Subtract 2 5
    ∷ without Subtract 0 1 ∷ without Subtract 5 2 ∷ [])
    (Err Overflow ∷ Err Overflow ∷ Err Overflow ∷ Ok greatest ∷ Ok (minus 3) ∷ Ok (minus 1) ∷ Ok 3 ∷ [])
differences = refl

products : ◌≡◌ {A = Tries}
    (signed Multiply 65536 32768 ∷ signed Multiply (minus 65536) 32768 ∷ signed Multiply least (minus 1) ∷ signed Multiply (minus 7) (minus 6)
    ∷ signed Multiply 46341 46341 ∷ signed Multiply 46340 46340 ∷ without Multiply 65536 65536 ∷ without Multiply (minus 1) (minus 1) ∷ [])
    (Err Overflow ∷ Ok least ∷ Err Overflow ∷ Ok 42 ∷ Err Overflow ∷ Ok 2147395600 ∷ Ok 0 ∷ Ok 1 ∷ [])
products = refl

quotients : ◌≡◌ {A = Tries}
    (signed Divide least (minus 1) ∷ signed Divide least 1 ∷ signed Divide 7 0 ∷ signed Divide (minus 7) 2 ∷ signed Divide 7 (minus 2)
    ∷ signed Divide greatest (minus 1) ∷ without Divide 7 0 ∷ without Divide least (minus 1) ∷ without Divide (minus 1) 2 ∷ [])
    (Err Division ∷ Ok least ∷ Err Division ∷ Ok (minus 3) ∷ Ok (minus 3) ∷ Ok (minus greatest) ∷ Err Division ∷ Ok 0 ∷ Ok greatest ∷ [])
quotients = refl

remainders : ◌≡◌ {A = Tries}
    (signed Remainder least (minus 1) ∷ signed Remainder 7 0 ∷ signed Remainder (minus 7) 2 ∷ signed Remainder 7 (minus 2)
    ∷ signed Remainder greatest (minus 1) ∷ without Remainder 7 0 ∷ without Remainder least (minus 1) ∷ without Remainder (minus 1) 10 ∷ [])
    (Err Division ∷ Err Division ∷ Ok (minus 1) ∷ Ok 1 ∷ Ok 0 ∷ Err Division ∷ Ok least ∷ Ok 5 ∷ [])
remainders = refl

shifts_to_the_left : ◌≡◌ {A = Tries}
    (signed LeftShift 1 30 ∷ signed LeftShift 1 31 ∷ signed LeftShift 1 32 ∷ signed LeftShift 1 (minus 1) ∷ signed LeftShift (minus 1) 0
    ∷ signed LeftShift greatest 0 ∷ signed LeftShift 2 30 ∷ signed LeftShift 0 31 ∷ without LeftShift 1 31 ∷ without LeftShift 3 31
    ∷ without LeftShift 1 32 ∷ without LeftShift 1 (minus 1) ∷ [])
    (Ok (2 ^ 30) ∷ Err Shift ∷ Err Shift ∷ Err Shift ∷ Err Shift ∷ Ok greatest ∷ Err Shift ∷ Ok 0 ∷ Ok least ∷ Ok least ∷ Err Shift ∷ Err Shift ∷ [])
shifts_to_the_left = refl

shifts_to_the_right : ◌≡◌ {A = Tries}
    (signed RightShift least 31 ∷ signed RightShift (minus 5) 1 ∷ signed RightShift 5 1 ∷ signed RightShift 1 32 ∷ signed RightShift 1 (minus 1)
    ∷ without RightShift least 31 ∷ without RightShift (minus 5) 1 ∷ without RightShift 1 32 ∷ [])
    (Ok (minus 1) ∷ Ok (minus 3) ∷ Ok 2 ∷ Err Shift ∷ Err Shift ∷ Ok 1 ∷ Ok (2 ^ 31 - 3) ∷ Err Shift ∷ [])
shifts_to_the_right = refl

bit_by_bit : ◌≡◌ {A = Tries}
    (signed And (minus 1) 12 ∷ signed Or (minus 16) 5 ∷ signed ExclusiveOr (minus 1) 12 ∷ without And 12 10 ∷ without Or 12 10 ∷ without ExclusiveOr 12 10 ∷ [])
    (Ok 12 ∷ Ok (minus 11) ∷ Ok (minus 13) ∷ Ok 8 ∷ Ok 14 ∷ Ok 6 ∷ [])
bit_by_bit = refl

absolutes : ◌≡◌ {A = Tries} (absolute least ∷ absolute (minus 7) ∷ absolute 7 ∷ absolute 0 ∷ []) (Err Overflow ∷ Ok 7 ∷ Ok 7 ∷ Ok 0 ∷ [])
absolutes = refl

conversions : converted Signed Without (minus 1) ∷ converted Without Signed (minus 1) ∷ converted Signed Signed least ∷ [] ≡ minus 1 ∷ minus 1 ∷ least ∷ []
conversions = refl

abbrev Outcomes : Type 0
Outcomes = List (Result Word TrapKind)

unaries : ◌≡◌ {A = Outcomes}
    (applied_to (unary.Minus Signed) (Number least) ∷ applied_to (unary.Minus Signed) (Number 5) ∷ applied_to (unary.Minus Without) (Number 1)
    ∷ applied_to (unary.Minus Without) Zero ∷ applied_to (unary.Plus Signed) (Number least) ∷ applied_to (unary.Complement Signed) Zero
    ∷ applied_to (unary.Complement Without) (Number (minus 1)) ∷ applied_to unary.Not Zero ∷ applied_to unary.Not (Number 5)
    ∷ applied_to unary.Not (DataPointer 1) ∷ applied_to unary.Not (FunctionPointer 0 Plain) ∷ [])
    (Err Overflow ∷ Ok (Number (minus 5)) ∷ Ok (Number (minus 1)) ∷ Ok Zero ∷ Ok (Number least) ∷ Ok (Number (minus 1)) ∷ Ok Zero ∷ Ok (Number 1)
    ∷ Ok Zero ∷ Ok Zero ∷ Ok Zero ∷ [])
unaries = refl

abbrev yes_it_is : Result Word TrapKind
yes_it_is = Ok (Number 1)

abbrev it_isn't : Result Word TrapKind
it_isn't = Ok Zero

comparisons : ◌≡◌ {A = Outcomes}
    (applied (Compare Less (Numbers Signed)) (Number (minus 1)) Zero ∷ applied (Compare Less (Numbers Without)) (Number (minus 1)) Zero
    ∷ applied (Compare Greater (Numbers Without)) (Number least) (Number greatest) ∷ applied (Compare LessOrEqual (Numbers Signed)) (Number least) (Number least)
    ∷ applied (Compare GreaterOrEqual (Numbers Signed)) (Number least) (Number greatest) ∷ applied (Compare Equal (Numbers Signed)) (Number 3) (Number 3)
    ∷ applied (Compare NotEqual (Numbers Signed)) (Number 3) (Number 3) ∷ [])
    (yes_it_is ∷ it_isn't ∷ yes_it_is ∷ yes_it_is ∷ it_isn't ∷ yes_it_is ∷ it_isn't ∷ [])
comparisons = refl

pointer_comparisons : ◌≡◌ {A = Outcomes}
    (applied (Compare Less DataPointers) Zero (DataPointer 1) ∷ applied (Compare Equal DataPointers) Zero Zero
    ∷ applied (Compare Equal DataPointers) (DataPointer 4) (DataPointer 5) ∷ applied (Compare Equal FunctionPointers) (FunctionPointer 0 Plain) (FunctionPointer 0 NonBlocking)
    ∷ applied (Compare Equal FunctionPointers) Zero (FunctionPointer 0 Plain) ∷ applied (Compare NotEqual FunctionPointers) (FunctionPointer 1 Plain) (FunctionPointer 2 Plain) ∷ [])
    (yes_it_is ∷ yes_it_is ∷ it_isn't ∷ yes_it_is ∷ it_isn't ∷ yes_it_is ∷ [])
pointer_comparisons = refl

-- A pointer moves within 1 to 2^20, and null doesn't.
moves : ◌≡◌ {A = Outcomes}
    (applied (Move Forward Left Signed 3) (DataPointer 10) (Number 2) ∷ applied (Move Forward Right Signed 3) (Number (minus 2)) (DataPointer 10)
    ∷ applied (Move Backward Left Signed 3) (DataPointer 10) (Number 3) ∷ applied (Move Backward Left Signed 3) (DataPointer 9) (Number 3)
    ∷ applied (Move Forward Left Signed 1) (DataPointer (2 ^ 20 - 1)) (Number 1) ∷ applied (Move Forward Left Signed 1) (DataPointer (2 ^ 20)) (Number 1)
    ∷ applied (Move Forward Left Without 1) (DataPointer 10) (Number (minus 1)) ∷ applied (Move Forward Left Signed 1) (DataPointer 10) (Number (minus 1))
    ∷ applied (Move Forward Left Without (2 ^ 32 - 1)) (DataPointer 10) (Number (minus 1)) ∷ applied (Move Forward Left Signed 1) Zero Zero
    ∷ applied (Move Forward Left Signed 1) Zero (Number 5) ∷ [])
    (Ok (DataPointer 16) ∷ Ok (DataPointer 4) ∷ Ok (DataPointer 1) ∷ Err BadPointer ∷ Ok (DataPointer (2 ^ 20)) ∷ Err BadPointer ∷ Err BadPointer
    ∷ Ok (DataPointer 9) ∷ Err BadPointer ∷ Err BadPointer ∷ Err BadPointer ∷ [])
moves = refl

members : ◌≡◌ {A = Outcomes}
    (member_of 0 Zero ∷ member_of 0 (DataPointer 7) ∷ member_of 65 (DataPointer 7) ∷ member_of 1 (DataPointer (2 ^ 20)) ∷ [])
    (Err BadPointer ∷ Ok (DataPointer 7) ∷ Ok (DataPointer 72) ∷ Err BadPointer ∷ [])
members = refl

-- The difference of addresses that isn't a multiple is rounded toward zero; null counts as address 0.
pointer_differences : ◌≡◌ {A = Outcomes}
    (applied (Difference 3) (DataPointer 10) (DataPointer 3) ∷ applied (Difference 3) (DataPointer 3) (DataPointer 10) ∷ applied (Difference 1) (DataPointer 3) Zero
    ∷ applied (Difference 1) Zero (DataPointer (2 ^ 20)) ∷ applied (Difference 5) (DataPointer 8) (DataPointer 8) ∷ [])
    (Ok (Number 2) ∷ Ok (Number (minus 2)) ∷ Ok (Number 3) ∷ Ok (Number (minus (2 ^ 20))) ∷ Ok Zero ∷ [])
pointer_differences = refl

-- `i[a]` and `a - i`, `--` of a pointer, `-=` of a pointer by an unsigned number, `++` of an `int` at its end
in_the_tree : ◌≡◌ {A = Outcomes}
    (applied (operation_of (binary.PointerPlus Right 2) Signed Signed) (Number (minus 1)) (DataPointer 10)
    ∷ applied (operation_of (binary.PointerMinus 2) Signed Without) (DataPointer 10) (Number (minus 1))
    ∷ applied (operation_of_update (update.Backward 2) Signed) (DataPointer 10) (Number 1)
    ∷ applied (operation_of_update (update.Backward 1) Without) (DataPointer 10) (Number 4)
    ∷ applied (operation_of_update (update.Arithmetic Add Signed) Signed) (Number greatest) (Number 1) ∷ [])
    (Ok (DataPointer 8) ∷ Err BadPointer ∷ Ok (DataPointer 8) ∷ Ok (DataPointer 6) ∷ Err Overflow ∷ [])
in_the_tree = refl
