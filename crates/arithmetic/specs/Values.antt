-- What the operators of expressions make of the values that memory holds: numbers, pointers and null.
use Rattle.std.specs.Prelude.{ℕ, ◌+◌, Bool, true, false, not, if◌then◌else◌, nat_eq, ℤ, pos, Result, Ok, Err}
use Rattle.core_unit.specs.Typing.{on_side}
use Rattle.core_unit.specs.declared.operators.Comparands.{Comparands}
use Rattle.core_unit.specs.declared.operators.Comparands.TheVariants.{Numbers, DataPointers, FunctionPointers}
use Rattle.core_unit.specs.declared.operators.UnaryOperator.{UnaryOperator}
use Rattle.core_unit.specs.declared.operators.UnaryOperator.TheVariants.{Plus, Minus, Complement, Not}
use Rattle.core_unit.specs.declared.words.Word.{Word}
use Rattle.core_unit.specs.declared.words.Word.TheVariants.{Zero, Number, DataPointer, FunctionPointer}
use Rattle.arithmetic.specs.Numbers.{value_of}
use Rattle.arithmetic.specs.Operators.{computed, negated, complement, holds, truth}
use Rattle.arithmetic.specs.Pointers.{moved, distance, difference}
use Rattle.arithmetic.specs.declared.operations.Direction.{Direction}
use Rattle.arithmetic.specs.declared.operations.Operation.{Operation}
use Rattle.arithmetic.specs.declared.operations.Operation.TheVariants.{Arithmetic, Compare, Move, Difference}
use Rattle.arithmetic.specs.declared.traps.TrapKind.{TrapKind}

-- The bits of a number, the address of a data pointer: 0 of the zero word, and of a value of another kind, which no typed operator meets.
abbrev pub bits_in : Word → ℕ
bits_in (Number bits) = bits
bits_in _ = 0

abbrev pub address_in : Word → ℕ
address_in (DataPointer address) = address
address_in _ = 0

-- The function of a pointer, counted from 1, at whatever level; 0 of null.
abbrev pub function_in : Word → ℕ
function_in (FunctionPointer function level) = function + 1
function_in _ = 0

-- The value of a number. The number 0 and the null pointer are the zero word.
abbrev pub number : ℕ → Word
number bits = if nat_eq bits 0 then Zero else Number bits

-- the value for a number or an address, or the same trap
abbrev pub as_value : (ℕ → Word) → Result ℕ TrapKind → Result Word TrapKind
as_value value (Ok n) = Ok (value n)
as_value value (Err trap) = Err trap

-- Whether a condition with this value holds: where it is neither 0 nor null (C17 6.8.4.1).
abbrev pub is_true : Word → Bool
is_true Zero = false
is_true _ = true

-- What a value is compared by: a number by its value, a data pointer by its address, a pointer to a function by the function alone (C17 6.5.8
-- and 6.5.9; that null is compared as address 0 is this project's own rule).
abbrev pub comparand : Comparands → Word → ℤ
comparand (Numbers sign) value = value_of sign (bits_in value)
comparand DataPointers value = pos (address_in value)
comparand FunctionPointers value = pos (function_in value)

-- a pointer so many objects on or back
abbrev pub moved_pointer : Direction → Word → ℤ → ℕ → Result Word TrapKind
moved_pointer direction pointer number words = as_value DataPointer (moved (address_in pointer) (distance direction number words))

-- An operation on two values.
abbrev pub applied : Operation → Word → Word → Result Word TrapKind
applied (Arithmetic operator sign) a b = as_value number (computed operator sign (bits_in a) (bits_in b))
applied (Compare operator what) a b = Ok (number (truth (holds operator (comparand what a) (comparand what b))))
applied (Move direction side sign words) a b = moved_pointer direction (on_side side a b) (value_of sign (bits_in (on_side side b a))) words
applied (Difference words) a b = Ok (number (difference words (address_in a) (address_in b)))

-- A unary operator (C17 6.5.3.3).
abbrev pub applied_to : UnaryOperator → Word → Result Word TrapKind
applied_to (Plus sign) a = Ok a
applied_to (Minus sign) a = as_value number (negated sign (bits_in a))
applied_to (Complement sign) a = Ok (number (complement (bits_in a)))
applied_to Not a = Ok (number (truth (not (is_true a))))

-- The address of a member at this offset (C17 6.5.2.3); that it is found as by `+`, also at offset 0, is this project's own rule.
abbrev pub member_of : ℕ → Word → Result Word TrapKind
member_of offset a = as_value DataPointer (moved (address_in a) (pos offset))
