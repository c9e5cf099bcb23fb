-- What is appended for a constant, and what the code of each kind of expression asks.
use Rattle.std.proofs.Common.{◌≡◌, ◌∙◌, ap, ℕ, ◌+◌, List, Option}
use Rattle.core_unit.specs.Places.{callee, Callee, Named, Row, Through}
use Rattle.core_unit.specs.declared.expressions.Expr.{Expr}
use Rattle.core_unit.specs.declared.expressions.Expr.TheVariants as expr
use Rattle.core_unit.specs.declared.tables.UnitParts.{UnitParts}
use Rattle.core_unit.specs.declared.words.Word.{Word}
use Rattle.eff_types.specs.declared.types.FnType.{FnType}
use Rattle.mcode.specs.declared.code.Instruction.TheVariants as i
use Rattle.c_codegen.specs.declared.draft.Draft.{Draft}
use Rattle.c_codegen.specs.Emits.{EmitsOne, EmitsValue}
use Rattle.c_codegen.specs.Kinds.{IsConstant, a_number, a_null, a_size, a_function, a_library_function}
use Rattle.c_codegen.specs.Sizes.{call_size, size, arguments_size}
use Rattle.c_codegen.proofs.Emitted.{emits-Variable, emits-Text, emits-Indirection, emits-Arrow, emits-Element, emits-Member, emits-Number, emits-Null, emits-Sizeof, emits-Function, emits-LibraryFunction, emits-TargetFunction, emits-FunctionPointer, emits-ArrayPointer, emits-AddressOf, emits-Comma, emits-Convert, emits-Discard, emits-Load, emits-Unary, emits-Binary, emits-Assign, emits-Compound, emits-Step, emits-Logical, emits-Conditional, emits-named_call, emits-row_call, emits-through_call}
use Rattle.c_codegen.proofs.SizeEquations.{size-Variable, size-PlaceText, size-Indirection, size-Arrow, size-Element, size-Member, size-Number, size-Null, size-Sizeof, size-Function, size-LibraryFunction, size-TargetFunction, size-FunctionPointer, size-ArrayPointer, size-AddressOf, size-Comma, size-Convert, size-Discard, size-Load, size-Unary, size-Binary, size-Assign, size-Compound, size-Step, size-Logical, size-Conditional, size-Call}
use Rattle.c_codegen.proofs.ValuesKinds.{only_operands, only_operations, only_assignments, only_choices, only_calls}

pub emits-Constant : (u : UnitParts) (d0 d1 : Draft) (x : Expr) (w : Word) → IsConstant x w → EmitsOne d0 d1 (i.SetValue w) → EmitsValue u d0 d1 x
emits-Constant u d0 d1 _ _ (a_number sign bits) p = emits-Number u d0 d1 sign bits p
emits-Constant u d0 d1 _ _ a_null p = emits-Null u d0 d1 p
emits-Constant u d0 d1 _ _ (a_size words) p = emits-Sizeof u d0 d1 words p
emits-Constant u d0 d1 _ _ (a_function function t) p = emits-Function u d0 d1 function t p
emits-Constant u d0 d1 _ _ (a_library_function row) p = emits-LibraryFunction u d0 d1 row p

pub size-Constant : (x : Expr) (w : Word) → IsConstant x w → size x ≡ 1
size-Constant _ _ (a_number sign bits) = size-Number sign bits
size-Constant _ _ a_null = size-Null
size-Constant _ _ (a_size words) = size-Sizeof words
size-Constant _ _ (a_function function t) = size-Function function t
size-Constant _ _ (a_library_function row) = size-LibraryFunction row

-- a call by what its callee is
call_is : (at site : ℕ) (e : Expr) (es : List Expr) (k : Callee) → callee e ≡ k → size (expr.Call at site e es) ≡ call_size k (size e) (arguments_size es)
call_is at site e es k is = size-Call at site e es ∙ ap (λ (c : Callee). call_size c (size e) (arguments_size es)) is

pub size-named_call : (at site : ℕ) (e : Expr) (es : List Expr) (function : ℕ) → callee e ≡ Named function → size (expr.Call at site e es) ≡ arguments_size es + 2
size-named_call at site e es function is = call_is at site e es (Named function) is

pub size-row_call : (at site : ℕ) (e : Expr) (es : List Expr) (row : ℕ) → callee e ≡ Row row → size (expr.Call at site e es) ≡ arguments_size es + 2
size-row_call at site e es row is = call_is at site e es (Row row) is

pub size-through_call : (at site : ℕ) (e : Expr) (es : List Expr) (signature : Option FnType) → callee e ≡ Through signature →
    size (expr.Call at site e es) ≡ size e + arguments_size es + 4
size-through_call at site e es signature is = call_is at site e es (Through signature) is

pub ruleset place_rules = (size-Variable, size-PlaceText, size-Indirection, size-Arrow, size-Element, size-Member, emits-Variable, emits-Text, emits-Indirection, emits-Arrow, emits-Element, emits-Member)

pub ruleset constant_rules = (emits-Constant, size-Constant)

pub ruleset operand_rules = (only_operands, size-TargetFunction, size-FunctionPointer, size-ArrayPointer, size-AddressOf, size-Comma, size-Convert, size-Discard, emits-TargetFunction, emits-FunctionPointer, emits-ArrayPointer, emits-AddressOf, emits-Comma, emits-Convert, emits-Discard)

pub ruleset operation_rules = (only_operations, size-Load, size-Unary, size-Binary, emits-Load, emits-Unary, emits-Binary)

pub ruleset assignment_rules = (only_assignments, size-Assign, size-Compound, size-Step, emits-Assign, emits-Compound, emits-Step)

pub ruleset choice_rules = (only_choices, size-Logical, size-Conditional, emits-Logical, emits-Conditional)

pub ruleset call_rules = (only_calls, size-named_call, size-row_call, size-through_call, emits-named_call, emits-row_call, emits-through_call)
