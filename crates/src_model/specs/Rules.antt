-- The rules of evaluation: what an expression, a place or a statement comes down to, one rule a form (C17 6.5 and 6.8). Operands are evaluated from
-- the left to the right, which C leaves open, and each operand that waits for another one is held; both are this project's own rules.
use Rattle.std.specs.Prelude.{ℕ, ◌+◌, List, [], ◌∷◌, length, Option, Some, None}
use Rattle.arithmetic.specs.Operations.{operation_of, operation_of_update}
use Rattle.arithmetic.specs.Values.{number}
use Rattle.arithmetic.specs.declared.operations.Operation.{Operation}
use Rattle.arithmetic.specs.declared.traps.TrapKind.{TrapKind}
use Rattle.core_unit.specs.Places.{callee, Callee, Named, Row, Through}
use Rattle.core_unit.specs.Shapes.{target_of, element_of, pointer_to, sign_of, level_of}
use Rattle.core_unit.specs.Stores.{stores}
use Rattle.core_unit.specs.Typing.{type_of, place_type, binary_type}
use Rattle.core_unit.specs.declared.body.Initializer.{Initializer}
use Rattle.core_unit.specs.declared.body.LoopKind.TheVariants as loop_kind
use Rattle.core_unit.specs.declared.body.Stmt as stmt
use Rattle.core_unit.specs.declared.body.Stmt.{Stmt, Row_of-Stmt, end_of-Stmt, more_of-Stmt}
use Rattle.core_unit.specs.declared.expressions.Expr as expr
use Rattle.core_unit.specs.declared.expressions.Expr.{Expr, Row_of-Expr, end_of-Expr, more_of-Expr, end_of-Place, more_of-Place}
use Rattle.core_unit.specs.declared.expressions.Place as place
use Rattle.core_unit.specs.declared.expressions.Place.{Place}
use Rattle.core_unit.specs.declared.expressions.Storage.{Storage}
use Rattle.core_unit.specs.declared.expressions.Storage.TheVariants.{Automatic, Static, ThreadLocal}
use Rattle.core_unit.specs.declared.operators.BinaryOperator.{BinaryOperator}
use Rattle.core_unit.specs.declared.operators.BinaryOperator.TheVariants as binary
use Rattle.core_unit.specs.declared.operators.Sign.TheVariants.{Signed}
use Rattle.core_unit.specs.declared.operators.Update.{Update}
use Rattle.core_unit.specs.declared.tables.UnitParts.{UnitParts}
use Rattle.core_unit.specs.declared.words.Word.{Word}
use Rattle.core_unit.specs.declared.words.Word.TheVariants as word
use Rattle.eff_types.specs.declared.types.CType.{Void}
use Rattle.mcode.specs.Memory.{region_of, stack_of}
use Rattle.mcode.specs.Steps.{Step, Quiet}
use Rattle.src_model.specs.Tasks.{Part, Value, Address, Hold, LoadAs, StoreAs, Retype, Change, Apply, Advance, StoreStep, Shift, Also, Pick, Branch, Fill, Guard, Check, Begin, BeginThrough, Arrive, While, DoWhile, For, Task, Now, Do, Turn, Again, Fall, Leaving, Fail, State}

-- parts, and then what remains
abbrev pub before : List Part → List Task → List Task
before [] k = k
before (part ∷ parts) k = Now part ∷ before parts k

-- the thread goes on so
abbrev pub goes : State → List Task → Step State
goes s k = Quiet (record s { todo = k })

-- this is the value
abbrev pub gives : State → Word → List Task → Step State
gives s value k = Quiet (record s { todo = k; value = value })

-- the thread is trapped next
abbrev pub failing : State → TrapKind → State
failing s kind = record s { todo = Fail kind ∷ [] }

abbrev pub fails : State → TrapKind → Step State
fails s kind = Quiet (failing s kind)

-- the operation of a binary operator, of an index, and of an assignment operator
abbrev pub binary_operation : BinaryOperator → (left right : Expr) → Operation
binary_operation operator left right = operation_of operator (sign_of (type_of left)) (sign_of (type_of right))

abbrev pub update_operation : Update → Expr → Operation
update_operation how e = operation_of_update how (sign_of (type_of e))

-- The arguments of a call, each of which is held.
abbrev pub arguments : {n : _} → Row_of-Expr n → List Task → List Task
arguments end_of-Expr k = k
arguments (more_of-Expr e es) k = Now (Value e) ∷ Now Hold ∷ arguments es k

-- A call (C17 6.5.2.2): the value of the callee unless it is named, the arguments, and then the call, before which the halt word is loaded.
abbrev pub call_tasks : {n : _} → Callee → Expr → (site : ℕ) → Row_of-Expr n → List Task → List Task
call_tasks (Named function) c site es k = arguments es (before (Check ∷ Begin function site ∷ []) k)
call_tasks (Row row) c site es k = arguments es (before (Check ∷ Arrive row site ∷ []) k)
call_tasks (Through signature) c site es k =
    before (Value c ∷ Hold ∷ []) (arguments es (before (Guard (type_of c) ∷ Check ∷ BeginThrough (type_of c) site ∷ []) k))

-- How the value of an expression is found.
abbrev pub value_step : Expr → List Task → State → Step State
-- constants and names (C17 6.5.1); the name of a library function is the callee of a call and has no value
value_step (expr.Number sign bits) k s = gives s (number bits) k
value_step expr.Null k s = gives s word.Zero k
value_step (expr.Sizeof words) k s = gives s (number words) k
value_step (expr.Function function t) k s = gives s (word.FunctionPointer function (level_of t)) k
value_step (expr.LibraryFunction row) k s = gives s word.Zero k
-- functions, arrays and addresses become pointers (C17 6.3.2.1, 6.5.3.2)
value_step (expr.TargetFunction' _ (more_of-Expr e end_of-Expr)) k s = goes s (before (Value e ∷ Retype (type_of e) (target_of (type_of e)) ∷ []) k)
value_step (expr.FunctionPointer' _ (more_of-Expr e end_of-Expr)) k s = goes s (before (Value e ∷ Retype (type_of e) (pointer_to (type_of e)) ∷ []) k)
value_step (expr.ArrayPointer' _ (more_of-Place p end_of-Place)) k s =
    goes s (before (Address p ∷ Retype (pointer_to (place_type p)) (pointer_to (element_of (place_type p))) ∷ []) k)
value_step (expr.AddressOf' _ (more_of-Place p end_of-Place)) k s = goes s (before (Address p ∷ []) k)
-- the value of an object (C17 6.3.2.1)
value_step (expr.Load' _ (more_of-Place p end_of-Place)) k s = goes s (before (Address p ∷ LoadAs (place_type p) ∷ []) k)
-- assignments (C17 6.5.16), `++` and `--` (C17 6.5.2.4, 6.5.3.1)
value_step (expr.Assign' _ (more_of-Place p end_of-Place) _ (more_of-Expr e end_of-Expr)) k s =
    goes s (before (Address p ∷ Hold ∷ Value e ∷ StoreAs (place_type p) ∷ []) k)
value_step (expr.Compound' _ (more_of-Place p end_of-Place) how _ (more_of-Expr e end_of-Expr)) k s =
    goes s (before (Address p ∷ Hold ∷ LoadAs (place_type p) ∷ Hold ∷ Value e ∷ Apply (update_operation how e) (place_type p) ∷ StoreAs (place_type p) ∷ []) k)
value_step (expr.Step' _ (more_of-Place p end_of-Place) how which) k s =
    goes s (before (Address p ∷ Hold ∷ LoadAs (place_type p) ∷ Hold ∷ Advance (operation_of_update how Signed) (place_type p) ∷ StoreStep (place_type p) which ∷ []) k)
-- operators (C17 6.5.3 to 6.5.12)
value_step (expr.Unary' operator _ (more_of-Expr e end_of-Expr)) k s = goes s (before (Value e ∷ Change operator ∷ []) k)
value_step (expr.Binary' operator _ (more_of-Expr a end_of-Expr) _ (more_of-Expr b end_of-Expr)) k s =
    goes s (before (Value a ∷ Hold ∷ Value b ∷ Apply (binary_operation operator a b) (binary_type operator (type_of a) (type_of b)) ∷ []) k)
-- of `&&`, `||`, `?:` and the comma nothing is held (C17 6.5.13 to 6.5.15, 6.5.17)
value_step (expr.Logical' operator _ (more_of-Expr a end_of-Expr) _ (more_of-Expr b end_of-Expr)) k s = goes s (before (Value a ∷ Also operator b ∷ []) k)
value_step (expr.Conditional' _ (more_of-Expr c end_of-Expr) _ (more_of-Expr a end_of-Expr) _ (more_of-Expr b end_of-Expr)) k s =
    goes s (before (Value c ∷ Pick a b ∷ []) k)
value_step (expr.Comma' _ (more_of-Expr a end_of-Expr) _ (more_of-Expr b end_of-Expr)) k s = goes s (before (Value a ∷ Value b ∷ []) k)
value_step (expr.Call' at site _ (more_of-Expr c end_of-Expr) _ es) k s = goes s (call_tasks (callee c) c site es k)
-- conversions keep the bits of numbers and the words of pointers (C17 6.3); the number 0 of a null pointer constant is the word of a null pointer
value_step (expr.Convert' why t _ (more_of-Expr e end_of-Expr)) k s = goes s (before (Value e ∷ Retype (type_of e) t ∷ []) k)
value_step (expr.Discard' _ (more_of-Expr e end_of-Expr)) k s = goes s (before (Value e ∷ Retype (type_of e) Void ∷ []) k)

-- the address of an offset of the latest frame
abbrev pub local_address : UnitParts → State → ℕ → ℕ
local_address u s offset = stack_of (length u.static_words) s.number + s.base + offset

-- where a variable is kept (C17 6.2.4)
abbrev pub variable_address : UnitParts → State → Storage → ℕ
variable_address u s (Automatic offset) = local_address u s offset
variable_address u s (Static address) = address
variable_address u s (ThreadLocal offset) = region_of (length u.static_words) s.number + offset

-- How the address of a place is found (C17 6.5.2.1, 6.5.2.3, 6.5.3.2).
abbrev pub address_step : UnitParts → Place → List Task → State → Step State
address_step u (place.Variable at storage t) k s = gives s (word.DataPointer (variable_address u s storage)) k
address_step u (place.Text at words) k s = gives s (word.DataPointer at) k
address_step u (place.Indirection' _ (more_of-Expr e end_of-Expr) t) k s = goes s (before (Value e ∷ []) k)
address_step u (place.Arrow' _ (more_of-Expr e end_of-Expr) structure) k s = goes s (before (Value e ∷ []) k)
address_step u (place.Element' _ (more_of-Expr a end_of-Expr) _ (more_of-Expr b end_of-Expr) side words t) k s =
    goes s (before (Value a ∷ Hold ∷ Value b ∷ Apply (binary_operation (binary.PointerPlus side words) a b) (pointer_to t) ∷ []) k)
address_step u (place.Member' _ (more_of-Place p end_of-Place) offset t) k s = goes s (before (Address p ∷ Shift offset t ∷ []) k)

-- the statements of a block
abbrev pub all_tasks : {n : _} → Row_of-Stmt n → List Task → List Task
all_tasks end_of-Stmt k = k
all_tasks (more_of-Stmt item items) k = Do item ∷ all_tasks items k

abbrev pub list_tasks : List Stmt → List Task → List Task
list_tasks [] k = k
list_tasks (item ∷ items) k = Do item ∷ list_tasks items k

abbrev pub optional_tasks : Option Expr → List Task → List Task
optional_tasks None k = k
optional_tasks (Some e) k = Now (Value e) ∷ k

-- A declaration that is reached stores the words of an automatic variable one by one; of another one it does nothing (C17 6.8, 6.7.9).
abbrev pub variable_tasks : Storage → Initializer → List Task → List Task
variable_tasks (Automatic offset) initializer k = Now (Fill offset (stores initializer)) ∷ k
variable_tasks _ initializer k = k

-- what `break` and `continue` come to: what stands behind the loop, and the end of its body (C17 6.8.6); a `for` whose first turn hasn't begun is
-- passed over as other statements are
abbrev pub behind_loop : List Task → List Task
behind_loop (Do item ∷ k) = behind_loop k
behind_loop (Turn loop ∷ k) = behind_loop k
behind_loop (Again loop ∷ k) = k
behind_loop (Fall result ∷ k) = Fall result ∷ k
behind_loop _ = []

abbrev pub end_of_body : List Task → List Task
end_of_body (Do item ∷ k) = end_of_body k
end_of_body (Turn loop ∷ k) = end_of_body k
end_of_body (Again loop ∷ k) = Again loop ∷ k
end_of_body (Fall result ∷ k) = Fall result ∷ k
end_of_body _ = []

-- How a statement is executed (C17 6.8).
abbrev pub statement_step : Stmt → List Task → State → Step State
statement_step (stmt.Block' _ items) k s = goes s (all_tasks items k)
statement_step (stmt.Variable v) k s = goes s (variable_tasks v.storage v.initializer k)
statement_step stmt.Empty k s = goes s k
statement_step (stmt.Expression e) k s = goes s (Now (Value e) ∷ k)
statement_step (stmt.If' c _ (more_of-Stmt item end_of-Stmt) _ other) k s = goes s (before (Value c ∷ Branch item other ∷ []) k)
statement_step (stmt.Loop' loop_kind.While c _ (more_of-Stmt body end_of-Stmt)) k s = goes s (Turn (While c body) ∷ k)
statement_step (stmt.Loop' loop_kind.DoWhile c _ (more_of-Stmt body end_of-Stmt)) k s = goes s (Turn (DoWhile c body) ∷ k)
statement_step (stmt.For' _ start test step _ (more_of-Stmt body end_of-Stmt)) k s = goes s (all_tasks start (Turn (For test step body) ∷ k))
statement_step stmt.Break k s = goes s (behind_loop k)
statement_step stmt.Continue k s = goes s (end_of_body k)
statement_step (stmt.Return (Some e)) k s = goes s (Now (Value e) ∷ Leaving ∷ [])
statement_step (stmt.Return None) k s = gives s word.Zero (Leaving ∷ [])
