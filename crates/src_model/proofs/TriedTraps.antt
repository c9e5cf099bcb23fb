-- Each kind of trap by one small unit. Of each, thread 0 runs `main`; the stack begins at 1025 where there are no static words.
use Rattle.std.proofs.Common.{◌≡◌, refl, ℕ, ◌+◌, ◌*◌, ◌^◌, List, [], ◌∷◌, zero, suc, replicate, pos}
use Rattle.arithmetic.specs.declared.traps.TrapKind.TheVariants.{NullAccess, BadAccess, BadPointer, BadWord, Overflow, Division, Shift, NullCall, StackOverflow, BadFree, BadUnlock, NoreturnReturned, NoValue, Abort}
use Rattle.core_unit.specs.Library.{takes, void_pointer}
use Rattle.core_unit.specs.Shapes.{pointer_to, array_of}
use Rattle.core_unit.specs.declared.body.Initializer.TheVariants as init
use Rattle.core_unit.specs.declared.body.Stmt.{Stmt}
use Rattle.core_unit.specs.declared.expressions.Expr.{Expr}
use Rattle.core_unit.specs.declared.expressions.Expr.TheVariants as expr
use Rattle.core_unit.specs.declared.expressions.Place.TheVariants as place
use Rattle.core_unit.specs.declared.operators.ArithmeticOperator.TheVariants.{Divide, Add, Subtract, LeftShift}
use Rattle.core_unit.specs.declared.operators.BinaryOperator.TheVariants as binary
use Rattle.core_unit.specs.declared.operators.Cause.TheVariants as cause
use Rattle.core_unit.specs.declared.operators.PointerSide.TheVariants.{Left}
use Rattle.core_unit.specs.declared.operators.Sign.TheVariants.{Signed}
use Rattle.core_unit.specs.declared.operators.StepValue.TheVariants.{Postfix}
use Rattle.core_unit.specs.declared.operators.Update.TheVariants as update
use Rattle.core_unit.specs.declared.tables.FunctionInfo.{FunctionInfo}
use Rattle.core_unit.specs.declared.tables.UnitParts.{UnitParts}
use Rattle.core_unit.specs.declared.words.Word.TheVariants.{Zero}
use Rattle.eff_types.specs.declared.types.CType.{CType, Void, Char, Int, Mutex, Struct}
use Rattle.eff_types.specs.declared.types.CType.TheVariants as a_type
use Rattle.eff_types.specs.declared.types.FnType.{FnType}
use Rattle.mcode.specs.declared.events.Ask.{Ask}
use Rattle.mcode.specs.declared.events.Ask.TheVariants.{Load, Store, Exchange, Enter, Leave, Reach, Out, Trap, Over}
use Rattle.mcode.specs.declared.events.Finish.TheVariants.{Exited, Trapped}
use Rattle.mcode.specs.declared.stages.Stage.TheVariants.{EndText}
use Rattle.src_model.specs.Source.{next, start}
use Rattle.src_model.specs.Tasks.{Value, Hold, In, Now, State}
use Rattle.src_model.proofs.Trial.{nonblocking, with_effects, definition, noreturn, unit, main_of, int, local, static, value, named, call, library_call, arithmetic, run, returns, variable, variable_is, number_word, events, computing}

abbrev void : FnType
void = takes Void []

-- int main(void) { int *p = NULL; return *p; }
null_access : events 20 (main_of 1 (
    variable_is 0 (pointer_to Int) (expr.Convert cause.Null (pointer_to Int) expr.Null)
    ∷ returns (expr.Load (place.Indirection (value 0 (pointer_to Int)) Int)) ∷ [])) 0
    ≡ Load (2 ^ 20) ∷ Enter 0 0 ∷ Store 1025 0 ∷ Load 1025 ∷ Trap NullAccess ∷ Store (2 ^ 20) 1 ∷ Over (Trapped NullAccess) ∷ []
unfolding computing
null_access = refl

-- static int a[1];
abbrev array : Expr
array = expr.ArrayPointer (static 1 (array_of Int 1))

-- a pointer so many elements behind the first one
abbrev moved : Expr → Expr
moved n = expr.Binary (binary.PointerPlus Left 1) array n

abbrev with_array : List Stmt → UnitParts
with_array items = unit (definition "main" (takes Int []) 0 items ∷ []) (0 ∷ [])

-- *(a + 1048575) = 2; is trapped in place of its store.
bad_access : events 20 (with_array (run (expr.Assign (place.Indirection (moved (int 1048575)) Int) (int 2)) ∷ [])) 0
    ≡ Load (2 ^ 20) ∷ Enter 0 0 ∷ Trap BadAccess ∷ Store (2 ^ 20) 1 ∷ Over (Trapped BadAccess) ∷ []
unfolding computing
bad_access = refl

-- a - 1 points nowhere, and so does a + 1048576.
bad_pointer : events 20 (with_array (run (expr.Binary (binary.PointerMinus 1) array (int 1)) ∷ [])) 0
    ≡ Load (2 ^ 20) ∷ Enter 0 0 ∷ Trap BadPointer ∷ Store (2 ^ 20) 1 ∷ Over (Trapped BadPointer) ∷ []
unfolding computing
bad_pointer = refl

bad_pointer_above : events 20 (with_array (run (moved (int 1048576)) ∷ [])) 0
    ≡ Load (2 ^ 20) ∷ Enter 0 0 ∷ Trap BadPointer ∷ Store (2 ^ 20) 1 ∷ Over (Trapped BadPointer) ∷ []
unfolding computing
bad_pointer_above = refl

-- struct s { int m; } *p; .. &p->m of a null p: the address of a member is found by arithmetic, also at offset 0.
bad_member : events 20 (main_of 1 (
    variable_is 0 (pointer_to (Struct 0)) expr.Null
    ∷ run (expr.AddressOf (place.Member (place.Arrow (value 0 (pointer_to (Struct 0))) 0) 0 Int)) ∷ [])) 0
    ≡ Load (2 ^ 20) ∷ Enter 0 0 ∷ Store 1025 0 ∷ Load 1025 ∷ Trap BadPointer ∷ Store (2 ^ 20) 1 ∷ Over (Trapped BadPointer) ∷ []
unfolding computing
bad_member = refl

-- int x; return x;
bad_word : events 20 (main_of 1 (variable 0 Int (init.Absent 1) ∷ returns (value 0 Int) ∷ [])) 0
    ≡ Load (2 ^ 20) ∷ Enter 0 0 ∷ Store 1025 (2 ^ 60) ∷ Load 1025 ∷ Trap BadWord ∷ Store (2 ^ 20) 1 ∷ Over (Trapped BadWord) ∷ []
unfolding computing
bad_word = refl

-- int x = 2147483647; x = x + 1; return 0;
overflow : events 20 (main_of 1 (
    variable_is 0 Int (int 2147483647)
    ∷ run (expr.Assign (local 0 Int) (arithmetic Add (value 0 Int) (int 1))) ∷ returns (int 0) ∷ [])) 0
    ≡ Load (2 ^ 20) ∷ Enter 0 0 ∷ Store 1025 (number_word 2147483647) ∷ Load 1025 ∷ Trap Overflow ∷ Store (2 ^ 20) 1 ∷ Over (Trapped Overflow) ∷ []
unfolding computing
overflow = refl

-- char c = 2147483647; c++; a `char` has the range of an `int`.
overflow_of_a_char : events 20 (main_of 1 (
    variable_is 0 Char (expr.Convert cause.Implicit Char (int 2147483647))
    ∷ run (expr.Step (local 0 Char) (update.Arithmetic Add Signed) Postfix) ∷ [])) 0
    ≡ Load (2 ^ 20) ∷ Enter 0 0 ∷ Store 1025 (number_word 2147483647) ∷ Load 1025 ∷ Trap Overflow ∷ Store (2 ^ 20) 1 ∷ Over (Trapped Overflow) ∷ []
unfolding computing
overflow_of_a_char = refl

-- return 1 / 0; and return 1 << 32;
division : events 20 (main_of 0 (returns (arithmetic Divide (int 1) (int 0)) ∷ [])) 0
    ≡ Load (2 ^ 20) ∷ Enter 0 0 ∷ Trap Division ∷ Store (2 ^ 20) 1 ∷ Over (Trapped Division) ∷ []
unfolding computing
division = refl

shift : events 20 (main_of 0 (returns (arithmetic LeftShift (int 1) (int 32)) ∷ [])) 0
    ≡ Load (2 ^ 20) ∷ Enter 0 0 ∷ Trap Shift ∷ Store (2 ^ 20) 1 ∷ Over (Trapped Shift) ∷ []
unfolding computing
shift = refl

abbrev to_void : CType
to_void = pointer_to (a_type.Function void)

-- void (*p)(void) = NULL; p(); is trapped before the load of the halt word.
null_call : events 20 (main_of 1 (
    variable_is 0 to_void (expr.Convert cause.Null to_void expr.Null) ∷ run (expr.Call 0 1 (value 0 to_void) []) ∷ [])) 0
    ≡ Load (2 ^ 20) ∷ Enter 0 0 ∷ Store 1025 0 ∷ Load 1025 ∷ Trap NullCall ∷ Store (2 ^ 20) 1 ∷ Over (Trapped NullCall) ∷ []
unfolding computing
null_call = refl

-- A frame of 97 words doesn't fit behind one of 4,000; of 96 it does.
abbrev with_frames : ℕ → UnitParts
with_frames words = unit (
    definition "main" (takes Int []) 4000 (run (call 1 1 void []) ∷ returns (int 0) ∷ []) ∷ definition "f" void words [] ∷ []) []

stack_overflow : events 20 (with_frames 97) 0
    ≡ Load (2 ^ 20) ∷ Enter 0 0 ∷ Load (2 ^ 20) ∷ Trap StackOverflow ∷ Store (2 ^ 20) 1 ∷ Over (Trapped StackOverflow) ∷ []
unfolding computing
stack_overflow = refl

fitting_frame : events 20 (with_frames 96) 0
    ≡ Load (2 ^ 20) ∷ Enter 0 0 ∷ Load (2 ^ 20) ∷ Enter 1 1 ∷ Leave ∷ Leave ∷ Store (2 ^ 20) 1 ∷ Over (Exited (pos 0)) ∷ []
unfolding computing
fitting_frame = refl

-- int main(void) { return main(); } enters 256 frames.
abbrev nested : ℕ → List Ask → List Ask
nested zero rest = rest
nested (suc n) rest = Load (2 ^ 20) ∷ Enter 0 1 ∷ nested n rest

frame_overflow : events 600 (main_of 0 (returns (call 1 0 (takes Int []) []) ∷ [])) 0
    ≡ Load (2 ^ 20) ∷ Enter 0 0 ∷ nested 255 (Load (2 ^ 20) ∷ Trap StackOverflow ∷ Store (2 ^ 20) 1 ∷ Over (Trapped StackOverflow) ∷ [])
unfolding computing
frame_overflow = refl

-- of a thread that holds so many values already
abbrev holder : ℕ → State
holder count = record (start 0 0 []) { held = replicate count Zero; todo = Now Hold ∷ Now (In EndText Int) ∷ [] }

held_values : next (unit [] []) (holder 1023) ∷ next (unit [] []) (holder 1024) ∷ [] ≡ Out 10 ∷ Trap StackOverflow ∷ []
unfolding computing
held_values = refl

-- int main(void) { int *p = 1 - 1; return *p; }
abbrev null_constant : Expr
null_constant = expr.Convert cause.Null (pointer_to Int) (arithmetic Subtract (int 1) (int 1))

null_difference : events 20 (main_of 1 (variable_is 0 (pointer_to Int) null_constant ∷ returns (expr.Load (place.Indirection (value 0 (pointer_to Int)) Int)) ∷ [])) 0
    ≡ Load (2 ^ 20) ∷ Enter 0 0 ∷ Store 1025 0 ∷ Load 1025 ∷ Trap NullAccess ∷ Store (2 ^ 20) 1 ∷ Over (Trapped NullAccess) ∷ []
unfolding computing
null_difference = refl

-- It is evaluated as every expression is: its left operand is held, where so many are already.
abbrev finder : ℕ → State
finder count = record (start 0 0 []) { held = replicate count Zero; todo = Now (Value null_constant) ∷ Now (In EndText Int) ∷ [] }

held_operand : next (unit [] []) (finder 1023) ∷ next (unit [] []) (finder 1024) ∷ [] ≡ Out 10 ∷ Trap StackOverflow ∷ []
unfolding computing
held_operand = refl

-- static int x; .. free(&x); reads address 0.
bad_free : events 20 (unit (definition "main" (takes Int []) 0 (
    run (library_call 1 2 (expr.Convert cause.Implicit void_pointer (expr.AddressOf (static 1 Int)) ∷ [])) ∷ returns (int 0) ∷ []) ∷ []) (0 ∷ [])) 0
    ≡ Load (2 ^ 20) ∷ Enter 0 0 ∷ Load (2 ^ 20) ∷ Reach 4098 1 ∷ Load 0 ∷ Trap BadFree ∷ Store (2 ^ 20) 1 ∷ Over (Trapped BadFree) ∷ []
unfolding computing
bad_free = refl

-- static pthread_mutex_t m; .. pthread_mutex_unlock(&m); of a mutex that nobody holds
bad_unlock : events 20 (unit (definition "main" (takes Int []) 0 (
    run (library_call 1 6 (expr.AddressOf (static 1 Mutex) ∷ [])) ∷ returns (int 0) ∷ []) ∷ []) (0 ∷ [])) 0
    ≡ Load (2 ^ 20) ∷ Enter 0 0 ∷ Load (2 ^ 20) ∷ Reach 4102 1 ∷ Exchange 1 (5 * 2 ^ 60) 0 ∷ Trap BadUnlock ∷ Store (2 ^ 20) 1 ∷ Over (Trapped BadUnlock) ∷ []
unfolding computing
bad_unlock = refl

-- a function f that `main` calls
abbrev calling : FunctionInfo → UnitParts
calling f = unit (definition "main" (takes Int []) 0 (run (call 1 1 f.kind []) ∷ returns (int 0) ∷ []) ∷ f ∷ []) []

-- _Noreturn void f(void) { }
noreturn_returned : events 20 (calling (noreturn (definition "f" void 0 []))) 0
    ≡ Load (2 ^ 20) ∷ Enter 0 0 ∷ Load (2 ^ 20) ∷ Enter 1 1 ∷ Trap NoreturnReturned ∷ Store (2 ^ 20) 1 ∷ Over (Trapped NoreturnReturned) ∷ []
unfolding computing
noreturn_returned = refl

-- int f(void) { }
no_value : events 20 (calling (definition "f" (takes Int []) 0 [])) 0
    ≡ Load (2 ^ 20) ∷ Enter 0 0 ∷ Load (2 ^ 20) ∷ Enter 1 1 ∷ Trap NoValue ∷ Store (2 ^ 20) 1 ∷ Over (Trapped NoValue) ∷ []
unfolding computing
no_value = refl

-- _Noreturn int f(void) { } has no value before it returns.
no_value_before : events 20 (calling (noreturn (definition "f" (takes Int []) 0 []))) 0
    ≡ Load (2 ^ 20) ∷ Enter 0 0 ∷ Load (2 ^ 20) ∷ Enter 1 1 ∷ Trap NoValue ∷ Store (2 ^ 20) 1 ∷ Over (Trapped NoValue) ∷ []
unfolding computing
no_value_before = refl

-- int main(void) { } returns 0; marked _Noreturn it is trapped.
end_of_main : events 20 (main_of 0 []) 0 ≡ Load (2 ^ 20) ∷ Enter 0 0 ∷ Leave ∷ Store (2 ^ 20) 1 ∷ Over (Exited (pos 0)) ∷ []
unfolding computing
end_of_main = refl

end_of_a_noreturn_main : events 20 (unit (noreturn (definition "main" (takes Int []) 0 []) ∷ []) []) 0
    ≡ Load (2 ^ 20) ∷ Enter 0 0 ∷ Trap NoreturnReturned ∷ Store (2 ^ 20) 1 ∷ Over (Trapped NoreturnReturned) ∷ []
unfolding computing
end_of_a_noreturn_main = refl

-- abort();
aborts : events 20 (main_of 0 (run (library_call 1 14 []) ∷ [])) 0
    ≡ Load (2 ^ 20) ∷ Enter 0 0 ∷ Load (2 ^ 20) ∷ Reach 4110 1 ∷ Trap Abort ∷ Store (2 ^ 20) 1 ∷ Over (Trapped Abort) ∷ []
unfolding computing
aborts = refl

-- typedef void (*nb)(void) [[clang::nonblocking]]; typedef void (*pl)(void);
-- void h(void) { }
-- void f(nb *r) [[clang::nonblocking]] { (*r)(); }
-- int main(void) { pl p = h; void *v = &p; f(v); return 0; }
abbrev to_nonblocking : CType
to_nonblocking = pointer_to (a_type.Function (with_effects nonblocking void))

abbrev through_a_pointer : FnType
through_a_pointer = with_effects nonblocking (takes Void (pointer_to to_nonblocking ∷ []))

abbrev level_unit : UnitParts
level_unit = unit (
    definition "h" void 0 []
    ∷ definition "f" through_a_pointer 1 (run (expr.Call 0 1 (expr.Load (place.Indirection (value 0 (pointer_to to_nonblocking)) to_nonblocking)) []) ∷ [])
    ∷ definition "main" (takes Int []) 2 (
    variable_is 0 to_void (expr.FunctionPointer (named 0 void))
    ∷ variable_is 1 void_pointer (expr.Convert cause.Implicit void_pointer (expr.AddressOf (local 0 to_void)))
    ∷ run (call 2 1 through_a_pointer (expr.Convert cause.Implicit (pointer_to to_nonblocking) (value 1 void_pointer) ∷ []))
    ∷ returns (int 0) ∷ [])
    ∷ []) []

-- The word that was stored at the level of a plain type doesn't serve a load at a nonblocking one.
level_in_a_word : events 20 level_unit 2
    ≡ Load (2 ^ 20) ∷ Enter 2 0 ∷ Store 1025 (4 * 2 ^ 60) ∷ Store 1026 (3 * 2 ^ 60 + 1025) ∷ Load 1026 ∷ Load (2 ^ 20) ∷ Enter 1 2
    ∷ Store 1027 (3 * 2 ^ 60 + 1025) ∷ Load 1027 ∷ Load 1025 ∷ Trap BadWord ∷ Store (2 ^ 20) 1 ∷ Over (Trapped BadWord) ∷ []
unfolding computing
level_in_a_word = refl
