-- Orders of evaluation, by the events of small units: operands from the left to the right, what is held across calls, loops and initializers.
use Rattle.std.proofs.Common.{◌≡◌, refl, ℕ, ◌+◌, ◌*◌, ◌^◌, List, [], ◌∷◌, ◌++◌, Some, None, pos}
use Rattle.arithmetic.specs.declared.traps.TrapKind.TheVariants.{NullAccess, NullCall}
use Rattle.core_unit.specs.Library.{takes, void_pointer}
use Rattle.core_unit.specs.Shapes.{pointer_to, array_of}
use Rattle.core_unit.specs.declared.body.Braces.TheVariants.{Bare}
use Rattle.core_unit.specs.declared.body.Initializer.TheVariants as init
use Rattle.core_unit.specs.declared.body.LoopKind.TheVariants as loop
use Rattle.core_unit.specs.declared.body.Stmt.{Stmt}
use Rattle.core_unit.specs.declared.body.Stmt.TheVariants as stmt
use Rattle.core_unit.specs.declared.expressions.Expr.{Expr}
use Rattle.core_unit.specs.declared.expressions.Expr.TheVariants as expr
use Rattle.core_unit.specs.declared.expressions.Place.{Place}
use Rattle.core_unit.specs.declared.expressions.Place.TheVariants as place
use Rattle.core_unit.specs.declared.expressions.Storage.TheVariants.{Static, ThreadLocal}
use Rattle.core_unit.specs.declared.operators.ArithmeticOperator.TheVariants.{Multiply, Add, Subtract}
use Rattle.core_unit.specs.declared.operators.BinaryOperator.TheVariants as binary
use Rattle.core_unit.specs.declared.operators.Cause.TheVariants as cause
use Rattle.core_unit.specs.declared.operators.Comparands.TheVariants as comparands
use Rattle.core_unit.specs.declared.operators.ComparisonOperator.TheVariants.{Less}
use Rattle.core_unit.specs.declared.operators.LogicalOperator.TheVariants as logical
use Rattle.core_unit.specs.declared.operators.PointerSide.TheVariants.{Left, Right}
use Rattle.core_unit.specs.declared.operators.Sign.TheVariants.{Signed}
use Rattle.core_unit.specs.declared.operators.StepValue.TheVariants.{Prefix, Postfix}
use Rattle.core_unit.specs.declared.operators.UnaryOperator.TheVariants as unary
use Rattle.core_unit.specs.declared.operators.Update.TheVariants as update
use Rattle.core_unit.specs.declared.tables.FunctionInfo.{FunctionInfo}
use Rattle.core_unit.specs.declared.tables.UnitParts.{UnitParts}
use Rattle.eff_types.specs.declared.types.CType.{CType, Char, Int, Struct}
use Rattle.eff_types.specs.declared.types.CType.TheVariants as a_type
use Rattle.eff_types.specs.declared.types.FnType.{FnType}
use Rattle.mcode.specs.declared.events.Ask.{Ask}
use Rattle.mcode.specs.declared.events.Ask.TheVariants.{Load, Store, Enter, Leave, Reach, Trap, Over}
use Rattle.mcode.specs.declared.events.Finish.TheVariants.{Returned, Exited, Trapped}
use Rattle.src_model.proofs.Trial.{blocking, with_effects, definition, unit, int, local, static, value, named, call, arithmetic, run, returns, variable, variable_is, number_word, events, events_from, never, computing}

abbrev of_int : FnType
of_int = takes Int (Int ∷ [])

-- int f(int x) { return x + 1; } and int g(void) { return 3; }
abbrev f : FunctionInfo
f = definition "f" of_int 1 (returns (arithmetic Add (value 0 Int) (int 1)) ∷ [])

abbrev g : FunctionInfo
g = definition "g" (takes Int []) 0 (returns (int 3) ∷ [])

-- int main(void) { .. return 0; } is function 0, f is function 1, g is function 2
abbrev with_static : List ℕ → ℕ → List Stmt → UnitParts
with_static static_words words items = unit (definition "main" (takes Int []) words (items ++ returns (int 0) ∷ []) ∷ f ∷ g ∷ []) static_words

abbrev with : ℕ → List Stmt → UnitParts
with = with_static []

abbrev framed : List Ask → List Ask
framed asks = Load (2 ^ 20) ∷ Enter 0 0 ∷ asks ++ Leave ∷ Store (2 ^ 20) 1 ∷ Over (Exited (pos 0)) ∷ []

abbrev call_f : ℕ → Expr → Expr
call_f site e = call site 1 of_int (e ∷ [])

abbrev call_g : ℕ → Expr
call_g site = call site 2 (takes Int []) []

-- the events of a call of f with this argument, whose frame begins there, and of g
abbrev of_f : (site at argument : ℕ) → List Ask → List Ask
of_f site at argument rest = Load (2 ^ 20) ∷ Enter 1 site ∷ Store at (number_word argument) ∷ Load at ∷ Leave ∷ rest

abbrev of_g : ℕ → List Ask → List Ask
of_g site rest = Load (2 ^ 20) ∷ Enter 2 site ∷ Leave ∷ rest

-- static int a[4] = { 0, 0, 7, 0 }; .. int i = 1, j = 2, x = 5; a[i] = f(x) + a[j];
abbrev array : Expr
array = expr.ArrayPointer (static 1 (array_of Int 4))

abbrev element : Expr → Place
element e = place.Element array e Left 1 Int

assigned_element : events 40 (with_static (0 ∷ 0 ∷ number_word 7 ∷ 0 ∷ []) 3 (
    variable_is 0 Int (int 1) ∷ variable_is 1 Int (int 2) ∷ variable_is 2 Int (int 5)
    ∷ run (expr.Assign (element (value 0 Int)) (arithmetic Add (call_f 1 (value 2 Int)) (expr.Load (element (value 1 Int))))) ∷ [])) 0
    ≡ framed (Store 1029 (number_word 1) ∷ Store 1030 (number_word 2) ∷ Store 1031 (number_word 5)
    ∷ Load 1029 ∷ Load 1031 ∷ of_f 1 1032 5 (Load 1030 ∷ Load 3 ∷ Store 2 (number_word 13) ∷ []))
unfolding computing
assigned_element = refl

-- static struct { int k, m; } s = { 0, 10 }, with p = &s; p->m -= g();
abbrev to_struct : CType
to_struct = pointer_to (Struct 0)

compound_of_a_member : events 40 (with_static (0 ∷ number_word 10 ∷ []) 1 (
    variable_is 0 to_struct (expr.AddressOf (static 1 (Struct 0)))
    ∷ run (expr.Compound (place.Member (place.Arrow (value 0 to_struct) 0) 1 Int) (update.Arithmetic Subtract Signed) (call_g 1)) ∷ [])) 0
    ≡ framed (Store 1027 (3 * 2 ^ 60 + 1) ∷ Load 1027 ∷ Load 2 ∷ of_g 1 (Store 2 (number_word 7) ∷ []))
unfolding computing
compound_of_a_member = refl

-- return f(1) + f(f(2)) * g();
nested_calls : events 40 (with 0 (returns (arithmetic Add (call_f 1 (int 1)) (arithmetic Multiply (call_f 3 (call_f 2 (int 2))) (call_g 4))) ∷ [])) 0
    ≡ Load (2 ^ 20) ∷ Enter 0 0 ∷ of_f 1 1025 1 (of_f 2 1025 2 (of_f 3 1025 3 (of_g 4 (Leave ∷ Store (2 ^ 20) 1 ∷ Over (Exited (pos 14)) ∷ []))))
unfolding computing
nested_calls = refl

-- int c = 1; return (c ? g : main)(); and int c = 0; return (c ? NULL : f)(f(4));
abbrev to_int : CType
to_int = pointer_to (a_type.Function (takes Int []))

chosen_function : events 40 (with 1 (
    variable_is 0 Int (int 1)
    ∷ returns (expr.Call 0 1 (expr.Conditional (value 0 Int) (expr.FunctionPointer (named 2 (takes Int []))) (expr.FunctionPointer (named 0 (takes Int [])))) []) ∷ [])) 0
    ≡ Load (2 ^ 20) ∷ Enter 0 0 ∷ Store 1025 (number_word 1) ∷ Load 1025 ∷ of_g 1 (Leave ∷ Store (2 ^ 20) 1 ∷ Over (Exited (pos 3)) ∷ [])
unfolding computing
chosen_function = refl

abbrev to_of_int : CType
to_of_int = pointer_to (a_type.Function of_int)

other_function : events 40 (with 1 (
    variable_is 0 Int (int 0)
    ∷ returns (expr.Call 0 2 (expr.Conditional (value 0 Int) (expr.Convert cause.Null to_of_int expr.Null) (expr.FunctionPointer (named 1 of_int))) (call_f 1 (int 4) ∷ [])) ∷ [])) 0
    ≡ Load (2 ^ 20) ∷ Enter 0 0 ∷ Store 1025 0 ∷ Load 1025 ∷ of_f 1 1026 4 (of_f 2 1026 5 (Leave ∷ Store (2 ^ 20) 1 ∷ Over (Exited (pos 6)) ∷ []))
unfolding computing
other_function = refl

-- int (*p)(int) = NULL; p(f(4)); the arguments are evaluated before the callee is found to be null.
null_after_arguments : events 40 (with 1 (
    variable_is 0 to_of_int (expr.Convert cause.Null to_of_int expr.Null) ∷ run (expr.Call 0 2 (value 0 to_of_int) (call_f 1 (int 4) ∷ [])) ∷ [])) 0
    ≡ Load (2 ^ 20) ∷ Enter 0 0 ∷ Store 1025 0 ∷ Load 1025 ∷ of_f 1 1026 4 (Trap NullCall ∷ Store (2 ^ 20) 1 ∷ Over (Trapped NullCall) ∷ [])
unfolding computing
null_after_arguments = refl

-- int *p = NULL; *p = g(); finds the value before it is trapped; *p += g(); doesn't.
abbrev null_pointer : Stmt
null_pointer = variable_is 0 (pointer_to Int) (expr.Convert cause.Null (pointer_to Int) expr.Null)

abbrev target : Place
target = place.Indirection (value 0 (pointer_to Int)) Int

assigned_through_null : events 40 (with 1 (null_pointer ∷ run (expr.Assign target (call_g 1)) ∷ [])) 0
    ≡ Load (2 ^ 20) ∷ Enter 0 0 ∷ Store 1025 0 ∷ Load 1025 ∷ of_g 1 (Trap NullAccess ∷ Store (2 ^ 20) 1 ∷ Over (Trapped NullAccess) ∷ [])
unfolding computing
assigned_through_null = refl

compound_through_null : events 40 (with 1 (null_pointer ∷ run (expr.Compound target (update.Arithmetic Add Signed) (call_g 1)) ∷ [])) 0
    ≡ Load (2 ^ 20) ∷ Enter 0 0 ∷ Store 1025 0 ∷ Load 1025 ∷ Trap NullAccess ∷ Store (2 ^ 20) 1 ∷ Over (Trapped NullAccess) ∷ []
unfolding computing
compound_through_null = refl

-- int (*p)(int) = f; return (*p)(4); the word that is loaded is that of a function of the type.
call_through : events 40 (with 1 (
    variable_is 0 to_of_int (expr.FunctionPointer (named 1 of_int))
    ∷ returns (expr.Call 0 1 (expr.TargetFunction (value 0 to_of_int)) (int 4 ∷ [])) ∷ [])) 0
    ≡ Load (2 ^ 20) ∷ Enter 0 0 ∷ Store 1025 (4 * 2 ^ 60 + 1) ∷ Load 1025 ∷ of_f 1 1026 4 (Leave ∷ Store (2 ^ 20) 1 ∷ Over (Exited (pos 5)) ∷ [])
unfolding computing
call_through = refl

-- return 2[a]; of the same array
index_on_the_left : events 20 (with_static (0 ∷ 0 ∷ number_word 7 ∷ 0 ∷ []) 0 (returns (expr.Load (place.Element (int 2) array Right 1 Int)) ∷ [])) 0
    ≡ Load (2 ^ 20) ∷ Enter 0 0 ∷ Load 3 ∷ Leave ∷ Store (2 ^ 20) 1 ∷ Over (Exited (pos 7)) ∷ []
unfolding computing
index_on_the_left = refl

-- int x = 0; return (x && f(1)) || g(); and return (!x || f(1)) && g();
abbrev x : Expr
x = value 0 Int

and_or : events 40 (with 1 (variable_is 0 Int (int 0) ∷ returns (expr.Logical logical.Or (expr.Logical logical.And x (call_f 1 (int 1))) (call_g 2)) ∷ [])) 0
    ≡ Load (2 ^ 20) ∷ Enter 0 0 ∷ Store 1025 0 ∷ Load 1025 ∷ of_g 2 (Leave ∷ Store (2 ^ 20) 1 ∷ Over (Exited (pos 1)) ∷ [])
unfolding computing
and_or = refl

or_and : events 40 (with 1 (variable_is 0 Int (int 0)
    ∷ returns (expr.Logical logical.And (expr.Logical logical.Or (expr.Unary unary.Not x) (call_f 1 (int 1))) (call_g 2)) ∷ [])) 0
    ≡ Load (2 ^ 20) ∷ Enter 0 0 ∷ Store 1025 0 ∷ Load 1025 ∷ of_g 2 (Leave ∷ Store (2 ^ 20) 1 ∷ Over (Exited (pos 1)) ∷ [])
unfolding computing
or_and = refl

-- int x = 3; return x++ * 10 + --x;
abbrev steps : Expr
steps = arithmetic Add (arithmetic Multiply (expr.Step (local 0 Int) (update.Arithmetic Add Signed) Postfix) (int 10))
    (expr.Step (local 0 Int) (update.Arithmetic Subtract Signed) Prefix)

steps_of_numbers : events 40 (with 1 (variable_is 0 Int (int 3) ∷ returns steps ∷ [])) 0
    ≡ Load (2 ^ 20) ∷ Enter 0 0 ∷ Store 1025 (number_word 3) ∷ Load 1025 ∷ Store 1025 (number_word 4) ∷ Load 1025 ∷ Store 1025 (number_word 3)
    ∷ Leave ∷ Store (2 ^ 20) 1 ∷ Over (Exited (pos 33)) ∷ []
unfolding computing
steps_of_numbers = refl

-- int *p = a; *p++ = g(); p += 2;
abbrev to_number : CType
to_number = pointer_to Int

steps_of_pointers : events 40 (with_static (0 ∷ 0 ∷ 0 ∷ 0 ∷ []) 1 (
    variable_is 0 to_number array
    ∷ run (expr.Assign (place.Indirection (expr.Step (local 0 to_number) (update.Forward 1) Postfix) Int) (call_g 1))
    ∷ run (expr.Compound (local 0 to_number) (update.Forward 1) (int 2)) ∷ [])) 0
    ≡ framed (Store 1029 (3 * 2 ^ 60 + 1) ∷ Load 1029 ∷ Store 1029 (3 * 2 ^ 60 + 2) ∷ of_g 1 (Store 1 (number_word 3)
    ∷ Load 1029 ∷ Store 1029 (3 * 2 ^ 60 + 4) ∷ []))
unfolding computing
steps_of_pointers = refl

-- int x = 0; return (x, (void)x, g());
commas : events 40 (with 1 (variable_is 0 Int (int 0) ∷ returns (expr.Comma (expr.Comma x (expr.Discard x)) (call_g 1)) ∷ [])) 0
    ≡ Load (2 ^ 20) ∷ Enter 0 0 ∷ Store 1025 0 ∷ Load 1025 ∷ Load 1025 ∷ of_g 1 (Leave ∷ Store (2 ^ 20) 1 ∷ Over (Exited (pos 3)) ∷ [])
unfolding computing
commas = refl

-- for (int i = 0; i < 2; i++) ;
counted_loop : events 40 (with 1 (stmt.For (variable_is 0 Int (int 0) ∷ [])
    (Some (expr.Binary (binary.Compare Less (comparands.Numbers Signed)) x (int 2)))
    (Some (expr.Step (local 0 Int) (update.Arithmetic Add Signed) Postfix)) stmt.Empty ∷ [])) 0
    ≡ framed (Store 1025 0 ∷ Load (2 ^ 20) ∷ Load 1025 ∷ Load 1025 ∷ Store 1025 (number_word 1) ∷ Load (2 ^ 20) ∷ Load 1025 ∷ Load 1025 ∷ Store 1025 (number_word 2)
    ∷ Load (2 ^ 20) ∷ Load 1025 ∷ [])
unfolding computing
counted_loop = refl

-- for (;;) { break; x; }
endless_loop : events 20 (with 1 (stmt.For [] None None (stmt.Block (stmt.Break ∷ run x ∷ [])) ∷ [])) 0 ≡ framed (Load (2 ^ 20) ∷ [])
unfolding computing
endless_loop = refl

-- int x = 2; do x--; while (x);
abbrev falls : Expr
falls = expr.Step (local 0 Int) (update.Arithmetic Subtract Signed) Postfix

do_loop : events 40 (with 1 (variable_is 0 Int (int 2) ∷ stmt.Loop loop.DoWhile x (run falls) ∷ [])) 0
    ≡ framed (Store 1025 (number_word 2) ∷ Load (2 ^ 20) ∷ Load 1025 ∷ Store 1025 (number_word 1) ∷ Load 1025 ∷ Load (2 ^ 20) ∷ Load 1025 ∷ Store 1025 0 ∷ Load 1025 ∷ [])
unfolding computing
do_loop = refl

-- int x = 1; while (x) { { x--; continue; } x; }; do { continue; x; } while (x); for (;x; x--) continue;
continued_loops : events 40 (with 1 (variable_is 0 Int (int 1)
    ∷ stmt.Loop loop.While x (stmt.Block (stmt.Block (run falls ∷ stmt.Continue ∷ []) ∷ run x ∷ []))
    ∷ stmt.Loop loop.DoWhile x (stmt.Block (stmt.Continue ∷ run x ∷ []))
    ∷ run (expr.Assign (local 0 Int) (int 1))
    ∷ stmt.For [] (Some x) (Some falls) stmt.Continue ∷ [])) 0
    ≡ framed (Store 1025 (number_word 1) ∷ Load (2 ^ 20) ∷ Load 1025 ∷ Load 1025 ∷ Store 1025 0 ∷ Load (2 ^ 20) ∷ Load 1025
    ∷ Load (2 ^ 20) ∷ Load 1025
    ∷ Store 1025 (number_word 1) ∷ Load (2 ^ 20) ∷ Load 1025 ∷ Load 1025 ∷ Store 1025 0 ∷ Load (2 ^ 20) ∷ Load 1025 ∷ [])
unfolding computing
continued_loops = refl

-- while (1) { while (1) break; break; }
broken_loops : events 20 (with 0 (stmt.Loop loop.While (int 1) (stmt.Block (stmt.Loop loop.While (int 1) stmt.Break ∷ stmt.Break ∷ [])) ∷ [])) 0
    ≡ framed (Load (2 ^ 20) ∷ Load (2 ^ 20) ∷ [])
unfolding computing
broken_loops = refl

-- int x = 0; if (x) g(); else f(1); if (!x) return 5; x;
branches : events 40 (with 1 (variable_is 0 Int (int 0)
    ∷ stmt.If x (run (call_g 1)) (run (call_f 2 (int 1)) ∷ [])
    ∷ stmt.If (expr.Unary unary.Not x) (returns (int 5)) [] ∷ run x ∷ [])) 0
    ≡ Load (2 ^ 20) ∷ Enter 0 0 ∷ Store 1025 0 ∷ Load 1025 ∷ of_f 2 1026 1 (Load 1025 ∷ Leave ∷ Store (2 ^ 20) 1 ∷ Over (Exited (pos 5)) ∷ [])
unfolding computing
branches = refl

-- int b[4] = { f(1), 2 }; char s[4] = "hi"; int z[2] = {0}; int u[2]; static int n;
initializers : events 40 (with 12 (
    variable 0 (array_of Int 4) (init.List (init.Value Bare (call_f 1 (int 1)) ∷ init.Value Bare (int 2) ∷ []) 2)
    ∷ variable 4 (array_of Char 4) (init.Text (104 ∷ 105 ∷ []) 2)
    ∷ variable 8 (array_of Int 2) (init.Zeros 2)
    ∷ variable 10 (array_of Int 2) (init.Absent 2)
    ∷ stmt.Variable (record { place = 0; storage = Static 1; kind = Int; initializer = init.Absent 1 }) ∷ [])) 0
    ≡ framed (of_f 1 1037 1 (Store 1025 (number_word 2) ∷ Store 1026 (number_word 2) ∷ Store 1027 0 ∷ Store 1028 0
    ∷ Store 1029 (number_word 104) ∷ Store 1030 (number_word 105) ∷ Store 1031 0 ∷ Store 1032 0
    ∷ Store 1033 0 ∷ Store 1034 0 ∷ Store 1035 (2 ^ 60) ∷ Store 1036 (2 ^ 60) ∷ []))
unfolding computing
initializers = refl

-- _Thread_local int t; void *w(void *p) { t = 1; return NULL; } in threads 0 and 2
abbrev with_thread_local : UnitParts
with_thread_local = unit (definition "w" (takes void_pointer (void_pointer ∷ [])) 1 (
    run (expr.Assign (place.Variable 0 (ThreadLocal 3) Int) (int 1)) ∷ returns expr.Null ∷ []) ∷ []) []

thread_local_of_0 : events_from never 20 with_thread_local [] 0 0 (0 ∷ [])
    ≡ Load (2 ^ 20) ∷ Enter 0 0 ∷ Store 1025 0 ∷ Store 4 (number_word 1) ∷ Leave ∷ Store (2 ^ 20) 1 ∷ Over (Exited (pos 0)) ∷ []
unfolding computing
thread_local_of_0 = refl

thread_local_of_2 : events_from never 20 with_thread_local [] 2 0 (0 ∷ [])
    ≡ Load (2 ^ 20) ∷ Enter 0 0 ∷ Store 11265 0 ∷ Store 10244 (number_word 1) ∷ Leave ∷ Store (2 ^ 20 + 130) 0 ∷ Store (2 ^ 20 + 66) 1 ∷ Over Returned ∷ []
unfolding computing
thread_local_of_2 = refl

-- A blocking first function is reached from site 0, before its parameters are stored: int b(int x, int y) [[clang::blocking]] { return y; }
blocking_start : events_from never 20 (unit (definition "b" (with_effects blocking (takes Int (Int ∷ Int ∷ []))) 2 (returns (value 1 Int) ∷ []) ∷ []) []) [] 0 0
    (number_word 4 ∷ number_word 9 ∷ [])
    ≡ Load (2 ^ 20) ∷ Enter 0 0 ∷ Reach 0 0 ∷ Store 1025 (number_word 4) ∷ Store 1026 (number_word 9) ∷ Load 1026 ∷ Leave ∷ Store (2 ^ 20) 1
    ∷ Over (Exited (pos 9)) ∷ []
unfolding computing
blocking_start = refl
