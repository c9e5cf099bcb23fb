-- The events of small whole units, with their counts. The halt word stands at 2^20; the stack of thread 0 begins 1,024 words behind the words of
-- static storage, of which the first has address 1.
use Rattle.std.proofs.Common.{◌≡◌, refl, ◌^◌, [], ◌∷◌, replicate, pos}
use Rattle.std.specs.Prelude.{count_by}
use Rattle.core_unit.specs.Library.{takes}
use Rattle.core_unit.specs.declared.body.LoopKind.TheVariants as loop
use Rattle.core_unit.specs.declared.body.Stmt.TheVariants as stmt
use Rattle.core_unit.specs.declared.expressions.Expr.TheVariants as expr
use Rattle.core_unit.specs.declared.expressions.Place.TheVariants as place
use Rattle.core_unit.specs.declared.operators.ArithmeticOperator.TheVariants.{Remainder, Add}
use Rattle.core_unit.specs.declared.operators.Sign.TheVariants.{Unsigned as Without}
use Rattle.core_unit.specs.declared.tables.UnitParts.{UnitParts}
use Rattle.eff_types.specs.declared.types.CType.{Void, Int}
use Rattle.eff_types.specs.declared.types.FnType.{FnType}
use Rattle.mcode.specs.Steps.{is_event}
use Rattle.mcode.specs.declared.events.Ask.TheVariants.{Load, Store, Enter, Leave, Reach, Out, Over}
use Rattle.mcode.specs.declared.events.Finish.TheVariants.{Exited, Halted}
use Rattle.src_model.proofs.Trial.{nonblocking, blocking, with_effects, definition, noreturn, unit, main_of, int, local, value, call, library_call, arithmetic, run, returns, variable_is, number_word, events, events_until, at_reach, computing}

abbrev void : FnType
void = takes Void []

-- void f(void) [[clang::nonblocking]] { malloc(1); }
-- int main(void) { f(); return 0; }
abbrev first_unit : UnitParts
first_unit = unit (
    definition "f" (with_effects nonblocking void) 0 (run (library_call 1 0 (expr.Number Without 1 ∷ [])) ∷ [])
    ∷ definition "main" (takes Int []) 0 (run (call 2 0 (with_effects nonblocking void) []) ∷ returns (int 0) ∷ [])
    ∷ []) []

-- Seven events: the report ends the thread.
first_events : events_until (at_reach 4096) 20 first_unit 1
    ≡ Load (2 ^ 20) ∷ Enter 1 0 ∷ Load (2 ^ 20) ∷ Enter 0 2 ∷ Load (2 ^ 20) ∷ Reach 4096 1 ∷ Store (2 ^ 20) 1 ∷ Over Halted ∷ []
unfolding computing
first_events = refl

-- void slow(void) [[clang::blocking]] { }
-- void f(void) [[clang::nonblocking]] { slow(); }
-- int main(void) { f(); return 0; }
abbrev blocking_unit : UnitParts
blocking_unit = unit (
    definition "slow" (with_effects blocking void) 0 []
    ∷ definition "f" (with_effects nonblocking void) 0 (run (call 1 0 (with_effects blocking void) []) ∷ [])
    ∷ definition "main" (takes Int []) 0 (run (call 2 1 (with_effects nonblocking void) []) ∷ returns (int 0) ∷ [])
    ∷ []) []

-- Eight events: the blocking function is entered, and then reached.
blocking_events : events_until (at_reach 0) 20 blocking_unit 2
    ≡ Load (2 ^ 20) ∷ Enter 2 0 ∷ Load (2 ^ 20) ∷ Enter 1 2 ∷ Load (2 ^ 20) ∷ Enter 0 1 ∷ Reach 0 1 ∷ Store (2 ^ 20) 1 ∷ Over Halted ∷ []
unfolding computing
blocking_events = refl

-- the same, where no report ends the thread
blocking_events_on : events 20 blocking_unit 2
    ≡ Load (2 ^ 20) ∷ Enter 2 0 ∷ Load (2 ^ 20) ∷ Enter 1 2 ∷ Load (2 ^ 20) ∷ Enter 0 1 ∷ Reach 0 1 ∷ Leave ∷ Leave ∷ Leave ∷ Store (2 ^ 20) 1
    ∷ Over (Exited (pos 0)) ∷ []
unfolding computing
blocking_events_on = refl

-- int main(void) { while (1) ; }
-- Of ten events eight are turns of the loop.
endless_events : events 10 (main_of 0 (stmt.Loop loop.While (int 1) stmt.Empty ∷ [])) 0 ≡ Load (2 ^ 20) ∷ Enter 0 0 ∷ replicate 8 (Load (2 ^ 20))
unfolding computing
endless_events = refl

-- int g[8];
-- int f0(int x) { return x + 1; }
-- int main(void) { int s = 0; s = s + f0(0) % 100; return s % 256; }
abbrev generated_unit : UnitParts
generated_unit = unit (
    definition "f0" (takes Int (Int ∷ [])) 1 (returns (arithmetic Add (value 0 Int) (int 1)) ∷ [])
    ∷ definition "main" (takes Int []) 1 (
    variable_is 0 Int (int 0)
    ∷ run (expr.Assign (local 0 Int) (arithmetic Add (value 0 Int) (arithmetic Remainder (call 1 0 (takes Int (Int ∷ [])) (int 0 ∷ [])) (int 100))))
    ∷ returns (arithmetic Remainder (value 0 Int) (int 256)) ∷ [])
    ∷ []) (replicate 8 0)

-- Thirteen events.
generated_events : events 20 generated_unit 1
    ≡ Load (2 ^ 20) ∷ Enter 1 0 ∷ Store 1033 0 ∷ Load 1033 ∷ Load (2 ^ 20) ∷ Enter 0 1 ∷ Store 1034 0 ∷ Load 1034 ∷ Leave ∷ Store 1033 (number_word 1)
    ∷ Load 1033 ∷ Leave ∷ Store (2 ^ 20) 1 ∷ Over (Exited (pos 1)) ∷ []
unfolding computing
generated_events = refl

-- _Noreturn void die(void) { puts("bad"); exit(1); }
-- void f(void) [[clang::nonblocking]] { die(); }
-- int main(void) { f(); return 0; }
abbrev dying_unit : UnitParts
dying_unit = unit (
    noreturn (definition "die" void 0 (run (library_call 1 8 (expr.ArrayPointer (place.Text 1 4) ∷ [])) ∷ run (library_call 2 13 (int 1 ∷ [])) ∷ []))
    ∷ definition "f" (with_effects nonblocking void) 0 (run (call 3 0 void []) ∷ [])
    ∷ definition "main" (takes Int []) 0 (run (call 4 1 (with_effects nonblocking void) []) ∷ returns (int 0) ∷ [])
    ∷ []) (number_word 98 ∷ number_word 97 ∷ number_word 100 ∷ 0 ∷ [])

dying_events : events_until (at_reach 4104) 20 dying_unit 2
    ≡ Load (2 ^ 20) ∷ Enter 2 0 ∷ Load (2 ^ 20) ∷ Enter 1 4 ∷ Load (2 ^ 20) ∷ Enter 0 3 ∷ Load (2 ^ 20) ∷ Reach 4104 1 ∷ Store (2 ^ 20) 1 ∷ Over Halted ∷ []
unfolding computing
dying_events = refl

-- Without a report, the text is written and the thread exits.
dying_events_on : events 40 dying_unit 2
    ≡ Load (2 ^ 20) ∷ Enter 2 0 ∷ Load (2 ^ 20) ∷ Enter 1 4 ∷ Load (2 ^ 20) ∷ Enter 0 3 ∷ Load (2 ^ 20) ∷ Reach 4104 1
    ∷ Load 1 ∷ Out 98 ∷ Load 2 ∷ Out 97 ∷ Load 3 ∷ Out 100 ∷ Load 4 ∷ Out 10
    ∷ Load (2 ^ 20) ∷ Reach 4109 2 ∷ Store (2 ^ 20) 1 ∷ Over (Exited (pos 1)) ∷ []
unfolding computing
dying_events_on = refl

-- How many events they are, the finishes aside.
numbers_of_events :
    count_by is_event (events_until (at_reach 4096) 20 first_unit 1) ∷ count_by is_event (events_until (at_reach 0) 20 blocking_unit 2)
    ∷ count_by is_event (events 20 generated_unit 1) ∷ []
    ≡ 7 ∷ 8 ∷ 13 ∷ []
unfolding computing
numbers_of_events = refl
