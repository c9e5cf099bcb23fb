-- Scheduled runs of two and three threads, from the start to their endings: how the turns are taken, what threads see of one another.
use Rattle.std.proofs.Common.{◌≡◌, refl, ℕ, ◌+◌, ◌^◌, false, List, [], ◌∷◌, ◌++◌, map, Option, Some, pos, replicate}
use Rattle.core_unit.specs.Library.{takes, void_pointer}
use Rattle.core_unit.specs.Shapes.{pointer_to}
use Rattle.core_unit.specs.declared.body.Initializer.TheVariants as init
use Rattle.core_unit.specs.declared.body.LoopKind.TheVariants as loop
use Rattle.core_unit.specs.declared.body.Stmt.{Stmt}
use Rattle.core_unit.specs.declared.body.Stmt.TheVariants as stmt
use Rattle.core_unit.specs.declared.expressions.Expr.{Expr}
use Rattle.core_unit.specs.declared.expressions.Expr.TheVariants as expr
use Rattle.core_unit.specs.declared.operators.ArithmeticOperator.TheVariants.{Add}
use Rattle.core_unit.specs.declared.operators.Cause.TheVariants as cause
use Rattle.core_unit.specs.declared.operators.Sign.TheVariants.{Unsigned as Without}
use Rattle.core_unit.specs.declared.tables.FunctionInfo.{FunctionInfo}
use Rattle.core_unit.specs.declared.tables.UnitParts.{UnitParts}
use Rattle.eff_types.specs.declared.types.CType.{Void, Int, Unsigned, Mutex}
use Rattle.eff_types.specs.declared.types.FnType.{FnType}
use Rattle.mcode.specs.declared.events.Ask.{Ask}
use Rattle.mcode.specs.declared.events.Ask.TheVariants.{Load, Store, Enter, Leave, Reach, Create}
use Rattle.src_model.specs.Runs.{Setting}
use Rattle.src_model.specs.Scheduled.{Live, thread_of}
use Rattle.src_model.specs.Totals.{total, unique}
use Rattle.src_model.specs.declared.runs.End.{End}
use Rattle.src_model.specs.declared.runs.End.TheVariants.{Returned, Exited, Halted, Stopped, Waiting, Full}
use Rattle.src_model.specs.declared.runs.Made.{Made}
use Rattle.src_model.specs.declared.runs.Options.{Options}
use Rattle.src_model.proofs.Trial.{nonblocking, with_effects, definition, unit, int, local, static, value, named, call, library_call, arithmetic, run, returns, variable, number_word, computing, defaults, setting, over, over_board, ends}

abbrev starts : FnType
starts = takes void_pointer (void_pointer ∷ [])

-- void *w(void *p) { .. return p; } is function 0, by what stands before its return; int main(void) { .. return x; } is function 1. At address 1
-- stands `int x;`, at address 2 `pthread_mutex_t m;`.
abbrev x : Expr
x = expr.Load (static 1 Int)

abbrev worker : List Stmt → FunctionInfo
worker items = definition "w" starts 1 (items ++ returns (value 0 void_pointer) ∷ [])

abbrev with : (work : List Stmt) → ℕ → (items : List Stmt) → UnitParts
with work words items = unit (worker work ∷ definition "main" (takes Int []) words (items ++ returns x ∷ []) ∷ []) (0 ∷ 0 ∷ [])

-- x = x + 1;
abbrev increment : Stmt
increment = run (expr.Assign (static 1 Int) (arithmetic Add x (int 1)))

-- pthread_t t; pthread_create(&t, NULL, f, NULL); pthread_join(t, NULL);
abbrev thread : ℕ → Stmt
thread offset = variable offset Unsigned (init.Absent 1)

abbrev creates : (site offset function : ℕ) → Stmt
creates site offset function =
    run (library_call site 3 (expr.AddressOf (local offset Unsigned) ∷ expr.Null ∷ expr.FunctionPointer (named function starts) ∷ expr.Null ∷ []))

abbrev joins : (site offset : ℕ) → Stmt
joins site offset = run (library_call site 4 (value offset Unsigned ∷ expr.Convert cause.Null (pointer_to void_pointer) expr.Null ∷ []))

-- Both threads increment x: one behind the other, or both from 0.
abbrev increments : Setting
increments = setting (with (increment ∷ []) 1 (thread 0 ∷ creates 1 0 0 ∷ increment ∷ joins 2 0 ∷ [])) defaults []

increments_in_turn : ends increments [] ≡ Some (Exited (pos 2)) ∷ Some Returned ∷ []
unfolding computing
increments_in_turn = refl

increments_lost : ends increments (replicate 8 0 ++ replicate 4 1) ≡ Some (Exited (pos 1)) ∷ Some Returned ∷ []
unfolding computing
increments_lost = refl

-- A number that isn't there, or that has ended, is passed over.
turns_passed_over : ends increments (1 ∷ 63 ∷ 0 ∷ 2 ∷ []) ≡ Some (Exited (pos 2)) ∷ Some Returned ∷ []
unfolding computing
turns_passed_over = refl

-- The events of thread 1, which begins in the round in which it is started.
abbrev asks_in : List Live → List (List Ask)
asks_in threads = map (λ (t : Live). map (λ (m : Made). m.ask) t.trace) threads

abbrev second_of : List (List Ask) → List Ask
second_of (first ∷ second ∷ rest) = second
second_of _ = []

started_events : second_of (asks_in (over increments []).threads)
    ≡ Store (2 ^ 20 + 65) 1 ∷ Store (2 ^ 20 + 129) 0 ∷ Leave ∷ Load 6147 ∷ Store 1 (number_word 2) ∷ Load 1 ∷ Store 6147 0 ∷ Enter 0 0 ∷ Load (2 ^ 20) ∷ []
unfolding computing
started_events = refl

-- pthread_mutex_lock(&m); x = x + 1; pthread_mutex_unlock(&m); in both: none is lost, whatever the turns.
abbrev locks : (site row : ℕ) → Stmt
locks site row = run (library_call site row (expr.AddressOf (static 2 Mutex) ∷ []))

abbrev locked : (site : ℕ) → List Stmt
locked site = locks site 5 ∷ increment ∷ locks (site + 1) 6 ∷ []

abbrev locked_increments : Setting
locked_increments = setting (with (locked 1) 1 (thread 0 ∷ creates 3 0 0 ∷ locked 4 ++ joins 6 0 ∷ [])) defaults []

locked_in_turn : ends locked_increments [] ≡ Some (Exited (pos 2)) ∷ Some Returned ∷ []
unfolding computing
locked_in_turn = refl

-- Thread 0 has the mutex and has loaded x; thread 1 tries it in vain.
locked_in_vain : ends locked_increments (replicate 11 0 ++ replicate 9 1) ≡ Some (Exited (pos 2)) ∷ Some Returned ∷ []
unfolding computing
locked_in_vain = refl

-- A mutex that nobody unlocks: thread 1 waits for it, and thread 0 for thread 1, up to three tries each.
abbrev never_unlocked : Setting
never_unlocked = setting (with (locks 1 5 ∷ []) 1 (thread 0 ∷ locks 2 5 ∷ creates 3 0 0 ∷ joins 4 0 ∷ [])) (record defaults { wait_limit = 3 }) []

both_wait : ends never_unlocked [] ≡ Some Waiting ∷ Some Waiting ∷ []
unfolding computing
both_wait = refl

-- main returns before the thread that it started does: that one is halted at its next load of the halt word.
abbrev left_alone : Setting
left_alone = setting (with (stmt.Loop loop.While (int 1) stmt.Empty ∷ []) 1 (thread 0 ∷ creates 1 0 0 ∷ [])) defaults []

halted_by_the_first : ends left_alone [] ≡ Some (Exited (pos 0)) ∷ Some Halted ∷ []
unfolding computing
halted_by_the_first = refl

-- with at most nine events, both are stopped
both_stopped : ends (setting (with (stmt.Loop loop.While (int 1) stmt.Empty ∷ []) 1 (thread 0 ∷ creates 1 0 0 ∷ joins 2 0 ∷ [])) (record defaults { events = 9 }) []) []
    ≡ Some Stopped ∷ Some Stopped ∷ []
unfolding computing
both_stopped = refl

-- void *v(void *p) { pthread_t t; pthread_create(&t, NULL, w, NULL); pthread_join(t, NULL); x = x + 1; return p; } is function 2, which main starts:
-- thread 2 is started by thread 1.
abbrev chained : Setting
chained = setting (unit (
    worker (increment ∷ [])
    ∷ definition "main" (takes Int []) 1 (thread 0 ∷ creates 3 0 2 ∷ joins 4 0 ∷ returns x ∷ [])
    ∷ definition "v" starts 2 (thread 1 ∷ creates 1 1 0 ∷ joins 2 1 ∷ increment ∷ returns (value 0 void_pointer) ∷ [])
    ∷ []) (0 ∷ 0 ∷ [])) defaults []

late_thread : ends chained [] ≡ Some (Exited (pos 2)) ∷ Some Returned ∷ Some Returned ∷ []
unfolding computing
late_thread = refl

-- Thread 0 has waited for long when thread 2 begins.
late_thread_by_a_schedule : ends chained (replicate 12 0 ++ replicate 9 1) ≡ Some (Exited (pos 2)) ∷ Some Returned ∷ Some Returned ∷ []
unfolding computing
late_thread_by_a_schedule = refl

-- void f(void) [[clang::nonblocking]] { usleep(1); } is function 2, which the worker calls; two workers.
abbrev reporting : Options → Setting
reporting options = setting (unit (
    worker (run (call 2 2 (with_effects nonblocking (takes Void [])) []) ∷ [])
    ∷ definition "main" (takes Int []) 2 (thread 0 ∷ thread 1 ∷ creates 3 0 0 ∷ creates 4 1 0 ∷ joins 5 0 ∷ joins 6 1 ∷ returns (int 0) ∷ [])
    ∷ definition "f" (with_effects nonblocking (takes Void [])) 0 (run (library_call 1 7 (expr.Number Without 1 ∷ [])) ∷ [])
    ∷ []) (0 ∷ 0 ∷ [])) options []

-- Both report, and go on.
reports_go_on : ends (reporting (record defaults { halt_on_error = false })) [] ≡ Some (Exited (pos 0)) ∷ Some Returned ∷ Some Returned ∷ []
unfolding computing
reports_go_on = refl

-- Each is halted: thread 1 by its report, the others by the halt word.
reports_halt : ends (reporting defaults) [] ≡ Some Halted ∷ Some Halted ∷ Some Halted ∷ []
unfolding computing
reports_halt = refl

-- Two reports of one stack.
abbrev totals_of : Setting → List ℕ → List ℕ
totals_of w schedule = let threads = map thread_of (over w schedule).threads in total w threads ∷ unique w threads ∷ []

report_totals : totals_of (reporting (record defaults { halt_on_error = false })) [] ≡ 2 ∷ 1 ∷ []
unfolding computing
report_totals = refl

-- Boards that are full. main starts a worker, calls f, which reports, and calls it once more; the worker calls it between. The three stacks have three
-- prefixes each, of which main's two have the first in common.
abbrev filling : Options → Setting
filling options = setting (unit (
    worker (run (call 2 2 (with_effects nonblocking (takes Void [])) []) ∷ [])
    ∷ definition "main" (takes Int []) 1 (
    thread 0 ∷ creates 3 0 0 ∷ run (call 4 2 (with_effects nonblocking (takes Void [])) []) ∷ run (call 5 2 (with_effects nonblocking (takes Void [])) []) ∷ returns (int 0) ∷ [])
    ∷ definition "f" (with_effects nonblocking (takes Void [])) 0 (run (library_call 1 7 (expr.Number Without 1 ∷ [])) ∷ [])
    ∷ []) (0 ∷ 0 ∷ [])) options []

abbrev going_on : Setting
going_on = filling (record defaults { halt_on_error = false })

abbrev ends_within : ℕ → Setting → List (Option End)
ends_within room w = map (λ (t : Live). t.end) (over_board room w []).threads

abbrev totals_within : ℕ → Setting → List ℕ
totals_within room w = let threads = map thread_of (over_board room w []).threads in total w threads ∷ unique w threads ∷ []

-- With room for all of them nobody is refused.
roomy_board : ends_within 8 going_on ≡ Some (Exited (pos 0)) ∷ Some Returned ∷ []
unfolding computing
roomy_board = refl

roomy_totals : totals_within 8 going_on ≡ 3 ∷ 3 ∷ []
unfolding computing
roomy_totals = refl

-- With one less main's last report is refused, and isn't counted; the worker goes on.
last_refused : ends_within 7 going_on ≡ Some Full ∷ Some Returned ∷ []
unfolding computing
last_refused = refl

last_totals : totals_within 7 going_on ≡ 2 ∷ 2 ∷ []
unfolding computing
last_totals = refl

-- With room for five the worker's stack is refused, and the two prefixes of it for which there was room are held: so main's last one is refused too.
both_refused : ends_within 5 going_on ≡ Some Full ∷ Some Full ∷ []
unfolding computing
both_refused = refl

both_totals : totals_within 5 going_on ≡ 1 ∷ 1 ∷ []
unfolding computing
both_totals = refl

-- The thread whose report is refused has ended with that event: nothing is stored at the halt word, also where a report would halt it.
abbrev asks_of : List (List Ask) → List Ask
asks_of (first ∷ rest) = first
asks_of [] = []

refused_last_event : asks_of (asks_in (over_board 2 (filling defaults) []).threads)
    ≡ Reach 4103 1 ∷ Load (2 ^ 20) ∷ Enter 2 4 ∷ Load (2 ^ 20) ∷ Store 1027 (number_word 1) ∷ Create 0 0 ∷ Reach 4099 3 ∷ Load (2 ^ 20)
    ∷ Store 1027 (2 ^ 60) ∷ Enter 1 0 ∷ Load (2 ^ 20) ∷ []
unfolding computing
refused_last_event = refl
