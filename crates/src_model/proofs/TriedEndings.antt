-- Whole runs of one thread: their traces, endings, places of reports and totals.
use Rattle.std.proofs.Common.{◌≡◌, refl, ℕ, ◌+◌, ◌-◌, ◌*◌, ◌^◌, true, false, List, [], ◌∷◌, zero, suc, drop, replicate, Bool, codes, Some, None, pos, negsuc, arith}
use Rattle.std.specs.declared.cmp.Ordering.TheVariants as order
use Rattle.std.proofs.lemmas.List.Elements.{All-nil, All-cons}
use Rattle.std.proofs.lemmas.List.Sums.{count_by-le-length}
use Rattle.ctx_set.specs.Prefixes.{is_same, has}
use Rattle.core_unit.specs.Library.{takes}
use Rattle.core_unit.specs.Shapes.{pointer_to}
use Rattle.core_unit.specs.declared.body.LoopKind.TheVariants as loop
use Rattle.core_unit.specs.declared.body.Stmt.TheVariants as stmt
use Rattle.core_unit.specs.declared.expressions.Expr.TheVariants as expr
use Rattle.core_unit.specs.declared.operators.Sign.TheVariants.{Unsigned as Without}
use Rattle.core_unit.specs.declared.tables.UnitParts.{UnitParts}
use Rattle.ctx_set.specs.declared.steps.StackStep.{StackStep}
use Rattle.eff_types.specs.declared.levels.Level.TheVariants as level
use Rattle.eff_types.specs.declared.types.CType.{Void, Int, Unsigned, Mutex}
use Rattle.eff_types.specs.declared.types.FnType.{FnType}
use Rattle.mcode.specs.declared.events.Ask.{Ask}
use Rattle.mcode.specs.declared.events.Ask.TheVariants.{Load, Store, Exchange, FetchAdd, Enter, Leave, Reach, Out}
use Rattle.src_model.specs.Excused.{is_excused, is_allocation}
use Rattle.src_model.specs.Runs.{Setting, Start, Thread, entry_of, argument_words, is_report_place, tries_after, ending_after, IsThreadRun, report_stacks, count_of_stack}
use Rattle.src_model.specs.Outputs.{output, dropped}
use Rattle.src_model.specs.Totals.{total, unique, suppressed, stack_order, HasItsCount, AreStacks}
use Rattle.src_model.specs.Traces.{frames_after, is_blocking_event}
use Rattle.src_model.specs.declared.runs.End.TheVariants.{Exited, Halted, Stopped, Waiting}
use Rattle.src_model.specs.declared.runs.Made.{Made}
use Rattle.suppress.specs.declared.pattern.Pattern.{Pattern}
use Rattle.suppress.specs.declared.suppressions.Suppression.{Suppression}
use Rattle.suppress.specs.declared.suppressions.SuppressionKind.TheVariants.{FunctionNameMatches, CallStackContains}
use Rattle.src_model.proofs.Stacks.{counted_stands}
use Rattle.src_model.proofs.Trial.{nonblocking, with_effects, definition, noreturn, unit, main_of, int, static, call, library_call, run, returns, number_word, defaults, setting, step, computing}

abbrev void : FnType
void = takes Void []

abbrev begins : ℕ → Start
begins function = record { number = 0; function = function; arguments = [] }

abbrev made : Ask → Made
made event = record { ask = event; word = 0 }

-- the trace of events that 0 answers, or nothing does; the latest last
abbrev trace_of : List Made → List Ask → List Made
trace_of before [] = before
trace_of before (event ∷ later) = trace_of (made event ∷ before) later

-- void f(void) [[clang::nonblocking]] { malloc(1); }
-- int main(void) { f(); return 0; }
abbrev first_unit : UnitParts
first_unit = unit (
    definition "f" (with_effects nonblocking void) 0 (run (library_call 1 0 (expr.Number Without 1 ∷ [])) ∷ [])
    ∷ definition "main" (takes Int []) 0 (run (call 2 0 (with_effects nonblocking void) []) ∷ returns (int 0) ∷ [])
    ∷ []) []

abbrev first : Setting
first = setting first_unit defaults []

abbrev first_trace : List Made
first_trace = trace_of [] (Load (2 ^ 20) ∷ Enter 1 0 ∷ Load (2 ^ 20) ∷ Enter 0 2 ∷ Load (2 ^ 20) ∷ Reach 4096 1 ∷ Store (2 ^ 20) 1 ∷ [])

abbrev first_thread : Thread
first_thread = record { begin = begins 1; trace = first_trace; refused = false; end = Halted }

first_entry : entry_of first ≡ Some 1
first_entry = refl

-- It is a run of the thread up to its ending, with one report.
first_run : IsThreadRun first first_thread
unfolding computing
first_run = record {
  source = (refl, refl, (λ _. refl), (refl, refl, (λ _. refl), (refl, refl, (λ _. refl), (refl, refl, (λ _. refl), (refl, refl, (λ _. refl), (refl, refl, (λ _. refl), (refl, refl, (λ _. refl), tt)))))));
  going_on = (refl, (refl, (refl, (refl, (refl, (refl, (refl, tt)))))));
  ends = refl;
  refused = λ r. let clash : ⊥ = cc in absurd clash;
}

first_stacks : report_stacks first first_trace ≡ (step 1 0 ∷ step 0 2 ∷ step 4096 1 ∷ []) ∷ []
unfolding computing
first_stacks = refl

-- The stacks of the run, with their counts.
abbrev first_stack : List StackStep
first_stack = step 1 0 ∷ step 0 2 ∷ step 4096 1 ∷ []

first_count : count_of_stack first (first_thread ∷ []) first_stack ≡ 1
unfolding computing
first_count = refl

first_run_stacks : AreStacks first (first_thread ∷ []) (record { stack = first_stack; count = 1 } ∷ [])
unfolding computing
first_run_stacks = record {
  counts = All-cons (HasItsCount first (first_thread ∷ [])) (record { stack = first_stack; count = 1 }) [] (refl, omega arith) (All-nil (HasItsCount first (first_thread ∷ [])));
  all = λ s some. counted_stands s (first_stack ∷ []) (has (first_stack ∷ []) s) refl some;
  once = λ s. count_by-le-length (is_same s) (first_stack ∷ []);
  sorted = λ i d low. absurd (omega (arith, low));
}

-- a prefix stands before a longer stack, and functions decide before calls
stack_orders :
    stack_order (step 1 0 ∷ []) first_stack ∷ stack_order first_stack (step 1 0 ∷ []) ∷ stack_order first_stack first_stack
    ∷ stack_order (step 1 0 ∷ step 0 3 ∷ []) (step 1 0 ∷ step 4096 2 ∷ []) ∷ stack_order (step 1 0 ∷ step 0 3 ∷ []) first_stack ∷ []
    ≡ order.Less ∷ order.Greater ∷ order.Equal ∷ order.Less ∷ order.Greater ∷ []
unfolding computing
stack_orders = refl

first_totals : total first (first_thread ∷ []) ∷ unique first (first_thread ∷ []) ∷ suppressed first (first_thread ∷ []) ∷ [] ≡ 1 ∷ 1 ∷ 0 ∷ []
unfolding computing
first_totals = refl

-- the same where `malloc` is suppressed: the thread goes on to its exit
abbrev on_trace : List Made
on_trace = trace_of (record { ask = FetchAdd (2 ^ 20 + 1) 2; word = 327681 }
    ∷ trace_of [] (Load (2 ^ 20) ∷ Enter 1 0 ∷ Load (2 ^ 20) ∷ Enter 0 2 ∷ Load (2 ^ 20) ∷ Reach 4096 1 ∷ []))
    (Store 327681 (6 * 2 ^ 60 + 1) ∷ Leave ∷ Leave ∷ Store (2 ^ 20) 1 ∷ [])

-- function-name-matches:^mall*c$
abbrev exact : List (List ℕ) → Pattern
exact pieces = record { anchored_start = true; anchored_end = true; pieces = pieces }

abbrev of_function : Pattern → Suppression
of_function pattern = record { kind = FunctionNameMatches; pattern = pattern }

abbrev suppressing : Setting
suppressing = setting first_unit defaults (of_function (exact (codes "mall" ∷ codes "c" ∷ [])) ∷ [])

abbrev suppressed_thread : Thread
suppressed_thread = record { begin = begins 1; trace = on_trace; refused = false; end = Exited (pos 0) }

suppressed_ending : ending_after suppressing (begins 1) false on_trace ≡ Some (Exited (pos 0))
unfolding computing
suppressed_ending = refl

suppressed_totals : total suppressing (suppressed_thread ∷ []) ∷ unique suppressing (suppressed_thread ∷ []) ∷ suppressed suppressing (suppressed_thread ∷ []) ∷ [] ≡ 0 ∷ 0 ∷ 1 ∷ []
unfolding computing
suppressed_totals = refl

-- call-stack-contains:ain matches a caller; a pattern that is anchored at the wrong end, and one on functions that names a caller, match nothing.
abbrev of_stack : Pattern → Suppression
of_stack pattern = record { kind = CallStackContains; pattern = pattern }

abbrev piece : (anchored_start anchored_end : Bool) → List ℕ → Pattern
piece anchored_start anchored_end text = record { anchored_start = anchored_start; anchored_end = anchored_end; pieces = text ∷ [] }

abbrev is_reported : Suppression → Bool
is_reported entry = is_report_place (setting first_unit defaults (entry ∷ [])) (drop 2 first_trace) (Reach 4096 1)

suppressed_stacks :
    is_reported (of_stack (piece false false (codes "ain"))) ∷ is_reported (of_stack (piece false true (codes "ain")))
    ∷ is_reported (of_stack (piece true false (codes "ain"))) ∷ is_reported (of_stack (piece false true (codes "mai")))
    ∷ is_reported (of_function (piece true true (codes "main"))) ∷ is_reported (of_stack (piece true true (codes "malloc"))) ∷ []
    ≡ false ∷ false ∷ true ∷ true ∷ true ∷ false ∷ []
unfolding computing
suppressed_stacks = refl

-- A blocking reach that isn't excused: nobody on the stack never returns.
first_excused : is_blocking_event first_unit (drop 2 first_trace) (Reach 4096 1) ∷ is_excused first_unit level.NonBlocking (frames_after (drop 1 first_trace)) ∷ []
    ≡ true ∷ false ∷ []
unfolding computing
first_excused = refl

-- _Noreturn void die(void) { .. } is function 0, and is called by function 1, a nonblocking one, which main calls: what die reaches is excused. It is
-- not where die stands below the lowest nonblocking function, nor of another effect.
abbrev excusing : UnitParts
excusing = unit (
    noreturn (definition "die" void 0 [])
    ∷ definition "f" (with_effects nonblocking void) 0 []
    ∷ definition "g" (with_effects (record { level = level.NonAllocating; no_block_inference = false; no_alloc_inference = false }) void) 0 []
    ∷ definition "main" (takes Int []) 0 []
    ∷ definition "grows" (with_effects (record { level = level.Plain; no_block_inference = false; no_alloc_inference = true }) void) 0 []
    ∷ []) []

abbrev frames_of : List ℕ → List StackStep
frames_of [] = []
frames_of (function ∷ functions) = step function 1 ∷ frames_of functions

excused_frames :
    is_excused excusing level.NonBlocking (frames_of (0 ∷ 1 ∷ 3 ∷ [])) ∷ is_excused excusing level.NonBlocking (frames_of (1 ∷ 0 ∷ 1 ∷ 3 ∷ []))
    ∷ is_excused excusing level.NonBlocking (frames_of (1 ∷ 0 ∷ 3 ∷ [])) ∷ is_excused excusing level.NonBlocking (frames_of (0 ∷ 2 ∷ 3 ∷ []))
    ∷ is_excused excusing level.NonAllocating (frames_of (0 ∷ 2 ∷ 3 ∷ [])) ∷ is_excused excusing level.NonAllocating (frames_of (0 ∷ 1 ∷ 3 ∷ [])) ∷ []
    ≡ true ∷ true ∷ false ∷ false ∷ true ∷ true ∷ []
unfolding computing
excused_frames = refl

-- Allocation reaches: rows that may allocate and return, an `allocating` function that is entered; in a function of the level or above.
allocations :
    is_allocation excusing (frames_of (2 ∷ 3 ∷ [])) (Reach 4096 1) ∷ is_allocation excusing (frames_of (2 ∷ 3 ∷ [])) (Reach 4106 1)
    ∷ is_allocation excusing (frames_of (2 ∷ 3 ∷ [])) (Reach 4109 1) ∷ is_allocation excusing (frames_of (1 ∷ 3 ∷ [])) (Reach 4096 1)
    ∷ is_allocation excusing (frames_of (3 ∷ [])) (Reach 4096 1) ∷ is_allocation excusing (frames_of (4 ∷ 2 ∷ [])) (Enter 4 1)
    ∷ is_allocation excusing (frames_of (4 ∷ 3 ∷ [])) (Enter 4 1) ∷ is_allocation excusing (frames_of (3 ∷ 2 ∷ [])) (Enter 3 1) ∷ []
    ≡ true ∷ false ∷ false ∷ true ∷ false ∷ true ∷ false ∷ false ∷ []
unfolding computing
allocations = refl

-- int main(void) { while (1) ; } with at most ten events
abbrev endless : Setting
endless = setting (main_of 0 (stmt.Loop loop.While (int 1) stmt.Empty ∷ [])) (record defaults { events = 10 }) []

abbrev endless_trace : ℕ → List Made
endless_trace turns = trace_of [] (Load (2 ^ 20) ∷ Enter 0 0 ∷ replicate turns (Load (2 ^ 20)))

endless_ending : ending_after endless (begins 0) false (endless_trace 7) ∷ ending_after endless (begins 0) false (endless_trace 8) ∷ [] ≡ None ∷ Some Stopped ∷ []
unfolding computing
endless_ending = refl

-- static pthread_mutex_t m; .. locked twice, with at most five tries
abbrev waiting : Setting
waiting = setting (unit (definition "main" (takes Int []) 0 (
    run (library_call 1 5 (expr.AddressOf (static 1 Mutex) ∷ [])) ∷ run (library_call 2 5 (expr.AddressOf (static 1 Mutex) ∷ [])) ∷ returns (int 0) ∷ []) ∷ []) (0 ∷ []))
    (record defaults { wait_limit = 5 }) []

abbrev try : Made
try = record { ask = Exchange 1 0 (5 * 2 ^ 60); word = 5 * 2 ^ 60 }

abbrev tried : ℕ → List Made → List Made
tried zero before = before
tried (suc n) before = try ∷ made (Load (2 ^ 20)) ∷ tried n before

abbrev waiting_trace : ℕ → List Made
waiting_trace more = tried more (try ∷ trace_of [] (Load (2 ^ 20) ∷ Enter 0 0 ∷ Load (2 ^ 20) ∷ Reach 4101 1 ∷ Exchange 1 0 (5 * 2 ^ 60) ∷ Load (2 ^ 20) ∷ Reach 4101 2 ∷ []))

waiting_tries : tries_after waiting (begins 0) (waiting_trace 2) ∷ tries_after waiting (begins 0) (waiting_trace 4) ∷ [] ≡ 3 ∷ 5 ∷ []
unfolding computing
waiting_tries = refl

waiting_ending : ending_after waiting (begins 0) false (waiting_trace 3) ∷ ending_after waiting (begins 0) false (waiting_trace 4) ∷ [] ≡ None ∷ Some Waiting ∷ []
unfolding computing
waiting_ending = refl

-- A disabled detector reports nothing: __rtsan_disable(); before the call of `malloc`.
disabled_place : is_report_place first (trace_of [] (Load (2 ^ 20) ∷ Enter 1 0 ∷ Load (2 ^ 20) ∷ Enter 0 2 ∷ Load (2 ^ 20) ∷ Reach 4107 1 ∷ Load (2 ^ 20) ∷ [])) (Reach 4096 1) ≡ false
unfolding computing
disabled_place = refl

-- `main` takes its arguments by number, and null for a pointer.
entry_words : argument_words (Int ∷ pointer_to Int ∷ Unsigned ∷ Int ∷ []) (negsuc 0 ∷ pos 7 ∷ []) ≡ number_word (2 ^ 32 - 1) ∷ 0 ∷ number_word 7 ∷ 0 ∷ []
unfolding computing
entry_words = refl

-- The bytes that a thread wrote, the first one first.
written : output (trace_of [] (Out 104 ∷ Load (2 ^ 20) ∷ Out 105 ∷ Out 10 ∷ [])) ≡ codes "hi\n"
written = refl

kept_and_dropped : dropped (trace_of [] (Out 104 ∷ Load (2 ^ 20) ∷ Out 105 ∷ [])) ≡ 0
kept_and_dropped = refl
