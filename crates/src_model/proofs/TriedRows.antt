-- Each library function by a small unit. The heap begins at 327681 where there are no static words; the word of a data pointer is its address above
-- 3 * 2^60, that of a block's header its words above 6 * 2^60, of a freed one above 7 * 2^60, of a mutex its thread above 5 * 2^60.
use Rattle.std.proofs.Common.{◌≡◌, refl, ℕ, ◌+◌, ◌*◌, ◌^◌, List, [], ◌∷◌, ◌++◌, map, Some, codes, pos, negsuc, slice_get}
use Rattle.std.specs.Option.{option_map}
use Rattle.arithmetic.specs.declared.traps.TrapKind.TheVariants.{NullAccess, BadAccess, BadWord, Overflow, NullCall, BadFree, BadUnlock}
use Rattle.core_unit.specs.Library.{rows, takes, void_pointer, thread_start as thread_start_type}
use Rattle.core_unit.specs.Shapes.{pointer_to}
use Rattle.core_unit.specs.declared.body.Stmt.{Stmt}
use Rattle.core_unit.specs.declared.expressions.Expr.{Expr}
use Rattle.core_unit.specs.declared.expressions.Expr.TheVariants as expr
use Rattle.core_unit.specs.declared.expressions.Place.TheVariants as place
use Rattle.core_unit.specs.declared.operators.Cause.TheVariants as cause
use Rattle.core_unit.specs.declared.operators.Sign.TheVariants.{Unsigned as Without}
use Rattle.core_unit.specs.declared.tables.FunctionInfo.{FunctionInfo}
use Rattle.core_unit.specs.declared.tables.UnitParts.{UnitParts}
use Rattle.core_unit.specs.declared.words.Word.TheVariants as word
use Rattle.eff_types.specs.declared.types.CType.{Char, Int, Unsigned, Mutex}
use Rattle.mcode.specs.declared.events.Ask.{Ask}
use Rattle.mcode.specs.declared.events.Ask.TheVariants.{Load, Store, Exchange, FetchAdd, FetchSub, Enter, Leave, Reach, Create, Out, Trap, Over}
use Rattle.mcode.specs.declared.events.Finish.TheVariants.{Returned, Exited, Trapped, Halted}
use Rattle.mcode.specs.Stages.{stage_after, Gives, Traps, Halts}
use Rattle.mcode.specs.declared.stages.Stage.TheVariants.{CreateThread, ReadResult, MarkFreed, AwaitLock, Unlock, WriteText}
use Rattle.mcode.specs.declared.events.Turned.TheVariants.{Went, FailedTry}
use Rattle.arithmetic.specs.declared.traps.TrapKind.{TrapKind}
use Rattle.src_model.specs.Traces.{disable_row, enable_row}
use Rattle.src_model.proofs.Trial.{definition, unit, main_of, int, local, static, value, named, library_call, run, returns, variable_is, number_word, cell, events, events_from, never, turns, computing}

abbrev unsigned : ℕ → Expr
unsigned n = expr.Number Without n

-- int main(void) { .. return 0; }, by what stands between; what comes before and behind it
abbrev with : ℕ → List Stmt → UnitParts
with words items = main_of words (items ++ returns (int 0) ∷ [])

abbrev framed : List Ask → List Ask
framed asks = Load (2 ^ 20) ∷ Enter 0 0 ∷ asks ++ Leave ∷ Store (2 ^ 20) 1 ∷ Over (Exited (pos 0)) ∷ []

abbrev trapped : TrapKind → List Ask → List Ask
trapped kind asks = Load (2 ^ 20) ∷ Enter 0 0 ∷ asks ++ Trap kind ∷ Store (2 ^ 20) 1 ∷ Over (Trapped kind) ∷ []

-- void *p = malloc(n);
abbrev allocates : ℕ → Stmt
allocates n = variable_is 0 void_pointer (library_call 1 0 (unsigned n ∷ []))

malloc : events 20 (with 1 (allocates 2 ∷ [])) 0
    ≡ framed (Load (2 ^ 20) ∷ Reach 4096 1 ∷ FetchAdd (2 ^ 20 + 1) 3 ∷ Store 327681 (6 * 2 ^ 60 + 2) ∷ Store 1025 (3 * 2 ^ 60 + 327682) ∷ [])
unfolding computing
malloc = refl

-- The heap has room for 720,894 words and their header, and for no more.
malloc_of_all : events 20 (with 1 (allocates 720894 ∷ [])) 0
    ≡ framed (Load (2 ^ 20) ∷ Reach 4096 1 ∷ FetchAdd (2 ^ 20 + 1) 720895 ∷ Store 327681 (6 * 2 ^ 60 + 720894) ∷ Store 1025 (3 * 2 ^ 60 + 327682) ∷ [])
unfolding computing
malloc_of_all = refl

malloc_of_more : events 20 (with 1 (allocates 720895 ∷ [])) 0
    ≡ framed (Load (2 ^ 20) ∷ Reach 4096 1 ∷ FetchAdd (2 ^ 20 + 1) 720896 ∷ FetchSub (2 ^ 20 + 1) 720896 ∷ Store 1025 0 ∷ [])
unfolding computing
malloc_of_more = refl

abbrev callocates : ℕ → ℕ → Stmt
callocates m n = variable_is 0 void_pointer (library_call 1 1 (unsigned m ∷ unsigned n ∷ []))

calloc : events 20 (with 1 (callocates 2 3 ∷ [])) 0
    ≡ framed (Load (2 ^ 20) ∷ Reach 4097 1 ∷ FetchAdd (2 ^ 20 + 1) 7 ∷ Store 327681 (6 * 2 ^ 60 + 6) ∷ Store 1025 (3 * 2 ^ 60 + 327682) ∷ [])
unfolding computing
calloc = refl

calloc_of_too_much : events 20 (with 1 (callocates 65536 65536 ∷ [])) 0 ≡ framed (Load (2 ^ 20) ∷ Reach 4097 1 ∷ Store 1025 0 ∷ [])
unfolding computing
calloc_of_too_much = refl

-- free(p);
abbrev frees : ℕ → Expr → Stmt
frees site e = run (library_call site 2 (e ∷ []))

free : events 30 (with 0 (frees 2 (library_call 1 0 (unsigned 2 ∷ [])) ∷ [])) 0
    ≡ framed (Load (2 ^ 20) ∷ Reach 4096 1 ∷ FetchAdd (2 ^ 20 + 1) 3 ∷ Store 327681 (6 * 2 ^ 60 + 2)
    ∷ Load (2 ^ 20) ∷ Reach 4098 2 ∷ Load 327681 ∷ Exchange 327681 (6 * 2 ^ 60 + 2) (7 * 2 ^ 60 + 2) ∷ [])
unfolding computing
free = refl

free_of_null : events 20 (with 0 (frees 1 expr.Null ∷ [])) 0 ≡ framed (Load (2 ^ 20) ∷ Reach 4098 1 ∷ [])
unfolding computing
free_of_null = refl

free_twice : events 40 (with 1 (allocates 2 ∷ frees 2 (value 0 void_pointer) ∷ frees 3 (value 0 void_pointer) ∷ [])) 0
    ≡ trapped BadFree (Load (2 ^ 20) ∷ Reach 4096 1 ∷ FetchAdd (2 ^ 20 + 1) 3 ∷ Store 327681 (6 * 2 ^ 60 + 2) ∷ Store 1025 (3 * 2 ^ 60 + 327682)
    ∷ Load 1025 ∷ Load (2 ^ 20) ∷ Reach 4098 2 ∷ Load 327681 ∷ Exchange 327681 (6 * 2 ^ 60 + 2) (7 * 2 ^ 60 + 2)
    ∷ Load 1025 ∷ Load (2 ^ 20) ∷ Reach 4098 3 ∷ Load 327681 ∷ [])
unfolding computing
free_twice = refl

-- Two threads free one block: the second one finds that it was freed meanwhile.
freed_by_another : stage_after 0 (MarkFreed 327681 2) (7 * 2 ^ 60 + 2) ≡ Traps BadFree
unfolding computing
freed_by_another = refl

-- void *w(void *p) { return p; }
-- int main(void) { pthread_t t; return pthread_create(&t, NULL, w, NULL); }
abbrev worker : FunctionInfo
worker = definition "w" (takes void_pointer (void_pointer ∷ [])) 1 (returns (value 0 void_pointer) ∷ [])

abbrev creates : (to start : Expr) → UnitParts
creates to start = unit (
    definition "main" (takes Int []) 1 (returns (library_call 1 3 (to ∷ expr.Null ∷ start ∷ expr.Null ∷ [])) ∷ []) ∷ worker ∷ []) []

pthread_create : events 20 (creates (expr.AddressOf (local 0 Unsigned)) (expr.FunctionPointer (named 1 worker.kind))) 0
    ≡ framed (Load (2 ^ 20) ∷ Reach 4099 1 ∷ Create 1 0 ∷ Store 1025 (number_word 1) ∷ [])
unfolding computing
pthread_create = refl

pthread_create_of_null : events 20 (creates (expr.AddressOf (local 0 Unsigned)) (expr.Convert cause.Null (pointer_to thread_start_type) expr.Null)) 0
    ≡ trapped NullCall (Load (2 ^ 20) ∷ Reach 4099 1 ∷ [])
unfolding computing
pthread_create_of_null = refl

-- a number that can't be stored
pthread_create_to_null : events 20 (creates (expr.Convert cause.Null (pointer_to Unsigned) expr.Null) (expr.FunctionPointer (named 1 worker.kind))) 0
    ≡ trapped NullAccess (Load (2 ^ 20) ∷ Reach 4099 1 ∷ Create 1 0 ∷ [])
unfolding computing
pthread_create_to_null = refl

-- the same number at 2^20, where no object stands
thread_told_nowhere : stage_after 0 (CreateThread (word.DataPointer (2 ^ 20)) 1 0) 5 ≡ Traps BadAccess
thread_told_nowhere = refl

-- where no thread was started
no_thread : stage_after 0 (CreateThread (word.DataPointer 1025) 1 0) 0 ≡ Gives (word.Number 11)
no_thread = refl

-- The thread that was started: its region begins 5,120 words behind that of thread 0.
started_thread : events_from never 20 (creates (int 0) (int 0)) [] 1 1 ((3 * 2 ^ 60 + 7) ∷ [])
    ≡ Load (2 ^ 20) ∷ Enter 1 0 ∷ Store 6145 (3 * 2 ^ 60 + 7) ∷ Load 6145 ∷ Leave ∷ Store (2 ^ 20 + 129) (3 * 2 ^ 60 + 7) ∷ Store (2 ^ 20 + 65) 1 ∷ Over Returned ∷ []
unfolding computing
started_thread = refl

-- void *r; return pthread_join(thread, to);
abbrev joins : ℕ → Expr → UnitParts
joins thread to = main_of 1 (returns (library_call 1 4 (unsigned thread ∷ to ∷ [])) ∷ [])

abbrev null_to : Expr
null_to = expr.Convert cause.Null (pointer_to void_pointer) expr.Null

pthread_join : events_from never 20 (joins 1 null_to) (cell (2 ^ 20 + 65) 1 ∷ []) 0 0 []
    ≡ framed (Load (2 ^ 20) ∷ Reach 4100 1 ∷ Load (2 ^ 20 + 65) ∷ [])
unfolding computing
pthread_join = refl

pthread_join_with_a_result :
    events_from never 20 (joins 1 (expr.AddressOf (local 0 void_pointer))) (cell (2 ^ 20 + 65) 1 ∷ cell (2 ^ 20 + 129) (3 * 2 ^ 60 + 7) ∷ []) 0 0 []
    ≡ framed (Load (2 ^ 20) ∷ Reach 4100 1 ∷ Load (2 ^ 20 + 65) ∷ Load (2 ^ 20 + 129) ∷ Store 1025 (3 * 2 ^ 60 + 7) ∷ [])
unfolding computing
pthread_join_with_a_result = refl

-- Before each further try the halt word is loaded.
pthread_join_that_waits : events 9 (joins 1 null_to) 0
    ≡ Load (2 ^ 20) ∷ Enter 0 0 ∷ Load (2 ^ 20) ∷ Reach 4100 1 ∷ Load (2 ^ 20 + 65) ∷ Load (2 ^ 20) ∷ Load (2 ^ 20 + 65) ∷ Load (2 ^ 20) ∷ Load (2 ^ 20 + 65) ∷ []
unfolding computing
pthread_join_that_waits = refl

pthread_join_of_no_thread : events 20 (joins 64 null_to) 0
    ≡ Load (2 ^ 20) ∷ Enter 0 0 ∷ Load (2 ^ 20) ∷ Reach 4100 1 ∷ Leave ∷ Store (2 ^ 20) 1 ∷ Over (Exited (pos 3)) ∷ []
unfolding computing
pthread_join_of_no_thread = refl

-- The result is read before it is found that it can't be stored.
result_stored_nowhere : stage_after 0 (ReadResult 1 (word.DataPointer (2 ^ 20))) 7 ≡ Traps BadAccess
result_stored_nowhere = refl

-- static pthread_mutex_t m;
abbrev with_mutex : List Stmt → UnitParts
with_mutex items = unit (definition "main" (takes Int []) 0 (items ++ returns (int 0) ∷ []) ∷ []) (0 ∷ [])

-- pthread_mutex_lock(&m); and pthread_mutex_unlock(&m);
abbrev locks : ℕ → Stmt
locks site = run (library_call site 5 (expr.AddressOf (static 1 Mutex) ∷ []))

abbrev unlocks : ℕ → Stmt
unlocks site = run (library_call site 6 (expr.AddressOf (static 1 Mutex) ∷ []))

mutex : events 20 (with_mutex (locks 1 ∷ unlocks 2 ∷ [])) 0
    ≡ framed (Load (2 ^ 20) ∷ Reach 4101 1 ∷ Exchange 1 0 (5 * 2 ^ 60) ∷ Load (2 ^ 20) ∷ Reach 4102 2 ∷ Exchange 1 (5 * 2 ^ 60) 0 ∷ [])
unfolding computing
mutex = refl

-- The second lock is tried again and again, also by the thread that has the mutex.
locked_mutex : events 12 (with_mutex (locks 1 ∷ locks 2 ∷ [])) 0
    ≡ Load (2 ^ 20) ∷ Enter 0 0 ∷ Load (2 ^ 20) ∷ Reach 4101 1 ∷ Exchange 1 0 (5 * 2 ^ 60) ∷ Load (2 ^ 20) ∷ Reach 4101 2
    ∷ Exchange 1 0 (5 * 2 ^ 60) ∷ Load (2 ^ 20) ∷ Exchange 1 0 (5 * 2 ^ 60) ∷ Load (2 ^ 20) ∷ Exchange 1 0 (5 * 2 ^ 60) ∷ []
unfolding computing
locked_mutex = refl

failed_tries : turns 12 (with_mutex (locks 1 ∷ locks 2 ∷ [])) 0
    ≡ Went ∷ Went ∷ Went ∷ Went ∷ Went ∷ Went ∷ Went ∷ FailedTry ∷ Went ∷ FailedTry ∷ Went ∷ FailedTry ∷ []
unfolding computing
failed_tries = refl

-- A thread that waits is halted at the load before its next try.
halted_while_it_waits : stage_after 0 (AwaitLock 1) 1 ≡ Halts
halted_while_it_waits = refl

-- thread 1 unlocks what thread 0 has locked
unlocked_by_another : stage_after 1 (Unlock 5) (5 * 2 ^ 60) ≡ Traps BadUnlock
unfolding computing
unlocked_by_another = refl

-- a mutex that is none
bad_mutex : events_from never 20 (with_mutex (locks 1 ∷ [])) (cell 1 (number_word 1) ∷ []) 0 0 []
    ≡ trapped BadWord (Load (2 ^ 20) ∷ Reach 4101 1 ∷ Exchange 1 0 (5 * 2 ^ 60) ∷ [])
unfolding computing
bad_mutex = refl

usleep : events 20 (with 0 (run (library_call 1 7 (unsigned 10 ∷ [])) ∷ [])) 0 ≡ framed (Load (2 ^ 20) ∷ Reach 4103 1 ∷ [])
unfolding computing
usleep = refl

-- puts("ab");
puts : events 20 (unit (definition "main" (takes Int []) 0 (
    run (library_call 1 8 (expr.ArrayPointer (place.Text 1 3) ∷ [])) ∷ returns (int 0) ∷ []) ∷ []) (number_word 97 ∷ number_word 98 ∷ 0 ∷ [])) 0
    ≡ framed (Load (2 ^ 20) ∷ Reach 4104 1 ∷ Load 1 ∷ Out 97 ∷ Load 2 ∷ Out 98 ∷ Load 3 ∷ Out 10 ∷ [])
unfolding computing
puts = refl

-- of a word that is no character, and behind the last word of objects
puts_of_a_pointer : events 20 (unit (definition "main" (takes Int []) 0 (
    run (library_call 1 8 (expr.ArrayPointer (place.Text 1 3) ∷ [])) ∷ returns (int 0) ∷ []) ∷ []) ((3 * 2 ^ 60 + 1) ∷ 0 ∷ [])) 0
    ≡ trapped BadWord (Load (2 ^ 20) ∷ Reach 4104 1 ∷ Load 1 ∷ [])
unfolding computing
puts_of_a_pointer = refl

puts_of_null : events 20 (with 0 (run (library_call 1 8 (expr.Convert cause.Implicit (pointer_to Char) expr.Null ∷ [])) ∷ [])) 0
    ≡ trapped NullAccess (Load (2 ^ 20) ∷ Reach 4104 1 ∷ [])
unfolding computing
puts_of_null = refl

puts_without_an_end : stage_after 0 (WriteText 1048575 97) 0 ≡ Traps BadAccess
puts_without_an_end = refl

-- return putchar(321); of which the low 8 bits are 65
putchar : events 20 (main_of 0 (returns (library_call 1 9 (int 321 ∷ [])) ∷ [])) 0
    ≡ Load (2 ^ 20) ∷ Enter 0 0 ∷ Load (2 ^ 20) ∷ Reach 4105 1 ∷ Out 65 ∷ Leave ∷ Store (2 ^ 20) 1 ∷ Over (Exited (pos 65)) ∷ []
unfolding computing
putchar = refl

-- return abs(-5); and abs of the least number
abs : events 20 (main_of 0 (returns (library_call 1 10 (int 4294967291 ∷ [])) ∷ [])) 0
    ≡ Load (2 ^ 20) ∷ Enter 0 0 ∷ Load (2 ^ 20) ∷ Reach 4106 1 ∷ Leave ∷ Store (2 ^ 20) 1 ∷ Over (Exited (pos 5)) ∷ []
unfolding computing
abs = refl

abs_of_the_least : events 20 (with 0 (run (library_call 1 10 (int 2147483648 ∷ [])) ∷ [])) 0 ≡ trapped Overflow (Load (2 ^ 20) ∷ Reach 4106 1 ∷ [])
unfolding computing
abs_of_the_least = refl

-- The rows that a trace counts are those of the functions that disable and enable the detector.
detector_rows : map (λ row. option_map (λ r. r.name) (slice_get rows row)) (disable_row ∷ enable_row ∷ [])
    ≡ Some (codes "__rtsan_disable") ∷ Some (codes "__rtsan_enable") ∷ []
detector_rows = refl

-- __rtsan_disable(); __rtsan_enable();
disable_and_enable : events 20 (with 0 (run (library_call 1 11 []) ∷ run (library_call 2 12 []) ∷ [])) 0
    ≡ framed (Load (2 ^ 20) ∷ Reach 4107 1 ∷ Load (2 ^ 20) ∷ Reach 4108 2 ∷ [])
unfolding computing
disable_and_enable = refl

-- exit(-1);
exits : events 20 (with 0 (run (library_call 1 13 (int 4294967295 ∷ [])) ∷ [])) 0
    ≡ Load (2 ^ 20) ∷ Enter 0 0 ∷ Load (2 ^ 20) ∷ Reach 4109 1 ∷ Store (2 ^ 20) 1 ∷ Over (Exited (negsuc 0)) ∷ []
unfolding computing
exits = refl

-- Each thread may call it.
exits_another : events_from never 20 (with 0 (run (library_call 1 13 (int 7 ∷ [])) ∷ [])) [] 1 0 []
    ≡ Load (2 ^ 20) ∷ Enter 0 0 ∷ Load (2 ^ 20) ∷ Reach 4109 1 ∷ Store (2 ^ 20) 1 ∷ Over (Exited (pos 7)) ∷ []
unfolding computing
exits_another = refl

-- A halt word that isn't 0 ends the thread at its next load of it.
halted : events_from never 20 (with 0 (run (library_call 1 11 []) ∷ [])) (cell (2 ^ 20) 1 ∷ []) 0 0 [] ≡ Load (2 ^ 20) ∷ Over Halted ∷ []
unfolding computing
halted = refl
