-- Runs: traces of up to 64 threads over one legal history of the words of memory, each up to its ending (this project's own rules on events, reports
-- and endings). A trace has the latest event first.
use Rattle.std.specs.Prelude.{◌≡◌, ℕ, suc, ◌<◌, ◌≤◌, Bool, true, false, not, ◌&&◌, ◌||◌, nat_eq, nat_lt, nat_le, if◌then◌else◌, List, [], ◌∷◌, drop, flat_map, length, count_by, Contains, All, Option, Some, None, ℤ, pos, slice_get, slice_index_or}
use Rattle.std.specs.List.{list_any}
use Rattle.std.specs.Str.{bytes_eq}
use Rattle.arithmetic.specs.Numbers.{bits_of}
use Rattle.arithmetic.specs.Values.{number}
use Rattle.core_unit.specs.Units.{opening}
use Rattle.core_unit.specs.Words.{packed}
use Rattle.core_unit.specs.declared.tables.FunctionInfo.{FunctionInfo}
use Rattle.core_unit.specs.declared.tables.UnitParts.{UnitParts}
use Rattle.ctx_set.specs.Prefixes.{is_same, prefixes, distinct, room}
use Rattle.ctx_set.specs.declared.steps.StackStep.{StackStep}
use Rattle.eff_types.specs.Types.{is_number}
use Rattle.eff_types.specs.declared.types.CType.{CType}
use Rattle.mcode.specs.Memory.{halt}
use Rattle.mcode.specs.Steps.{is_event, is_answered}
use Rattle.mcode.specs.Words.{is_defined}
use Rattle.mcode.specs.declared.events.Ask.{Ask}
use Rattle.mcode.specs.declared.events.Ask.TheVariants.{Load, Store, Reach, Trap, Over}
use Rattle.mcode.specs.declared.events.Finish.{Finish}
use Rattle.mcode.specs.declared.events.Finish.TheVariants as finish
use Rattle.mcode.specs.declared.events.Turned.{Turned}
use Rattle.mcode.specs.declared.events.Turned.TheVariants.{Went, FailedTry}
use Rattle.rt_ctx.specs.Places.{stack_at}
use Rattle.rt_ctx.specs.Suppressing.{is_suppressed_place as is_suppressed_reach, is_report_place as is_report_reach}
use Rattle.src_model.specs.Source.{next, after, turned, start, cut}
use Rattle.src_model.specs.Tasks.{State}
use Rattle.src_model.specs.Traces.{context_after, frames_after, stack_of_event, words_of, Creation, creations, has_refused_creation}
use Rattle.src_model.specs.declared.runs.End.{End}
use Rattle.src_model.specs.declared.runs.End.TheVariants.{Returned, Exited, Trapped, Halted, Stopped, Waiting, Full}
use Rattle.src_model.specs.declared.runs.Made.{Made}
use Rattle.src_model.specs.declared.runs.Options.{Options}
use Rattle.suppress.specs.declared.suppressions.Suppression.{Suppression}
use Rattle.word_mem.specs.Held.{Follows, Made as Split}
use Rattle.word_mem.specs.Merge.{events, part}
use Rattle.word_mem.specs.Replay.{IsLegal}
use Rattle.word_mem.specs.declared.event.Entry.{Entry}

-- What is run, and how: the unit, the name of its entry and what that is called with, the options, and the suppressions of the suppression file.
pub record Setting : Type 0 where
  pub unit : UnitParts
  pub entry : List ℕ
  pub arguments : List ℤ
  pub options : Options
  pub suppressions : List Suppression

-- the start of a thread: its number, its first function, and the words that this is called with
pub record Start : Type 0 where
  pub number : ℕ
  pub function : ℕ
  pub arguments : List ℕ

-- a thread of a run: its start, its trace, whether the board refused the last event of that, and its ending
pub record Thread : Type 0 where
  pub begin : Start
  pub trace : List Made
  pub refused : Bool
  pub end : End

-- the first of the functions from this number on that is defined and has the name
abbrev pub function_from : (number : ℕ) → List FunctionInfo → List ℕ → Option ℕ
function_from n [] name = None
function_from n (f ∷ fs) name = if is_defined f.body && bytes_eq f.name name then Some n else function_from (suc n) fs name

abbrev pub entry_of : Setting → Option ℕ
entry_of w = function_from 0 w.unit.functions w.entry

-- The words that the entry is called with: a number parameter takes the next argument, or 0 where none is left, a pointer parameter null.
abbrev pub argument_words : List CType → List ℤ → List ℕ
argument_words [] arguments = []
argument_words (t ∷ ts) arguments =
    if is_number t then packed (number (bits_of (slice_index_or arguments 0 (pos 0)))) ∷ argument_words ts (drop 1 arguments)
    else 0 ∷ argument_words ts arguments

-- an event that follows a trace is a suppressed place: a detected reach that a suppression matches
abbrev pub is_suppressed_place : Setting → List Made → Ask → Bool
is_suppressed_place w before (Reach target site) =
    is_suppressed_reach w.unit w.suppressions (context_after w.unit before) (stack_at (frames_after before) target site) target
is_suppressed_place w before _ = false

-- or a report place: a detected reach that none matches
abbrev pub is_report_place : Setting → List Made → Ask → Bool
is_report_place w before (Reach target site) =
    is_report_reach w.unit w.suppressions (context_after w.unit before) (stack_at (frames_after before) target site) target
is_report_place w before _ = false

-- a report cuts its thread short, where `halt_on_error` says so
abbrev pub is_cut : Setting → List Made → Ask → Bool
is_cut w before ask = w.options.halt_on_error && is_report_place w before ask

-- The state after a trace, by its answers, for a thread that goes on by `go` and is cut short by `halts`. The source thread and a machine are such.
abbrev pub moved : {S : Type 0} → Setting → (go : S → ℕ → S) → (halts : S → S) → S → List Made → S
moved w go halts s [] = s
moved w go halts s (made ∷ before) =
    let t = go (moved w go halts s before) made.word in if is_cut w before made.ask then halts t else t

-- The same after a whole trace. A report that the board refused cuts nothing short: its thread has ended with it.
abbrev pub moved_to : {S : Type 0} → Setting → (go : S → ℕ → S) → (halts : S → S) → S → (refused : Bool) → List Made → S
moved_to w go halts s refused [] = s
moved_to w go halts s refused (made ∷ before) =
    let t = go (moved w go halts s before) made.word in if is_cut w before made.ask && not refused then halts t else t

-- the source thread at its start, and after a trace
abbrev pub started : Start → State
started begin = start begin.number begin.function begin.arguments

abbrev pub state_after : Setting → Start → List Made → State
state_after w begin trace = moved w (after w.unit) cut (started begin) trace

abbrev pub next_after : Setting → Start → List Made → Ask
next_after w begin trace = next w.unit (state_after w begin trace)

-- the word beside an event that nothing answers is 0
abbrev pub HasItsWord : Made → Type 0
HasItsWord made = is_answered made.ask ≡ false → made.word ≡ 0

-- each event is the next one of the state before it, and no finish
abbrev pub IsSourceRun : Setting → Start → List Made → Type 0
IsSourceRun w begin [] = Unit {0}
IsSourceRun w begin (made ∷ before) =
    (next_after w begin before ≡ made.ask) × (is_event made.ask ≡ true) × HasItsWord made × IsSourceRun w begin before

-- Failed tries in a row: between two of one call the halt word is loaded, and every other event ends the row.
abbrev pub tries_with : Turned → Ask → ℕ → ℕ
tries_with FailedTry ask tries = suc tries
tries_with Went (Load at) tries = if nat_eq at halt then tries else 0
tries_with Went ask tries = 0

abbrev pub tries_after : Setting → Start → List Made → ℕ
tries_after w begin [] = 0
tries_after w begin (made ∷ before) =
    tries_with (turned w.unit (state_after w begin before) made.word) made.ask (tries_after w begin before)

abbrev pub end_by : Finish → End
end_by finish.Returned = Returned
end_by (finish.Exited status) = Exited status
end_by (finish.Trapped kind) = Trapped kind
end_by finish.Halted = Halted

-- With this next event an ending has begun: a trap, or a store from the halt word on.
abbrev pub is_ending : Ask → Bool
is_ending (Trap kind) = true
is_ending (Store at word) = nat_le halt at
is_ending ask = false

-- The ending of a thread with this next event, which made so many events and has this many failed tries in a row behind it, with loads of the halt
-- word between them: its finish; Waiting at the wait limit; Stopped at the event limit, where no other ending has begun. The events of an ending
-- aren't counted against that.
abbrev pub ending : Options → Ask → (made tries : ℕ) → Option End
ending options (Over finish) made tries = Some (end_by finish)
ending options ask made tries =
    if nat_le options.wait_limit tries then Some Waiting
    else if is_ending ask || nat_lt made options.events then None else Some Stopped

-- the ending of a thread after a trace, if it has ended; where the board refused its last event, that is Full
abbrev pub ending_after : Setting → Start → (refused : Bool) → List Made → Option End
ending_after w begin true trace = Some Full
ending_after w begin false trace = ending w.options (next_after w begin trace) (length trace) (tries_after w begin trace)

-- before each of the events the thread hadn't ended
abbrev pub IsGoingOn : Setting → Start → List Made → Type 0
IsGoingOn w begin [] = Unit {0}
IsGoingOn w begin (made ∷ before) = (ending_after w begin false before ≡ None) × IsGoingOn w begin before

abbrev pub is_last_a_report : Setting → List Made → Bool
is_last_a_report w [] = false
is_last_a_report w (made ∷ before) = is_report_place w before made.ask

-- the ending of a thread whose last event the board refused
abbrev pub is_full : End → Bool
is_full Full = true
is_full _ = false

-- The thread with this trace and ending. Its ending tells whether the board refused its last event.
abbrev pub ended : Start → List Made → End → Thread
ended begin trace end = record { begin = begin; trace = trace; refused = is_full end; end = end }

-- A thread's trace is one of the source thread up to its ending. The board refuses report places alone.
pub record IsThreadRun (w : Setting) (t : Thread) : Type 0 where
  pub source : IsSourceRun w t.begin t.trace
  pub going_on : IsGoingOn w t.begin t.trace
  pub ends : ending_after w t.begin t.refused t.trace ≡ Some t.end
  pub refused : t.refused ≡ true → is_last_a_report w t.trace ≡ true

-- the stacks of the report places of a trace, the latest first
abbrev pub report_stacks : Setting → List Made → List (List StackStep)
report_stacks w [] = []
report_stacks w (made ∷ before) =
    if is_report_place w before made.ask then stack_of_event before made.ask ∷ report_stacks w before else report_stacks w before

-- those that are counted: a refused one isn't
abbrev pub counted_stacks : Setting → Thread → List (List StackStep)
counted_stacks w t = if t.refused then drop 1 (report_stacks w t.trace) else report_stacks w t.trace

-- of all threads
abbrev pub all_report_stacks : Setting → List Thread → List (List StackStep)
all_report_stacks w threads = flat_map (λ t. report_stacks w t.trace) threads

abbrev pub all_counted_stacks : Setting → List Thread → List (List StackStep)
all_counted_stacks w threads = flat_map (counted_stacks w) threads

-- how many counted report places have the stack
abbrev pub count_of_stack : Setting → List Thread → List StackStep → ℕ
count_of_stack w threads stack = count_by (is_same stack) (all_counted_stacks w threads)

abbrev pub last_stack : List Made → List StackStep
last_stack [] = []
last_stack (made ∷ before) = stack_of_event before made.ask

-- The board refuses a stack only where there are more prefixes of stacks than it has room for, and it counts no such stack.
pub record IsRefusedRightly (w : Setting) (threads : List Thread) (t : Thread) : Type 0 where
  pub many : room < length (distinct (flat_map prefixes (all_report_stacks w threads)))
  pub apart : count_of_stack w threads (last_stack t.trace) ≡ 0

abbrev pub all_creations : List Thread → List Creation
all_creations threads = flat_map (λ t. creations t.begin.number t.trace) threads

-- Thread 0 begins at the entry, with its arguments.
pub record IsFirst (w : Setting) (begin : Start) : Type 0 where
  pub info : FunctionInfo
  pub entry : entry_of w ≡ Some begin.function
  pub known : slice_get w.unit.functions begin.function ≡ Some info
  pub number : begin.number ≡ 0
  pub arguments : begin.arguments ≡ argument_words info.kind.params w.arguments

-- A thread that was started is there, and begins so.
pub record IsStarted (threads : List Thread) (c : Creation) : Type 0 where
  pub thread : Thread
  pub there : slice_get threads c.child ≡ Some thread
  pub function : thread.begin.function ≡ c.function
  pub arguments : thread.begin.arguments ≡ c.argument ∷ []

-- The threads have the numbers from 0 on. Each but the first was started once, and a Create was answered with none only where there are 64 threads.
pub record AreThreads (w : Setting) (threads : List Thread) : Type 0 where
  pub few : length threads ≤ 64
  pub numbers : (n : ℕ) (t : Thread) → slice_get threads n ≡ Some t → t.begin.number ≡ n
  pub first : (t : Thread) × (slice_get threads 0 ≡ Some t) × IsFirst w t.begin
  pub started : (c : Creation) → Contains (all_creations threads) c → IsStarted threads c
  pub once : (n : ℕ) → n < length threads → count_by (λ c. nat_eq c.child n) (all_creations threads) ≡ (if nat_eq n 0 then 0 else 1)
  pub refused : list_any (λ t. has_refused_creation t.trace) threads ≡ true → length threads ≡ 64

-- the split of its maker's word events at which a thread was started
abbrev pub split_of : Creation → Split
split_of c = record { number = c.child; maker = c.maker; before = c.before }

-- One list of the word events of all threads, each thread's in their order, those of a thread that was started behind what its maker had done
-- before; and it is a legal history of the words of memory.
pub record IsMerged (w : Setting) (threads : List Thread) (m : List Entry) : Type 0 where
  pub parts : (n : ℕ) (t : Thread) → slice_get threads n ≡ Some t → part n m ≡ words_of t.trace
  pub only : (x : Entry) → Contains m x → x.number < length threads
  pub order : (c : Creation) → Contains (all_creations threads) c → Follows m (split_of c)
  pub legal : IsLegal (opening w.unit) (events m)

-- The threads are a run of the setting.
pub record IsRun (w : Setting) (threads : List Thread) : Type 0 where
  pub numbered : AreThreads w threads
  pub traces : All (IsThreadRun w) threads
  pub refusals : (n : ℕ) (t : Thread) → slice_get threads n ≡ Some t → t.refused ≡ true → IsRefusedRightly w threads t
  pub merge : (m : List Entry) × IsMerged w threads m
