-- The scheduled run: one list of words, one state for each thread, and one event for each turn (this project's own rule). The same setting and
-- schedule give the same run.
use Rattle.std.specs.Prelude.{ℕ, zero, suc, ◌+◌, ◌*◌, Bool, true, false, not, ◌&&◌, nat_lt, if◌then◌else◌, List, [], ◌∷◌, ◌++◌, length, map, flat_map, set, Option, Some, None, is_some, slice_get, slice_index, unwrap_or}
use Rattle.std.specs.List.{list_all}
use Rattle.core_unit.specs.Units.{opening}
use Rattle.core_unit.specs.declared.tables.FunctionInfo.{FunctionInfo}
use Rattle.ctx_set.specs.Prefixes.{prefixes, has_room_behind}
use Rattle.ctx_set.specs.declared.steps.StackStep.{StackStep}
use Rattle.mcode.specs.declared.events.Ask.{Ask}
use Rattle.mcode.specs.declared.events.Ask.TheVariants.{Load, Exchange, FetchAdd, FetchSub, Create}
use Rattle.src_model.specs.Runs.{Setting, Start, Thread, entry_of, argument_words, started, is_report_place, is_cut, tries_with, ending}
use Rattle.src_model.specs.Source.{next, after, turned, cut}
use Rattle.src_model.specs.Tasks.{State}
use Rattle.src_model.specs.Traces.{stack_of_event, word_event}
use Rattle.src_model.specs.declared.runs.End.{End}
use Rattle.src_model.specs.declared.runs.End.TheVariants.{Stopped, Full}
use Rattle.src_model.specs.declared.runs.Made.{Made}
use Rattle.word_mem.specs.Replay.{replay}
use Rattle.word_mem.specs.declared.event.WordEvent.{WordEvent}

-- a thread on its way: its start, its state, its trace, its failed tries in a row, whether the board refused its last event, and its ending
pub record Live : Type 0 where
  pub begin : Start
  pub state : State
  pub trace : List Made
  pub tries : ℕ
  pub refused : Bool
  pub end : Option End

-- how a run keeps what its threads share: the word at an address and what is kept after word events, and whether the board has room for a stack
-- behind those that it was asked to count before
pub record Shared (M : Type 0) : Type 0 where
  pub word_at : M → (at : ℕ) → ℕ
  pub after_events : M → List WordEvent → M
  pub has_room : (asked : List (List StackStep)) → List StackStep → Bool

abbrev pub has_room : (asked : List (List StackStep)) → List StackStep → Bool
has_room asked stack = has_room_behind (flat_map prefixes asked) stack

-- the words as the list of all of them, and a board of the room that boards have
abbrev pub as_list : Shared (List ℕ)
as_list = record { word_at = λ words at. slice_index words at; after_events = λ words events. replay words events; has_room = has_room }

-- a run on its way: the words, the stacks that the board was asked to count, in order of asking, and the threads
pub record Running (M : Type 0) : Type 0 where
  pub words : M
  pub asked : List (List StackStep)
  pub threads : List Live

abbrev pub fresh : Start → Live
fresh begin = record { begin = begin; state = started begin; trace = []; tries = 0; refused = false; end = None }

-- what answers an event: the word at its address; of a creation the next number, or none where 64 threads were made
abbrev pub answer : {M : Type 0} → Shared M → Running M → Ask → ℕ
answer m r (Load at) = m.word_at r.words at
answer m r (Exchange at old new) = m.word_at r.words at
answer m r (FetchAdd at n) = m.word_at r.words at
answer m r (FetchSub at n) = m.word_at r.words at
answer m r (Create function argument) = if nat_lt (length r.threads) 64 then length r.threads else 0
answer m r _ = 0

-- the thread that an event starts
abbrev pub children : Ask → (answer : ℕ) → List Live
children (Create function argument) zero = []
children (Create function argument) (suc n) = fresh (record { number = suc n; function = function; arguments = argument ∷ [] }) ∷ []
children _ answer = []

-- the stack that an event asks the board to count
abbrev pub asks_for : Setting → List Made → Ask → List (List StackStep)
asks_for w before ask = if is_report_place w before ask then stack_of_event before ask ∷ [] else []

-- the ending of a thread on its way
abbrev pub with_end : Setting → Live → Live
with_end w t = record t { end = if t.refused then Some Full else ending w.options (next w.unit t.state) (length t.trace) t.tries }

-- a thread makes an event that is answered so
abbrev pub stepped : Setting → Live → Ask → (answer : ℕ) → (refused : Bool) → Live
stepped w t ask word refused =
    let s = after w.unit t.state word in
    with_end w (record t {
      state = if is_cut w t.trace ask && not refused then cut s else s;
      trace = record { ask = ask; word = word } ∷ t.trace;
      tries = tries_with (turned w.unit t.state word) ask t.tries;
      refused = refused;
    })

-- the board refuses the stack of an event that follows a trace
abbrev pub is_refused : {M : Type 0} → Shared M → Setting → (asked : List (List StackStep)) → List Made → Ask → Bool
is_refused m w asked before ask = is_report_place w before ask && not (m.has_room asked (stack_of_event before ask))

-- a thread of this number that hasn't ended makes its next event, which is answered so
abbrev pub makes : {M : Type 0} → Shared M → Setting → (number : ℕ) → Live → Ask → (answer : ℕ) → Running M → Running M
makes m w n t ask word r = record {
  words = m.after_events r.words (word_event ask word);
  asked = r.asked ++ asks_for w t.trace ask;
  threads = set r.threads n (stepped w t ask word (is_refused m w r.asked t.trace ask)) ++ children ask word;
}

abbrev pub makes_asked : {M : Type 0} → Shared M → Setting → (number : ℕ) → Live → Ask → Running M → Running M
makes_asked m w n t ask r = makes m w n t ask (answer m r ask) r

-- a thread of this number makes its next event, unless it has ended
abbrev pub makes_next : {M : Type 0} → Shared M → Setting → (number : ℕ) → Live → Option End → Running M → Running M
makes_next m w n t None r = makes_asked m w n t (next w.unit t.state) r
makes_next m w n t (Some end) r = r

abbrev pub turn_of : {M : Type 0} → Shared M → Setting → (number : ℕ) → Option Live → Running M → Running M
turn_of m w n (Some t) r = makes_next m w n t t.end r
turn_of m w n None r = r

-- A turn of the thread of this number; where it isn't there, or has ended, nothing happens.
abbrev pub turn : {M : Type 0} → Shared M → Setting → (number : ℕ) → Running M → Running M
turn m w n r = turn_of m w n (slice_get r.threads n) r

abbrev pub turns : {M : Type 0} → Shared M → Setting → List ℕ → Running M → Running M
turns m w [] r = r
turns m w (n ∷ ns) r = turns m w ns (turn m w n r)

abbrev pub numbers : (first count : ℕ) → List ℕ
numbers first zero = []
numbers first (suc n) = first ∷ numbers (suc first) n

-- whether all threads have ended
abbrev pub is_over : {M : Type 0} → Running M → Bool
is_over r = list_all (λ t. is_some t.end) r.threads

-- a round, and then what follows it, unless all threads have ended
abbrev pub round_unless_over : {M : Type 0} → Shared M → Setting → (Running M → Running M) → Bool → Running M → Running M
round_unless_over m w go true r = r
round_unless_over m w go false r = go (turns m w (numbers 0 64) r)

-- Round after round each thread that hasn't ended makes one event, from thread 0 on, those included that are started in the round, until all have
-- ended.
abbrev pub rounds : {M : Type 0} → Shared M → Setting → ℕ → Running M → Running M
rounds m w zero r = r
rounds m w (suc n) r = round_unless_over m w (rounds m w n) (is_over r) r

abbrev pub called : Setting → (function : ℕ) → Option FunctionInfo → List Live
called w function (Some info) =
    fresh (record { number = 0; function = function; arguments = argument_words info.kind.params w.arguments }) ∷ []
called w function None = []

abbrev pub first_thread : Setting → Option ℕ → List Live
first_thread w (Some function) = called w function (slice_get w.unit.functions function)
first_thread w None = []

-- at the start, with thread 0 at the entry, where there is one
abbrev pub opened : {M : Type 0} → Setting → M → Running M
opened w words = record { words = words; asked = []; threads = first_thread w (entry_of w) }

-- First the threads of the schedule, then rounds until all threads have ended. So many rounds are enough: until then some thread makes an event in
-- each, a thread makes at most two events more than the event limit, and there are at most 64 threads.
abbrev pub scheduled_over : {M : Type 0} → Shared M → Setting → (schedule : List ℕ) → M → Running M
scheduled_over m w schedule words = rounds m w (64 * (w.options.events + 4)) (turns m w schedule (opened w words))

abbrev pub scheduled : Setting → (schedule : List ℕ) → Running (List ℕ)
scheduled w schedule = scheduled_over as_list w schedule (opening w.unit)

-- the threads of a run that is over
abbrev pub thread_of : Live → Thread
thread_of t = record { begin = t.begin; trace = t.trace; refused = t.refused; end = unwrap_or t.end Stopped }

abbrev pub scheduled_threads : Setting → List ℕ → List Thread
scheduled_threads w schedule = map thread_of (scheduled w schedule).threads
