-- What an event and a slice of events make of a thread and of the two passes that it holds.
use Rattle.std.specs.Prelude.{◌≡◌, ◌≤◌, ℕ, ◌+◌, ◌-◌, min, Bool, true, false, not, ◌&&◌, List, [], ◌∷◌, ◌++◌, length, map, is_some, nat_lt, None}
use Rattle.ctx_set.specs.declared.steps.StackStep.{StackStep}
use Rattle.mcode.specs.declared.events.Ask.{Ask}
use Rattle.mcode.specs.declared.events.Ask.TheVariants.{Create as CreateAsk}
use Rattle.reports.specs.Counts.{is_counted}
use Rattle.reports.specs.Passes.{Held as BoardHeld, Report, IsAlone}
use Rattle.reports.specs.Prefixes.{has_room}
use Rattle.src_model.specs.Runs.{Setting, is_report_place}
use Rattle.src_model.specs.Scheduled.{asks_for}
use Rattle.src_model.specs.Traces.{stack_of_event, word_event, words_of}
use Rattle.src_model.specs.declared.runs.Made.{Made}
use Rattle.thread_run.specs.Judging.{IsNoted}
use Rattle.thread_run.specs.Threads.{Progress, makes, next_event, end_of, is_creation, is_last_a_try}
use Rattle.thread_run.specs.Worlds.{setting_of}
use Rattle.thread_run.specs.declared.turn.Turn.{Turn}
use Rattle.thread_run.specs.declared.turn.Turn.TheVariants.{More, Tried, Create, Ended}
use Rattle.word_mem.specs.Held.{Held as WordsHeld}
use Rattle.word_mem.specs.declared.event.WordEvent.{WordEvent}

-- a pass made these word events, one after another
abbrev pub dids : WordsHeld → List WordEvent → WordsHeld
dids h events = record h { own = h.own ++ events }

-- a pass to a board reported these
abbrev pub told : BoardHeld → List Report → BoardHeld
told b reports = record b { own = b.own ++ reports }

-- what the board was told at an event: its stack where it is a report place, and else nothing
abbrev pub IsTold : (exact : Bool) → (report : Bool) → List StackStep → (refused : Bool) → (old new : BoardHeld) → Type 0
IsTold exact true stack refused old new = IsNoted exact stack refused old new
IsTold exact false stack refused old new = (new ≡ old) × (refused ≡ false)

-- The thread makes this event, which starts no thread and which some word answers: its trace grows by it, its word pass by the word event that it is, and its board pass by the
-- report that it is.
pub record IsMade (exact : Bool) (ask : Ask) (old new : Progress) (held held' : WordsHeld) (calls calls' : ℕ) (kept kept' : BoardHeld) : Type 0 where
  pub word : ℕ
  pub made : new ≡ makes old ask word new.refused
  pub words : held' ≡ dids held (word_event ask word)
  pub left : calls' + length (word_event ask word) ≡ calls
  pub settled : is_creation ask ≡ false
  pub board : IsTold exact (is_report_place (setting_of old.world) old.trace ask) (stack_of_event old.trace ask) new.refused kept kept'

-- the stacks of the report places among these events, which follow a trace, the first one first
abbrev pub stacks_since : Setting → (before more : List Made) → List (List StackStep)
stacks_since w before [] = []
stacks_since w before (made ∷ more) = stacks_since w before more ++ asks_for w (more ++ before) made.ask

-- none of these events starts a thread
abbrev pub AreSettled : List Made → Type 0
AreSettled [] = Unit {0}
AreSettled (made ∷ more) = (is_creation made.ask ≡ false) × AreSettled more

-- each report is counted, but the last one where the board refused that
abbrev pub AreAnswered : (refused : Bool) → List Report → Type 0
AreAnswered refused [] = refused ≡ false
AreAnswered refused (report ∷ []) = is_counted report.answer ≡ not refused
AreAnswered refused (report ∷ next ∷ reports) = (is_counted report.answer ≡ true) × AreAnswered refused (next ∷ reports)

-- each is counted exactly where there is room behind those before
abbrev pub AreByRoom : (before : List Report) → List Report → Type 0
AreByRoom before [] = Unit {0}
AreByRoom before (report ∷ reports) = (is_counted report.answer ≡ has_room before report.stack) × AreByRoom (before ++ report ∷ []) reports

-- The thread went on by these events, the latest first, none of which starts a thread: its trace grew by them, its word pass by the word events among them, with the answers that are
-- in the trace, and its board pass by the report places among them, with their stacks. The board refused only the last one, if any.
pub record WentOn (exact : Bool) (old new : Progress) (held held' : WordsHeld) (calls calls' : ℕ) (kept kept' : BoardHeld) : Type 0 where
  pub more : List Made
  pub reports : List Report
  pub world : new.world ≡ old.world
  pub begin : new.begin ≡ old.begin
  pub trace : new.trace ≡ more ++ old.trace
  pub settled : AreSettled more
  pub words : held' ≡ dids held (words_of more)
  pub left : calls' + length (words_of more) ≡ calls
  pub board : kept' ≡ told kept reports
  pub stacks : map (λ (r : Report). r.stack) reports ≡ stacks_since (setting_of old.world) old.trace more
  pub answers : AreAnswered new.refused reports
  pub room : exact ≡ true → IsAlone kept → AreByRoom kept.own reports

-- so many calls are enough for so many events of a thread
abbrev pub IsEnough : Progress → (events left : ℕ) → Type 0
IsEnough p events left = min events (p.world.options.events + 2 - length p.trace) ≤ left

-- the last of the events that a slice made, if it made one, is a failed try
abbrev pub has_tried : Progress → (made : ℕ) → Bool
has_tried p made = nat_lt 0 made && is_last_a_try p.world p.begin p.trace

-- The answer of a slice that made so many events, of these at most: each one exactly where it comes.
abbrev pub IsTurn : Turn → (events made : ℕ) → Progress → Type 0
IsTurn Ended events made p = is_some (end_of p) ≡ true
IsTurn Tried events made p = (end_of p ≡ None) × (has_tried p made ≡ true) × (is_creation (next_event p) ≡ false)
IsTurn (Create function argument) events made p = (end_of p ≡ None) × (has_tried p made ≡ false) × (next_event p ≡ CreateAsk function argument)
IsTurn More events made p = (end_of p ≡ None) × (has_tried p made ≡ false) × (is_creation (next_event p) ≡ false) × (made ≡ events)

-- so many events were made since
abbrev pub made_since : (old new : Progress) → ℕ
made_since old new = length new.trace - length old.trace
