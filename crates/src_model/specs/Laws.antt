-- Laws of the source thread: it is deterministic, it ignores other words than answers, and its words stand in the table; and of the scheduled run: it
-- is a run.
use Rattle.std.specs.Prelude.{◌≡◌, ℕ, ◌<◌, true, false, List, [], ◌∷◌, is_some}
use Rattle.core_unit.specs.declared.tables.UnitParts.{UnitParts}
use Rattle.mcode.specs.Memory.{IsInTable}
use Rattle.mcode.specs.Steps.{is_quiet, is_event, is_answered}
use Rattle.mcode.specs.declared.events.Ask.{Ask}
use Rattle.src_model.specs.Runs.{Setting, entry_of, IsRun}
use Rattle.src_model.specs.Scheduled.{is_over, scheduled, scheduled_threads}
use Rattle.src_model.specs.Source.{settles, next, after, turned, start, cut}
use Rattle.src_model.specs.Tasks.{State}

-- The states that one of 64 threads comes to: its start, what follows the answer to an event, and where it is cut short.
pub data Comes (u : UnitParts) : State → Type 0 where
  begins : (number function : ℕ) (arguments : List ℕ) → number < 64 → Comes u (start number function arguments)
  goes_on : (s : State) (word : ℕ) → Comes u s → Comes u (after u s word)
  halts : (s : State) → Comes u s → Comes u (cut s)

-- from this state the thread makes these events, one after another, by these answers
abbrev pub AreEvents : UnitParts → State → (events : List Ask) → (answers : List ℕ) → Type 0
AreEvents u s [] [] = Unit {0}
AreEvents u s [] (word ∷ words) = ⊥
AreEvents u s (event ∷ events) [] = ⊥
AreEvents u s (event ∷ events) (word ∷ words) = (next u s ≡ event) × (is_event event ≡ true) × AreEvents u (after u s word) events words

-- Each state comes to one event or to its finish; where one of 64 threads comes to, the event stays in the table; equal starts with equal answers
-- give equal events. The word beside an event that nothing answers changes neither the state that follows nor whether that was a failed try.
pub record IsDeterministic (u : UnitParts) : Type 0 where
  pub decided : (s : State) → is_quiet (settles u s) ≡ false
  pub in_table : (s : State) → Comes u s → IsInTable (next u s)
  pub ignored_states : (s : State) (word other : ℕ) → is_answered (next u s) ≡ false → after u s word ≡ after u s other
  pub ignored_tries : (s : State) (word other : ℕ) → is_answered (next u s) ≡ false → turned u s word ≡ turned u s other
  pub same : (s : State) (answers : List ℕ) (events others : List Ask) → AreEvents u s events answers → AreEvents u s others answers → events ≡ others

-- What a scheduled run asks of a setting: its entry is there, and its limits let a thread make an event and a try.
pub record CanBegin (w : Setting) : Type 0 where
  pub entry : is_some (entry_of w) ≡ true
  pub events : 0 < w.options.events
  pub tries : 0 < w.options.wait_limit

-- The scheduled run of each such setting of the unit comes to its end, and its threads are a run.
pub record IsScheduled (u : UnitParts) : Type 0 where
  pub ends : (w : Setting) (schedule : List ℕ) → w.unit ≡ u → CanBegin w → is_over (scheduled w schedule) ≡ true
  pub runs : (w : Setting) (schedule : List ℕ) → w.unit ≡ u → CanBegin w → IsRun w (scheduled_threads w schedule)
