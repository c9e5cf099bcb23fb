-- Laws of the source thread: it is deterministic, and its words stand in the table.
use Rattle.std.specs.Prelude.{◌≡◌, ℕ, ◌<◌, Bool, true, false, List, [], ◌∷◌}
use Rattle.built_unit.specs.Units.{UnitParts}
use Rattle.built_code.specs.declared.events.Ask.{Ask}
use Rattle.built_code.specs.declared.events.Ask.TheVariants.{Load, Store, Exchange, FetchAdd, FetchSub, Enter, Leave, Reach, Create, Out, Trap, Over}
use Rattle.built_code.specs.Steps.{is_quiet}
use Rattle.built_model.specs.Source.{State, settles, next, after}

-- so many words has the table
abbrev pub table_words : ℕ
table_words = 1048768

-- the address of an event, if it has one, is one of the table
abbrev pub IsInTable : Ask → Type 0
IsInTable (Load at) = at < table_words
IsInTable (Store at word) = at < table_words
IsInTable (Exchange at old new) = at < table_words
IsInTable (FetchAdd at n) = at < table_words
IsInTable (FetchSub at n) = at < table_words
IsInTable (Enter function site) = Unit {0}
IsInTable Leave = Unit {0}
IsInTable (Reach target site) = Unit {0}
IsInTable (Create function argument) = Unit {0}
IsInTable (Out byte) = Unit {0}
IsInTable (Trap kind) = Unit {0}
IsInTable (Over finish) = Unit {0}

-- an event, and no finish
abbrev pub is_event : Ask → Bool
is_event (Over finish) = false
is_event ask = true

-- from this state the thread makes these events, one after another, by these answers
abbrev pub IsRun : UnitParts → State → (events : List Ask) → (answers : List ℕ) → Type 0
IsRun u s [] [] = Unit {0}
IsRun u s [] (word ∷ words) = ⊥
IsRun u s (event ∷ events) [] = ⊥
IsRun u s (event ∷ events) (word ∷ words) =
    (next u s ≡ event) × (is_event event ≡ true) × IsRun u (after u s word) events words

-- each state comes to one event or to its finish; of 64 threads each stays in the table; equal starts with equal answers
-- give equal events
pub record IsDeterministic (u : UnitParts) : Type 0 where
  pub decided : (s : State) → is_quiet (settles u s) ≡ false
  pub in_table : (s : State) → s.number < 64 → IsInTable (next u s)
  pub same : (s : State) (answers : List ℕ) (events others : List Ask) → IsRun u s events answers → IsRun u s others answers → events ≡ others
