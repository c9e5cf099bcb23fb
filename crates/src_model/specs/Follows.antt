-- When code is compiled from a unit: event by event, a thread of the code does what the source thread does (this project's own rule).
use Rattle.std.specs.Prelude.{◌≡◌, ℕ, List, [], ◌∷◌, Some}
use Rattle.core_unit.specs.declared.tables.UnitParts.{UnitParts}
use Rattle.mcode.specs.Machine.{Program, Machine, machine_next, machine_after, machine_turned, machine_start, machine_cut}
use Rattle.src_model.specs.Runs.{Setting, Start, Thread, moved, moved_to, started, function_from}
use Rattle.src_model.specs.Source.{next, after, turned, cut}
use Rattle.src_model.specs.Tasks.{State}
use Rattle.src_model.specs.declared.runs.Made.{Made}

-- what becomes of a thread: its next event is answered by this word, or it is cut short
pub data Move : Type 0 where
  Answers : ℕ → Move
  Cuts : Move

-- The state after such moves, the latest first, for a thread that goes on by `go` and is cut short by `halts`.
abbrev pub driven : {S : Type 0} → (go : S → ℕ → S) → (halts : S → S) → S → List Move → S
driven go halts s [] = s
driven go halts s (Answers word ∷ before) = go (driven go halts s before) word
driven go halts s (Cuts ∷ before) = halts (driven go halts s before)

-- the source thread after these moves from its start, and the code's
abbrev pub source_at : UnitParts → Start → List Move → State
source_at u begin moves = driven (after u) cut (started begin) moves

abbrev pub machine_started : Start → Machine
machine_started begin = machine_start begin.number begin.function begin.arguments

abbrev pub machine_at : Program → Start → List Move → Machine
machine_at c begin moves = driven (machine_after c) machine_cut (machine_started begin) moves

-- For each number, function and argument words, and whatever answers the events and wherever the thread is cut short: the code has the next event or
-- the finish that the source thread has, and an answer makes it a failed try where it makes the source's one.
pub record Behaves (u : UnitParts) (c : Program) : Type 0 where
  pub events : (begin : Start) (moves : List Move) → machine_next c (machine_at c begin moves) ≡ next u (source_at u begin moves)
  pub tries : (begin : Start) (moves : List Move) (word : ℕ) → machine_turned c (machine_at c begin moves) word ≡ turned u (source_at u begin moves) word

-- Such code, for the entry of this name: the first function that is defined and has it.
pub record IsCompiled (u : UnitParts) (name : List ℕ) (c : Program) : Type 0 where
  pub behaves : Behaves u c
  pub entry : function_from 0 u.functions name ≡ Some c.entry

-- the machine of a thread after a trace
abbrev pub machine_after_trace : Setting → Program → Start → List Made → Machine
machine_after_trace w c begin trace = moved w (machine_after c) machine_cut (machine_started begin) trace

-- and that of a thread at its end
abbrev pub machine_at_end : Setting → Program → Thread → Machine
machine_at_end w c t = moved_to w (machine_after c) machine_cut (machine_started t.begin) t.refused t.trace
