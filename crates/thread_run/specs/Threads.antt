-- What a C thread means: its world, its start, its trace, and whether the board refused the last event of that. All else that it keeps is told by these:
-- where its machine stands, its context and its stack, its counts, its output, its ending.
use Rattle.std.specs.Prelude.{◌≡◌, ◌<◌, ℕ, Bool, true, false, List, [], ◌∷◌, unwrap_or, Option, slice_get}
use Rattle.std.specs.Option.{option_map_or}
use Rattle.core_unit.specs.declared.tables.UnitParts.{UnitParts}
use Rattle.mcode.specs.Machine.{Machine}
use Rattle.mcode.specs.declared.events.Ask.{Ask}
use Rattle.mcode.specs.declared.events.Ask.TheVariants.{Create}
use Rattle.mcode.specs.declared.events.Turned.{Turned}
use Rattle.mcode.specs.declared.events.Turned.TheVariants.{FailedTry, Went}
use Rattle.src_model.specs.Follows.{machine_at_end}
use Rattle.src_model.specs.Runs.{Start, Thread, argument_words, next_after, state_after, ending_after, is_last_a_report, IsSourceRun, IsGoingOn}
use Rattle.src_model.specs.Source.{turned}
use Rattle.src_model.specs.Totals.{reports_of, suppressed_in}
use Rattle.src_model.specs.declared.runs.End.{End}
use Rattle.src_model.specs.declared.runs.End.TheVariants.{Stopped}
use Rattle.src_model.specs.declared.runs.Made.{Made}
use Rattle.std.specs.Prelude.{ℤ}
use Rattle.thread_run.specs.Worlds.{WorldParts, setting_of}

pub record Progress : Type 0 where
  pub world : WorldParts
  pub begin : Start
  pub trace : List Made
  pub refused : Bool

-- a thread at its start
abbrev pub fresh : WorldParts → Start → Progress
fresh world begin = record { world = world; begin = begin; trace = []; refused = false }

-- an event more
abbrev pub makes : Progress → Ask → (word : ℕ) → (refused : Bool) → Progress
makes p ask word refused = record { world = p.world; begin = p.begin; trace = record { ask = ask; word = word } ∷ p.trace; refused = refused }

-- its next event, or its finish, where the board refused nothing
abbrev pub next_event : Progress → Ask
next_event p = next_after (setting_of p.world) p.begin p.trace

-- its ending, if it has ended
abbrev pub end_of : Progress → Option End
end_of p = ending_after (setting_of p.world) p.begin p.refused p.trace

-- the thread of a run that it is
abbrev pub thread_of : Progress → Thread
thread_of p = record { begin = p.begin; trace = p.trace; refused = p.refused; end = unwrap_or (end_of p) Stopped }

-- The trace is one of the source thread, before each of whose events it hadn't ended, and the board refused a report place, if any.
pub record IsRunSoFar (p : Progress) : Type 0 where
  pub number : p.begin.number < 64
  pub source : IsSourceRun (setting_of p.world) p.begin p.trace
  pub going_on : IsGoingOn (setting_of p.world) p.begin p.trace
  pub refused : p.refused ≡ true → is_last_a_report (setting_of p.world) p.trace ≡ true

abbrev pub machine_of : Progress → Machine
machine_of p = machine_at_end (setting_of p.world) p.world.code (thread_of p)

abbrev pub reports_in : Progress → ℕ
reports_in p = reports_of (setting_of p.world) (thread_of p)

abbrev pub suppressed_of : Progress → ℕ
suppressed_of p = suppressed_in (setting_of p.world) p.trace

-- the next event starts a thread
abbrev pub is_creation : Ask → Bool
is_creation (Create function argument) = true
is_creation _ = false

abbrev pub is_failed : Turned → Bool
is_failed FailedTry = true
is_failed Went = false

-- the last event of a trace is a failed try
abbrev pub is_last_a_try : WorldParts → Start → List Made → Bool
is_last_a_try w begin [] = false
is_last_a_try w begin (made ∷ before) = is_failed (turned w.unit (state_after (setting_of w) begin before) made.word)

-- what the entry of the code is called with
abbrev pub entry_words : UnitParts → (function : ℕ) → List ℤ → List ℕ
entry_words u function arguments = option_map_or (λ f. argument_words f.kind.params arguments) (slice_get u.functions function) []

-- thread 0, before its first event
abbrev pub first_start : WorldParts → List ℤ → Start
first_start w arguments = record { number = 0; function = w.code.entry; arguments = entry_words w.unit w.code.entry arguments }

-- a thread that a Create starts
abbrev pub child_start : (number function argument : ℕ) → Start
child_start number function argument = record { number = number; function = function; arguments = argument ∷ [] }

-- that of this number which an event starts
abbrev pub child_of : (number : ℕ) → Ask → Start
child_of number (Create function argument) = child_start number function argument
child_of number _ = child_start number 0 0
