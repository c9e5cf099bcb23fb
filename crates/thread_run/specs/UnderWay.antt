-- What a thread keeps belongs to its trace.
use Rattle.std.specs.Prelude.{◌≡◌, ℕ, ◌<◌, ◌≤◌, ◌+◌, Bool, true, false, not, ◌&&◌, length, ◌∷◌, All, Option, Some}
use Rattle.mcode.specs.Machine.{Machine, machine_next, machine_after, machine_turned, machine_cut}
use Rattle.mcode.specs.declared.events.Ask.{Ask}
use Rattle.reports.specs.Stacks.{IsStep}
use Rattle.src_model.specs.Outputs.{output, dropped}
use Rattle.src_model.specs.Runs.{Start, ending, tries_with, tries_after, is_last_a_report, IsSourceRun, IsGoingOn}
use Rattle.src_model.specs.Traces.{frames_after, context_after}
use Rattle.src_model.specs.declared.runs.End.{End}
use Rattle.src_model.specs.declared.runs.End.TheVariants.{Full}
use Rattle.thread_run.specs.Called.{steps_in}
use Rattle.thread_run.specs.Detecting.{followed, is_report, is_suppressed, is_refused}
use Rattle.thread_run.specs.Threads.{Progress, reports_in, suppressed_of, end_of, machine_of}
use Rattle.thread_run.specs.Worlds.{WorldParts, setting_of}
use Rattle.thread_run.specs.Writing.{written}
use Rattle.thread_run.specs.declared.judged.Judged.{Judged}
use Rattle.thread_run.specs.declared.kept.Kept.{Kept}

abbrev pub progress_of : WorldParts → Start → Kept → Progress
progress_of w begin k = record { world = w; begin = begin; trace = k.trace; refused = k.refused }

-- Each thing that is kept is told by the world, the start and the trace.
pub record IsUnderWay (w : WorldParts) (begin : Start) (k : Kept) : Type 0 where
  pub number : begin.number < 64
  pub machine : k.machine ≡ machine_of (progress_of w begin k)
  pub frames : k.detector.frames ≡ frames_after k.trace
  pub context : k.detector.context ≡ context_after w.unit k.trace
  pub reports : k.reports ≡ reports_in (progress_of w begin k)
  pub suppressed : k.suppressed ≡ suppressed_of (progress_of w begin k)
  pub output : k.output ≡ record { kept = output k.trace; dropped = dropped k.trace }
  pub events : k.events ≡ length k.trace
  pub tries : k.tries ≡ tries_after (setting_of w) begin k.trace
  pub end : k.end ≡ end_of (progress_of w begin k)
  pub source : IsSourceRun (setting_of w) begin k.trace
  pub going_on : IsGoingOn (setting_of w) begin k.trace
  pub refused : k.refused ≡ true → is_last_a_report (setting_of w) k.trace ≡ true
  pub called : frames_after k.trace ≡ steps_in k.machine.callers
  pub steps : All IsStep (frames_after k.trace)
  pub few : length (frames_after k.trace) ≤ 256

-- a report cuts its thread short, unless the board refused it
abbrev pub is_cut_by : (halt_on_error : Bool) → Judged → Bool
is_cut_by halt_on_error judged = halt_on_error && is_report judged && not (is_refused judged)

abbrev pub unless_cut : Bool → Machine → Machine
unless_cut true t = machine_cut t
unless_cut false t = t

-- the ending that a refusal makes, or that the machine comes to
abbrev pub end_by : WorldParts → (refused : Bool) → Ask → (made tries : ℕ) → Option End
end_by w true ask made tries = Some Full
end_by w false ask made tries = ending w.options ask made tries

abbrev pub one_if : Bool → ℕ
one_if true = 1
one_if false = 0

-- an event is made, which was judged so: the machine goes on by the answer, and all else that is kept follows
pub record MakesEvent (w : WorldParts) (ask : Ask) (word : ℕ) (judged : Judged) (old new : Kept) : Type 0 where
  pub machine : new.machine ≡ unless_cut (is_cut_by w.options.halt_on_error judged) (machine_after w.code old.machine word)
  pub detector : new.detector ≡ followed w.unit ask old.detector
  pub reports : new.reports ≡ old.reports + one_if (is_report judged && not (is_refused judged))
  pub suppressed : new.suppressed ≡ old.suppressed + one_if (is_suppressed judged)
  pub output : new.output ≡ written ask old.output
  pub events : new.events ≡ old.events + 1
  pub tries : new.tries ≡ tries_with (machine_turned w.code old.machine word) ask old.tries
  pub trace : new.trace ≡ record { ask = ask; word = word } ∷ old.trace
  pub refused : new.refused ≡ is_refused judged
  pub end : new.end ≡ end_by w (is_refused judged) (machine_next w.code new.machine) new.events new.tries
