-- From what was found of a source to the outcome of its command.
use Rattle.std.proofs.Common.{◌≡◌, ◌≢◌, ℕ, ◌⊎◌, inl, inr, List, Option, Some, None, IsSome, refl, ap, sym, subst, ◌∙◌}
use Rattle.unit_check.specs.Verdicts.{Report, AreVerdicts}
use Rattle.rt_base.specs.Outside.{FilesState, SinkState, IsContents, TakesAll}
use Rattle.rtsan_core.specs.declared.reading.Reading.{Reading}
use Rattle.rtsan_core.specs.declared.reading.Refusal.{Refusal}
use Rattle.rtsan_core.specs.declared.reading.Refusal.TheVariants.{ReadFault, TooLong, Misspelled, Unread, Untyped, TooLarge, NoMemory}
use Rattle.rtsan_core.specs.declared.status.Outcome.{Outcome}
use Rattle.rtsan_core.specs.declared.status.Status.{Status}
use Rattle.rtsan_core.specs.declared.status.Status.TheVariants.{NoMemory as StatusNoMemory}
use Rattle.command.specs.declared.command.Command.{Command}
use Rattle.command.specs.declared.command.Job.{Job}
use Rattle.command.specs.declared.command.Job.TheVariants.{Check, Step}
use Rattle.rtsan_core.specs.Served.{served_command}
use Rattle.rtsan_core.specs.Causes.{Cause, NoCommand, Unreadable, OutOfMemory}
use Rattle.rtsan_core.specs.Rungs.{Rung, Stops, GoesOn, Then, Stopped, WentOn}
use Rattle.rtsan_core.specs.Ladder.{Findings, warned_in, SourceLadder, StepLadder, JobLadder, CommandLadder, Ladder}
use Rattle.rtsan_core.specs.Outcomes.{Answer, IsPrinted, Whole, Cut, answer_of, answer_at, answer_by, Ends, There, Early, IsOutcome, IsUndisturbed, IsCalm, HasTheAnswer}
use Rattle.rtsan_core.specs.Found.{Gives, Is, IsFileRefused, IsOnlyOutcome, cause_of}
use Rattle.rtsan_core.proofs.Climbing.{climb, climb_stop}
use Rattle.rtsan_core.proofs.Jobs.{job_checked, findings, stop_told}
use Rattle.rtsan_core.proofs.Plain.{climb_told}

-- the ladder from a source on
abbrev pub FromSource : Job → Command → (source : List ℕ) → Rung Findings → Type 0
FromSource job command source = Then (SourceLadder command.file source) (λ read. JobLadder job command source read)

-- a source that stops
source_told : (job : Job) (command : Command) (source : List ℕ) (cause : Cause) (outcome : Outcome) (status : Status) (old new : SinkState) → Is (SourceLadder command.file source) (Stops cause) → IsPrinted (answer_of cause) status old new → outcome.status ≡ status → outcome.finished ≡ None → IsOnlyOutcome (FromSource job command source) outcome old new
source_told job command source cause outcome status old new h p s f =
    stop_told (FromSource job command source) cause outcome status old new (inl (climb_stop answer_at (SourceLadder command.file source) _ cause h)) p s f

-- a source of which was printed what is warned of
pub check_told : (job : Job) (command : Command) (source : List ℕ) (read : Reading) (verdicts : Report) (outcome : Outcome) (status : Status) (old new : SinkState) → job ≡ Check → Is (SourceLadder command.file source) (GoesOn read) → AreVerdicts read.unit verdicts
    → IsPrinted (answer_by (warned_in command.file source read verdicts) None) status old new → outcome.status ≡ status → outcome.finished ≡ None → IsOnlyOutcome (FromSource job command source) outcome old new
check_told job command source read verdicts outcome status old new is h w p s f =
    subst (λ job. IsOnlyOutcome (FromSource job command source) outcome old new) (sym is) (record {
      end = GoesOn (findings command.file source read verdicts None);
      reached = inl (climb answer_at (SourceLadder command.file source) _ read _ h (job_checked command.file source read verdicts w));
      left = f;
      printed = subst (λ status. IsPrinted (answer_by (warned_in command.file source read verdicts) None) status old new) (sym s) p;
    })

-- a source whose unit was stepped
pub step_told : (job : Job) (command : Command) (source : List ℕ) (read : Reading) (outcome : Outcome) (old new : SinkState) → job ≡ Step → Is (SourceLadder command.file source) (GoesOn read) → IsOnlyOutcome (StepLadder command source read) outcome old new → IsOnlyOutcome (FromSource job command source) outcome old new
step_told job command source read outcome old new is h o =
    subst (λ job. IsOnlyOutcome (FromSource job command source) outcome old new) (sym is)
    (climb_told (SourceLadder command.file source) _ read outcome old new h o)

-- what came of the contents of the file came of the command
pub commanded : (command : Command) (before after : FilesState) (source : List ℕ) (outcome : Outcome) (old new : SinkState) → IsContents (before.contents command.file) source → IsOnlyOutcome (FromSource command.job command source) outcome old new → IsOutcome (CommandLadder command before after) outcome old new
commanded command before after source outcome old new t o = by o.reached
  where
    by : Gives answer_at (FromSource command.job command source) o.end ⊎ (o.end ≡ Stops OutOfMemory) → IsOutcome (CommandLadder command before after) outcome old new
    by (inl g) = record { end = o.end; reached = There (WentOn source t g.is); left = o.left; printed = o.printed }
    by (inr e) = record { end = o.end; reached = Early e; left = o.left; printed = o.printed }

same_contents : (contents : Option (List ℕ)) (source other : List ℕ) → IsSome contents → IsContents contents source → IsContents contents other → other ≡ source
same_contents None source other some a b = let clash : ⊥ = cc in absurd clash
same_contents (Some bytes) source other some a b = b ∙ sym a

-- wherever the ladder ends, it goes by the contents
by_contents : (command : Command) (before after : FilesState) (source : List ℕ) (old new : SinkState) → IsContents (before.contents command.file) source → IsUndisturbed command.file before after old new → (end : Rung Findings) → CommandLadder command before after end → FromSource command.job command source end
by_contents command before after source old new t u end (Stopped c h e) = absurd (u.read h.0)
by_contents command before after source old new t u end (WentOn other s n) =
    subst (λ source. FromSource command.job command source end) (same_contents (before.contents command.file) source other u.contents t s) n

-- what was printed undisturbed was printed whole
whole_status : (command : Command) (before after : FilesState) (answer : Answer) (status : Status) (old new : SinkState) → IsUndisturbed command.file before after old new → IsPrinted answer status old new → status ≡ answer.status
whole_status command before after answer status old new u (Whole s t) = s
whole_status command before after answer status old new u (Cut s f) = absurd (u.written f.rose)

whole_text : (command : Command) (before after : FilesState) (answer : Answer) (status : Status) (old new : SinkState) → IsUndisturbed command.file before after old new → IsPrinted answer status old new → TakesAll answer.text old new
whole_text command before after answer status old new u (Whole s t) = t
whole_text command before after answer status old new u (Cut s f) = absurd (u.written f.rose)

pub determined : (command : Command) (before after : FilesState) (source : List ℕ) (outcome : Outcome) (old new : SinkState) → IsContents (before.contents command.file) source → IsOnlyOutcome (FromSource command.job command source) outcome old new → IsUndisturbed command.file before after old new → outcome.status ≢ StatusNoMemory → HasTheAnswer (CommandLadder command before after) outcome old new
determined command before after source outcome old new t o u room = by o.reached
  where
    by : Gives answer_at (FromSource command.job command source) o.end ⊎ (o.end ≡ Stops OutOfMemory) → HasTheAnswer (CommandLadder command before after) outcome old new
    by (inl g) = record {
      status = λ end h. whole_status command before after (answer_at o.end) outcome.status old new u o.printed ∙ sym (ap (λ a. a.status) (g.only end (by_contents command before after source old new t u end h)));
      text = λ end h. subst (λ a. TakesAll a.text old new) (sym (g.only end (by_contents command before after source old new t u end h))) (whole_text command before after (answer_at o.end) outcome.status old new u o.printed);
    }
    by (inr e) = absurd (room (whole_status command before after (answer_at o.end) outcome.status old new u o.printed ∙ ap (λ end. (answer_at end).status) e))

-- what came of a refusal
pub refused : (command : Command) (before after : FilesState) (refusal : Refusal) (outcome : Outcome) (status : Status) (old new : SinkState) → IsFileRefused before after command.file refusal → IsPrinted (answer_of (cause_of command.file refusal)) status old new → outcome.status ≡ status → outcome.finished ≡ None → IsOutcome (CommandLadder command before after) outcome old new
refused command before after ReadFault outcome status old new h p s f = record {
  end = Stops (Unreadable command.file);
  reached = There (Stopped (Unreadable command.file) (h, refl) refl);
  left = f;
  printed = subst (λ status. IsPrinted (answer_of (Unreadable command.file)) status old new) (sym s) p;
}
refused command before after NoMemory outcome status old new h p s f = record {
  end = Stops OutOfMemory;
  reached = Early refl;
  left = f;
  printed = subst (λ status. IsPrinted (answer_of OutOfMemory) status old new) (sym s) p;
}
refused command before after TooLong outcome status old new h p s f =
    commanded command before after h.0 outcome old new h.1 (source_told command.job command h.0 _ outcome status old new h.2 p s f)
refused command before after (Misspelled number line column) outcome status old new h p s f =
    commanded command before after h.0 outcome old new h.1 (source_told command.job command h.0 _ outcome status old new h.2 p s f)
refused command before after (Unread number line column) outcome status old new h p s f =
    commanded command before after h.0 outcome old new h.1 (source_told command.job command h.0 _ outcome status old new h.2 p s f)
refused command before after (Untyped number line column) outcome status old new h p s f =
    commanded command before after h.0 outcome old new h.1 (source_told command.job command h.0 _ outcome status old new h.2 p s f)
refused command before after (TooLarge limit) outcome status old new h p s f =
    commanded command before after h.0 outcome old new h.1 (source_told command.job command h.0 _ outcome status old new h.2 p s f)

pub refused_determined : (command : Command) (before after : FilesState) (refusal : Refusal) (outcome : Outcome) (status : Status) (old new : SinkState) → IsFileRefused before after command.file refusal → IsPrinted (answer_of (cause_of command.file refusal)) status old new → outcome.status ≡ status → outcome.finished ≡ None → IsUndisturbed command.file before after old new → outcome.status ≢ StatusNoMemory → HasTheAnswer (CommandLadder command before after) outcome old new
refused_determined command before after ReadFault outcome status old new h p s f u room = absurd (u.read h)
refused_determined command before after NoMemory outcome status old new h p s f u room =
    absurd (room (s ∙ whole_status command before after (answer_of OutOfMemory) status old new u p))
refused_determined command before after TooLong outcome status old new h p s f u room =
    determined command before after h.0 outcome old new h.1 (source_told command.job command h.0 _ outcome status old new h.2 p s f) u room
refused_determined command before after (Misspelled number line column) outcome status old new h p s f u room =
    determined command before after h.0 outcome old new h.1 (source_told command.job command h.0 _ outcome status old new h.2 p s f) u room
refused_determined command before after (Unread number line column) outcome status old new h p s f u room =
    determined command before after h.0 outcome old new h.1 (source_told command.job command h.0 _ outcome status old new h.2 p s f) u room
refused_determined command before after (Untyped number line column) outcome status old new h p s f u room =
    determined command before after h.0 outcome old new h.1 (source_told command.job command h.0 _ outcome status old new h.2 p s f) u room
refused_determined command before after (TooLarge limit) outcome status old new h p s f u room =
    determined command before after h.0 outcome old new h.1 (source_told command.job command h.0 _ outcome status old new h.2 p s f) u room

-- what came of a command came of its words
pub worded : (words : List (List ℕ)) (before after : FilesState) (command : Command) (outcome : Outcome) (old new : SinkState) → served_command words ≡ Some command → IsOutcome (CommandLadder command before after) outcome old new → IsOutcome (Ladder words before after) outcome old new
worded words before after command outcome old new named o = by o.reached
  where
    by : Ends (CommandLadder command before after) o.end → IsOutcome (Ladder words before after) outcome old new
    by (There h) = record { end = o.end; reached = There (WentOn command named h); left = o.left; printed = o.printed }
    by (Early e) = record { end = o.end; reached = Early e; left = o.left; printed = o.printed }

by_command : (words : List (List ℕ)) (before after : FilesState) (command : Command) → served_command words ≡ Some command → (end : Rung Findings) → Ladder words before after end → CommandLadder command before after end
by_command words before after command named end (Stopped c h e) = let none = h.0 in cc
by_command words before after command named end (WentOn other also n) =
    let same : other ≡ command = cc in
    subst (λ command. CommandLadder command before after end) same n

pub worded_determined : (words : List (List ℕ)) (before after : FilesState) (command : Command) (outcome : Outcome) (old new : SinkState) → served_command words ≡ Some command → (IsUndisturbed command.file before after old new → outcome.status ≢ StatusNoMemory → HasTheAnswer (CommandLadder command before after) outcome old new) → IsCalm words before after old new → outcome.status ≢ StatusNoMemory → HasTheAnswer (Ladder words before after) outcome old new
worded_determined words before after command outcome old new named h calm room =
    let same : calm.command ≡ command = (let also = calm.named in cc) in
    let u : IsUndisturbed command.file before after old new = subst (λ command. IsUndisturbed command.file before after old new) same calm.undisturbed in
    let a = h u room in
    record {
      status = λ end l. a.status end (by_command words before after command named end l);
      text = λ end l. a.text end (by_command words before after command named end l);
    }

-- words that aren't a command, or for which memory didn't suffice
pub wordless : (words : List (List ℕ)) (before after : FilesState) (outcome : Outcome) (status : Status) (old new : SinkState) → served_command words ≡ None → IsPrinted (answer_of NoCommand) status old new → outcome.status ≡ status → outcome.finished ≡ None → IsOutcome (Ladder words before after) outcome old new
wordless words before after outcome status old new none p s f = record {
  end = Stops NoCommand;
  reached = There (Stopped NoCommand (none, refl) refl);
  left = f;
  printed = subst (λ status. IsPrinted (answer_of NoCommand) status old new) (sym s) p;
}

pub roomless : (ladder : Rung Findings → Type 0) (outcome : Outcome) (status : Status) (old new : SinkState) → IsPrinted (answer_of OutOfMemory) status old new → outcome.status ≡ status → outcome.finished ≡ None → IsOutcome ladder outcome old new
roomless ladder outcome status old new p s f = record {
  end = Stops OutOfMemory;
  reached = Early refl;
  left = f;
  printed = subst (λ status. IsPrinted (answer_of OutOfMemory) status old new) (sym s) p;
}

pub roomless_determined : (words : List (List ℕ)) (before after : FilesState) (outcome : Outcome) (status : Status) (old new : SinkState) → IsPrinted (answer_of OutOfMemory) status old new → outcome.status ≡ status → IsCalm words before after old new → outcome.status ≢ StatusNoMemory → HasTheAnswer (Ladder words before after) outcome old new
roomless_determined words before after outcome status old new p s calm room =
    absurd (room (s ∙ whole_status calm.command before after (answer_of OutOfMemory) status old new calm.undisturbed p))
