-- The rows of statuses that have one line: each rung stops with a cause whose status is that of its row.
use Rattle.std.proofs.Common.{◌≡◌, ℕ, ◌<◌, inl, inr, List, [], ◌∷◌, length, nat_lt, Bool, true, false, Option, Some, None, refl, ap, sym, subst, ◌∙◌}
use Rattle.type_rules.specs.declared.notes.TypeWarning.{TypeWarning}
use Rattle.unit_check.specs.declared.verdicts.Warning.{Warning}
use Rattle.c_text.specs.declared.Token.{Token}
use Rattle.rt_base.specs.Outside.{FilesState, SinkState, Rose}
use Rattle.c_text.specs.declared.limits.TheConstants.{SOURCE_LIMIT}
use Rattle.rtsan_core.specs.declared.reading.Reading.{Reading}
use Rattle.rtsan_core.specs.declared.status.Outcome.{Outcome}
use Rattle.rtsan_core.specs.declared.status.Status.{Status}
use Rattle.rtsan_core.specs.declared.status.Status.TheVariants.{Clean, Warned, Reported, Refused, Usage, ReadFault, WriteFault, Limit, Unlinked, Trapped, Stopped as StatusStopped}
use Rattle.command.specs.declared.command.Command.{Command}
use Rattle.command.specs.declared.command.Job.{Job}
use Rattle.command.specs.declared.command.Job.TheVariants.{Check, Step, Run, Gen}
use Rattle.rtsan_core.specs.Served.{served_command}
use Rattle.core_unit.specs.declared.units.Which.{Which}
use Rattle.type_rules.specs.Units.{Outcome as TypingOutcome, IsTyped, Breaks, Passes, outcome as typing_outcome}
use Rattle.rtsan_core.specs.Causes.{Cause, UnitTooLarge, OutOfMemory, status_of}
use Rattle.rtsan_core.specs.Rungs.{Rung, Stops, GoesOn, Stopped, WentOn}
use Rattle.rtsan_core.specs.Runs.{Left, status_by, status_with, warned_status, has_full, has_trapped, has_stopped}
use Rattle.rtsan_core.specs.Ladder.{Findings, SourceLadder, IsTypingEnd, JobLadder, Ladder, Checked, Stepped}
use Rattle.rtsan_core.specs.Outcomes.{IsPrinted, Whole, Cut, answer_at, answer_by, left_at, Ends, There, Early, IsOutcome}
use Rattle.rtsan_core.specs.Rows.{HasLine, IsStopped, FileFailed, IsRefused, HasSource, IsOverLimit, StepsSource, IsUnlinked}

-- when each status comes that has one line, and the write fault
abbrev pub Row : (words : List (List ℕ)) (before after : FilesState) (old new : SinkState) → Status → Type 0
Row words before after old new Refused = IsRefused words before
Row words before after old new Usage = served_command words ≡ None
Row words before after old new ReadFault = FileFailed words before after
Row words before after old new WriteFault = Rose old.faults new.faults
Row words before after old new Limit = IsOverLimit words before
Row words before after old new Unlinked = IsUnlinked words before
Row words before after old new status = Unit {0}

same_cause : {V : Type 0} (cause other : Cause) → ◌≡◌ {A = Rung V} (Stops cause) (Stops other) → cause ≡ other
same_cause cause other e = cc

-- what a source stops with is told by its length or by a limit that its unit passes, or it is refused
pub data StopsBy (source : List ℕ) (cause : Cause) : Type 0 where
  ByLength : SOURCE_LIMIT < length source → status_of cause ≡ Limit → StopsBy source cause
  ByLimit : (limit : Which) → cause ≡ UnitTooLarge limit → StopsBy source cause
  ByRefusal : status_of cause ≡ Refused → StopsBy source cause

typing_stops : (file source : List ℕ) (tokens : List Token) (cause : Cause) (typing : TypingOutcome) → IsTypingEnd file source tokens typing (Stops cause) → StopsBy source cause
typing_stops file source tokens cause (IsTyped unit noted) h = let e = h.2 in let clash : ⊥ = cc in absurd clash
typing_stops file source tokens cause (Breaks number place) e = ByRefusal (ap status_of (same_cause cause _ e))
typing_stops file source tokens cause (Passes limit) e = ByLimit limit (same_cause cause _ e)

source_stops : (file source : List ℕ) (cause : Cause) → SourceLadder file source (Stops cause) → StopsBy source cause
source_stops file source cause (Stopped c h e) = ByLength h.0 (ap status_of (same_cause cause c e ∙ h.1))
source_stops file source cause (WentOn u s (Stopped c h e)) = ByRefusal (ap status_of (same_cause cause c e ∙ h.3))
source_stops file source cause (WentOn u s (WentOn tokens t (Stopped c h e))) = ByRefusal (ap status_of (same_cause cause c e ∙ h.4))
source_stops file source cause (WentOn u s (WentOn tokens t (WentOn tree g y))) = typing_stops file source tokens cause (typing_outcome source [] tree) y

source_row : (words : List (List ℕ)) (before after : FilesState) (old new : SinkState) (command : Command) (source : List ℕ) (cause : Cause) → HasSource words before command source → SourceLadder command.file source (Stops cause) → Row words before after old new (status_of cause)
source_row words before after old new command source cause has h = by cause (source_stops command.file source cause h) h
  where
    by : (cause : Cause) → StopsBy source cause → SourceLadder command.file source (Stops cause) → Row words before after old new (status_of cause)
    by cause (ByLength long l) h = subst (λ s. Row words before after old new s) (sym l) (inl (record { command = command; source = source; has = has; long = long }))
    by cause (ByLimit limit e) h =
        subst (λ c. Row words before after old new (status_of c)) (sym e)
        (inr (inl (record { command = command; source = source; has = has; limit = limit; passes = subst (λ c. SourceLadder command.file source (Stops c)) e h })))
    by cause (ByRefusal r) h = subst (λ s. Row words before after old new s) (sym r) (inl (record { command = command; source = source; has = has; cause = cause; stops = h; status = r }))

-- what a `step` of a source that was read stops with
step_row : (words : List (List ℕ)) (before after : FilesState) (old new : SinkState) (command : Command) (steps : StepsSource words before command) (cause : Cause) → JobLadder Step command steps.source steps.read (Stops cause) → Row words before after old new (status_of cause)
step_row words before after old new command steps cause (Stopped c h e) =
    subst (λ s. Row words before after old new s) (sym (ap status_of (same_cause cause c e ∙ h.1)))
    (inr (inl (record { command = command; steps = steps; other = h.0 })))
step_row words before after old new command steps cause (WentOn unit formed (Stopped c h e)) =
    subst (λ s. Row words before after old new s) (sym (ap status_of (same_cause cause c e ∙ h.1)))
    (inr (inr (record { command = command; unit = unit; steps = record { steps = steps; formed = formed }; options = h.0 })))
step_row words before after old new command steps cause (WentOn unit formed (WentOn t plain (Stopped c h e))) =
    subst (λ s. Row words before after old new s) (sym (ap status_of (same_cause cause c e ∙ h.2)))
    (record { unit = unit; runs = record { command = command; steps = record { steps = steps; formed = formed }; plain = plain }; name = h.0; undefined = h.1 })
step_row words before after old new command steps cause (WentOn unit formed (WentOn t plain (WentOn u l (Stopped c h e)))) =
    subst (λ s. Row words before after old new s) (sym (ap status_of (same_cause cause c e ∙ h.1)))
    (inr (inr (record { unit = unit; runs = record { command = command; steps = record { steps = steps; formed = formed }; plain = plain }; long = h.0 })))
step_row words before after old new command steps cause (WentOn unit formed (WentOn t plain (WentOn u l (WentOn v s (Stepped ws w entry starts left f e))))) = let clash : ⊥ = cc in absurd clash

job_row : (words : List (List ℕ)) (before after : FilesState) (old new : SinkState) (command : Command) (source : List ℕ) (read : Reading) (cause : Cause) → HasSource words before command source → SourceLadder command.file source (GoesOn read) → (job : Job) → command.job ≡ job → JobLadder job command source read (Stops cause) → Row words before after old new (status_of cause)
job_row words before after old new command source read cause has reads Check is (Checked ws w e) = let clash : ⊥ = cc in absurd clash
job_row words before after old new command source read cause has reads Step is h =
    step_row words before after old new command (record { steps = is; source = source; has = has; read = read; reads = reads }) cause h
job_row words before after old new command source read cause has reads Run is h = absurd h
job_row words before after old new command source read cause has reads (Gen count) is h = absurd h

-- a rung for each row
stop_row : (words : List (List ℕ)) (before after : FilesState) (old new : SinkState) (cause : Cause) → Ladder words before after (Stops cause) → Row words before after old new (status_of cause)
stop_row words before after old new cause (Stopped c h e) =
    subst (λ s. Row words before after old new s) (sym (ap status_of (same_cause cause c e ∙ h.1))) h.0
stop_row words before after old new cause (WentOn command named (Stopped c h e)) =
    subst (λ s. Row words before after old new s) (sym (ap status_of (same_cause cause c e ∙ h.1)))
    (record { command = command; named = named; rose = h.0 })
stop_row words before after old new cause (WentOn command named (WentOn source contents (Stopped c h e))) =
    subst (λ c. Row words before after old new (status_of c)) (sym (same_cause cause c e))
    (source_row words before after old new command source c (record { named = named; contents = contents }) h)
stop_row words before after old new cause (WentOn command named (WentOn source contents (WentOn read reads job))) =
    job_row words before after old new command source read cause (record { named = named; contents = contents }) reads command.job refl job

pub warned_row : (P : Status → Type 0) → P Clean → P Warned → (notes : List TypeWarning) (warnings : List Warning) → P (status_with notes warnings)
warned_row P clean warned [] [] = clean
warned_row P clean warned [] (w ∷ ws) = warned
warned_row P clean warned (n ∷ ns) ws = warned

by_row : (P : Status → Type 0) → P Reported → P Trapped → P StatusStopped → (r f t s : Bool) (status : Status) → P status → P (status_by r f t s status)
by_row P reported trapped stopped true f t s status p = reported
by_row P reported trapped stopped false true t s status p = reported
by_row P reported trapped stopped false false true s status p = trapped
by_row P reported trapped stopped false false false true status p = stopped
by_row P reported trapped stopped false false false false status p = p

-- a command that goes on to its end has one of five statuses
pub end_row : (P : Status → Type 0) → P Clean → P Warned → P Reported → P Trapped → P StatusStopped → (f : Findings) → P (answer_at (GoesOn f)).status
end_row P clean warned reported trapped stopped f = by f.left
  where
    of_warnings : P (warned_status f.warned)
    of_warnings = warned_row P clean warned f.warned.noted f.warned.verdicts.warnings

    by : (left : Option Left) → P (answer_by f.warned left).status
    by None = of_warnings
    by (Some left) = by_row P reported trapped stopped (nat_lt 0 left.finished.total) (has_full left.finished) (has_trapped left.finished) (has_stopped left.finished) (warned_status f.warned) of_warnings

printed_row : (words : List (List ℕ)) (before after : FilesState) (old new : SinkState) (status : Status) (end : Rung Findings) → Ends (Ladder words before after) end → IsPrinted (answer_at end) status old new → Row words before after old new status
printed_row words before after old new status end r (Cut s f) = subst (λ s. Row words before after old new s) (sym s) f.rose
printed_row words before after old new status (Stops cause) (There h) (Whole s t) =
    subst (λ s. Row words before after old new s) (sym s) (stop_row words before after old new cause h)
printed_row words before after old new status (Stops cause) (Early e) (Whole s t) =
    subst (λ s. Row words before after old new s) (sym (s ∙ ap status_of (same_cause cause OutOfMemory e))) tt
printed_row words before after old new status (GoesOn f) r (Whole s t) =
    subst (λ s. Row words before after old new s) (sym s) (end_row (λ s. Row words before after old new s) tt tt tt tt tt f)

-- the row of the status that was given
pub row : (words : List (List ℕ)) (before after : FilesState) (outcome : Outcome) (old new : SinkState) → IsOutcome (Ladder words before after) outcome old new → (status : Status) → outcome.status ≡ status → Row words before after old new status
row words before after outcome old new h status e =
    subst (λ s. Row words before after old new s) e (printed_row words before after old new outcome.status h.end h.reached h.printed)

lined : (ladder : Rung Findings → Type 0) (outcome : Outcome) (old new : SinkState) (end : Rung Findings) → Ends ladder end → outcome.finished ≡ left_at end → IsPrinted (answer_at end) outcome.status old new → HasLine outcome.status → IsStopped ladder outcome old new
lined ladder outcome old new end r l (Cut s f) h = absurd (subst HasLine s h)
lined ladder outcome old new (Stops cause) r l (Whole s t) h = record { cause = cause; reached = r; status = s; line = t; left = l }
lined ladder outcome old new (GoesOn f) r l (Whole s t) h =
    absurd (end_row (λ s. HasLine s → ⊥) (λ x. x) (λ x. x) (λ x. x) (λ x. x) (λ x. x) f (subst HasLine s h))

-- a status that has a line printed it alone
pub line_alone : (ladder : Rung Findings → Type 0) (outcome : Outcome) (old new : SinkState) → IsOutcome ladder outcome old new → HasLine outcome.status → IsStopped ladder outcome old new
line_alone ladder outcome old new h l = lined ladder outcome old new h.end h.reached h.left h.printed l
