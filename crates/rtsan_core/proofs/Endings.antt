-- The rows of statuses that a run has, by what it left.
use Rattle.std.proofs.Common.{◌≡◌, ◌≢◌, ◌↔◌, ℕ, ◌<◌, ◌≤◌, ◌||◌, List, length, nat_lt, Bool, true, false, Option, Some, None, IfSome, refl, ap, sym, subst, ◌∙◌, arith}
use Rattle.std.specs.List.{list_any}
use Rattle.std.specs.Prelude.{if◌then◌else◌}
use Rattle.built_unit.specs.Units.{UnitParts}
use Rattle.built_code.specs.declared.events.Ask.{Ask}
use Rattle.built_code.specs.declared.events.Ask.TheVariants.{Over}
use Rattle.built_code.specs.declared.events.Finish.{Finish}
use Rattle.built_code.specs.declared.events.Finish.TheVariants.{Returned, Exited, Trapped as FinishTrapped, Halted}
use Rattle.built_model.specs.declared.runs.Made.{Made}
use Rattle.built_model.specs.declared.runs.End.{End}
use Rattle.built_model.specs.declared.runs.End.TheVariants.{Stopped as EndStopped, Full}
use Rattle.built_model.specs.Run.{IsRun, ending, is_ending, event_limit, end_of, state_after}
use Rattle.built_model.specs.Source.{next}
use Rattle.rt_base.specs.Outside.{FilesState, SinkState}
use Rattle.rtsan_core.specs.declared.finished.Finished.{Finished}
use Rattle.rtsan_core.specs.declared.reading.Reading.{Reading}
use Rattle.rtsan_core.specs.declared.status.Outcome.{Outcome}
use Rattle.rtsan_core.specs.declared.status.Status.{Status}
use Rattle.rtsan_core.specs.declared.status.Status.TheVariants.{Clean, Warned as StatusWarned, Reported, Refused, Usage, ReadFault, WriteFault, NoMemory, Limit, Unlinked, Trapped, Stopped as StatusStopped}
use Rattle.command.specs.declared.command.Command.{Command}
use Rattle.command.specs.declared.command.Job.{Job}
use Rattle.command.specs.declared.command.Job.TheVariants.{Check, Step, Run, Gen}
use Rattle.rtsan_core.specs.Causes.{Cause, NoCommand, Unreadable, SourceTooLong, Misspelled, Unread, Untyped, UnitTooLarge, NotBuilt, Undefined, CodeTooLong, OutOfMemory, status_of}
use Rattle.rtsan_core.specs.Rungs.{Rung, Stops, GoesOn, Stopped, WentOn}
use Rattle.rtsan_core.specs.Runs.{Warned, Left, IsFinished, is_full, has_full, has_trapped, has_stopped, status_by, warned_status, run_status}
use Rattle.rtsan_core.specs.Ladder.{Findings, SourceLadder, JobLadder, Ladder, Checked, Stepped}
use Rattle.rtsan_core.specs.Outcomes.{IsPrinted, Whole, Cut, answer_at, answer_by, finished_in, left_at, Ends, There, Early, IsOutcome}
use Rattle.rtsan_core.proofs.Stops.{warned_row}
use Rattle.rtsan_core.specs.Rows.{HasSource, StepsSource, IsRunOf, Exactly, LeftReports, LeftTrapped, LeftStopped}

same_findings : (f g : Findings) → ◌≡◌ {A = Rung Findings} (GoesOn f) (GoesOn g) → f ≡ g
same_findings f g e = cc

-- what a job left is a run of its unit
abbrev IsRunLeft : List (List ℕ) → FilesState → Option Left → Type 0
IsRunLeft words before left = IfSome (finished_in left) (IsRunOf words before)

step_left : (words : List (List ℕ)) (before : FilesState) (command : Command) (steps : StepsSource words before command) (f : Findings) → JobLadder Step command steps.source steps.read (GoesOn f) → IsRunLeft words before f.left
step_left words before command steps f (Stopped c h e) = let clash : ⊥ = cc in absurd clash
step_left words before command steps f (WentOn unit formed (Stopped c h e)) = let clash : ⊥ = cc in absurd clash
step_left words before command steps f (WentOn unit formed (WentOn t plain (Stopped c h e))) = let clash : ⊥ = cc in absurd clash
step_left words before command steps f (WentOn unit formed (WentOn t plain (WentOn u l (Stopped c h e)))) = let clash : ⊥ = cc in absurd clash
step_left words before command steps f (WentOn unit formed (WentOn t plain (WentOn u l (WentOn v s (Stepped ws w entry starts left p e))))) =
    subst (IsRunLeft words before) (sym (ap (λ g. g.left) (same_findings f _ e)))
    (record { unit = unit; runs = record { command = command; steps = record { steps = steps; formed = formed }; plain = plain }; entry = entry; finished = p })

job_left : (words : List (List ℕ)) (before : FilesState) (command : Command) (source : List ℕ) (read : Reading) (f : Findings) → HasSource words before command source → SourceLadder command.file source (GoesOn read) → (job : Job) → command.job ≡ job → JobLadder job command source read (GoesOn f) → IsRunLeft words before f.left
job_left words before command source read f has reads Check is (Checked ws w e) =
    subst (IsRunLeft words before) (sym (ap (λ g. g.left) (same_findings f _ e))) tt
job_left words before command source read f has reads Step is h =
    step_left words before command (record { steps = is; source = source; has = has; read = read; reads = reads }) f h
job_left words before command source read f has reads Run is h = absurd h
job_left words before command source read f has reads (Gen count) is h = absurd h

ladder_left : (words : List (List ℕ)) (before after : FilesState) (f : Findings) → Ladder words before after (GoesOn f) → IsRunLeft words before f.left
ladder_left words before after f (Stopped c h e) = let clash : ⊥ = cc in absurd clash
ladder_left words before after f (WentOn command named (Stopped c h e)) = let clash : ⊥ = cc in absurd clash
ladder_left words before after f (WentOn command named (WentOn source contents (Stopped c h e))) = let clash : ⊥ = cc in absurd clash
ladder_left words before after f (WentOn command named (WentOn source contents (WentOn read reads job))) =
    job_left words before command source read f (record { named = named; contents = contents }) reads command.job refl job

end_left : (words : List (List ℕ)) (before after : FilesState) (end : Rung Findings) → Ends (Ladder words before after) end → IfSome (left_at end) (IsRunOf words before)
end_left words before after (Stops cause) r = tt
end_left words before after (GoesOn f) (There h) = ladder_left words before after f h
end_left words before after (GoesOn f) (Early e) = let clash : ⊥ = cc in absurd clash

-- what a command left is a run of the unit of its file
pub left_runs : (words : List (List ℕ)) (before after : FilesState) (outcome : Outcome) (old new : SinkState) → IsOutcome (Ladder words before after) outcome old new → IfSome outcome.finished (IsRunOf words before)
left_runs words before after outcome old new h =
    subst (λ left. IfSome left (IsRunOf words before)) (sym h.left) (end_left words before after h.end h.reached)

-- a run of one thread never lacks room for a report
finish_not_full : (finish : Finish) → ◌≡◌ {A = Option End} (Some (end_of finish)) (Some Full) → ⊥
finish_not_full Returned e = cc
finish_not_full (Exited number) e = cc
finish_not_full (FinishTrapped kind) e = cc
finish_not_full Halted e = cc

stop_not_full : (b : Bool) → ◌≡◌ {A = Option End} (if b then None else Some EndStopped) (Some Full) → ⊥
stop_not_full true e = cc
stop_not_full false e = cc

ending_not_full : (ask : Ask) (events : ℕ) → ending ask events ≡ Some Full → ⊥
ending_not_full (Over finish) events e = finish_not_full finish e
ending_not_full ask events e = stop_not_full (is_ending ask || nat_lt events event_limit) e

full_not : (end : End) → (end ≡ Full → ⊥) → is_full end ≡ false
full_not Full never = absurd (never refl)
full_not end never = refl

run_not_full : (unit : UnitParts) (entry : ℕ) (trace : List Made) (end : End) → IsRun unit entry trace end → is_full end ≡ false
run_not_full unit entry trace end r =
    full_not end (λ e. ending_not_full (next unit (state_after unit 0 entry trace)) (length trace) (r.ends ∙ ap Some e))

some_total : (n : ℕ) → (nat_lt 0 n ≡ true) ↔ (0 < n)
some_total n = (λ h. grind (arith, h), λ h. grind (arith, h))

no_total : (n : ℕ) → (nat_lt 0 n ≡ false) ↔ (n ≡ 0)
no_total n = (λ h. grind (arith, h), λ h. grind (arith, h))

-- of the statuses of a run each comes exactly where it should
record AreExact (status : Status) (left : Option Finished) : Type 0 where
  pub reported : (status ≡ Reported) ↔ LeftReports left
  pub trapped : (status ≡ Trapped) ↔ LeftTrapped left
  pub stopped : (status ≡ StatusStopped) ↔ LeftStopped left

reported_by : (r f t s : Bool) (w : Status) → f ≡ false → (w ≡ Reported → ⊥) → (status_by r f t s w ≡ Reported) ↔ (r ≡ true)
reported_by true f t s w room other_than = (λ e. refl, λ e. refl)
reported_by false true t s w room other_than = let clash : ⊥ = cc in absurd clash
reported_by false false true s w room other_than = (λ e. cc, λ e. cc)
reported_by false false false true w room other_than = (λ e. cc, λ e. cc)
reported_by false false false false w room other_than = (λ e. absurd (other_than e), λ e. cc)

trapped_by : (r f t s : Bool) (w : Status) → f ≡ false → (w ≡ Trapped → ⊥) → (status_by r f t s w ≡ Trapped) ↔ ((r ≡ false) × (t ≡ true))
trapped_by true f t s w room other_than = (λ e. cc, λ e. (let f = e.0 in cc))
trapped_by false true t s w room other_than = let clash : ⊥ = cc in absurd clash
trapped_by false false true s w room other_than = (λ e. (refl, refl), λ e. refl)
trapped_by false false false true w room other_than = (λ e. cc, λ e. (let f = e.1 in cc))
trapped_by false false false false w room other_than = (λ e. absurd (other_than e), λ e. (let f = e.1 in cc))

stopped_by : (r f t s : Bool) (w : Status) → f ≡ false → (w ≡ StatusStopped → ⊥) → (status_by r f t s w ≡ StatusStopped) ↔ ((r ≡ false) × (t ≡ false) × (s ≡ true))
stopped_by true f t s w room other_than = (λ e. cc, λ e. (let f = e.0 in cc))
stopped_by false true t s w room other_than = let clash : ⊥ = cc in absurd clash
stopped_by false false true s w room other_than = (λ e. cc, λ e. (let f = e.1 in cc))
stopped_by false false false true w room other_than = (λ e. (refl, refl, refl), λ e. refl)
stopped_by false false false false w room other_than = (λ e. absurd (other_than e), λ e. (let f = e.2 in cc))

warned_not : (status : Status) (warned : Warned) → (Clean ≡ status → ⊥) → (StatusWarned ≡ status → ⊥) → warned_status warned ≡ status → ⊥
warned_not status warned c w = warned_row (λ s. s ≡ status → ⊥) c w warned.noted warned.verdicts.warnings

exact_run : (warned : Warned) (f : Finished) → has_full f ≡ false → AreExact (run_status (warned_status warned) f) (Some f)
exact_run warned f room =
    let w : Status = warned_status warned in
    let r = reported_by (nat_lt 0 f.total) (has_full f) (has_trapped f) (has_stopped f) w room (warned_not Reported warned (λ e. cc) (λ e. cc)) in
    let t = trapped_by (nat_lt 0 f.total) (has_full f) (has_trapped f) (has_stopped f) w room (warned_not Trapped warned (λ e. cc) (λ e. cc)) in
    let s = stopped_by (nat_lt 0 f.total) (has_full f) (has_trapped f) (has_stopped f) w room (warned_not StatusStopped warned (λ e. cc) (λ e. cc)) in
    let some = some_total f.total in
    let none = no_total f.total in
    record {
      reported = (λ e. some.0 (r.0 e), λ h. r.1 (some.1 h));
      trapped = (λ e. (none.0 (t.0 e).0, (t.0 e).1), λ h. t.1 (none.1 h.0, h.1));
      stopped = (λ e. (none.0 (s.0 e).0, (s.0 e).1, (s.0 e).2), λ h. s.1 (none.1 h.0, h.1, h.2));
    }

exact_none : (status : Status) → (status ≡ Reported → ⊥) → (status ≡ Trapped → ⊥) → (status ≡ StatusStopped → ⊥) → AreExact status None
exact_none status r t s = record {
  reported = (λ e. absurd (r e), λ h. absurd h);
  trapped = (λ e. absurd (t e), λ h. absurd h);
  stopped = (λ e. absurd (s e), λ h. absurd h);
}

exact_stop : (cause : Cause) → AreExact (status_of cause) None
exact_stop NoCommand = exact_none Usage (λ e. cc) (λ e. cc) (λ e. cc)
exact_stop (Unreadable file) = exact_none ReadFault (λ e. cc) (λ e. cc) (λ e. cc)
exact_stop SourceTooLong = exact_none Limit (λ e. cc) (λ e. cc) (λ e. cc)
exact_stop (Misspelled file place number) = exact_none Refused (λ e. cc) (λ e. cc) (λ e. cc)
exact_stop (Unread file place number) = exact_none Refused (λ e. cc) (λ e. cc) (λ e. cc)
exact_stop (Untyped file place number) = exact_none Refused (λ e. cc) (λ e. cc) (λ e. cc)
exact_stop (UnitTooLarge limit) = exact_none Limit (λ e. cc) (λ e. cc) (λ e. cc)
exact_stop NotBuilt = exact_none Refused (λ e. cc) (λ e. cc) (λ e. cc)
exact_stop (Undefined name) = exact_none Unlinked (λ e. cc) (λ e. cc) (λ e. cc)
exact_stop CodeTooLong = exact_none Limit (λ e. cc) (λ e. cc) (λ e. cc)
exact_stop OutOfMemory = exact_none NoMemory (λ e. cc) (λ e. cc) (λ e. cc)

no_thread_full : (unit : UnitParts) (entry : ℕ) (f : Finished) → IsFinished unit entry f → has_full f ≡ false
no_thread_full unit entry f p =
    ap (λ ts. list_any (λ thread. is_full thread.end) ts) p.threads
    ∙ ap (λ b. b || false) (run_not_full unit entry p.ended.trace p.ended.end p.thread.run)

exact_left : (words : List (List ℕ)) (before : FilesState) (warned : Warned) (left : Option Left) → IsRunLeft words before left → AreExact (answer_by warned left).status (finished_in left)
exact_left words before warned None r =
    exact_none (warned_status warned) (warned_not Reported warned (λ e. cc) (λ e. cc)) (warned_not Trapped warned (λ e. cc) (λ e. cc)) (warned_not StatusStopped warned (λ e. cc) (λ e. cc))
exact_left words before warned (Some left) r =
    exact_run warned left.finished (no_thread_full r.unit r.entry left.finished r.finished)

exact_end : (words : List (List ℕ)) (before after : FilesState) (end : Rung Findings) → Ends (Ladder words before after) end → AreExact (answer_at end).status (left_at end)
exact_end words before after (Stops cause) r = exact_stop cause
exact_end words before after (GoesOn f) r = exact_left words before f.warned f.left (end_left words before after (GoesOn f) r)

exact : (words : List (List ℕ)) (before after : FilesState) (outcome : Outcome) (old new : SinkState) → IsOutcome (Ladder words before after) outcome old new → outcome.status ≢ WriteFault → AreExact outcome.status outcome.finished
exact words before after outcome old new h never = by h.printed
  where
    by : IsPrinted (answer_at h.end) outcome.status old new → AreExact outcome.status outcome.finished
    by (Cut s f) = absurd (never s)
    by (Whole s t) =
        subst (λ left. AreExact outcome.status left) (sym h.left)
        (subst (λ status. AreExact status (left_at h.end)) (sym s) (exact_end words before after h.end h.reached))

pub reported_row : (words : List (List ℕ)) (before after : FilesState) (outcome : Outcome) (old new : SinkState) → IsOutcome (Ladder words before after) outcome old new → Exactly outcome.status Reported (LeftReports outcome.finished)
reported_row words before after outcome old new h never = (exact words before after outcome old new h never).reported

pub trapped_row : (words : List (List ℕ)) (before after : FilesState) (outcome : Outcome) (old new : SinkState) → IsOutcome (Ladder words before after) outcome old new → Exactly outcome.status Trapped (LeftTrapped outcome.finished)
trapped_row words before after outcome old new h never = (exact words before after outcome old new h never).trapped

pub stopped_row : (words : List (List ℕ)) (before after : FilesState) (outcome : Outcome) (old new : SinkState) → IsOutcome (Ladder words before after) outcome old new → Exactly outcome.status StatusStopped (LeftStopped outcome.finished)
stopped_row words before after outcome old new h never = (exact words before after outcome old new h never).stopped

printed_later : (old new : SinkState) (end : Rung Findings) (status : Status) → IsPrinted (answer_at end) status old new → old.faults ≤ new.faults
printed_later old new end status (Whole s t) = t.later
printed_later old new end status (Cut s f) = f.later

-- the sink's count of faults never falls
pub sink_later : (ladder : Rung Findings → Type 0) (outcome : Outcome) (old new : SinkState) → IsOutcome ladder outcome old new → old.faults ≤ new.faults
sink_later ladder outcome old new h = printed_later old new h.end outcome.status h.printed
