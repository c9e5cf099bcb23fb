-- What a run leaves has one status and one text.
use Rattle.std.proofs.Common.{◌≡◌, ℕ, List, [], ◌∷◌, ◌++◌, ◌||◌, false, length, nat_lt, Option, Some, None, MatchOption, refl, sym, ap, ap₂, subst, ◌∙◌}
use Rattle.std.specs.Option.{option_to_list}
use Rattle.std.specs.List.{list_any}
use Rattle.built_unit.specs.Units.{UnitParts}
use Rattle.ctx_set.specs.declared.steps.StackStep.{StackStep}
use Rattle.built_code.specs.Machine.{Program}
use Rattle.built_reports.specs.RunText.{reports_text, thread_line}
use Rattle.built_reports.specs.Totals.{counted}
use Rattle.built_reports.specs.declared.stacks.StackCount.{StackCount}
use Rattle.built_model.specs.declared.runs.End.{End}
use Rattle.built_model.specs.Context.{report_stacks}
use Rattle.built_model.specs.Follows.{Behaves}
use Rattle.built_model.specs.Run.{IsRun, machine_after_trace}
use Rattle.built_run.specs.declared.running.Ran.{Ran}
use Rattle.rtsan_core.specs.declared.finished.Ended.{Ended}
use Rattle.rtsan_core.specs.declared.finished.Finished.{Finished}
use Rattle.rtsan_core.specs.declared.status.Status.{Status}
use Rattle.rtsan_core.specs.Found.{HasOneRun, ended_of}
use Rattle.rtsan_core.specs.Outcomes.{Answer, answer_by}
use Rattle.rtsan_core.specs.Runs.{Warned, Left, IsFinished, is_full, is_trapped, is_stopped, status_by, warned_status, warned_text, run_status, run_text, endings_text}

-- the status and the text of a run that left one thread, by its number and ending, the stacks and the total
abbrev status_seen : (warned : Status) (total : ℕ) → End → Status
status_seen warned total end =
    status_by (nat_lt 0 total) (is_full end || false) (is_trapped end || false) (is_stopped end || false) warned

abbrev text_seen : Warned → UnitParts → List StackCount → ℕ → End → List ℕ
text_seen warned unit stacks number end =
    warned_text warned ++ (reports_text warned.source unit stacks ++ (thread_line number end ++ []))

abbrev pub left_of : UnitParts → Finished → Left
left_of unit finished = record { unit = unit; finished = finished }

seen_status : (warned : Status) (f : Finished) (t : Ended) → f.threads ≡ t ∷ [] → run_status warned f ≡ status_seen warned f.total t.end
seen_status warned f t e =
    ap (λ ts. status_by (nat_lt 0 f.total) (list_any (λ thread. is_full thread.end) ts) (list_any (λ thread. is_trapped thread.end) ts) (list_any (λ thread. is_stopped thread.end) ts) warned) e

seen_text : (warned : Warned) (unit : UnitParts) (f : Finished) (t : Ended) → f.threads ≡ t ∷ [] → run_text warned (left_of unit f) ≡ text_seen warned unit f.stacks t.number t.end
unfolding run_text
seen_text warned unit f t e =
    ap (λ ts. warned_text warned ++ (reports_text warned.source unit f.stacks ++ endings_text ts)) e

-- two finished runs of a unit have one status
same_status : (warned : Status) (unit : UnitParts) (entry : ℕ) (f g : Finished) → HasOneRun unit → IsFinished unit entry f → IsFinished unit entry g → run_status warned f ≡ run_status warned g
same_status warned unit entry f g one p q =
    let trace = one.trace entry _ _ _ _ p.thread.run q.thread.run in
    let end = one.ending entry _ _ _ _ p.thread.run q.thread.run in
    let total : f.total ≡ g.total = p.total ∙ ap (λ t. length (report_stacks unit t)) trace ∙ sym q.total in
    seen_status warned f p.ended p.threads ∙ ap₂ (status_seen warned) total end ∙ sym (seen_status warned g q.ended q.threads)

-- and one text
same_text : (warned : Warned) (unit : UnitParts) (entry : ℕ) (f g : Finished) → HasOneRun unit → IsFinished unit entry f → IsFinished unit entry g → run_text warned (left_of unit f) ≡ run_text warned (left_of unit g)
same_text warned unit entry f g one p q =
    let trace = one.trace entry _ _ _ _ p.thread.run q.thread.run in
    let end = one.ending entry _ _ _ _ p.thread.run q.thread.run in
    let stacks : f.stacks ≡ g.stacks = p.stacks ∙ ap (λ t. counted (report_stacks unit t)) trace ∙ sym q.stacks in
    let number : p.ended.number ≡ q.ended.number = p.thread.number ∙ sym q.thread.number in
    seen_text warned unit f p.ended p.threads
    ∙ ap (λ s. text_seen warned unit s p.ended.number p.ended.end) stacks
    ∙ ap₂ (text_seen warned unit g.stacks) number end
    ∙ sym (seen_text warned unit g q.ended q.threads)

abbrev answer_with : Status → List ℕ → Answer
answer_with status text = record { status = status; text = text }

pub same_answer : (warned : Warned) (unit : UnitParts) (entry : ℕ) (f g : Finished) → HasOneRun unit → IsFinished unit entry f → IsFinished unit entry g → answer_by warned (Some (left_of unit f)) ≡ answer_by warned (Some (left_of unit g))
same_answer warned unit entry f g one p q =
    ap₂ answer_with (same_status (warned_status warned) unit entry f g one p q) (same_text warned unit entry f g one p q)

-- the reports of a thread that made at most one
reports_listed : (report : Option (List StackStep)) (stacks : List (List StackStep)) → MatchOption report (stacks ≡ []) (λ stack. stacks ≡ stack ∷ []) → stacks ≡ option_to_list report
reports_listed None stacks e = e
reports_listed (Some stack) stacks e = e

-- what was collected of a run is what it leaves
pub collected : (unit : UnitParts) (code : Program) (thread : Ran) (finished : Finished) → Behaves unit code → IsRun unit code.entry thread.trace thread.end → thread.machine ≡ machine_after_trace unit code 0 code.entry thread.trace → thread.events ≡ length thread.trace
    → MatchOption thread.report (report_stacks unit thread.trace ≡ []) (λ stack. report_stacks unit thread.trace ≡ stack ∷ [])
    → finished.code ≡ code → finished.threads ≡ ended_of thread ∷ [] → finished.stacks ≡ counted (option_to_list thread.report) → finished.total ≡ length (option_to_list thread.report) → finished.unique ≡ length finished.stacks → finished.suppressed ≡ 0
    → IsFinished unit code.entry finished
collected unit code thread finished behaves run machine events report c t s total unique suppressed =
    let listed : report_stacks unit thread.trace ≡ option_to_list thread.report = reports_listed thread.report (report_stacks unit thread.trace) report in
    record {
      behaves = subst (λ c. Behaves unit c) (sym c) behaves;
      starts = ap (λ c. c.entry) c;
      ended = ended_of thread;
      threads = t;
      thread = record {
        number = refl;
        run = run;
        machine = machine ∙ ap (λ c. machine_after_trace unit c 0 code.entry thread.trace) (sym c);
        events = events;
        reports = ap length (sym listed);
        suppressed = refl;
      };
      stacks = s ∙ ap counted (sym listed);
      total = total ∙ ap length (sym listed);
      unique = unique;
      suppressed = suppressed;
    }
