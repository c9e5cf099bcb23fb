-- The rungs from a unit to what a job finds of it: each is settled by what was found.
use Rattle.std.proofs.Common.{◌≡◌, ℕ, ◌<◌, ◌≤◌, ◌⊎◌, ◌↔◌, inl, inr, List, Option, Some, None, Result, Err, refl, ap, sym, subst, ◌∙◌, arith}
use Rattle.built_codegen.specs.declared.compiling.CompileRefusal.{CompileRefusal}
use Rattle.built_codegen.specs.declared.compiling.CompileRefusal.TheVariants.{NoEntry, Undefined as UndefinedFunction, Long, NoMemory as NoMemoryToCompile}
use Rattle.built_codegen.specs.Unit.{HasNoEntry, IsEntry, IsFirstMissing, unit_nodes, node_limit}
use Rattle.built_unit.specs.Units.{UnitParts}
use Rattle.unit_check.specs.Verdicts.{Report, AreVerdicts}
use Rattle.eff_text.specs.WarningText.{function_name}
use Rattle.built_code.specs.Machine.{Program}
use Rattle.rt_base.specs.Outside.{SinkState}
use Rattle.built_model.proofs.OneRun.{one_trace, one_ending}
use Rattle.rtsan_core.specs.declared.finished.Finished.{Finished}
use Rattle.rtsan_core.specs.declared.reading.Reading.{Reading}
use Rattle.rtsan_core.specs.declared.status.Outcome.{Outcome}
use Rattle.rtsan_core.specs.declared.status.Status.{Status}
use Rattle.rtsan_core.specs.Causes.{Cause, Undefined, CodeTooLong, OutOfMemory}
use Rattle.rtsan_core.specs.Rungs.{Rung, Stops, GoesOn}
use Rattle.rtsan_core.specs.Runs.{Left, entry_name, IsFinished}
use Rattle.rtsan_core.specs.Ladder.{Findings, warned_in, IsUndefined, IsLinked, IsCode, IsChecked, Checked, IsStepped, Stepped, RunLadder}
use Rattle.rtsan_core.specs.Outcomes.{IsPrinted, answer_of, answer_at, answer_by}
use Rattle.rtsan_core.specs.Found.{Gives, Is, HasOneRun, IsOnlyOutcome, IsNamedIn, cause_to_stop}
use Rattle.rtsan_core.proofs.Climbing.{climb, climb_stop}
use Rattle.rtsan_core.proofs.Linked.{no_entry, one_entry, some_or_none_missing, one_missing, missing_is_known}
use Rattle.rtsan_core.proofs.OneCheck.{one_warned}
use Rattle.rtsan_core.proofs.Running.{left_of, same_answer}

pub one_run : (unit : UnitParts) → HasOneRun unit
one_run unit = record {
  trace = λ entry some other end last p q. one_trace unit entry some other end last p q;
  ending = λ entry some other end last p q. one_ending unit entry some other end last p q;
}

abbrev pub findings : (file source : List ℕ) → Reading → Report → Option Left → Findings
findings file source read verdicts left = record { warned = warned_in file source read verdicts; left = left }

-- the verdicts of a unit tell one answer
checked_only : (file source : List ℕ) (read : Reading) (verdicts : Report) → AreVerdicts read.unit verdicts → (other : Rung Findings) → IsChecked file source read other
    → answer_at other ≡ answer_by (warned_in file source read verdicts) None
checked_only file source read verdicts w other (Checked vs v e) = ap answer_at e ∙ one_warned file source read vs verdicts None v w

pub job_checked : (file source : List ℕ) (read : Reading) (verdicts : Report) → AreVerdicts read.unit verdicts → Gives answer_at (IsChecked file source read) (GoesOn (findings file source read verdicts None))
job_checked file source read verdicts w =
    record { is = Checked verdicts w refl; only = checked_only file source read verdicts w }

undefined_not_linked : (unit : UnitParts) (name : List ℕ) → IsUndefined unit name → (HasNoEntry unit entry_name → ⊥) → IsFirstMissing unit None → ⊥
undefined_not_linked unit name (inl h) some linked = some h.0
undefined_not_linked unit name (inr h) some linked = some_or_none_missing unit h.1.0 h.1.1 linked

linked_only : (unit : UnitParts) → (HasNoEntry unit entry_name → ⊥) → IsFirstMissing unit None → (other : Rung (Unit {0})) → IsLinked unit other → other ≡ GoesOn tt
linked_only unit some linked (Stops c) h = absurd (undefined_not_linked unit h.0 h.1 some linked)
linked_only unit some linked (GoesOn u) h = refl

is_linked : (unit : UnitParts) → (HasNoEntry unit entry_name → ⊥) → IsFirstMissing unit None → Is (IsLinked unit) (GoesOn tt)
is_linked unit some linked = record { is = (some, linked); only = linked_only unit some linked }

-- a unit that isn't linked has one name to tell
one_undefined : (unit : UnitParts) (name other : List ℕ) → IsUndefined unit name → IsUndefined unit other → other ≡ name
one_undefined unit name other (inl h) (inl k) = k.1 ∙ sym h.1
one_undefined unit name other (inl h) (inr k) = absurd (k.0 h.0)
one_undefined unit name other (inr h) (inl k) = absurd (h.0 k.0)
one_undefined unit name other (inr h) (inr k) =
    k.1.2 ∙ ap (function_name unit) (one_missing unit k.1.0 h.1.0 k.1.1 h.1.1) ∙ sym h.1.2

not_undefined : (unit : UnitParts) (name : List ℕ) → IsUndefined unit name → (other : Rung (Unit {0})) → IsLinked unit other → other ≡ Stops (Undefined name)
not_undefined unit name u (Stops c) h = ap Stops (h.2 ∙ ap Undefined (one_undefined unit name h.0 u h.1))
not_undefined unit name u (GoesOn k) h = absurd (undefined_not_linked unit name u h.0 h.1)

job_undefined : (file source : List ℕ) (read : Reading) (unit : UnitParts) (name : List ℕ) → IsUndefined unit name → Gives answer_at (RunLadder file source read unit) (Stops (Undefined name))
job_undefined file source read unit name u =
    climb_stop answer_at (IsLinked unit) _ (Undefined name) (record { is = (name, u, refl); only = not_undefined unit name u })

short_only : (unit : UnitParts) → unit_nodes unit ≤ node_limit → (other : Rung (Unit {0})) → IsCode unit other → other ≡ GoesOn tt
short_only unit short (Stops c) h = let long : node_limit < unit_nodes unit = h.0 in absurd (omega (arith, long, short))
short_only unit short (GoesOn u) h = refl

long_only : (unit : UnitParts) → node_limit < unit_nodes unit → (other : Rung (Unit {0})) → IsCode unit other → other ≡ Stops CodeTooLong
long_only unit long (Stops c) h = ap Stops h.1
long_only unit long (GoesOn u) h = let short : unit_nodes unit ≤ node_limit = h in absurd (omega (arith, long, short))

job_long : (file source : List ℕ) (read : Reading) (unit : UnitParts) → (HasNoEntry unit entry_name → ⊥) → IsFirstMissing unit None → node_limit < unit_nodes unit → Gives answer_at (RunLadder file source read unit) (Stops CodeTooLong)
job_long file source read unit some linked long =
    climb answer_at (IsLinked unit) _ tt _ (is_linked unit some linked)
    (climb_stop answer_at (IsCode unit) _ CodeTooLong (record { is = (long, refl); only = long_only unit long }))

stepped_only : (file source : List ℕ) (read : Reading) (unit : UnitParts) (entry : ℕ) (verdicts : Report) (finished : Finished) → HasOneRun unit → AreVerdicts read.unit verdicts → IsEntry unit entry_name entry → IsFinished unit entry finished
    → (other : Rung Findings) → IsStepped file source read unit other → answer_at other ≡ answer_by (warned_in file source read verdicts) (Some (left_of unit finished))
stepped_only file source read unit entry verdicts finished one w starts p other (Stepped vs v k from g q e) =
    let q : IsFinished unit entry g = subst (λ n. IsFinished unit n g) (one_entry unit entry_name k entry from starts) q in
    ap answer_at e
    ∙ one_warned file source read vs verdicts (Some (left_of unit g)) v w
    ∙ same_answer (warned_in file source read verdicts) unit entry g finished one q p

pub job_stepped : (file source : List ℕ) (read : Reading) (unit : UnitParts) (entry : ℕ) (verdicts : Report) (finished : Finished) → HasOneRun unit → IsEntry unit entry_name entry → IsFirstMissing unit None → unit_nodes unit ≤ node_limit → AreVerdicts read.unit verdicts → IsFinished unit entry finished
    → Gives answer_at (RunLadder file source read unit) (GoesOn (findings file source read verdicts (Some (left_of unit finished))))
job_stepped file source read unit entry verdicts finished one starts linked short w p =
    climb answer_at (IsLinked unit) _ tt _ (is_linked unit (λ none. no_entry unit entry_name entry none starts) linked)
    (climb answer_at (IsCode unit) _ tt _ (record { is = short; only = short_only unit short })
    (record { is = Stepped verdicts w entry starts finished p refl; only = stepped_only file source read unit entry verdicts finished one w starts p }))

-- a refusal of the compiler says what is so of the unit
pub record IsCause (unit : UnitParts) (result : Result Program CompileRefusal) : Type 0 where
  pub no_entry : (result ≡ Err NoEntry) ↔ HasNoEntry unit entry_name
  pub undefined : (n : ℕ) → (result ≡ Err (UndefinedFunction n)) ↔ ((HasNoEntry unit entry_name → ⊥) × IsFirstMissing unit (Some n))
  pub long : (result ≡ Err Long) ↔ ((HasNoEntry unit entry_name → ⊥) × IsFirstMissing unit None × (node_limit < unit_nodes unit))

pub named_in : (unit : UnitParts) (result : Result Program CompileRefusal) (refusal : CompileRefusal) → IsCause unit result → result ≡ Err refusal → IsNamedIn unit refusal
named_in unit result NoEntry h e = tt
named_in unit result (UndefinedFunction n) h e = missing_is_known unit n ((h.undefined n).0 e).1
named_in unit result Long h e = tt
named_in unit result NoMemoryToCompile h e = tt

-- where the compiler refuses, the ladder stops, or memory didn't suffice
pub job_refused : (file source : List ℕ) (read : Reading) (unit : UnitParts) (result : Result Program CompileRefusal) (refusal : CompileRefusal) → IsCause unit result → result ≡ Err refusal
    → Gives answer_at (RunLadder file source read unit) (Stops (cause_to_stop unit refusal)) ⊎ (◌≡◌ {A = Rung Findings} (Stops (cause_to_stop unit refusal)) (Stops OutOfMemory))
job_refused file source read unit result NoEntry h e =
    inl (job_undefined file source read unit entry_name (inl (h.no_entry.0 e, refl)))
job_refused file source read unit result (UndefinedFunction n) h e =
    let u = (h.undefined n).0 e in
    inl (job_undefined file source read unit (function_name unit n) (inr (u.0, (n, u.1, refl))))
job_refused file source read unit result Long h e =
    let l = h.long.0 e in
    inl (job_long file source read unit l.0 l.1 l.2)
job_refused file source read unit result NoMemoryToCompile h e = inr refl

-- what was printed of a stop, or of a run, is the outcome
pub stop_told : (ladder : Rung Findings → Type 0) (cause : Cause) (outcome : Outcome) (status : Status) (old new : SinkState) → Gives answer_at ladder (Stops cause) ⊎ (◌≡◌ {A = Rung Findings} (Stops cause) (Stops OutOfMemory))
    → IsPrinted (answer_of cause) status old new → outcome.status ≡ status → outcome.finished ≡ None → IsOnlyOutcome ladder outcome old new
stop_told ladder cause outcome status old new g p s f = record {
  end = Stops cause;
  reached = g;
  left = f;
  printed = subst (λ status. IsPrinted (answer_of cause) status old new) (sym s) p;
}

pub job_run_told : (file source : List ℕ) (read : Reading) (unit : UnitParts) (entry : ℕ) (verdicts : Report) (finished : Finished) (status : Status) (old new : SinkState) → HasOneRun unit → IsEntry unit entry_name entry → IsFirstMissing unit None → unit_nodes unit ≤ node_limit → AreVerdicts read.unit verdicts → IsFinished unit entry finished
    → IsPrinted (answer_by (warned_in file source read verdicts) (Some (left_of unit finished))) status old new → IsOnlyOutcome (RunLadder file source read unit) (record { status = status; finished = Some finished }) old new
job_run_told file source read unit entry verdicts finished status old new one starts linked short w p printed = record {
  end = GoesOn (findings file source read verdicts (Some (left_of unit finished)));
  reached = inl (job_stepped file source read unit entry verdicts finished one starts linked short w p);
  left = refl;
  printed = printed;
}
