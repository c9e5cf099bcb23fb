-- What the runner holds belongs to its trace, from the start to the ending.
use Rattle.std.proofs.Common.{◌≡◌, suc, ◌<◌, ◌||◌, List, [], ◌∷◌, Some, None, refl, sym, ap, ◌∙◌, subst, arith, length}
use Rattle.built_unit.specs.Units.{UnitParts}
use Rattle.built_code.specs.declared.events.Ask.{Ask}
use Rattle.built_code.specs.Machine.{Program, machine_next, machine_after, cut_short}
use Rattle.built_model.specs.declared.runs.Made.{Made}
use Rattle.built_model.specs.declared.runs.End.{End}
use Rattle.built_model.specs.Context.{framed, frames_after, is_report}
use Rattle.built_model.specs.Replay.{answer_of, changed, words_after}
use Rattle.built_model.specs.Run.{unless_report, ending, IsRun}
use Rattle.built_run.specs.declared.running.Running.{Running}
use Rattle.built_run.specs.UnderWay.{machine_behind, events_left, HasMade, IsUnderWay, MakesEvent}
use Rattle.built_run.proofs.UnderWay.{turn_falls, made_more}

pub stays_under_way : (u : UnitParts) (c : Program) (ask : Ask) (r n : Running) → IsUnderWay u c r → ask ≡ machine_next c r.thread → ending ask r.events ≡ None → MakesEvent u c ask r n → IsUnderWay u c n
stays_under_way u c ask r n h e o m =
    let report = is_report u (frames_after r.trace) ask in
    let word = answer_of ask r.memory in
    let more : List Made = record { ask = ask; word = word } ∷ r.trace in
    let asks : ask ≡ machine_next c (machine_behind u c r.trace) = e ∙ ap (machine_next c) h.thread in
    let open_at : ending ask (length r.trace) ≡ None = subst (λ n. ending ask n ≡ None) h.events o in
    let made : HasMade u c (r.reported || report) more = made_more u c r.reported r.trace ask word h.made asks (ap (answer_of ask) h.words) open_at in
    let reported : n.reported ≡ (r.reported || report) = m.reported ∙ ap (λ f. r.reported || is_report u f ask) h.frames in
    record {
      thread = m.thread ∙ ap (λ f. unless_report (is_report u f ask) cut_short (machine_after c r.thread word)) h.frames ∙ ap (λ t. unless_report report cut_short (machine_after c t word)) h.thread ∙ ap (machine_behind u c) (sym m.trace);
      words = m.words ∙ ap (changed ask) h.words ∙ ap words_after (sym m.trace);
      frames = m.frames ∙ ap (framed ask) h.frames ∙ ap frames_after (sym m.trace);
      counted = m.counted;
      events = m.events ∙ omega (arith, h.events, ap length m.trace);
      made = subst (λ b. HasMade u c b n.trace) (sym reported) (subst (HasMade u c (r.reported || report)) (sym m.trace) made);
    }

-- fewer events are left after each
pub comes_nearer : (u : UnitParts) (c : Program) (ask : Ask) (r n : Running) → ask ≡ machine_next c r.thread → ending ask r.events ≡ None → MakesEvent u c ask r n → events_left n.thread.mode n.events < events_left r.thread.mode r.events
comes_nearer u c ask r n e o m =
    let open_at : ending (machine_next c r.thread) r.events ≡ None = subst (λ a. ending a r.events ≡ None) e o in
    let falls = turn_falls u r.context.frames c r.thread r.thread.mode (answer_of ask r.memory) r.events refl open_at in
    let thread = m.thread ∙ ap (λ a. unless_report (is_report u r.context.frames a) cut_short (machine_after c r.thread (answer_of ask r.memory))) e in
    let events : n.events ≡ suc r.events = omega (arith, m.events) in
    rw (thread, events) falls

-- a thread under way that has ended has run
pub has_run : (u : UnitParts) (c : Program) (r : Running) (end : End) → IsUnderWay u c r → ending (machine_next c r.thread) r.events ≡ Some end → IsRun u c.entry r.trace end
has_run u c r end h e =
    let at : ending (machine_next c (machine_behind u c r.trace)) (length r.trace) ≡ Some end = sym (ap (λ t. ending (machine_next c t) (length r.trace)) h.thread) ∙ sym (ap (ending (machine_next c r.thread)) h.events) ∙ e in
    record {
      source = h.made.source;
      legal = h.made.legal;
      going_on = h.made.going_on;
      ends = subst (λ x. ending x (length r.trace) ≡ Some end) (h.made.alike []) at;
    }
