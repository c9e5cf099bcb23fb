-- Compiled code does what the source thread does along each trace, also where a report cuts it short.
use Rattle.std.proofs.Common.{◌≡◌, refl, sym, ap, ◌∙◌, ℕ, Bool, true, false, not, ◌&&◌, List, [], ◌∷◌, if◌then◌else◌}
use Rattle.mcode.specs.Machine.{Program, machine_next, machine_after, machine_turned, machine_cut}
use Rattle.src_model.specs.Follows.{Move, Answers, Cuts, driven, Behaves, machine_started, machine_after_trace, machine_at_end}
use Rattle.src_model.specs.Runs.{Setting, Start, Thread, moved, moved_to, started, is_cut, state_after, next_after}
use Rattle.src_model.specs.Source.{next, after, turned, cut}
use Rattle.src_model.specs.declared.runs.Made.{Made}

-- what became of a thread, by its trace
abbrev cut_move : Bool → List Move → List Move
cut_move true moves = Cuts ∷ moves
cut_move false moves = moves

abbrev moves_of : Setting → List Made → List Move
moves_of w [] = []
moves_of w (made ∷ before) = cut_move (is_cut w before made.ask) (Answers made.word ∷ moves_of w before)

cut_or_not : {S : Type 0} (go : S → ℕ → S) (halts : S → S) (s : S) (b : Bool) (word : ℕ) (moves : List Move) →
    (if b then halts (go (driven go halts s moves) word) else go (driven go halts s moves) word) ≡ driven go halts s (cut_move b (Answers word ∷ moves))
cut_or_not go halts s true word moves = refl
cut_or_not go halts s false word moves = refl

-- The state after a trace is that after its moves.
moved_is_driven : {S : Type 0} (w : Setting) (go : S → ℕ → S) (halts : S → S) (s : S) (trace : List Made) → moved w go halts s trace ≡ driven go halts s (moves_of w trace)
moved_is_driven w go halts s [] = refl
moved_is_driven w go halts s (made ∷ before) =
    ap (λ t. if is_cut w before made.ask then halts (go t made.word) else go t made.word) (moved_is_driven w go halts s before)
    ∙ cut_or_not go halts s (is_cut w before made.ask) made.word (moves_of w before)

-- So the code's next event or finish after a trace is the source thread's,
pub next_along : (w : Setting) (c : Program) → Behaves w.unit c → (begin : Start) (trace : List Made) → machine_next c (machine_after_trace w c begin trace) ≡ next_after w begin trace
next_along w c behaves begin trace =
    ap (machine_next c) (moved_is_driven w (machine_after c) machine_cut (machine_started begin) trace)
    ∙ behaves.events begin (moves_of w trace)
    ∙ sym (ap (next w.unit) (moved_is_driven w (after w.unit) cut (started begin) trace))

-- and so is whether an answer makes it a failed try.
pub tried_along : (w : Setting) (c : Program) → Behaves w.unit c → (begin : Start) (trace : List Made) (word : ℕ) → machine_turned c (machine_after_trace w c begin trace) word ≡ turned w.unit (state_after w begin trace) word
tried_along w c behaves begin trace word =
    ap (λ t. machine_turned c t word) (moved_is_driven w (machine_after c) machine_cut (machine_started begin) trace)
    ∙ behaves.tries begin (moves_of w trace) word
    ∙ sym (ap (λ s. turned w.unit s word) (moved_is_driven w (after w.unit) cut (started begin) trace))

-- At its end too: the code's thread is at the event or the finish at which the source thread is.
abbrev moves_to : Setting → (refused : Bool) → List Made → List Move
moves_to w refused [] = []
moves_to w refused (made ∷ before) = cut_move (is_cut w before made.ask && not refused) (Answers made.word ∷ moves_of w before)

moved_to_is_driven : {S : Type 0} (w : Setting) (go : S → ℕ → S) (halts : S → S) (s : S) (refused : Bool) (trace : List Made) → moved_to w go halts s refused trace ≡ driven go halts s (moves_to w refused trace)
moved_to_is_driven w go halts s refused [] = refl
moved_to_is_driven w go halts s refused (made ∷ before) =
    ap (λ t. if is_cut w before made.ask && not refused then halts (go t made.word) else go t made.word) (moved_is_driven w go halts s before)
    ∙ cut_or_not go halts s (is_cut w before made.ask && not refused) made.word (moves_of w before)

pub next_at_end : (w : Setting) (c : Program) → Behaves w.unit c → (t : Thread) →
    machine_next c (machine_at_end w c t) ≡ next w.unit (moved_to w (after w.unit) cut (started t.begin) t.refused t.trace)
next_at_end w c behaves t =
    ap (machine_next c) (moved_to_is_driven w (machine_after c) machine_cut (machine_started t.begin) t.refused t.trace)
    ∙ behaves.events t.begin (moves_to w t.refused t.trace)
    ∙ sym (ap (next w.unit) (moved_to_is_driven w (after w.unit) cut (started t.begin) t.refused t.trace))
