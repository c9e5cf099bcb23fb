-- The source thread is deterministic, and ignores other words than answers.
use Rattle.std.proofs.Common.{◌≡◌, refl, sym, ◌∙◌, ℕ, List, [], ◌∷◌}
use Rattle.core_unit.specs.declared.tables.UnitParts.{UnitParts}
use Rattle.mcode.specs.declared.events.Ask.{Ask}
use Rattle.src_model.specs.Laws.{AreEvents, IsDeterministic}
use Rattle.src_model.specs.Source.{after}
use Rattle.src_model.specs.Tasks.{State}
use Rattle.src_model.proofs.Quiet.{settles_loud, ignored}
use Rattle.src_model.proofs.Table.{next_low, comes_low}

same_events : (u : UnitParts) (s : State) (answers : List ℕ) (events others : List Ask) → AreEvents u s events answers → AreEvents u s others answers → events ≡ others
same_events u s [] [] [] a b = refl
same_events u s [] [] (other ∷ others) a b = absurd b
same_events u s [] (event ∷ events) others a b = absurd a
same_events u s (word ∷ words) [] others a b = absurd a
same_events u s (word ∷ words) (event ∷ events) [] a b = absurd b
same_events u s (word ∷ words) (event ∷ events) (other ∷ others) a b =
    let e : event ≡ other = sym a.0 ∙ b.0 in
    let rest : events ≡ others = same_events u (after u s word) words events others a.2 b.2 in
    cc

pub is_deterministic : (u : UnitParts) → IsDeterministic u
is_deterministic u = record {
  decided = settles_loud u;
  in_table = λ s comes. next_low u s (comes_low u s comes);
  ignored_states = λ s word other e. (ignored u s word other e).0;
  ignored_tries = λ s word other e. (ignored u s word other e).1;
  same = same_events u;
}
