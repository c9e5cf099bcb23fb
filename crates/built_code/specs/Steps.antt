-- What both machines have in common: a state does one step, and an event is answered by a word.
use Rattle.std.specs.Prelude.{ℕ, zero, suc, Bool, true, false, List, [], ◌∷◌}
use Rattle.built_code.specs.declared.events.Ask.{Ask}
use Rattle.built_code.specs.declared.events.Ask.TheVariants.{Over}
use Rattle.built_code.specs.declared.events.Finish.{Finish}
use Rattle.built_code.specs.declared.events.Finish.TheVariants.{Halted}

-- what a state does: it goes on quietly, makes an event and goes on by the answer, or is finished
pub data Step (S : Type 0) : Type 0 where
  Quiet : S → Step S
  Makes : Ask → (ℕ → S) → Step S
  Ends : Finish → Step S

-- whether a step is quiet
abbrev pub is_quiet : {S : Type 0} → Step S → Bool
is_quiet (Quiet s) = true
is_quiet (Makes event after) = false
is_quiet (Ends finish) = false

-- what follows a step that is quiet, and else the step
abbrev pub unless_quiet : {S : Type 0} → (S → Step S) → Step S → Step S
unless_quiet go (Quiet s) = go s
unless_quiet go (Makes event after) = Makes event after
unless_quiet go (Ends finish) = Ends finish

-- the first step that isn't quiet, where it comes within this many
abbrev pub settle : {S : Type 0} → (S → Step S) → ℕ → S → Step S
settle step zero s = Quiet s
settle step (suc n) s = unless_quiet (settle step n) (step s)

-- the event or the finish that a step shows (a quiet step shows none, and is never asked)
abbrev pub asked : {S : Type 0} → Step S → Ask
asked (Quiet s) = Over Halted
asked (Makes event after) = event
asked (Ends finish) = Over finish

-- the state that follows a step, where its event is answered by this word; a finish stays
abbrev pub answered : {S : Type 0} → Step S → S → ℕ → S
answered (Quiet s) before word = s
answered (Makes event after) before word = after word
answered (Ends finish) before word = before

-- the state that is reached by these answers, one after another
abbrev pub reached : {S : Type 0} → (S → ℕ → S) → S → List ℕ → S
reached after s [] = s
reached after s (word ∷ words) = reached after (after s word) words
