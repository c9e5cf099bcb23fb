-- What all machines have in common: a state does one step, and an event is answered by a word.
use Rattle.std.specs.Prelude.{ℕ, zero, suc, Bool, true, false}
use Rattle.mcode.specs.declared.events.Ask.{Ask}
use Rattle.mcode.specs.declared.events.Ask.TheVariants.{Load, Exchange, FetchAdd, FetchSub, Create, Over}
use Rattle.mcode.specs.declared.events.Finish.{Finish}
use Rattle.mcode.specs.declared.events.Finish.TheVariants.{Halted}
use Rattle.mcode.specs.declared.events.Turned.{Turned}
use Rattle.mcode.specs.declared.events.Turned.TheVariants.{Went}

-- What a state does: it goes on quietly; it makes an event, goes on by the answer, and tells whether that was a failed try; or it is finished.
pub data Step (S : Type 0) : Type 0 where
  Quiet : S → Step S
  Makes : Ask → (ℕ → S) → (ℕ → Turned) → Step S
  Ends : Finish → Step S

-- an event, and no finish
abbrev pub is_event : Ask → Bool
is_event (Over finish) = false
is_event ask = true

-- whether a word answers an event
abbrev pub is_answered : Ask → Bool
is_answered (Load at) = true
is_answered (Exchange at old new) = true
is_answered (FetchAdd at n) = true
is_answered (FetchSub at n) = true
is_answered (Create function argument) = true
is_answered _ = false

-- an event that is no try, and what follows its answer
abbrev pub asks : {S : Type 0} → Ask → (ℕ → S) → Step S
asks event after = Makes event after (λ _. Went)

-- an event to whose answer nobody listens
abbrev pub does : {S : Type 0} → Ask → S → Step S
does event s = Makes event (λ _. s) (λ _. Went)

-- whether a step is quiet
abbrev pub is_quiet : {S : Type 0} → Step S → Bool
is_quiet (Quiet s) = true
is_quiet (Makes event after turned) = false
is_quiet (Ends finish) = false

-- what follows a step that is quiet, and else the step
abbrev pub unless_quiet : {S : Type 0} → (S → Step S) → Step S → Step S
unless_quiet go (Quiet s) = go s
unless_quiet go (Makes event after turned) = Makes event after turned
unless_quiet go (Ends finish) = Ends finish

-- the first step that isn't quiet, where it comes within this many
abbrev pub settle : {S : Type 0} → (S → Step S) → ℕ → S → Step S
settle step zero s = Quiet s
settle step (suc n) s = unless_quiet (settle step n) (step s)

-- the event or the finish that a step shows (a quiet step shows none, and is never asked)
abbrev pub asked : {S : Type 0} → Step S → Ask
asked (Quiet s) = Over Halted
asked (Makes event after turned) = event
asked (Ends finish) = Over finish

-- the state that follows a step, where its event is answered by this word; a finish stays
abbrev pub answered : {S : Type 0} → Step S → S → ℕ → S
answered (Quiet s) before word = s
answered (Makes event after turned) before word = after word
answered (Ends finish) before word = before

-- whether this answer made the event a failed try
abbrev pub turned_by : {S : Type 0} → Step S → ℕ → Turned
turned_by (Quiet s) word = Went
turned_by (Makes event after turned) word = turned word
turned_by (Ends finish) word = Went
