-- What a step tells its pass, and what a pass and a spare of a table are.
use Rattle.std.specs.Prelude.{◌≡◌, ◌≢◌, ℕ, true, false, List, []}
use Rattle.atomic_table.specs.Table.{Step, Me}
use Rattle.word_mem.specs.declared.event.WordEvent.{WordEvent}
use Rattle.word_mem.specs.declared.view.View.{View}
use Rattle.word_mem.specs.declared.view.Fresh.TheVariants.{One}
use Rattle.word_mem.specs.Story.{Tells}
use Rattle.word_mem.specs.Moves.{with_event}

-- the step was this event, and the view has it behind its list
abbrev pub Did : (Step ℕ → ℕ → WordEvent) → Step ℕ → Me ℕ View → ℕ → Me ℕ View → Type 0
Did event s me n me' = (me' ≡ (with_event me.0 (event s n), me.1)) × Tells me'.0

-- the step was no event
abbrev pub Looked : Step ℕ → Me ℕ View → ℕ → Me ℕ View → Type 0
Looked s me n me' = (me' ≡ me) × Tells me'.0

-- the seat of a pass to a memory with these opening words
pub record IsPassOf (opening : List ℕ) (me : Me ℕ View) : Type 0 where
  pub bare : me.1 ≡ []
  pub lives : me.0.alive ≡ true
  pub opens : me.0.opening ≡ opening
  pub tells : Tells me.0

-- the seat of a spare that gives this number
pub record IsSpareOf (number : ℕ) (me : Me ℕ View) : Type 0 where
  pub bare : me.1 ≡ []
  pub waits : me.0.alive ≡ false
  pub gives : me.0.fresh ≡ One number
  pub later : number ≢ 0
