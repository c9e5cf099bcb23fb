-- A memory whose words and journal are one book. Who has the book works on it alone.
use Rattle.std.specs.Prelude.{◌≡◌, ◌≢◌, ◌<◌, ◌==◌, ℕ, true, false, Option, Some, None, List, [], ◌∷◌, ◌++◌, length, map, slice_index, MatchBool}
use mathlib.Core.Option.{some}
use lib.ListN.{get_elem?}
use Rattle.atomic_table.specs.Table.{State, Step, Me, rest}
use Rattle.word_mem.specs.declared.event.WordEvent.{WordEvent}
use Rattle.word_mem.specs.declared.event.WordEvent.TheVariants.{Load}
use Rattle.word_mem.specs.declared.event.Entry.{Entry}
use Rattle.word_mem.specs.declared.view.View.{View}
use Rattle.word_mem.specs.declared.view.Fresh.TheVariants.{One}
use Rattle.word_mem.specs.declared.book.Book.{Book}
use Rattle.word_mem.specs.declared.book.LockView.{LockView}
use Rattle.word_mem.specs.Replay.{after, IsAllowed, replay}
use Rattle.word_mem.specs.Merge.{events}
use Rattle.word_mem.specs.Story.{Story, Stands, Tells}
use Rattle.word_mem.specs.Moves.{first_view, with_event, entry_by, dealer, dealt, adopter, maker, newborn, taker, spent}

abbrev pub Seated : Type 0
Seated = Me (Option Book) LockView

abbrev pub plain : View → LockView
plain v = record { view = v; out = false; log = [] }

abbrev pub views_of : List LockView → List View
views_of views = map (λ (v : LockView). v.view) views

-- the book is that of this merge
abbrev pub IsBookOf : List ℕ → List Entry → Book → Type 0
IsBookOf opening merge b = (b.words.items ≡ replay opening (events merge)) × (b.journal.items ≡ merge)

-- who has the book is one, and knows the merge
abbrev pub OutsAre : List ℕ → List LockView → ℕ → List Entry → Type 0
OutsAre words views holder merge =
    (id : ℕ) (v : LockView) → get_elem? views id ≡ some v → v.out ≡ true → (slice_index words 0 ≢ 0) × (id ≡ holder) × (v.log ≡ merge)

pub record IsLocked (opening : List ℕ) (s : State (Option Book) LockView) (y : Story) (holder : ℕ) : Type 0 where
  pub stands : Stands opening (replay opening (events y.merge)) (views_of s.views) y
  pub wide : 0 < length s.words
  pub home : slice_index s.words 0 ≡ 0 → (b : Book) × (get_elem? s.homes 0 ≡ some (some (Some b))) × IsBookOf opening y.merge b
  pub outs : OutsAre s.words s.views holder y.merge

abbrev pub IsLockKept : List ℕ → State (Option Book) LockView → Type 0
IsLockKept opening s = (y : Story) × (holder : ℕ) × IsLocked opening s y holder

abbrev pub lock_first : List ℕ → LockView
lock_first opening = plain (first_view opening)

abbrev pub lock_dealer : LockView → LockView
lock_dealer v = record v { view = dealer v.view }

abbrev pub lock_dealt : LockView → LockView
lock_dealt v = plain (dealt v.view)

abbrev pub lock_adopter : LockView → LockView → LockView
lock_adopter v w = record v { view = adopter v.view w.view }

abbrev pub lock_maker : LockView → LockView
lock_maker v = record v { view = maker v.view }

abbrev pub lock_newborn : LockView → LockView
lock_newborn v = plain (newborn v.view)

abbrev pub lock_taker : LockView → LockView → LockView
lock_taker v w = record v { view = taker v.view w.view }

abbrev pub lock_spent : LockView
lock_spent = plain spent

-- the seat of a pass, which has not the book
pub record IsLockSeat (opening : List ℕ) (me : Seated) : Type 0 where
  pub bare : me.1 ≡ []
  pub lives : me.0.view.alive ≡ true
  pub home : me.0.out ≡ false
  pub opens : me.0.view.opening ≡ opening
  pub tells : Tells me.0.view

pub record IsLockSpare (number : ℕ) (me : Seated) : Type 0 where
  pub bare : me.1 ≡ []
  pub waits : me.0.view.alive ≡ false
  pub gives : me.0.view.fresh ≡ One number
  pub later : number ≢ 0

-- the view of a seat that has the book
abbrev pub holding : LockView → List Entry → LockView
holding v log = record v { out = true; log = log }

-- where the word was 0, the seat has the book, and knows the merge by its journal
abbrev pub TookBook : Step (Option Book) → Seated → ℕ → Seated → Type 0
TookBook s me n me' =
    MatchBool (n == 0)
    ((b : Book) × (me' ≡ (holding me.0 b.journal.items, (0, Some b) ∷ me.1)) × (b.words.items ≡ replay me.0.view.opening (events b.journal.items)))
    (me' ≡ me)

-- the event that stands last in a journal
abbrev pub last_event : List Entry → WordEvent
last_event [] = Load 0 0
last_event (x ∷ []) = x.event
last_event (x ∷ y ∷ m) = last_event (y ∷ m)

-- the journal of the book that is carried
abbrev pub journal_of : List (ℕ × Option Book) → List Entry
journal_of [] = []
journal_of ((k, None) ∷ slots) = []
journal_of ((k, Some b) ∷ slots) = b.journal.items

-- the book went back with one event more
abbrev pub GaveBook : Step (Option Book) → Seated → ℕ → Seated → Type 0
GaveBook s me n me' = (me' ≡ (plain (with_event me.0.view (last_event (journal_of me.1))), rest me.1)) × Tells me'.0.view

abbrev pub LookedLocked : Step (Option Book) → Seated → ℕ → Seated → Type 0
LookedLocked s me n me' = (me' ≡ me) × Tells me'.0.view

-- the book has one event more than the merge that the seat knows, by the pass at this seat
pub record IsWritten (opening : List ℕ) (v : LockView) (b : Book) (e : WordEvent) : Type 0 where
  pub out : v.out ≡ true
  pub lives : v.view.alive ≡ true
  pub allowed : IsAllowed (replay opening (events v.log)) e
  pub words : b.words.items ≡ after (replay opening (events v.log)) e
  pub journal : b.journal.items ≡ v.log ++ entry_by v.view e ∷ []
