-- A board whose stacks are one book. Who has the book works on it alone.
use Rattle.std.specs.Prelude.{◌≡◌, ◌≢◌, ◌<◌, ◌==◌, ◌+◌, ℕ, true, false, Option, Some, None, List, [], ◌∷◌, ◌++◌, length, map, sum_by, slice_index, MatchBool}
use mathlib.Core.Option.{some}
use lib.ListN.{get_elem?}
use Rattle.atomic_table.specs.Table.{State, Step, Me, rest}
use Rattle.context_set.specs.Tree.{Branch, IsTree, kid}
use Rattle.reports.specs.declared.board.Noted.TheVariants.{Full}
use Rattle.reports.specs.Counts.{AreFair}
use Rattle.reports.specs.Passes.{Report, Joined, Held, report_of, born, reported, makes, joins, all_reports, IsWhole}
use Rattle.locked_board.specs.declared.book.LockView.{LockView}

-- the book in its slot, as the reports that it has; there is none while it is out
abbrev pub Slot : Type 0
Slot = Option (List Report)

abbrev pub Seated : Type 0
Seated = Me Slot LockView

abbrev pub branch_of : LockView → Branch
branch_of v = record { live = v.live; number = v.held.number; splits = v.splits; made = v.held.made; joined = map (λ (j : Joined). j.number) v.held.joined }

-- how much the reports of all passes weigh
abbrev pub total : (Report → ℕ) → List LockView → ℕ
total w views = sum_by (λ (v : LockView). sum_by w (all_reports v.held)) views

-- who has the book is one, and knows its reports
abbrev pub OutsAre : List ℕ → List LockView → ℕ → List Report → Type 0
OutsAre words views holder log =
    (id : ℕ) (v : LockView) → get_elem? views id ≡ some v → v.out ≡ true → (slice_index words 0 ≢ 0) × (id ≡ holder) × (v.log ≡ log)

-- the log: all reports of all passes, in the order in which they came
pub record IsLocked (s : State Slot LockView) (log : List Report) (holder : ℕ) : Type 0 where
  pub wide : 0 < length s.words
  pub tree : IsTree (map branch_of s.views)
  pub spent : (id : ℕ) (v : LockView) → get_elem? s.views id ≡ some v → v.live ≡ false → v.held ≡ born 0
  pub sums : (w : Report → ℕ) → total w s.views ≡ sum_by w log
  pub fair : AreFair log
  pub home : slice_index s.words 0 ≡ 0 → get_elem? s.homes 0 ≡ some (some (Some log))
  pub outs : OutsAre s.words s.views holder log

abbrev pub IsLockKept : State Slot LockView → Type 0
IsLockKept s = (log : List Report) × (holder : ℕ) × IsLocked s log holder

abbrev pub first_view : LockView
first_view = record { live = true; held = born 0; splits = 0; out = false; log = [] }

abbrev pub splitter : LockView → LockView
splitter v = record v { held = makes v.held (kid v.held.number v.splits); splits = v.splits + 1 }

abbrev pub offspring : LockView → LockView
offspring v = record { live = true; held = born (kid v.held.number v.splits); splits = 0; out = false; log = [] }

abbrev pub taker : LockView → LockView → LockView
taker v w = record v { held = joins v.held w.held }

abbrev pub spent : LockView
spent = record { live = false; held = born 0; splits = 0; out = false; log = [] }

-- what a pass knows of the rule
abbrev pub Tells : LockView → Type 0
Tells v = IsWhole v.held → AreFair (all_reports v.held)

-- the seat of a pass, which has not the book
pub record IsLockSeat (me : Seated) : Type 0 where
  pub bare : me.1 ≡ []
  pub lives : me.0.live ≡ true
  pub home : me.0.out ≡ false
  pub tells : Tells me.0

abbrev pub holding : LockView → List Report → LockView
holding v log = record v { out = true; log = log }

-- where the word was 0, the seat has the book, and knows its reports
abbrev pub TookBook : Step Slot → Seated → ℕ → Seated → Type 0
TookBook s me n me' = MatchBool (n == 0) ((log : List Report) × (me' ≡ (holding me.0 log, (0, Some log) ∷ me.1))) (me' ≡ me)

-- the report that came last
abbrev pub last_report : List Report → Report
last_report [] = report_of [] Full
last_report (x ∷ []) = x
last_report (x ∷ y ∷ log) = last_report (y ∷ log)

-- the book that is carried
abbrev pub carried : List (ℕ × Slot) → List Report
carried [] = []
carried ((k, None) ∷ slots) = []
carried ((k, Some log) ∷ slots) = log

-- the pass at this seat made one report more
abbrev pub with_report : LockView → Report → LockView
with_report v r = record v { held = reported v.held r.stack r.answer; out = false; log = [] }

-- the book went back with one report more
abbrev pub GaveBook : Step Slot → Seated → ℕ → Seated → Type 0
GaveBook s me n me' = (me' ≡ (with_report me.0 (last_report (carried me.1)), rest me.1)) × Tells me'.0

abbrev pub Looked : Step Slot → Seated → ℕ → Seated → Type 0
Looked s me n me' = (me' ≡ me) × Tells me'.0

-- the book has one report more than the seat knows
pub record IsWritten (v : LockView) (book : List Report) (r : Report) : Type 0 where
  pub out : v.out ≡ true
  pub lives : v.live ≡ true
  pub longer : book ≡ v.log ++ r ∷ []
  pub fair : AreFair book
