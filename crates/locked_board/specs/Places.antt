-- A locked board and its passes, as contracts name them.
use Rattle.std.specs.Prelude.{◌≡◌, ℕ, List, [], ◌∷◌, sum_by}
use Rattle.atomic_table.specs.Seated.{TableId}
use Rattle.reports.specs.Passes.{Report, BoardPlace}
use Rattle.locked_board.specs.Locked.{Seated, IsLockSeat}

-- the pass is one of this board
pub record IsPassAt (at : BoardPlace) (table : TableId) (me : Seated) : Type 0 where
  pub tables : at.tables ≡ table ∷ []
  pub seat : IsLockSeat me

-- the same reports, in some order: they weigh the same, however they are weighed
abbrev pub WeighAlike : List Report → List Report → Type 0
WeighAlike xs ys = (w : Report → ℕ) → sum_by w xs ≡ sum_by w ys
