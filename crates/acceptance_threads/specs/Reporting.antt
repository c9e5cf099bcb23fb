-- What reporting makes passes to a board hold.
use Rattle.std.specs.Prelude.{◌≡◌, ℕ, Bool, true, List, ◌++◌, length}
use Rattle.reports.specs.Passes.{Report, Held}

-- every pass of the board can report
pub record EachReports {P : Type 0} (can : P → Bool) : Type 0 where
  pub each : (p : P) → can p ≡ true

-- a pass made so many reports, whatever they were answered
pub record Reports (count : ℕ) (h h' : Held) : Type 0 where
  pub more : List Report
  pub many : length more ≡ count
  pub is : h' ≡ record h { own = h.own ++ more }
