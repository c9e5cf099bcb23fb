-- A table of lines and columns.
use Rattle.c_text.specs.declared.limits.TheConstants.{SOURCE_LIMIT}
use Rattle.std.specs.Prelude.{◌≡◌, ℕ, ◌<◌, ◌≤◌, ◌*◌, List, length, slice_index_or}
use Rattle.c_text.specs.Place.{LineColumn, line_column}
use Rattle.printing.specs.declared.lines.LineAt.{LineAt}

abbrev pub seen : LineAt → LineColumn
seen at = record { line = at.line; column = at.column }

-- The first marks are the lines and columns of every 64th place.
abbrev pub AreMarks : List ℕ → ℕ → List LineAt → Type 0
AreMarks source count marks = (k : ℕ) (d : LineAt) → k < count → seen (slice_index_or marks k d) ≡ line_column source (k * 64)

-- There is a mark at or before each place of the source.
pub record IsTable (source : List ℕ) (marks : List LineAt) : Type 0 where
  pub short : length source ≤ SOURCE_LIMIT
  pub sized : length source < length marks * 64
  pub told : AreMarks source (length marks) marks
