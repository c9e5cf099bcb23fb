-- Lines and columns. Both count from 1. A line feed ends its line, and each other byte is one column.
use Rattle.c_text.specs.declared.place.LineCursor.{LineCursor}
use Rattle.std.specs.Prelude.{◌≡◌, ℕ, ◌+◌, ◌==◌, List, [], ◌∷◌, if◌then◌else◌, take}

pub record LineColumn : Type 0 where
  pub line : ℕ
  pub column : ℕ

abbrev pub after_byte : LineColumn → ℕ → LineColumn
after_byte at byte =
    if byte == 10 then record { line = at.line + 1; column = 1 } else record { line = at.line; column = at.column + 1 }

-- where the next byte stands once these were read
abbrev pub after_bytes : LineColumn → List ℕ → LineColumn
after_bytes at [] = at
after_bytes at (byte ∷ bytes) = after_bytes (after_byte at byte) bytes

-- the line and the column of a place, which is a byte offset from 0
abbrev pub line_column : List ℕ → ℕ → LineColumn
line_column source place = after_bytes (record { line = 1; column = 1 }) (take place source)

-- the cursor has the line and the column of its place
abbrev pub IsAt : List ℕ → LineCursor → Type 0
IsAt source cursor = record { line = cursor.line; column = cursor.column } ≡ line_column source cursor.place
