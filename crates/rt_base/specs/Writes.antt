-- Writes of one piece, each begun where the bytes before it ended. A relation of the sink says what
-- one write does: the sink before it, the bytes that it was asked to take, how many it took, none
-- where it failed, and the sink after it. This project's own rule.
use Rattle.std.specs.Prelude.{ℕ, ◌+◌, ◌<◌, List, length, drop, Option, Some, None, Result, Ok, Err}
use Rattle.rt_base.specs.declared.outside.Failed.{Failed}

-- how many bytes a write took, or none where it failed
abbrev pub taken_by : Result ℕ Failed → Option ℕ
taken_by (Ok count) = Some count
taken_by (Err failed) = None

-- the sink at first and now, and how many bytes of the piece the writes between took, each write at
-- least one
pub data Writes {S : Type 0} (gives : S → List ℕ → Option ℕ → S → Type 0) (piece : List ℕ) (first : S) : ℕ → S → Type 0 where
  NoWrite : Writes gives piece first 0 first
  MoreWritten : (written count : ℕ) (between now : S) → Writes gives piece first written between → gives between (drop written piece) (Some count) now → 0 < count → Writes gives piece first (written + count) now

-- the writes took less than the whole piece, and one more write failed
pub record WritesToFault {S : Type 0} (gives : S → List ℕ → Option ℕ → S → Type 0) (piece : List ℕ) (first last : S) : Type 0 where
  pub written : ℕ
  pub between : S
  pub writes : Writes gives piece first written between
  pub left : written < length piece
  pub failed : gives between (drop written piece) None last
