-- Reads of one file, each begun where the bytes before it ended. A relation of the files says what
-- one read does: the files before it, the name, the offset at which it began, the bytes that it
-- gave, none where it failed, and the files after it. This project's own rule.
use Rattle.std.specs.Prelude.{ℕ, ◌+◌, ◌≤◌, ◌<◌, List, [], ◌++◌, length, take, Option, Some, None, Result, Ok, Err}
use Rattle.rt_base.specs.declared.outside.Failed.{Failed}

-- what a read gave: the front of its buffer, or none where it failed
abbrev pub given_by : Result ℕ Failed → List ℕ → Option (List ℕ)
given_by (Ok count) buffer = Some (take count buffer)
given_by (Err failed) buffer = None

-- the files at first and now, and the bytes that the reads between took, each read at least one
pub data Reads {S : Type 0} (gives : S → List ℕ → ℕ → Option (List ℕ) → S → Type 0) (name : List ℕ) (first : S) : List ℕ → S → Type 0 where
  Begun : Reads gives name first [] first
  More : (bytes piece : List ℕ) (between now : S) → Reads gives name first bytes between → gives between name (length bytes) (Some piece) now → 0 < length piece → Reads gives name first (bytes ++ piece) now

-- the reads took these bytes, and one more read met the end of the file
pub record ReadsToEnd {S : Type 0} (gives : S → List ℕ → ℕ → Option (List ℕ) → S → Type 0) (name : List ℕ) (first : S) (bytes : List ℕ) (last : S) : Type 0 where
  pub between : S
  pub reads : Reads gives name first bytes between
  pub ended : gives between name (length bytes) (Some []) last

-- the reads took no more bytes than the limit, and one more read went past it
pub record ReadsPast {S : Type 0} (gives : S → List ℕ → ℕ → Option (List ℕ) → S → Type 0) (name : List ℕ) (first : S) (limit : ℕ) (last : S) : Type 0 where
  pub bytes : List ℕ
  pub piece : List ℕ
  pub between : S
  pub reads : Reads gives name first bytes between
  pub within : length bytes ≤ limit
  pub last_read : gives between name (length bytes) (Some piece) last
  pub past : limit < length bytes + length piece

-- the reads took no more bytes than the limit, and one more read failed
pub record ReadsToFault {S : Type 0} (gives : S → List ℕ → ℕ → Option (List ℕ) → S → Type 0) (name : List ℕ) (first : S) (limit : ℕ) (last : S) : Type 0 where
  pub bytes : List ℕ
  pub between : S
  pub reads : Reads gives name first bytes between
  pub within : length bytes ≤ limit
  pub failed : gives between name (length bytes) None last
