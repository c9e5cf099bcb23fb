-- What the outside gives and takes: the contents of files, the bytes that a sink took, counts of
-- faults, and what a read and a write do to them. Files and sinks may tell their bytes or not, as
-- an `Option` says. All of it is this project's own rule.
use Rattle.std.specs.Prelude.{◌≡◌, ℕ, ◌+◌, ◌-◌, ◌^◌, ◌≤◌, ◌<◌, min, List, ◌++◌, length, take, drop, Option, Some, None, Result, Ok, Err}

-- files: the contents under each name, and how many reads of each name failed
pub record FilesState : Type 0 where
  pub contents : List ℕ → Option (List ℕ)
  pub faults : List ℕ → ℕ

-- a sink: the bytes taken so far, and how many writes failed
pub record SinkState : Type 0 where
  pub taken : Option (List ℕ)
  pub faults : ℕ

-- a count of faults rose: it is greater than before, or stands at the last value of a counter
abbrev pub Rose : ℕ → ℕ → Type 0
Rose before now = min (before + 1) (2 ^ 64 - 1) ≤ now

-- these may be the contents of the file: where they are told, they are the very ones
abbrev pub IsContents : Option (List ℕ) → List ℕ → Type 0
IsContents None bytes = Unit {0}
IsContents (Some contents) bytes = bytes ≡ contents

-- the contents of the file may be longer than the limit: where they are told, they are
abbrev pub IsLongerThan : Option (List ℕ) → ℕ → Type 0
IsLongerThan None limit = Unit {0}
IsLongerThan (Some contents) limit = limit < length contents

-- where the contents of a file are told, the first `count` bytes of the buffer are those that stand
-- in the file from the place `at` on, and there is at least one where the file has a byte there
abbrev pub IsReadFrom : Option (List ℕ) → ℕ → ℕ → List ℕ → Type 0
IsReadFrom None at count buffer = Unit {0}
IsReadFrom (Some contents) at count buffer =
    (take count buffer ≡ take count (drop at contents)) × (at < length contents → 0 < count)

-- the contents of every file stayed, and no count of faults fell
pub record KeepsContents (old new : FilesState) : Type 0 where
  pub same : (name : List ℕ) → new.contents name ≡ old.contents name
  pub later : (name : List ℕ) → old.faults name ≤ new.faults name

-- where the bytes taken are told, the new ones are the old ones and then these
abbrev pub Appends : Option (List ℕ) → Option (List ℕ) → List ℕ → Type 0
Appends None new bytes = Unit {0}
Appends (Some old) new bytes = new ≡ Some (old ++ bytes)

-- the bytes taken are told, and they are the old ones and then a front part of these
pub record TakesFront (old : List ℕ) (new : Option (List ℕ)) (bytes : List ℕ) : Type 0 where
  pub front : List ℕ
  pub rest : List ℕ
  pub parts : front ++ rest ≡ bytes
  pub taken : new ≡ Some (old ++ front)

-- where the bytes taken are told, the new ones are the old ones and then some prefix of these
abbrev pub AppendsPrefix : Option (List ℕ) → Option (List ℕ) → List ℕ → Type 0
AppendsPrefix None new bytes = Unit {0}
AppendsPrefix (Some old) new bytes = TakesFront old new bytes

-- the sink took all of these bytes
pub record TakesAll (bytes : List ℕ) (old new : SinkState) : Type 0 where
  pub taken : Appends old.taken new.taken bytes
  pub later : old.faults ≤ new.faults

-- the sink failed: its count of faults rose, and it took a prefix of these bytes
pub record FailsWithin (bytes : List ℕ) (old new : SinkState) : Type 0 where
  pub taken : AppendsPrefix old.taken new.taken bytes
  pub rose : Rose old.faults new.faults
  pub later : old.faults ≤ new.faults

-- the sink failed: its count of faults rose, and the bytes taken stayed
pub record FailsAtOnce (old new : SinkState) : Type 0 where
  pub same : new.taken ≡ old.taken
  pub rose : Rose old.faults new.faults
  pub later : old.faults ≤ new.faults

-- what a writer of these bytes did to a sink, by what it answers
abbrev pub IsWritten : {T E : Type 0} → List ℕ → Result T E → SinkState → SinkState → Type 0
IsWritten bytes (Ok done) old new = TakesAll bytes old new
IsWritten bytes (Err fault) old new = FailsWithin bytes old new
