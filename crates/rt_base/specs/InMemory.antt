-- What contracts see of files and of a sink in memory.
use Rattle.std.specs.Prelude.{◌≡◌, ◌≤◌, ◌-◌, min, length, take, ◌++◌, ◌⊎◌, Contains, IsSome, IfSome, Option, Some, None, ℕ, List, is_some, if◌then◌else◌}
use Rattle.rt_base.specs.Memory.{file_named, with_fault, one_more, bytes_or_none, StandsAt}
use Rattle.rt_base.specs.declared.listed.MemFile.{MemFile}

-- files in memory
pub record FilesInMemory : Type 0 where
  -- the list, where the first file of a name counts
  pub files : List MemFile
  -- the numbers, from 0, of the calls that fail
  pub failing : List ℕ
  -- how many calls were made
  pub calls : ℕ
  -- how many calls failed at a name that the list lacks
  pub lacking : ℕ

-- the files after a fault of this name: one more on the count of its first file, or on that of
-- all names that the list lacks
abbrev pub after_fault : FilesInMemory → List ℕ → FilesInMemory
after_fault m name = record m {
  files = with_fault m.files name;
  lacking = (if is_some (file_named m.files name) then m.lacking else one_more m.lacking);
}

-- a sink in memory
pub record SinkInMemory : Type 0 where
  -- the bytes taken
  pub bytes : List ℕ
  -- how many bytes it takes at most, in all and in one call
  pub room : ℕ
  pub most : ℕ
  -- the numbers, from 0, of the calls that fail
  pub failing : List ℕ
  -- how many calls were made, and how many of them failed
  pub calls : ℕ
  pub faults : ℕ

-- One read of files in memory. It fails where its number stands in the list or the files lack the
-- name, and the fault is counted. Else it gives a piece that stands in the file at the offset.
-- Every read is counted.
abbrev pub MemReads : FilesInMemory → List ℕ → ℕ → Option (List ℕ) → FilesInMemory → Type 0
MemReads before name at None after =
    (Contains before.failing before.calls ⊎ (file_named before.files name ≡ None))
    × (after ≡ after_fault (record before { calls = one_more before.calls }) name)
MemReads before name at (Some piece) after =
    (¬ Contains before.failing before.calls)
    × (IfSome (file_named before.files name) (λ file. StandsAt file.bytes at piece))
    × IsSome (file_named before.files name)
    × (after ≡ record before { calls = one_more before.calls })

-- One read of files that never fail. It gives a piece that stands in the file at the offset, and
-- leaves the files.
abbrev pub SureReads : List MemFile → List ℕ → ℕ → Option (List ℕ) → List MemFile → Type 0
SureReads before name at None after = ⊥
SureReads before name at (Some piece) after =
    StandsAt (bytes_or_none before name) at piece × (after ≡ before)

-- One write into a sink in memory. It fails where its number stands in the list or the room is
-- full, and the fault is counted. Else it takes as much of the piece as there is, as the room
-- holds and as a call may take. Every write is counted.
abbrev pub MemWrites : SinkInMemory → List ℕ → Option ℕ → SinkInMemory → Type 0
MemWrites before piece None after =
    (Contains before.failing before.calls ⊎ (before.room ≤ length before.bytes))
    × (after ≡ record before { calls = one_more before.calls; faults = one_more before.faults })
MemWrites before piece (Some count) after =
    (¬ Contains before.failing before.calls)
    × (count ≡ min (min (length piece) (before.room - length before.bytes)) before.most)
    × (after ≡ record before { calls = one_more before.calls; bytes = before.bytes ++ take count piece })

-- One write into a sink that never fails takes all of the piece.
abbrev pub SureWrites : List ℕ → List ℕ → Option ℕ → List ℕ → Type 0
SureWrites before piece None after = ⊥
SureWrites before piece (Some count) after = (count ≡ length piece) × (after ≡ before ++ piece)
