-- Files that lie in memory, by name. All of it is this project's own rule.
use Rattle.std.specs.Prelude.{◌≡◌, ◌<◌, length, take, drop, ℕ, ◌+◌, ◌-◌, ◌^◌, nat_lt, List, [], ◌∷◌, Option, if◌then◌else◌, find}
use Rattle.std.specs.Option.{option_map, option_map_or}
use Rattle.std.specs.Str.{bytes_eq}
use Rattle.rt_base.specs.declared.listed.MemFile.{MemFile}

-- the first file of this name
abbrev pub file_named : List MemFile → List ℕ → Option MemFile
file_named files name = find (λ file. bytes_eq file.name name) files

-- the contents of the first file of this name; of a name that the list lacks nothing is told
abbrev pub bytes_named : List MemFile → List ℕ → Option (List ℕ)
bytes_named files name = option_map (λ file. file.bytes) (file_named files name)

-- the contents of the first file of this name; a name that the list lacks is an empty file
abbrev pub bytes_or_none : List MemFile → List ℕ → List ℕ
bytes_or_none files name = option_map_or (λ file. file.bytes) (file_named files name) []

-- a piece of a file that stands there from the offset on, and is empty only where the file ended
abbrev pub StandsAt : List ℕ → ℕ → List ℕ → Type 0
StandsAt bytes at piece =
    (piece ≡ take (length piece) (drop at bytes)) × (at < length bytes → 0 < length piece)

-- the count of faults of the first file of this name, or the one count of all names that the list lacks
abbrev pub faults_named : List MemFile → ℕ → List ℕ → ℕ
faults_named files lacking name = option_map_or (λ file. file.faults) (file_named files name) lacking

-- one more, but a counter stays at its last value
abbrev pub one_more : ℕ → ℕ
one_more count = if nat_lt count (2 ^ 64 - 1) then count + 1 else count

-- the files after a fault of this name: the count of its first file is one more
abbrev pub with_fault : List MemFile → List ℕ → List MemFile
with_fault [] name = []
with_fault (file ∷ files) name =
    if bytes_eq file.name name
    then record file { faults = one_more file.faults } ∷ files
    else file ∷ with_fault files name
