-- What a thread writes: the bytes of its trace, of which the first ones are kept (C17 7.21.7; how many are kept is this project's own rule).
use Rattle.std.specs.Prelude.{ℕ, ◌-◌, List, [], ◌∷◌, ◌++◌, length, take}
use Rattle.mcode.specs.declared.events.Ask.{Ask}
use Rattle.mcode.specs.declared.events.Ask.TheVariants.{Out}
use Rattle.src_model.specs.declared.runs.Made.{Made}

abbrev pub byte_of : Ask → List ℕ
byte_of (Out byte) = byte ∷ []
byte_of _ = []

-- all bytes that it wrote, the first one first
abbrev pub bytes_of : List Made → List ℕ
bytes_of [] = []
bytes_of (made ∷ before) = bytes_of before ++ byte_of made.ask

-- so many bytes of a thread are kept
abbrev pub output_room : ℕ
output_room = 65536

abbrev pub output : List Made → List ℕ
output trace = take output_room (bytes_of trace)

-- how many bytes came behind those that are kept
abbrev pub dropped : List Made → ℕ
dropped trace = length (bytes_of trace) - output_room
