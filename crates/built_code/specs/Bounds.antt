-- What is true of each next event of one of 64 threads, and what it does to the count of frames.
use Rattle.std.specs.Prelude.{ℕ, ◌+◌, ◌-◌, ◌<◌, ◌^◌, Option, Some, None}
use Rattle.built_code.specs.declared.events.Ask.{Ask}
use Rattle.built_code.specs.declared.events.Ask.TheVariants.{Load, Store, Exchange, FetchAdd, FetchSub, Enter, Leave, Reach, Create, Out, Trap, Over}

-- behind the last word of the 64 threads
abbrev pub words_end : ℕ
words_end = 2 ^ 20 + 192

-- the address of the word that an event reads or writes, if it is one that does
abbrev pub address_of : Ask → Option ℕ
address_of (Load at) = Some at
address_of (Store at word) = Some at
address_of (Exchange at old new) = Some at
address_of (FetchAdd at n) = Some at
address_of (FetchSub at n) = Some at
address_of (Enter function site) = None
address_of Leave = None
address_of (Reach target site) = None
address_of (Create function argument) = None
address_of (Out byte) = None
address_of (Trap kind) = None
address_of (Over finish) = None

-- a function is entered only where fewer than 256 frames stand
abbrev pub HasRoom : Ask → (frames : ℕ) → Type 0
HasRoom (Enter function site) frames = frames < 256
HasRoom ask frames = Unit {0}

-- how many frames stand after an event, where so many stood before
abbrev pub frame_count : Ask → (frames : ℕ) → ℕ
frame_count (Enter function site) frames = frames + 1
frame_count Leave frames = frames - 1
frame_count ask frames = frames
