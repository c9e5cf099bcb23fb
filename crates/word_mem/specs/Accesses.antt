-- The word event of an access.
use Rattle.std.specs.Prelude.{ℕ}
use Rattle.word_mem.specs.declared.event.WordEvent.{WordEvent}
use Rattle.word_mem.specs.declared.event.WordEvent.TheVariants.{Load, Store, Exchange, FetchAdd, FetchSub}
use Rattle.word_mem.specs.declared.access.Access.{Access}
use Rattle.word_mem.specs.declared.access.Access.TheVariants.{Read, Write, Replace, Add, Subtract}

-- at this address, where it found this word
abbrev pub event_of : Access → ℕ → ℕ → WordEvent
event_of Read at found = Load at found
event_of (Write word) at found = Store at word
event_of (Replace old new) at found = Exchange at old new found
event_of (Add n) at found = FetchAdd at n found
event_of (Subtract n) at found = FetchSub at n found
