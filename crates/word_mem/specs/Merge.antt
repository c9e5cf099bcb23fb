-- One list of the events of several passes, with the number of the pass beside each.
use Rattle.std.specs.Prelude.{ℕ, ◌==◌, List, map, filter}
use Rattle.word_mem.specs.declared.event.WordEvent.{WordEvent}
use Rattle.word_mem.specs.declared.event.Entry.{Entry}

abbrev pub events : List Entry → List WordEvent
events m = map (λ (x : Entry). x.event) m

-- the events of the pass with this number, in their order
abbrev pub part : ℕ → List Entry → List WordEvent
part n m = events (filter (λ (x : Entry). x.number == n) m)
