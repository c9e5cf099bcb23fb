-- How the views of seats change: by an event, where a number is dealt or born, where a seat takes in another.
use Rattle.std.specs.Prelude.{ℕ, ◌+◌, true, false, List, []}
use Rattle.word_mem.specs.declared.event.WordEvent.{WordEvent}
use Rattle.word_mem.specs.declared.event.Entry.{Entry}
use Rattle.word_mem.specs.declared.view.View.{View}
use Rattle.word_mem.specs.declared.view.Fresh.{Fresh}
use Rattle.word_mem.specs.declared.view.Fresh.TheVariants.{Nothing, One, From}
use Rattle.word_mem.specs.Held.{born, did, makes, joins}

-- the view of the first seat, which may give every later number
abbrev pub first_view : List ℕ → View
first_view opening = record { alive = true; held = born 0; fresh = From 1; opening = opening }

abbrev pub with_event : View → WordEvent → View
with_event v e = record v { held = did v.held e }

abbrev pub entry_by : View → WordEvent → Entry
entry_by v e = record { number = v.held.number; event = e }

-- the number that the seat gives first
abbrev pub next_number : Fresh → ℕ
next_number Nothing = 0
next_number (One k) = k
next_number (From k) = k

-- a seat that deals its next number keeps those behind it; the new seat is a spare
abbrev pub dealer : View → View
dealer v = record v { fresh = From (next_number v.fresh + 1) }

abbrev pub dealt : View → View
dealt v = record { alive = false; held = born 0; fresh = One (next_number v.fresh); opening = v.opening }

-- a pass that takes in a spare may give its number
abbrev pub adopter : View → View → View
adopter v w = record v { fresh = w.fresh }

-- a pass makes a pass of the number that it may give
abbrev pub maker : View → View
maker v = record v { held = makes v.held (next_number v.fresh); fresh = Nothing }

abbrev pub newborn : View → View
newborn v = record { alive = true; held = born (next_number v.fresh); fresh = Nothing; opening = v.opening }

-- a pass takes in another
abbrev pub taker : View → View → View
taker v w = record v { held = joins v.held w.held }

-- the seat that was taken in
abbrev pub spent : View
spent = record { alive = false; held = born 0; fresh = Nothing; opening = [] }
