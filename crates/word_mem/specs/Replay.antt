-- Word events over a table of words: what answers one, and what it leaves. Each is one sequentially consistent access (C17
-- section 5.1.2.4); that an address names a whole word, and where sums wrap, is this project's own.
use Rattle.std.specs.Prelude.{◌≡◌, ◌<◌, ℕ, ◌+◌, ◌-◌, ◌%◌, ◌^◌, ◌==◌, List, [], ◌∷◌, length, slice_index, slice_set, if◌then◌else◌}
use Rattle.word_mem.specs.declared.event.WordEvent.{WordEvent}
use Rattle.word_mem.specs.declared.event.WordEvent.TheVariants.{Load, Store, Exchange, FetchAdd, FetchSub}

abbrev pub place_of : WordEvent → ℕ
place_of (Load at answer) = at
place_of (Store at word) = at
place_of (Exchange at old new answer) = at
place_of (FetchAdd at n answer) = at
place_of (FetchSub at n answer) = at

-- the word at its address after an event, where it was w before
abbrev pub word_after : WordEvent → ℕ → ℕ
word_after (Load at answer) w = w
word_after (Store at word) w = word
word_after (Exchange at old new answer) w = if w == old then new else w
word_after (FetchAdd at n answer) w = (w + n) % 2 ^ 64
word_after (FetchSub at n answer) w = (w + (2 ^ 64 - n)) % 2 ^ 64

-- the answer is the word before the event; a store has none
abbrev pub IsAnswered : WordEvent → ℕ → Type 0
IsAnswered (Load at answer) w = answer ≡ w
IsAnswered (Store at word) w = Unit {0}
IsAnswered (Exchange at old new answer) w = answer ≡ w
IsAnswered (FetchAdd at n answer) w = answer ≡ w
IsAnswered (FetchSub at n answer) w = answer ≡ w

-- the words after an event
abbrev pub after : List ℕ → WordEvent → List ℕ
after words e = slice_set words (place_of e) (word_after e (slice_index words (place_of e)))

-- an event that these words allow
abbrev pub IsAllowed : List ℕ → WordEvent → Type 0
IsAllowed words e = (place_of e < length words) × IsAnswered e (slice_index words (place_of e))

-- a legal history from these words
abbrev pub IsLegal : List ℕ → List WordEvent → Type 0
IsLegal words [] = Unit {0}
IsLegal words (e ∷ es) = IsAllowed words e × IsLegal (after words e) es

-- the words that a history leaves
abbrev pub replay : List ℕ → List WordEvent → List ℕ
replay words [] = words
replay words (e ∷ es) = replay (after words e) es
