-- What adding to one word makes passes hold.
use Rattle.std.specs.Prelude.{◌≡◌, ℕ, List, [], ◌∷◌, ◌++◌, length, map}
use Rattle.word_mem.specs.declared.event.WordEvent.TheVariants.{FetchAdd}
use Rattle.word_mem.specs.Held.{Held, born, makes, joins, Closes}

-- a pass added one at this address, so many times, whatever it was answered
abbrev pub Adds : ℕ → ℕ → Held → Held → Type 0
Adds at count h h' = (answers : List ℕ) × (length answers ≡ count) × (h' ≡ record h { own = h.own ++ map (λ answer. FetchAdd at 1 answer) answers })

-- the first pass and one that it made did so, and were joined
abbrev pub BothAdd : ℕ → ℕ → ℕ → Held → Type 0
BothAdd at count number h = (one two : Held) × Adds at count (makes (born 0) number) one × Adds at count (born number) two × (h ≡ joins one two)

-- the words that one pass leaves
abbrev pub AddsAlone : List ℕ → ℕ → ℕ → List ℕ → Type 0
AddsAlone opening at count words = (h : Held) × Adds at count (born 0) h × Closes opening h words

-- the words that two passes leave
abbrev pub AddsInTwo : List ℕ → ℕ → ℕ → List ℕ → Type 0
AddsInTwo opening at count words = (h : Held) × BothAdd at count 1 h × Closes opening h words

-- a pass that takes in others, one after another
abbrev pub joins_all : Held → List Held → Held
joins_all h [] = h
joins_all h (other ∷ others) = joins_all (joins h other) others
