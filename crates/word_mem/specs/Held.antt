-- What a pass holds, and what its lists are together.
use Rattle.std.specs.Prelude.{◌≡◌, ◌≢◌, ◌≤◌, ◌⊎◌, ℕ, List, [], ◌∷◌, ◌++◌, length, Contains}
use Rattle.atomic_table.specs.Seated.{TableId}
use Rattle.word_mem.specs.declared.event.WordEvent.{WordEvent}
use Rattle.word_mem.specs.declared.event.Entry.{Entry}
use Rattle.word_mem.specs.Replay.{IsLegal, replay}
use Rattle.word_mem.specs.Merge.{events, part}

-- a pass was made by a split: its number, its maker's, and how many events the maker's own list had then
pub record Made : Type 0 where
  pub number : ℕ
  pub maker : ℕ
  pub before : ℕ

-- a pass was joined: its number and its own list
pub record Joined : Type 0 where
  pub number : ℕ
  pub events : List WordEvent

-- what a pass holds: its number, its own list, the splits that it or what was joined into it made, and the joined lists
pub record Held : Type 0 where
  pub number : ℕ
  pub own : List WordEvent
  pub made : List Made
  pub joined : List Joined

abbrev pub born : ℕ → Held
born n = record { number = n; own = []; made = []; joined = [] }

abbrev pub did : Held → WordEvent → Held
did h e = record h { own = h.own ++ e ∷ [] }

abbrev pub split_of : Held → ℕ → Made
split_of h n = record { number = n; maker = h.number; before = length h.own }

abbrev pub makes : Held → ℕ → Held
makes h n = record h { made = h.made ++ split_of h n ∷ [] }

abbrev pub list_of : Held → Joined
list_of h = record { number = h.number; events = h.own }

abbrev pub joins : Held → Held → Held
joins h other = record h { made = h.made ++ other.made; joined = h.joined ++ list_of other ∷ other.joined }

-- the pass holds the list of this number: its own or a joined one
abbrev pub HasNumber : Held → ℕ → Type 0
HasNumber h n = (n ≡ h.number) ⊎ ((j : Joined) × Contains h.joined j × (n ≡ j.number))

-- each event of the made pass stands behind all that its maker had made before the split
abbrev pub Follows : List Entry → Made → Type 0
Follows m s =
    (front back : List Entry) (e : WordEvent)
    → m ≡ front ++ record { number = s.number; event = e } ∷ back → s.before ≤ length (part s.maker front)

-- a merge of the lists that a pass holds
pub record IsMerge (h : Held) (m : List Entry) : Type 0 where
  pub own : part h.number m ≡ h.own
  pub joined : (j : Joined) → Contains h.joined j → part j.number m ≡ j.events
  pub only : (x : Entry) → Contains m x → HasNumber h x.number
  pub order : (s : Made) → Contains h.made s → Follows m s

-- The pass has joined all that it made, and is owed to none. Every pass but the first, which has number 0, is made by a
-- split, and its number stands among the made ones of one pass alone; so a pass that is owed to none and holds all the lists
-- that it made is the first.
pub record IsWhole (h : Held) : Type 0 where
  pub first : h.number ≡ 0
  pub others : (j : Joined) → Contains h.joined j → j.number ≢ 0
  pub joined_all : (s : Made) → Contains h.made s → HasNumber h s.number

-- the lists have a merge that is legal from the opening words
abbrev pub HasMerge : List ℕ → Held → Type 0
HasMerge opening h = (m : List Entry) × IsMerge h m × IsLegal opening (events m)

-- and it leaves these words
abbrev pub Closes : List ℕ → Held → List ℕ → Type 0
Closes opening h words = (m : List Entry) × IsMerge h m × IsLegal opening (events m) × (replay opening (events m) ≡ words)

-- Which memory it is: its opening words, and the table that it lies in
pub record Place : Type 0 where
  pub opening : List ℕ
  pub table : TableId
