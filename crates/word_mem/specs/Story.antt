-- What the seats of a shared memory have done together: one merge of all lists, and all splits.
use Rattle.std.specs.Prelude.{◌≡◌, ◌≢◌, ◌≤◌, ◌⊎◌, ℕ, true, List, [], ◌∷◌, length, Contains}
use mathlib.Core.Option.{some}
use lib.ListN.{get_elem?}
use Rattle.word_mem.specs.declared.event.Entry.{Entry}
use Rattle.word_mem.specs.declared.view.View.{View}
use Rattle.word_mem.specs.declared.view.Fresh.{Fresh}
use Rattle.word_mem.specs.declared.view.Fresh.TheVariants.{Nothing, One, From}
use Rattle.word_mem.specs.Replay.{IsLegal, replay}
use Rattle.word_mem.specs.Merge.{events, part}
use Rattle.word_mem.specs.Held.{Made, Joined, Follows, IsWhole, HasMerge}

-- a seat may give this number
abbrev pub Gives : Fresh → ℕ → Type 0
Gives Nothing n = ⊥
Gives (One k) n = n ≡ k
Gives (From k) n = k ≤ n

-- a pass of this number was made: the first, or one of a split
abbrev pub HasBegun : List Made → ℕ → Type 0
HasBegun splits n = (n ≡ 0) ⊎ ((s : Made) × Contains splits s × (n ≡ s.number))

-- the maker of each split had begun before; the newest stands first
abbrev pub IsChained : List Made → Type 0
IsChained [] = Unit {0}
IsChained (s ∷ splits) = HasBegun splits s.maker × IsChained splits

-- all events, the splits with the newest first, and the seat that has each number
pub record Story : Type 0 where
  pub merge : List Entry
  pub splits : List Made
  pub owner : ℕ → ℕ

-- what the view of a seat says is so; a seat that is no pass says nothing of its lists
pub record Fits (opening : List ℕ) (y : Story) (id : ℕ) (v : View) : Type 0 where
  pub gives : (n : ℕ) → Gives v.fresh n → (y.owner n ≡ id) × ¬ (HasBegun y.splits n)
  pub opens : v.alive ≡ true → v.opening ≡ opening
  pub own : v.alive ≡ true → (y.owner v.held.number ≡ id) × HasBegun y.splits v.held.number × (part v.held.number y.merge ≡ v.held.own)
  pub joined : v.alive ≡ true → (j : Joined) → Contains v.held.joined j
      → (y.owner j.number ≡ id) × HasBegun y.splits j.number × (j.number ≢ v.held.number) × (part j.number y.merge ≡ j.events)
  pub made : v.alive ≡ true → (s : Made) → Contains v.held.made s → Contains y.splits s

-- a pass at this seat has the split among those that it made
pub record IsNoted (views : List View) (at : ℕ) (s : Made) : Type 0 where
  pub holder : View
  pub there : get_elem? views at ≡ some holder
  pub lives : holder.alive ≡ true
  pub noted : Contains holder.held.made s

-- a split: its maker had so many events, the new pass follows them, and the seat that has the maker's list knows of it
pub record IsTold (views : List View) (y : Story) (s : Made) : Type 0 where
  pub before : s.before ≤ length (part s.maker y.merge)
  pub follows : Follows y.merge s
  pub noted : IsNoted views (y.owner s.maker) s

-- the story is that of these words and views
pub record Stands (opening words : List ℕ) (views : List View) (y : Story) : Type 0 where
  pub legal : IsLegal opening (events y.merge)
  pub replays : replay opening (events y.merge) ≡ words
  pub entries : (x : Entry) → Contains y.merge x → HasBegun y.splits x.number
  pub chained : IsChained y.splits
  pub told : (s : Made) → Contains y.splits s → IsTold views y s
  pub seats : (id : ℕ) (v : View) → get_elem? views id ≡ some v → Fits opening y id v

-- a story with this merge is that of these words and views
abbrev pub HasStory : List ℕ → List ℕ → List View → List Entry → Type 0
HasStory opening words views merge = (y : Story) × (y.merge ≡ merge) × Stands opening words views y

-- the rule of a shared memory
abbrev pub IsKept : List ℕ → List ℕ → List View → Type 0
IsKept opening words views = (y : Story) × Stands opening words views y

-- what a pass at a seat knows of the rule
abbrev pub Tells : View → Type 0
Tells v = IsWhole v.held → HasMerge v.opening v.held
