-- A memory whose words stand in its first pass, which makes every call.
use Rattle.std.specs.Prelude.{◌≡◌, ◌≢◌, ℕ, List, [], Contains}
use Rattle.atomic_table.specs.Seated.{TableId}
use Rattle.word_mem.specs.Replay.{IsLegal, replay}
use Rattle.word_mem.specs.Held.{Held, Made, Joined, IsWhole, HasMerge}

-- a pass of it, as contracts see it
pub record PlainParts : Type 0 where
  pub opening : List ℕ
  pub held : Held
  pub left : ℕ

-- the first pass has the words that its own list leaves; the others make no call
pub record Keeps (opening words : List ℕ) (h : Held) (left : ℕ) : Type 0 where
  pub first : h.number ≡ 0 → IsLegal opening h.own × (replay opening h.own ≡ words)
  pub others : h.number ≢ 0 → (left ≡ 0) × (h.own ≡ [])
  pub joined : (j : Joined) → Contains h.joined j → j.number ≢ 0 → j.events ≡ []
  pub made : (s : Made) → Contains h.made s → s.number ≢ 0

-- it lies in no table
abbrev pub no_table : TableId
no_table = record { words = 0; slots = 0; views_name = 0; atom = 0; block = 0; offset = 0; slot_names = [] }

-- the pass is of a memory with these opening words
pub record IsPassAt (opening : List ℕ) (p : PlainParts) : Type 0 where
  pub opens : p.opening ≡ opening
  pub tells : IsWhole p.held → HasMerge p.opening p.held
