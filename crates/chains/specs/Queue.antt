-- The search for distances, as its private functions speak of it.
use Rattle.std.specs.Prelude.{◌≡◌, ℕ, ◌+◌, ◌<◌, ◌≤◌, ◌⊎◌, List, [], ◌∷◌, ◌++◌, length, All, Contains, count_by, slice_index, slice_index_or, slice_set, if◌then◌else◌, ◌==◌}
use Rattle.chains.specs.declared.marks.Mark.{Mark}
use Rattle.chains.specs.declared.marks.Mark.TheVariants.{Passes, Violates, StepsTo}
use Rattle.chains.specs.Look.{look, IsCallBelow}
use Rattle.chains.specs.Chain.{Leads}

-- each step of the row goes to a function below n
abbrev pub RowCallsBelow : ℕ → List Mark → Type 0
RowCallsBelow n row = All (IsCallBelow n) row

-- what stands in the list of a function
abbrev pub listed_of : List (List ℕ) → ℕ → List ℕ
listed_of lists g = slice_index_or lists g []

-- f is entered for each step of the first places of the row, as many as count, and nothing else changes
pub record AddsCalls (row : List Mark) (count f : ℕ) (old new : List (List ℕ)) : Type 0 where
  pub size : length new ≡ length old
  pub kept : (g x : ℕ) → Contains (listed_of old g) x → Contains (listed_of new g) x
  pub added : (i g : ℕ) → i < count → slice_index_or row i Passes ≡ StepsTo g → Contains (listed_of new g) f
  pub only : (g x : ℕ) → Contains (listed_of new g) x → Contains (listed_of old g) x ⊎ ((x ≡ f) × ((i : ℕ) × (slice_index_or row i Passes ≡ StepsTo g)))

-- each caller in the lists calls, and each call of the first functions, as many as count, is in the lists
pub record Reverses (rows : List (List Mark)) (count : ℕ) (callers : List (List ℕ)) : Type 0 where
  pub size : length callers ≡ length rows
  pub calls : (g x : ℕ) → Contains (listed_of callers g) x → (i : ℕ) × (look rows x i ≡ StepsTo g)
  pub complete : (f i g : ℕ) → f < count → look rows f i ≡ StepsTo g → Contains (listed_of callers g) f

-- f has this distance where it had none
abbrev pub distances_with : List ℕ → ℕ → ℕ → List ℕ
distances_with distances f m = if slice_index distances f == 0 then slice_set distances f m else distances

-- f stands at the end of the queue where it had no distance
abbrev pub queue_with : List ℕ → List ℕ → ℕ → List ℕ
queue_with distances queue f = if slice_index distances f == 0 then queue ++ f ∷ [] else queue

-- What holds at any time, of n functions: exactly those with a distance stand in the queue, each once, and a distance is
-- that of some chain.
pub record IsQueue (look : ℕ → ℕ → Mark) (n : ℕ) (distances queue : List ℕ) : Type 0 where
  pub size : length distances ≡ n
  pub count : count_by (λ m. m == 0) distances + length queue ≡ n
  pub real : (f : ℕ) → 0 < slice_index distances f → (places : List ℕ) × Leads look f places × (length places ≡ slice_index distances f)
  pub queued : (f : ℕ) → 0 < slice_index distances f → (p : ℕ) × (p < length queue) × (slice_index queue p ≡ f)
  pub marked : (p : ℕ) → p < length queue → 0 < slice_index distances (slice_index queue p)
  pub small : (p : ℕ) → p < length queue → slice_index distances (slice_index queue p) ≤ p + 1

-- The callers of the functions before head are done: the queue is in order of distance, from head on by one at most, and
-- each caller of a function before head is at most one further than that.
pub record IsDoneTo (look : ℕ → ℕ → Mark) (distances queue : List ℕ) (head : ℕ) : Type 0 where
  pub base : (f i : ℕ) → look f i ≡ Violates → slice_index distances f ≡ 1
  pub order : (p r : ℕ) → p ≤ r → r < length queue → slice_index distances (slice_index queue p) ≤ slice_index distances (slice_index queue r)
  pub near : (p r : ℕ) → head ≤ p → p < length queue → r < length queue → slice_index distances (slice_index queue r) ≤ slice_index distances (slice_index queue p) + 1
  pub done : (p f i : ℕ) → p < head → look f i ≡ StepsTo (slice_index queue p) → (0 < slice_index distances f) × (slice_index distances f ≤ slice_index distances (slice_index queue p) + 1)

-- the functions with a violation in their own body stand in the queue, and are one place from it
pub record IsSeeded (rows : List (List Mark)) (distances queue : List ℕ) : Type 0 where
  pub queue_is : IsQueue (look rows) (length rows) distances queue
  pub done_to : IsDoneTo (look rows) distances queue 0
