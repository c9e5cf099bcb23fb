-- The rule of the set's table. Word i is the key of slot i, 0 where it has none, and word n + i its count, of n slots.
use Rattle.std.specs.Prelude.{◌≡◌, ◌≢◌, ◌<◌, ◌+◌, ◌%◌, ◌^◌, ◌⊎◌, ℕ, min, true, false, Result, Ok, Err, List, [], ◌∷◌, ◌++◌, Contains, length, map, sum_by, slice_index}
use mathlib.Core.Option.{some}
use lib.ListN.{get_elem?}
use Rattle.atomic_table.specs.Table.{State}
use Rattle.ctx_set.specs.declared.steps.StackStep.{StackStep}
use Rattle.context_set.specs.declared.node.Node.{Node}
use Rattle.context_set.specs.declared.node.CtxFull.{CtxFull}
use Rattle.context_set.specs.declared.view.CtxView.{CtxView}
use Rattle.context_set.specs.Paths.{Path, IsStep}
use Rattle.context_set.specs.Held.{Entry, Count, Known, Joined, Gives, born, others_of, all_entered, all_counted, times, firsts}
use Rattle.context_set.specs.Tree.{Branch, IsTree}
use Rattle.context_set.specs.Keys.{key_of, place}

-- a path is a step alone, or a step under the path of a slot that has a key
abbrev pub IsWay : ℕ → (ℕ → ℕ) → (ℕ → Path) → ℕ → StackStep → Path → Type 0
IsWay n r path parent step p = ((parent ≡ 65536) × (p ≡ step ∷ [])) ⊎ ((parent < n) × (0 < r parent) × (p ≡ path parent ++ step ∷ []))

-- a slot holds a key, which isn't this one
abbrev pub IsOther : ℕ → (ℕ → ℕ) → ℕ → ℕ → Type 0
IsOther n r key i = (i < n) × (0 < r i) × (r i ≢ key)

-- a slot with a key: the key is that of its path, and every slot before it in its order holds a key
pub record IsSlot (n : ℕ) (r : ℕ → ℕ) (path : ℕ → Path) (i : ℕ) : Type 0 where
  pub parent : ℕ
  pub step : StackStep
  pub small : IsStep step
  pub is : r i ≡ key_of parent step
  pub way : IsWay n r path parent step (path i)
  pub tried : ℕ
  pub here : i ≡ place n (r i) tried
  pub before : (t : ℕ) → t < tried → (place n (r i) t < n) × (0 < r (place n (r i) t))

pub record Slots (n : ℕ) (r : ℕ → ℕ) (path : ℕ → Path) : Type 0 where
  pub each : (i : ℕ) → i < n → 0 < r i → IsSlot n r path i
  pub apart : (i j : ℕ) → i < n → j < n → 0 < r i → r i ≡ r j → i ≡ j
  pub empty : (i : ℕ) → i < n → r i ≡ 0 → r (n + i) ≡ 0

abbrev pub HasPath : ℕ → (ℕ → ℕ) → (ℕ → Path) → ℕ → Path → Type 0
HasPath n r path i p = (i < n) × (0 < r i) × (path i ≡ p)

-- every slot holds the key of another path
abbrev pub IsFull : ℕ → (ℕ → ℕ) → (ℕ → Path) → Path → Type 0
IsFull n r path p = (i : ℕ) → i < n → (0 < r i) × (path i ≢ p)

abbrev pub IsAnswer : ℕ → (ℕ → ℕ) → (ℕ → Path) → Path → Result Node CtxFull → Type 0
IsAnswer n r path p (Ok node) = HasPath n r path node.number p
IsAnswer n r path p (Err full) = IsFull n r path p

-- what the view of a seat says is so
pub record Fits (n : ℕ) (r : ℕ → ℕ) (path : ℕ → Path) (v : CtxView) : Type 0 where
  pub slots : v.live ≡ true → v.slots ≡ n
  pub known : (k : Known) → Contains v.held.known k → HasPath n r path k.node.number k.path
  pub seen : (t : ℕ) → t < v.tried → IsOther n r v.trying (place n v.trying t)
  pub entered : (e : Entry) → Contains (all_entered v.held) e → IsAnswer n r path e.path e.answer
  pub counted : (c : Count) → Contains (all_counted v.held) c → (i : ℕ) × HasPath n r path i c.path
  pub spent : v.live ≡ false → v.held ≡ born 0 []

-- some pass entered the path and got the node of this number
pub record WasEntered (views : List CtxView) (p : Path) (i : ℕ) : Type 0 where
  pub seat : ℕ
  pub view : CtxView
  pub there : get_elem? views seat ≡ some view
  pub entry : Contains (all_entered view.held) record { path = p; answer = Ok record { number = i } }

-- another seat has the entry that gave the node
pub record IsGivenElsewhere (views : List CtxView) (id i : ℕ) : Type 0 where
  pub seat : ℕ
  pub view : CtxView
  pub there : get_elem? views seat ≡ some view
  pub other : seat ≢ id
  pub gives : Gives (all_entered view.held) i

-- before a path was refused to the pass of a seat, each node had been given, to it or to another
abbrev pub IsFilled : ℕ → List CtxView → ℕ → CtxView → Type 0
IsFilled n views id v =
    (before after : List Entry) (p : Path) (full : CtxFull) → v.held.entered ≡ before ++ record { path = p; answer = Err full } ∷ after
    → (i : ℕ) → i < n → Gives (before ++ others_of v.held) i ⊎ IsGivenElsewhere views id i

-- how often all passes counted a path, how often as the first, and how often they counted
abbrev pub total : Path → List CtxView → ℕ
total p views = sum_by (λ (v : CtxView). times p (all_counted v.held)) views

abbrev pub total_firsts : Path → List CtxView → ℕ
total_firsts p views = sum_by (λ (v : CtxView). firsts p (all_counted v.held)) views

abbrev pub total_counts : List CtxView → ℕ
total_counts views = sum_by (λ (v : CtxView). length (all_counted v.held)) views

abbrev pub branch_of : CtxView → Branch
branch_of v = record { live = v.live; number = v.held.number; splits = v.splits; made = v.held.made; joined = map (λ (j : Joined). j.number) v.held.joined }

pub record IsSet (n : ℕ) (r : ℕ → ℕ) (path : ℕ → Path) (views : List CtxView) : Type 0 where
  pub slots : Slots n r path
  pub fits : (id : ℕ) (v : CtxView) → get_elem? views id ≡ some v → Fits n r path v
  pub tree : IsTree (map branch_of views)
  pub was : (i : ℕ) → i < n → 0 < r i → WasEntered views (path i) i
  pub filled : (id : ℕ) (v : CtxView) → get_elem? views id ≡ some v → IsFilled n views id v
  pub sums : (i : ℕ) → i < n → 0 < r i → r (n + i) ≡ total (path i) views % 2 ^ 64
  pub first : total_counts views < 2 ^ 64 → (p : Path) → total_firsts p views ≡ min 1 (total p views)

-- the rule
pub record IsKept (n : ℕ) (s : State ℕ CtxView) : Type 0 where
  pub wide : length s.words ≡ n + n
  pub path : ℕ → Path
  pub set : IsSet n (slice_index s.words) path s.views
