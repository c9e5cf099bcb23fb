-- What the words of a closed table say, and what they give at the end.
use Rattle.std.specs.Prelude.{◌≡◌, ◌<◌, ◌≤◌, ◌+◌, ◌⊎◌, ℕ, zero, suc, Option, Some, None, List, [], ◌∷◌, ◌++◌, Contains, length, map, reverse}
use Rattle.ctx_set.specs.declared.steps.StackStep.{StackStep}
use Rattle.context_set.specs.declared.node.Node.{Node}
use Rattle.context_set.specs.declared.count.PathCount.{PathCount}
use Rattle.context_set.specs.Paths.{Path, IsStep}
use Rattle.context_set.specs.Held.{Held, all_counted, times}
use Rattle.context_set.specs.Sound.{HasNode, Apart}
use Rattle.context_set.specs.Keys.{key_of}

-- what is given of the lists of a whole pass: each path that has a node once, with the number of its counts
pub record IsTally (h : Held) (xs : List PathCount) : Type 0 where
  pub each : (x : PathCount) → Contains xs x → ((node : Node) × HasNode h x.path node) × (x.count ≡ times x.path (all_counted h))
  pub all : (p : Path) (node : Node) → HasNode h p node → (x : PathCount) × Contains xs x × (x.path ≡ p)
  pub once : Apart (map (λ (x : PathCount). x.path) xs)

-- the steps from a slot up to an outermost one, by the keys
abbrev pub Climbs : ℕ → (ℕ → ℕ) → ℕ → List StackStep → Type 0
Climbs n r i [] = ⊥
Climbs n r i (step ∷ steps) =
    (parent : ℕ) × (i < n) × (0 < r i) × (r i ≡ key_of parent step) × IsStep step × (((parent ≡ 65536) × (steps ≡ [])) ⊎ ((parent < n) × Climbs n r parent steps))

-- the slots below k that have keys, each with its path and its count
pub data Rows (n : ℕ) (r : ℕ → ℕ) : ℕ → List PathCount → Type 0 where
  none : Rows n r zero []
  skip : {k : ℕ} {xs : List PathCount} → Rows n r k xs → r k ≡ 0 → Rows n r (suc k) xs
  more : {k : ℕ} {xs : List PathCount} → Rows n r k xs → (x : PathCount) → 0 < r k → Climbs n r k (reverse x.path) → x.count ≡ r (n + k) → (ys : List PathCount) → ys ≡ xs ++ x ∷ [] → Rows n r (suc k) ys

-- from each slot with a key one comes up in no more steps than there are slots
abbrev pub HasClimbs : ℕ → (ℕ → ℕ) → Type 0
HasClimbs n r = (i : ℕ) → i < n → 0 < r i → (p : List StackStep) × Climbs n r i p × (length p ≤ n)

-- what is given of slot k: its path with its count where it has a key, and nothing where it has none
abbrev pub IsRow : ℕ → (ℕ → ℕ) → ℕ → Option PathCount → Type 0
IsRow n r k None = r k ≡ 0
IsRow n r k (Some x) = (0 < r k) × Climbs n r k (reverse x.path) × (x.count ≡ r (n + k))
