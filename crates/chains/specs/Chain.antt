-- Chains, and which of them is shown. A chain is a list of places by their indices: the body of the first is given, and
-- each step tells the body of the next. So two chains from one body are in the same body where they first differ.
use Rattle.std.specs.Prelude.{◌≡◌, ℕ, ◌<◌, ◌≤◌, ◌⊎◌, List, [], ◌∷◌, length}
use Rattle.chains.specs.declared.marks.Mark.{Mark}
use Rattle.chains.specs.declared.marks.Mark.TheVariants.{Violates, StepsTo}

-- The places are a chain, the first in the body of f: the last is a violation, and each before steps to the body in which
-- the next one stands. A chain is finite and has a place, so steps round a cycle are none by themselves.
abbrev pub Leads : (ℕ → ℕ → Mark) → ℕ → List ℕ → Type 0
Leads look f [] = ⊥
Leads look f (i ∷ []) = look f i ≡ Violates
Leads look f (i ∷ j ∷ places) = (g : ℕ) × (look f i ≡ StepsTo g) × Leads look g (j ∷ places)

-- some chain starts in the body of f
abbrev pub HasChain : (ℕ → ℕ → Mark) → ℕ → Type 0
HasChain look f = (places : List ℕ) × Leads look f places

-- Of two lists of places that start in one body: the first is the other, or is earlier where they first differ.
abbrev pub IsNoLater : List ℕ → List ℕ → Type 0
IsNoLater [] others = Unit {0}
IsNoLater (i ∷ places) [] = ⊥
IsNoLater (i ∷ places) (j ∷ others) = (i < j) ⊎ ((i ≡ j) × IsNoLater places others)

-- the shown chain of f: no chain has fewer places, and of those with as many none is earlier
pub record IsShown (look : ℕ → ℕ → Mark) (f : ℕ) (places : List ℕ) : Type 0 where
  pub leads : Leads look f places
  pub fewest : (others : List ℕ) → Leads look f others → length places ≤ length others
  pub first : (others : List ℕ) → Leads look f others → length others ≡ length places → IsNoLater places others

-- some chain starts at this place of the body of f
abbrev pub StartsChain : (ℕ → ℕ → Mark) → ℕ → ℕ → Type 0
StartsChain look f i = (places : List ℕ) × Leads look f (i ∷ places)
