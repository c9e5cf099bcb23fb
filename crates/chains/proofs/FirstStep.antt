-- A step in front of a chain, for the crates above too.
use Rattle.std.proofs.Common.{◌≡◌, ℕ, List, [], ◌∷◌}
use Rattle.chains.specs.declared.marks.Mark.{Mark}
use Rattle.chains.specs.declared.marks.Mark.TheVariants.{StepsTo}
use Rattle.chains.specs.Chain.{Leads, HasChain, StartsChain}

module _ (look : ℕ → ℕ → Mark) where
  -- a step to a function with a chain begins a chain
  pub Leads-step : (f i g : ℕ) (places : List ℕ) → look f i ≡ StepsTo g → Leads look g places → Leads look f (i ∷ places)
  Leads-step f i g [] step behind = absurd behind
  Leads-step f i g (j ∷ places) step behind = (g, step, behind)

  -- behind a step a chain goes on from its callee
  pub HasChain-behind : (f i g : ℕ) → look f i ≡ StepsTo g → StartsChain look f i → HasChain look g
  HasChain-behind f i g step ([], last) = let clash : ⊥ = cc in absurd clash
  HasChain-behind f i g step (j ∷ places, (h, other, rest)) =
      let same : h ≡ g = cc in (j ∷ places, rw same at rest)
